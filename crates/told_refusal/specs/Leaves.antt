-- Where a part of an expression stands among the tokens: atoms, numbers and texts have the same order among the tokens and among the parts. Definitions only.
use Rattle.std.specs.Prelude.{ℕ, zero, suc, ◌+◌, ◌-◌, ◌*◌, Bool, cond, not, ◌&&◌, ◌||◌, List, eqb, leb, ltb, length, get_or}
use Rattle.paper_tokens.specs.Tokens.{“open”, ‘other-atom’, ‘data-type’}
use Rattle.paper_guideline.specs.Limits.{token_limit}

-- a parenthesis opens behind the token i
abbrev pub is_call : List ℕ → ℕ → Bool
is_call kinds i = eqb (get_or kinds (i + 1) 0) “open”

-- the token i is an atom, a number or a text, and no functor
abbrev pub is_leaf : List ℕ → ℕ → Bool
is_leaf kinds i = leb ‘other-atom’ (get_or kinds i 0) && (ltb ‘data-type’ (get_or kinds i 0) || not (is_call kinds i))

-- the first such token from i on, of k; the one behind them if there is none
unfoldable pub leaf_from : List ℕ → ℕ → ℕ → ℕ
leaf_from kinds i zero = i
leaf_from kinds i (suc k) = cond (is_leaf kinds i) i (leaf_from kinds (i + 1) k)

abbrev pub next_leaf : List ℕ → ℕ → ℕ
next_leaf kinds i = leaf_from kinds i (length kinds - i)

-- the first such token behind i
abbrev pub leaf_behind : List ℕ → ℕ → ℕ
leaf_behind kinds i = cond (ltb i token_limit) (next_leaf kinds (i + 1)) i

-- the part p is an atom, a number or a text: the codes below that of a list
abbrev pub leaf_part : List ℕ → ℕ → Bool
leaf_part cells p = ltb (get_or cells (p * 4) 0) 5

-- past the k parts from p on, where t is the token of the first of them that is such a one
unfoldable pub past_parts : List ℕ → List ℕ → ℕ → ℕ → ℕ → ℕ
past_parts cells kinds t p zero = t
past_parts cells kinds t p (suc k) = past_parts cells kinds (cond (leaf_part cells p) (leaf_behind kinds t) t) (p + 1) k

-- the first token of the part `to`, where the expression's first part is `from` and its first token i
abbrev pub token_of : List ℕ → ℕ → ℕ → List ℕ → ℕ → ℕ
token_of cells from to kinds i = past_parts cells kinds (next_leaf kinds i) from (to - from)
