-- What the code's tables hold: Form's rows and blanks, written as bytes. Definitions only.
use Rattle.std.specs.Prelude.{ℕ, zero, suc, ◌+◌, ◌-◌, Bool, cond, List, [], ◌∷◌, ◌++◌, map, eqb, ltb, length, get_or}
use Rattle.paper_grammar.proofs.Laws.Ll.{Sym, T, N, Alt, ◌⇒◌}
use Rattle.paper_grammar.proofs.Laws.Form.{rows, blanks, G}

-- a symbol as a byte, and back
abbrev pub code : Sym ℕ → ℕ
code (T k) = k
code (N x) = x + 128

abbrev pub sym_of : ℕ → Sym ℕ
sym_of c = cond (ltb c 128) (T c) (N (c - 128))

-- n bytes: those of the symbols, and then blanks
abbrev pub cells : ℕ → List (Sym ℕ) → List ℕ
cells zero β = []
cells (suc n) [] = 32 ∷ cells n []
cells (suc n) (s ∷ β) = code s ∷ cells n β

-- the ten bytes of an alternative
abbrev pub record_of : Alt ℕ → List ℕ
record_of (k ⇒ β) = k ∷ length β ∷ cells 8 β

abbrev pub side : Alt ℕ → List (Sym ℕ)
side (k ⇒ β) = β

abbrev pub first : Alt ℕ → ℕ
first (k ⇒ β) = k

abbrev pub joined : {A : Type 0} → List (List A) → List A
joined [] = []
joined (l ∷ ls) = l ++ joined ls

-- every symbol's alternatives, one after the other
unfoldable pub alternatives : List (Alt ℕ)
alternatives = joined rows

-- where each list starts in the joined list, counted from n, and where the last one ends
abbrev pub offsets : {A : Type 0} → ℕ → List (List A) → List ℕ
offsets n [] = n ∷ []
offsets n (l ∷ ls) = n ∷ offsets (n + length l) ls

-- the tables
unfoldable pub alternatives_table : List ℕ
alternatives_table = joined (map record_of alternatives)

unfoldable pub rows_table : List ℕ
rows_table = offsets 0 rows

unfoldable pub empty_table : List ℕ
empty_table = map (λ (b : Bool). cond b 49 48) blanks

-- one behind the other
unfoldable pub table : List ℕ
table = rows_table ++ (empty_table ++ alternatives_table)

-- what it is read for
abbrev pub alt_of : ℕ → Alt ℕ
alt_of a = get_or alternatives a (0 ⇒ [])

abbrev pub byte_of : ℕ → ℕ → ℕ
byte_of a j = get_or (record_of (alt_of a)) j 0

abbrev pub side_of : ℕ → List ℕ
side_of a = map code (side (alt_of a))

-- which of the alternatives begins with k, where the first has the number a; from 1, and 0 where none does
abbrev pub seek_in : ℕ → ℕ → List (Alt ℕ) → ℕ
seek_in k a [] = 0
seek_in k a (x ∷ xs) = cond (eqb k (first x)) (a + 1) (seek_in k (a + 1) xs)

abbrev pub choice_of : ℕ → ℕ → ℕ
choice_of x k = seek_in k (get_or rows_table x 0) (G.alts x)
