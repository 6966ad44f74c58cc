-- Which tokens of a guideline are names: of data items, of tasks, and bare in expressions. By the terminals of the tokens (`kinds`). Definitions only.
use Rattle.std.specs.Prelude.{ℕ, zero, suc, ◌+◌, ◌-◌, ◌≤◌, ◌<◌, ◌≡◌, Bool, true, false, cond, not, ◌&&◌, List, [], ◌∷◌, eqb, ltb, get_or}
use Rattle.paper_tokens.specs.Tokens.{“caption”, “description”, “precondition”, “postcondition”, “terminate”, “wait-condition”, “data”, “plan”, “action”, “enquiry”, “and”}
use Rattle.paper_tokens.specs.Tokens.{“::”, “semicolon”, “open”, “close”, “[”, “]”, “=”, ‘other-atom’, ‘yes-or-no’, ‘data-type’}
use Rattle.paper_grammar.proofs.Laws.Ll.{is_in}
use Rattle.paper_guideline.specs.Limits.{bracket_limit}
use Rattle.bare_tokens.specs.declared.within.Within.{Within}
use Rattle.bare_tokens.specs.declared.Counts.{Counts}
use Rattle.bare_tokens.specs.Listed.{Listed}

-- ---- what a token stands in

-- no terminal
abbrev pub none : ℕ
none = 255

-- the words of the attributes that have expressions
abbrev pub has_expressions : ℕ → Bool
has_expressions k = is_in k (“caption” ∷ “description” ∷ “precondition” ∷ “postcondition” ∷ “terminate” ∷ “wait-condition” ∷ [])

abbrev pub is_opening : ℕ → Bool
is_opening k = is_in k (“open” ∷ “[” ∷ [])

abbrev pub is_closing : ℕ → Bool
is_closing k = is_in k (“close” ∷ “]” ∷ [])

-- the terminals before and behind the token i
abbrev pub before : List ℕ → ℕ → ℕ
before kinds i = cond (eqb i 0) none (get_or kinds (i - 1) 0)

abbrev pub after : List ℕ → ℕ → ℕ
after kinds i = get_or kinds (i + 1) 0

-- behind the word of an attribute; no bracket is open
abbrev pub behind : ℕ → Within
behind k = record { word = k; depth = 0; base = 0 }

-- the bracket behind `postcondition ::` is around all assignments
abbrev pub is_around : Within → ℕ → Bool
is_around w last = eqb w.word “postcondition” && eqb last “::”

abbrev pub opened : Within → ℕ → Within
opened w last =
    cond (ltb bracket_limit w.depth) w
    (cond (is_around w last) (record { word = w.word; depth = 1; base = 1 })
    (record { word = w.word; depth = w.depth + 1; base = w.base }))

abbrev pub closed : Within → Within
closed w = record { word = w.word; depth = w.depth - 1; base = w.base }

-- with the token k more, behind the terminal `last`
abbrev pub on : Within → ℕ → ℕ → Within
on w k last =
    cond (has_expressions k) (behind k)
    (cond (eqb k “semicolon”) (behind none)
    (cond (is_opening k) (opened w last)
    (cond (is_closing k) (closed w) w)))

-- what stands behind the first i tokens stands in this
unfoldable pub within : List ℕ → ℕ → Within
within kinds zero = behind none
within kinds (suc i) = on (within kinds i) (get_or kinds i 0) (before kinds i)

-- ---- bare names

abbrev pub is_atom : ℕ → Bool
is_atom k = is_in k (‘other-atom’ ∷ ‘yes-or-no’ ∷ ‘data-type’ ∷ [])

-- the token is an atom, and does not begin with a quote
abbrev pub is_plain : List ℕ → List ℕ → List ℕ → ℕ → Bool
is_plain text kinds places i = is_atom (get_or kinds i 0) && not (eqb (get_or text (get_or places i 0) 0) 39)

-- a name behind this terminal may be assigned to
abbrev pub starts : ℕ → Bool
starts last = is_in last (“::” ∷ “and” ∷ “open” ∷ [])

-- a name is assigned to: in a postcondition, in no bracket but the one around all assignments, at the beginning of an assignment and before its =
abbrev pub is_target : Within → ℕ → ℕ → Bool
is_target w last next = eqb w.word “postcondition” && (eqb w.depth w.base && (eqb next “=” && starts last))

-- what stands at the token i is no functor, and is not assigned to
abbrev pub is_read : List ℕ → ℕ → Within → Bool
is_read kinds i w = not (eqb (after kinds i) “open”) && not (is_target w (before kinds i) (after kinds i))

abbrev pub is_bare : List ℕ → List ℕ → List ℕ → ℕ → Within → Bool
is_bare text kinds places i w = not (eqb w.word none) && (is_plain text kinds places i && is_read kinds i w)

-- the token i is a bare name in an expression
abbrev pub bare_at : List ℕ → List ℕ → List ℕ → ℕ → Bool
bare_at text kinds places i = is_bare text kinds places i (within kinds (suc i))

-- ---- declared names

-- the word two tokens before the name i, with :: between
abbrev pub declaring : List ℕ → ℕ → ℕ
declaring kinds i = cond (eqb (before kinds i) “::”) (before kinds (i - 1)) none

abbrev pub is_task : ℕ → Bool
is_task k = is_in k (“plan” ∷ “action” ∷ “enquiry” ∷ [])

abbrev pub item-at : List ℕ → ℕ → Bool
item-at kinds i = eqb (declaring kinds i) “data”

abbrev pub task_at : List ℕ → ℕ → Bool
task_at kinds i = is_task (declaring kinds i)

-- ---- the three lists

-- the lists before, and with a stroke after
pub record Collected (text kinds places : List ℕ) (n : ℕ) (items tasks names items' tasks' names' : List ℕ) (c : Counts) : Type 0 where
  pub of_items : Listed (item-at kinds) n items items' c.items
  pub of_tasks : Listed (task_at kinds) n tasks tasks' c.tasks
  pub of_names : Listed (bare_at text kinds places) n names names' c.bare

-- ---- bare names in words

-- the token i stands behind the word k of an attribute that has expressions, with no semicolon and no other such word between
pub record Inside (kinds : List ℕ) (i k : ℕ) : Type 0 where
  pub at : ℕ
  pub there : at ≤ i
  pub word : get_or kinds at 0 ≡ k
  pub has : has_expressions k ≡ true
  pub still : (m : ℕ) → at < m → m ≤ i → (has_expressions (get_or kinds m 0) ≡ false) × ¬ (get_or kinds m 0 ≡ “semicolon”)

-- it is an atom without quotes inside such an attribute, no functor, and not assigned to
pub record Bare (text kinds places : List ℕ) (i : ℕ) : Type 0 where
  pub word : ℕ
  pub inside : Inside kinds i word
  pub atom : is_atom (get_or kinds i 0) ≡ true
  pub unquoted : ¬ (get_or text (get_or places i 0) 0 ≡ 39)
  pub no_functor : ¬ (after kinds i ≡ “open”)
  pub unassigned : is_target (within kinds (suc i)) (before kinds i) (after kinds i) ≡ false
