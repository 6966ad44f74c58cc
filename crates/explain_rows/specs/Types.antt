-- What an expression is wanted for, the first part without a type, and where an operand ends. Definitions, and the steps of the loops.
use Rattle.std.specs.Prelude.{ℕ, zero, suc, ◌+◌, ◌-◌, ◌*◌, ◌≤◌, ◌<◌, ◌≡◌, refl, true, false, List, [], ◌∷◌, Option, Some, None, get_or}
use Rattle.std.proofs.Common.{sym, ap, ◌∙◌, arith, ne_eqb}
use Rattle.std.proofs.Math.Decide.{dec_lt}
use Rattle.paper_tokens.specs.Tokens.{“=”, “caption”, “description”}
use Rattle.paper_grammar.proofs.Laws.Ll.{is_in}
use Rattle.paper_guideline.specs.Limits.{depth_limit}
use Rattle.parts.specs.Part.{Table}
use Rattle.typer.specs.Typed.{Typed}
use Rattle.row_tests.specs.Table.{cell_of, kind_of}
use Rattle.explain_rows.specs.declared.firsts.Sort.TheVariants as Sort
use Rattle.explain_rows.specs.declared.types.Wanted.{Wanted}
use Rattle.explain_rows.specs.declared.types.Wanted.TheVariants.{Truth, Text, Item}
use Rattle.explain_rows.specs.Firsts.{named-at, First}

-- the data item that is assigned to is the first whose name is alike
abbrev pub Wants : List ℕ → ℕ → List ℕ → ℕ → Wanted → Type 0
Wants x n b j (Item i) = (kind_of x j ≡ “=”) × First (named-at x b Sort.Item true (cell_of x j 2)) n i
Wants x n b j Text = is_in (kind_of x j) (“caption” ∷ “description” ∷ []) ≡ true
Wants x n b j Truth = is_in (kind_of x j) (“=” ∷ “caption” ∷ “description” ∷ []) ≡ false

-- types don't depend on the task
abbrev pub root : ℕ
root = 0

-- the part p has a type
abbrev pub Lettered : Table → List ℕ → List ℕ → ℕ → Type 0
Lettered t names types p = (l : ℕ) × (0 < l) × Typed t names types root (p + 1) depth_limit l

-- of the parts from `from` on, all before r have a type; r is `to`, or has none
pub record Untyped (t : Table) (names types : List ℕ) (from to r : ℕ) : Type 0 where
  pub within : r ≤ to
  pub none : r < to → Typed t names types root (r + 1) depth_limit 0
  pub typed : (p : ℕ) → from ≤ p → p < r → Lettered t names types p

-- .. where there is one
abbrev pub UntypedOf : Table → List ℕ → List ℕ → ℕ → ℕ → Option ℕ → Type 0
UntypedOf t names types from to None = Untyped t names types from to to
UntypedOf t names types from to (Some p) = (p < to) × Untyped t names types from to p

-- where the operand ends behind which there are k others, of those that end at q
abbrev pub backs : List ℕ → ℕ → ℕ → ℕ
backs x q zero = q
backs x q (suc k) = backs x (q - get_or x ((q - 1) * 4 + 2) 0) k

pub some_letter : {l : ℕ} → ¬ (l ≡ 0) → 0 < l
some_letter {l} n = go (dec_lt 0 l)
  where
    go : Dec (0 < l) → 0 < l
    go (yes h) = h
    go (no h) = absurd (n (omega arith))

pub backs_step : (x : List ℕ) (q k : ℕ) {r : ℕ} → 0 < k → r ≡ q - get_or x ((q - 1) * 4 + 2) 0 → backs x q k ≡ backs x r (k - 1)
backs_step x q zero l e = absurd (omega arith)
backs_step x q (suc k) l e = let z : suc k - 1 ≡ k = omega arith in rw (z, e)

pub backs_end : (x : List ℕ) (q k : ℕ) → k ≤ 0 → q ≡ backs x q k
backs_end x q zero l = refl
backs_end x q (suc k) l = absurd (omega arith)

-- the kind of the row, found by the code
pub wants_text : {k m : ℕ} (j : ℕ) → k ≡ m → k ≡ j → is_in j (“caption” ∷ “description” ∷ []) ≡ true → is_in m (“caption” ∷ “description” ∷ []) ≡ true
wants_text j e q h = ap (λ (z : ℕ). is_in z (“caption” ∷ “description” ∷ [])) (sym e ∙ q) ∙ h

pub wants_truth : {k m : ℕ} → k ≡ m → ¬ (k ≡ “=”) → ¬ (k ≡ “caption”) → ¬ (k ≡ “description”) → is_in m (“=” ∷ “caption” ∷ “description” ∷ []) ≡ false
wants_truth {m = m} e a b c = rw (ne_eqb m “=” (λ q. a (e ∙ q)), ne_eqb m “caption” (λ q. b (e ∙ q)), ne_eqb m “description” (λ q. c (e ∙ q)))
