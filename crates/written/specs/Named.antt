-- What is said of a type's letter: whichever type has the letter, its name or its answer is appended.
use Rattle.std.specs.Prelude.{◌≡◌, refl, List, [], ◌∷◌, ℕ, length}
use Rattle.std.proofs.Common.{sym, subst, ◌∙◌}
use Rattle.paper_expressions.specs.Bytes.{bytes}
use Rattle.paper_expressions.specs.Types.{Ty, Text, Integer, Real, SetofText, SetofReal, SetofInteger, SetofAnything, TruthValue}
use Rattle.paper_expressions.specs.Values.{Value}
use Rattle.paper_guideline.specs.Line.{type_name, gives, answer_written, value_written}
use Rattle.resolution.specs.Letters.{letter, same_letter}
use Rattle.digits.specs.Appends.{Appends}
use Rattle.digits.specs.AppendsLaws.{append_then}

-- f t is appended, for the type t whose letter is n
pub record OfType (n : ℕ) (out out' : List ℕ) (o r : ℕ) (f : Ty → List ℕ) : Type 0 where
  pub same : length out' ≡ length out
  pub wrote : (t : Ty) → n ≡ letter t → Appends out out' o r (f t)

abbrev pub name_of : Ty → List ℕ
name_of t = bytes (type_name t)

abbrev pub answer_of : Value → Ty → List ℕ
answer_of v t = answer_written (gives t v)

module _ {n : ℕ} {out out' : List ℕ} {o r : ℕ} where
  pub named : (u : Ty) → n ≡ letter u → Appends out out' o r (name_of u) → OfType n out out' o r name_of
  named u e h = record { same = h.same; wrote = λ t k. subst (λ (x : Ty). Appends out out' o r (name_of x)) (same_letter {t = u} {u = t} (sym e ∙ k)) h }

-- where no type has the letter
pub unnamed : {n : ℕ} (out : List ℕ) (o : ℕ) → ((t : Ty) → n ≡ letter t → ⊥) → OfType n out out o o name_of
unnamed out o none = record { same = refl; wrote = λ t k. absurd (none t k) }

pub no_letter : {n : ℕ} → (n ≡ 84 → ⊥) → (n ≡ 73 → ⊥) → (n ≡ 82 → ⊥) → (n ≡ 116 → ⊥) → (n ≡ 114 → ⊥) → (n ≡ 105 → ⊥) → (n ≡ 97 → ⊥) → (n ≡ 66 → ⊥) → (t : Ty) → n ≡ letter t → ⊥
no_letter a b c d e f g h Text = a
no_letter a b c d e f g h Integer = b
no_letter a b c d e f g h Real = c
no_letter a b c d e f g h SetofText = d
no_letter a b c d e f g h SetofReal = e
no_letter a b c d e f g h SetofInteger = f
no_letter a b c d e f g h SetofAnything = g
no_letter a b c d e f g h TruthValue = h

-- the name, a blank and the value
module _ {n : ℕ} {out out' mid last : List ℕ} {o p q r : ℕ} where
  pub answered : (v : Value) → OfType n out mid o p name_of → Appends mid last p q (32 ∷ []) → Appends last out' q r (value_written v) → OfType n out out' o r (answer_of v)
  answered v h b w = record { same = w.same ∙ b.same ∙ h.same; wrote = λ t k. append_then (h.wrote t k) (append_then b w) }
