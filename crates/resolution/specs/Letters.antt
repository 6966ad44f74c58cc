-- A type as a letter, and what an answer says: the letter of the type that there is, or 0 where there is none.
-- Law: an answer is the only one.
use Rattle.std.specs.Prelude.{◌≡◌, refl, Bool, true, false, cond, ℕ, eqb}
use Rattle.std.proofs.Common.{sym, ap, subst, ◌∙◌, eqb-true}
use Rattle.std.proofs.lemmas.Bool.{eqb-false}
use Rattle.paper_expressions.specs.Types.{Ty, Text, Integer, Real, SetofText, SetofReal, SetofInteger, SetofAnything, TruthValue}
use Rattle.paper_expressions.proofs.Laws.Search.{Reflects, of_yes, of_no}

abbrev pub letter : Ty → ℕ
letter Text = 84  -- T
letter Integer = 73  -- I
letter Real = 82  -- R
letter SetofText = 116  -- t
letter SetofReal = 114  -- r
letter SetofInteger = 105  -- i
letter SetofAnything = 97  -- a
letter TruthValue = 66  -- B

-- r tells which type has the property P, or that none has
pub data Outcome (P : Ty → Type 0) : ℕ → Type 0 where
  is : {t : Ty} → P t → Outcome P (letter t)
  none : ((t : Ty) → ¬ P t) → Outcome P 0

pub as_is : {P : Ty → Type 0} {r : ℕ} (t : Ty) → r ≡ letter t → P t → Outcome P r
as_is {P} t e h = subst (Outcome P) (sym e) (is h)

pub as_none : {P : Ty → Type 0} {r : ℕ} → r ≡ 0 → ((t : Ty) → ¬ P t) → Outcome P r
as_none {P} e h = subst (Outcome P) (sym e) (none h)

pub outcome_iff : {P Q : Ty → Type 0} {r : ℕ} → ((t : Ty) → P t → Q t) → ((t : Ty) → Q t → P t) → Outcome P r → Outcome Q r
outcome_iff f g (is {t} h) = is (f t h)
outcome_iff f g (none n) = none (λ t q. n t (g t q))

pub one_answer : {P : Ty → Type 0} {r s : ℕ} → ((t u : Ty) → P t → P u → t ≡ u) → Outcome P r → Outcome P s → r ≡ s
one_answer f (is {t} h) (is {t = u} k) = ap letter (f t u h k)
one_answer f (is {t} h) (none n) = absurd (n t h)
one_answer f (none n) (is {t} h) = absurd (n t h)
one_answer f (none n) (none m) = refl

-- ---- different types have different letters, and none has 0

abbrev type_at : ℕ → Ty
type_at x =
    cond (eqb x 84) Text
    (cond (eqb x 73) Integer
    (cond (eqb x 82) Real
    (cond (eqb x 116) SetofText
    (cond (eqb x 114) SetofReal
    (cond (eqb x 105) SetofInteger
    (cond (eqb x 97) SetofAnything
    TruthValue))))))

type-at : (t : Ty) → type_at (letter t) ≡ t
type-at Text = refl
type-at Integer = refl
type-at Real = refl
type-at SetofText = refl
type-at SetofReal = refl
type-at SetofInteger = refl
type-at SetofAnything = refl
type-at TruthValue = refl

pub same_letter : {t u : Ty} → letter t ≡ letter u → t ≡ u
same_letter {t} {u} e = sym (type-at t) ∙ ap type_at e ∙ type-at u

pub letter_reflects : (t u : Ty) → Reflects (t ≡ u) (eqb (letter t) (letter u))
letter_reflects t u = go (eqb (letter t) (letter u)) refl
  where
    go : (b : Bool) → eqb (letter t) (letter u) ≡ b → Reflects (t ≡ u) b
    go true e = of_yes (same_letter (eqb-true (letter t) (letter u) e))
    go false e = of_no (λ h. eqb-false (letter t) (letter u) e (ap letter h))

pub letter_some : (t : Ty) → eqb (letter t) 0 ≡ false
letter_some Text = refl
letter_some Integer = refl
letter_some Real = refl
letter_some SetofText = refl
letter_some SetofReal = refl
letter_some SetofInteger = refl
letter_some SetofAnything = refl
letter_some TruthValue = refl
