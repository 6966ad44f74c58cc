-- Law: the test of the type found decides the three added rules; one answer. By the type found, and by the item that 9.5 finds.
use Rattle.std.specs.Prelude.{◌≡◌, refl, ◌⊎◌, Bool, true, false, List, ℕ, ◌≤◌, ◌<◌, eqb, get_or, length}
use Rattle.std.proofs.Common.{sym, ap, subst, ◌∙◌, inl, inr}
use Rattle.std.proofs.Math.Option.{none, some}
use Rattle.paper_expressions.specs.Bytes.{Alike}
use Rattle.paper_expressions.specs.Clauses.{Clause}
use Rattle.paper_expressions.specs.Types.{Ty, Text, Integer, Real, SetofText, SetofReal, SetofInteger, SetofAnything, TruthValue, Promotes, inferred}
use Rattle.paper_expressions.specs.View.{View, Item, At, Apart, ResolveData, resolve_data_2}
use Rattle.paper_expressions.specs.Expressions.{HasType}
use Rattle.paper_expressions.proofs.Laws.Typing.{one_type}
use Rattle.paper_expressions.proofs.Laws.Parentheses.{bare}
use Rattle.paper_expressions.proofs.Laws.Search.{Reflects, of_yes, of_no, reflects_iff}
use Rattle.paper_guideline.specs.Structure.{Name}
use Rattle.paper_guideline.specs.Parts.{Typed, condition, wording, assigned_to}
use Rattle.paper_guideline.specs.Refusals.{Fitting, fits_condition, fits_wording, fits_assigned}
use Rattle.paper_guideline.proofs.Laws.FittingTwin.{assigned_iff}
use Rattle.parts.specs.Part.{Table}
use Rattle.parts.specs.Items.{Found}
use Rattle.parts.specs.ItemLaws.{resolved, unresolved}
use Rattle.typer.specs.declared.fitting.Role.{Role}
use Rattle.typer.specs.declared.fitting.Role.TheVariants.{Condition, Wording, Assigned}
use Rattle.resolution.specs.Letters.{letter, letter_reflects, Outcome, is, none}
use Rattle.resolution.specs.Resolution.{Near, same, by, near_reflects, meets_of}
use Rattle.typer.specs.Leaves.{inferred_of}
use Rattle.typer.proofs.LeavesLaws.{inferred_letter}
use Rattle.typer.specs.Typed as Tables
use Rattle.typer.proofs.TypedLaws.{typed_written}
use Rattle.typer.specs.Fitting.{asks_condition, asks_wording, asks_assigned, Suits, Given, Fits}

-- two answers that meet the contract are the same
pub fits_once : {t : Table} {names types : List ℕ} {T q d : ℕ} {role : Role} {r s : Bool} (v : View) (x : Typed) → Given t names types T q d role v x
    → Fits t names types T q d role r → Fits t names types T q d role s → r ≡ s
fits_once v x h f g = same_test (f v x h) (g v x h)
  where
    same_test : {P : Type 0} {r s : Bool} → Reflects P r → Reflects P s → r ≡ s
    same_test (of_yes p) (of_yes q) = refl
    same_test (of_yes p) (of_no n) = absurd (n p)
    same_test (of_no n) (of_yes p) = absurd (n p)
    same_test (of_no n) (of_no m) = refl

-- what suits the type that is found fits
pub fits_found : {t : Table} {names types : List ℕ} {T q d f : ℕ} {role : Role} {r : Bool} → Tables.Typed t names types T q d f → Suits t.bytes names types role f r
    → Fits t names types T q d role r
fits_found {f = f} typed suits v x h =
    suits v x x.role h.apart h.items h.asked
    (typed_written x.expression.tree
    (subst (λ (T : ℕ). Outcome (HasType v T (bare x.expression.tree)) f) (sym h.attached) (typed v (bare x.expression.tree) h.apart h.items h.ends h.within)))

-- ---- no type is no letter

none_meets : (p : Bool) (u : Ty) → meets_of p 0 (letter u) ≡ false
none_meets p Text = refl
none_meets p Integer = refl
none_meets p Real = refl
none_meets p SetofText = refl
none_meets p SetofReal = refl
none_meets p SetofInteger = refl
none_meets p SetofAnything = refl
none_meets p TruthValue = refl

no_letter : (u : Ty) → eqb 0 (letter u) ≡ false
no_letter Text = refl
no_letter Integer = refl
no_letter Real = refl
no_letter SetofText = refl
no_letter SetofReal = refl
no_letter SetofInteger = refl
no_letter SetofAnything = refl
no_letter TruthValue = refl

-- ---- a condition, a caption or description: exactly one type

module _ (v : View) (x : Typed) (apart : Apart v) where
  abbrev Has : Ty → Type 0
  Has t = HasType v x.attached x.expression.tree t

  exactly : (u : Ty) {f : ℕ} → Outcome Has f → Reflects (Has u) (eqb f (letter u))
  exactly u (is {t} h) = reflects_iff (λ q. subst Has q h) (λ k. one_type v x.attached apart h k) (letter_reflects t u)
  exactly u (none n) = rw (no_letter u) (of_no (n u))

  condition_back : Fitting v x condition → Has TruthValue
  condition_back (fits_condition h) = h

  wording_back : Fitting v x wording → Has Text
  wording_back (fits_wording h) = h

pub condition_suits : (b names types : List ℕ) (f : ℕ) → Suits b names types Condition f (eqb f 66)
condition_suits b names types f v x asked apart i asks_condition o = reflects_iff fits_condition (condition_back v x apart) (exactly v x apart TruthValue o)

pub wording_suits : (b names types : List ℕ) (f : ℕ) → Suits b names types Wording f (eqb f 84)
wording_suits b names types f v x asked apart i asks_wording o = reflects_iff fits_wording (wording_back v x apart) (exactly v x apart Text o)

-- ---- an assigned expression: the type of the item that the name finds

near_either : {t u : Ty} → Near true t u → (t ≡ u) ⊎ Promotes t u
near_either same = inl refl
near_either (by e h) = inr h

either_near : {t u : Ty} → (t ≡ u) ⊎ Promotes t u → Near true t u
either_near {t} (inl e) = subst (Near true t) e same
either_near (inr h) = by refl h

module _ (v : View) (x : Typed) (apart : Apart v) (n : Name) where
  untyped : ((t : Ty) → ¬ Has v x apart t) → ¬ Fitting v x (assigned_to n)
  untyped m (fits_assigned {t} r h k near) = m t k

  near_fits : {c : Clause} {d : ℕ} {i : Item} {f : ℕ} → ResolveData v x.attached n.spelt c (some d) → At v.items d i → Outcome (Has v x apart) f
      → Reflects (Fitting v x (assigned_to n)) (meets_of true f (letter (inferred i.declared)))
  near_fits {i = i} r h (is {t} k) =
      reflects_iff (λ e. fits_assigned r h k (near_either e)) (λ e. either_near (assigned_iff v apart x r h k e)) (near_reflects true t (inferred i.declared))
  near_fits {i = i} r h (none m) = rw (none_meets true (inferred i.declared)) (of_no (untyped m))

  nothing_fits : ((d : ℕ) (i : Item) → At v.items d i → ¬ Alike i.name n.spelt) → ¬ Fitting v x (assigned_to n)
  nothing_fits m (fits_assigned (resolve_data_2 h a) k g near) = m _ _ h a

pub assigned_suits : (b names types : List ℕ) (h i f w : ℕ) → Found b names h i → i < length names → w ≡ inferred_of (get_or types i 0) → Suits b names types (Assigned h) f (meets_of true f w)
assigned_suits b names types h i f w found l q v x asked apart held (asks_assigned {n} e) o =
    let y = resolved held found l in
    let c = q ∙ ap inferred_of (held.typed y.1) ∙ inferred_letter y.0.declared in
    subst (λ (k : ℕ). Reflects (Fitting v x (assigned_to n)) (meets_of true f k)) (sym c)
    (near_fits v x apart n (resolve_data_2 y.1 (subst (Alike y.0.name) e y.2)) y.1 o)

pub assigned_none : (b names types : List ℕ) (h i f : ℕ) → Found b names h i → length names ≤ i → Suits b names types (Assigned h) f false
assigned_none b names types h i f found l v x asked apart held (asks_assigned {n} e) o =
    of_no (nothing_fits v x apart n (subst (λ (s : List ℕ). (d : ℕ) (y : Item) → At v.items d y → ¬ Alike y.name s) e (unresolved held found l)))
