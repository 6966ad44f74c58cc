-- The three added rules on types, computed: `fitsF v x r` tells whether an expression fits its role where the names are apart, `type-places g` lists where one does not. By typeF, the type that the rules of 4.1 give.
use Rattle.std.specs.Prelude.{ℕ, ◌≡◌, refl, Bool, true, false, ◌||◌, not, ◌⊎◌}
use Rattle.std.proofs.Common.{sym, subst, ◌∙◌, inl, inr}
use Rattle.std.proofs.Math.Option.{Option, none, some}
use mathlib.Core.List.{List, Memᴰ}
use Rattle.paper_expressions.specs.Types.{Ty, Ty-discrete, Text, TruthValue, Promotes, inferred}
use Rattle.paper_expressions.specs.Clauses.{Clause}
use Rattle.paper_expressions.specs.View.{View, Item, At, Apart, ResolveData, resolve_data_2}
use Rattle.paper_expressions.specs.Expressions.{HasType}
use Rattle.paper_expressions.proofs.Laws.Search.{no_clash, Reflects, of_yes, of_no, reflects_iff, reflects_not, reflects_true, true_reflects, at_f, at_only, at_one}
use Rattle.paper_expressions.proofs.Laws.Resolve.{resolve_data_f, data_clause, data_fits, data_same}
use Rattle.paper_expressions.proofs.Laws.Typing.{promotes?, item_type, type_f, type_only, type_has}
use Rattle.paper_guideline.specs.Structure.{Name, TopLevel}
use Rattle.paper_guideline.specs.Parts.{Role, condition, wording, assigned_to, Typed, expressions}
use Rattle.paper_guideline.specs.Refusals.{declared_items, Fitting, fits_condition, fits_wording, fits_assigned}
use Rattle.paper_guideline.proofs.Laws.Places
use Places.{chosen, chosen_in, chosen_out}

abbrev decided : {P : Type 0} → Dec P → Bool
decided (yes p) = true
decided (no n) = false

decided_reflects : {P : Type 0} (d : Dec P) → Reflects P (decided d)
decided_reflects (yes p) = of_yes p
decided_reflects (no n) = of_no n

-- exactly this type
abbrev pub is_type : Ty → Option Ty → Bool
is_type t none = false
is_type t (some u) = decided (Ty-discrete u t)

-- "has the item's type or promotes to it"
abbrev pub near : Ty → Ty → Bool
near t u = decided (Ty-discrete t u) || decided (promotes? t u)

abbrev pub assignable : Option Ty → Option Ty → Bool
assignable none o = false
assignable (some u) none = false
assignable (some u) (some t) = near t u

-- the type of the item that a name finds
abbrev pub wanted_at : View → Option ℕ → Option Ty
wanted_at v none = none
wanted_at v (some d) = item_type (at_f v.items d)

abbrev pub fits_f : View → Typed → Role → Bool
fits_f v x condition = is_type TruthValue (type_f v x.attached x.expression.tree)
fits_f v x wording = is_type Text (type_f v x.attached x.expression.tree)
fits_f v x (assigned_to n) = assignable (wanted_at v (resolve_data_f v x.attached n.spelt)) (type_f v x.attached x.expression.tree)

pub near_reflects : (t u : Ty) → Reflects ((t ≡ u) ⊎ Promotes t u) (near t u)
near_reflects t u = go (decided_reflects (Ty-discrete t u)) (decided_reflects (promotes? t u))
  where
    neither : ¬ (t ≡ u) → ¬ Promotes t u → ¬ ((t ≡ u) ⊎ Promotes t u)
    neither n m (inl e) = n e
    neither n m (inr p) = m p

    go : {a b : Bool} → Reflects (t ≡ u) a → Reflects (Promotes t u) b → Reflects ((t ≡ u) ⊎ Promotes t u) (a || b)
    go (of_yes e) r = of_yes (inl e)
    go (of_no n) (of_yes p) = of_yes (inr p)
    go (of_no n) (of_no m) = of_no (neither n m)

module _ (v : View) (apart : Apart v) (x : Typed) where
  abbrev Has : Ty → Type 0
  Has t = HasType v x.attached x.expression.tree t

  -- an expression that has one type has no other
  is_reflects : (t : Ty) → Reflects (Has t) (is_type t (type_f v x.attached x.expression.tree))
  is_reflects t = go (type_f v x.attached x.expression.tree) refl
    where
      by : (u : Ty) → type_f v x.attached x.expression.tree ≡ some u → {b : Bool} → Reflects (u ≡ t) b → Reflects (Has t) b
      by u e (of_yes f) = of_yes (subst Has f (type_has v x.attached x.expression.tree e))
      by u e (of_no n) = of_no (λ h. n (let k = type_only v x.attached apart h in let z : some u ≡ some t = sym e ∙ k in cc))

      go : (o : Option Ty) → type_f v x.attached x.expression.tree ≡ o → Reflects (Has t) (is_type t o)
      go none e = of_no (λ h. let k = type_only v x.attached apart h in no_clash (cc))
      go (some u) e = by u e (decided_reflects (Ty-discrete u t))

  -- an assigned expression: by the item that the name finds, and by the one type
  pub assigned_iff : {n : Name} {c : Clause} {d : ℕ} {i : Item} {t : Ty} → ResolveData v x.attached n.spelt c (some d) → At v.items d i → Has t
      → Fitting v x (assigned_to n) → (t ≡ inferred i.declared) ⊎ Promotes t (inferred i.declared)
  assigned_iff {n} {c} {d} {i} {t} r h k (fits_assigned {d = b} {i = j} {t = u} r' h' k' near) =
      let e : b ≡ d = (let q = (data_same v x.attached n.spelt apart r' r).value in cc) in
      let f : j ≡ i = at_one (subst (λ (m : ℕ). At v.items m j) e h') h in
      let g : u ≡ t = (let a = type_only v x.attached apart k in let b = type_only v x.attached apart k' in cc) in
      subst (λ (w : Ty). (w ≡ inferred i.declared) ⊎ Promotes w (inferred i.declared)) g
      (subst (λ (m : Item). (u ≡ inferred m.declared) ⊎ Promotes u (inferred m.declared)) f near)

  assigned_reflects : (n : Name) → Reflects (Fitting v x (assigned_to n)) (fits_f v x (assigned_to n))
  assigned_reflects n = by_item (resolve_data_f v x.attached n.spelt) (data_fits v x.attached n.spelt)
    where
      has_no_type : type_f v x.attached x.expression.tree ≡ none → ¬ Fitting v x (assigned_to n)
      has_no_type e (fits_assigned r h k f) = let q = type_only v x.attached apart k in no_clash (cc)

      by_type : {d : ℕ} {i : Item} → ResolveData v x.attached n.spelt (data_clause v x.attached n.spelt (some d)) (some d) → At v.items d i
          → (o : Option Ty) → type_f v x.attached x.expression.tree ≡ o → Reflects (Fitting v x (assigned_to n)) (assignable (some (inferred i.declared)) o)
      by_type r h none e = of_no (has_no_type e)
      by_type {i} r h (some t) e =
          let k = type_has v x.attached x.expression.tree e in
          reflects_iff (λ f. fits_assigned r h k f) (λ f. assigned_iff r h k f) (near_reflects t (inferred i.declared))

      no_item : {c : Clause} → ResolveData v x.attached n.spelt c none → ¬ Fitting v x (assigned_to n)
      no_item r (fits_assigned r' h k f) = no_clash (cc (data_same v x.attached n.spelt apart r' r).value)

      found : {d : ℕ} {i : Item} → ResolveData v x.attached n.spelt (data_clause v x.attached n.spelt (some d)) (some d) → At v.items d i
          → Reflects (Fitting v x (assigned_to n)) (assignable (wanted_at v (some d)) (type_f v x.attached x.expression.tree))
      found r h = rw (at_only h) (by_type r h (type_f v x.attached x.expression.tree) refl)

      by_item : (o : Option ℕ) → ResolveData v x.attached n.spelt (data_clause v x.attached n.spelt o) o
          → Reflects (Fitting v x (assigned_to n)) (assignable (wanted_at v o) (type_f v x.attached x.expression.tree))
      by_item none r = of_no (no_item r)
      by_item (some d) r = item_of r
        where
          item_of : ResolveData v x.attached n.spelt (data_clause v x.attached n.spelt (some d)) (some d)
              → Reflects (Fitting v x (assigned_to n)) (assignable (wanted_at v (some d)) (type_f v x.attached x.expression.tree))
          item_of (resolve_data_2 h k) = found r h

  condition_out : Fitting v x condition → Has TruthValue
  condition_out (fits_condition h) = h

  wording_out : Fitting v x wording → Has Text
  wording_out (fits_wording h) = h

  pub fits_reflects : (r : Role) → Reflects (Fitting v x r) (fits_f v x r)
  fits_reflects condition = reflects_iff fits_condition condition_out (is_reflects TruthValue)
  fits_reflects wording = reflects_iff fits_wording wording_out (is_reflects Text)
  fits_reflects (assigned_to n) = assigned_reflects n

-- ---- the expressions that don't fit, at their starts

abbrev pub unfit : List TopLevel → Typed → Bool
unfit g x = not (fits_f (declared_items g) x x.role)

abbrev pub type_places : List TopLevel → List ℕ
type_places g = chosen (unfit g) (λ (x : Typed). x.expression.start) (expressions g)

module _ (g : List TopLevel) (apart : Apart (declared_items g)) where
  unfit_reflects : (x : Typed) → Reflects (¬ Fitting (declared_items g) x x.role) (unfit g x)
  unfit_reflects x = reflects_not (fits_reflects (declared_items g) apart x x.role)

  pub unfit_in : {i : ℕ} {x : Typed} → At (expressions g) i x → ¬ Fitting (declared_items g) x x.role → Memᴰ x.expression.start (type_places g)
  unfit_in {x} h n = chosen_in (unfit g) (λ (x : Typed). x.expression.start) h (reflects_true (unfit_reflects x) n)

  -- an expression that doesn't fit starts there
  pub record Unfit (p : ℕ) : Type 0 where
    pub i : ℕ
    pub x : Typed
    pub at : At (expressions g) i x
    pub misfit : ¬ Fitting (declared_items g) x x.role
    pub there : p ≡ x.expression.start

  pub unfit_out : {p : ℕ} → Memᴰ p (type_places g) → Unfit p
  unfit_out m = let c = chosen_out (expressions g) m in record { i = c.i; x = c.x; at = c.at; misfit = true_reflects (unfit_reflects c.x) c.passes; there = c.there }
