-- Law: a guideline that loads is lawful: its names, its types, and every task reached. By deciding whether an expression fits and a task is reached.
use Rattle.std.specs.Prelude.{ℕ, ◌<◌, ◌≡◌, refl, ◌⊎◌}
use Rattle.std.proofs.Common.{arith, sym, ap, subst, ◌∙◌, inl, inr}
use Rattle.std.proofs.Math.Option.{Option, none, some}
use mathlib.Core.List.Memᴰ
use mathlib.Core.List.{List, [], ◌∷◌, Memᴰ}
use Rattle.paper_expressions.specs.Bytes.{folded, Alike}
use Rattle.paper_expressions.proofs.Laws.Search.{no_clash, at_one}
use Rattle.paper_expressions.specs.Types.{Ty, Ty-discrete, Text, TruthValue, inferred, Promotes}
use Rattle.paper_expressions.specs.Clauses.{Clause}
use Rattle.paper_expressions.specs.View.{View, Item, At, ResolveData, resolve_data_2, resolve_data_3, Apart}
use Rattle.paper_expressions.specs.View as Views
use Rattle.paper_expressions.proofs.Laws.Resolve.{resolve_data_f, data_clause, data_fits, data_same}
use Rattle.paper_expressions.specs.Expressions.{Expr, HasType}
use Rattle.paper_expressions.proofs.Laws.Typing.{Search, has, has_none, typing, one_type, promotes?}
use Rattle.paper_guideline.specs.Structure.{Name, TopLevel, DataItem, Task, tasks, data_items}
use Rattle.paper_guideline.specs.Parts.{Role, condition, wording, assigned_to, Typed, expressions}
use Rattle.paper_guideline.specs.Names.{NameBreach, data_item_twice, not_reached, Reached}
use Rattle.paper_guideline.specs.Refusals.{Stage, name_stage, type_stage, Breach, name_breach, no_type, Read, Answers, loads, is_loaded, Fitting, fits_condition, fits_wording, fits_assigned, declared_items}
use Rattle.paper_guideline.proofs.Laws.NameTwin.{name_places, name_breach_in}
use Rattle.paper_guideline.proofs.Laws.FittingTwin.{type_places, unfit_in}
use Rattle.paper_rows.specs.Load.{InstantiateTask}
use Rattle.paper_rows.proofs.Laws.Deciding.{either?, as?}
use Rattle.paper_rows.proofs.Laws.Lawful.{Lawful}
use Rattle.paper_rows.proofs.Laws.Lists.{map_at, at_most}
use Rattle.paper_rows.proofs.Laws.ReachLaws.{reached?, reached_instantiated}

-- ---- whether an expression fits is decided

module _ {v : View} (apart : Apart v) (x : Typed) where
  abbrev Has : Ty → Type 0
  Has t = HasType v x.attached x.expression.tree t

  of_condition : Fitting v x condition → Has TruthValue
  of_condition (fits_condition h) = h

  of_wording : Fitting v x wording → Has Text
  of_wording (fits_wording h) = h

  type? : (t : Ty) → Dec (Has t)
  type? t = go (typing v x.attached apart x.expression.tree)
    where
      go : Search Has → Dec (Has t)
      go (has u h) = as? (λ e. subst Has e h) (λ k. one_type v x.attached apart h k) (Ty-discrete u t)
      go (has_none n) = no (n t)

  assigned? : (n : Name) → Dec (Fitting v x (assigned_to n))
  assigned? n = by_item (resolve_data_f v x.attached n.spelt) (data_fits v x.attached n.spelt)
    where
      by_type : {d : ℕ} {i : Item} {c : Clause} → ResolveData v x.attached n.spelt c (some d) → At v.items d i → Search Has → Dec (Fitting v x (assigned_to n))
      by_type {d} {i} r h (has u k) = as? (λ f. fits_assigned r h k f) back (either? (Ty-discrete u (inferred i.declared)) (promotes? u (inferred i.declared)))
        where
          back : Fitting v x (assigned_to n) → (u ≡ inferred i.declared) ⊎ Promotes u (inferred i.declared)
          back (fits_assigned {d = m} {i = j} {t = w} r' h' k' f) =
              let a : some m ≡ some d = (data_same v x.attached n.spelt apart r' r).value in
              let b : m ≡ d = cc in
              let e : j ≡ i = at_one (subst (λ (y : ℕ). At v.items y j) b h') h in
              let q : w ≡ u = one_type v x.attached apart k' k in
              subst (λ (y : Item). (u ≡ inferred y.declared) ⊎ Promotes u (inferred y.declared)) e
              (subst (λ (y : Ty). (y ≡ inferred j.declared) ⊎ Promotes y (inferred j.declared)) q f)
      by_type r h (has_none m) = no (λ f. none_fits f)
        where
          none_fits : Fitting v x (assigned_to n) → ⊥
          none_fits (fits_assigned {t} r' h' k' f) = m t k'

      by_item : (o : Option ℕ) → ResolveData v x.attached n.spelt (data_clause v x.attached n.spelt o) o → Dec (Fitting v x (assigned_to n))
      by_item none r = no none_fits
        where
          none_fits : Fitting v x (assigned_to n) → ⊥
          none_fits (fits_assigned r' h' k' f) = no_clash (cc (data_same v x.attached n.spelt apart r' r).value)
      by_item (some d) r = found r
        where
          found : {c : Clause} → ResolveData v x.attached n.spelt c (some d) → Dec (Fitting v x (assigned_to n))
          found (resolve_data_2 h k) = by_type (resolve_data_2 h k) h (typing v x.attached apart x.expression.tree)

  pub fitting? : (r : Role) → Dec (Fitting v x r)
  fitting? condition = as? fits_condition of_condition (type? TruthValue)
  fitting? wording = as? fits_wording of_wording (type? Text)
  fitting? (assigned_to n) = assigned? n

-- ---- the names of the declared items are apart

no_task : {A : Type 0} {i : ℕ} {x : A} → ¬ At [] i x
no_task h = elim h [ ]

pub declared_apart : {g : List TopLevel} → ((p : ℕ) → ¬ NameBreach g p) → Apart (declared_items g)
declared_apart {g} names = record { items = items; tasks = λ h k p q e. absurd (no_task h) }
  where
    bare : DataItem → Item
    bare d = record { name = d.named.spelt; declared = d.declared; value = none }

    items : {i j : ℕ} {x y : Item} → At (declared_items g).items i x → At (declared_items g).items j y → Alike x.name y.name → i ≡ j
    items h k e =
        let a = map_at bare (data_items g) h in
        let b = map_at bare (data_items g) k in
        let f : Alike a.0.named.spelt b.0.named.spelt = ap (λ (z : Item). folded z.name) a.2 ∙ e ∙ sym (ap (λ (z : Item). folded z.name) b.2) in
        at_most (λ l. names _ (data_item_twice l a.1 b.1 f)) (λ l. names _ (data_item_twice l b.1 a.1 (sym f)))

-- ---- where no rule on names is broken every task is reached

pub reached_by_names : {g : List TopLevel} → ((p : ℕ) → ¬ NameBreach g p) → {c : ℕ} {k : Task} → At (tasks g) c k → InstantiateTask g k c
reached_by_names {g} names {c} {k} h = go (reached? g c)
  where
    go : Dec (Reached g c) → InstantiateTask g k c
    go (yes z) = reached_instantiated z h
    go (no m) = absurd (names _ (not_reached h m))

-- ---- what loads is lawful

pub lawful : {Short : Type 0} {text : List ℕ} {g : List TopLevel} → Answers Short text loads → Read text g → Lawful g
lawful {Short} {text} {g} (is_loaded r n) q = record { reached = reached_by_names names; names = names; types = types }
  where
    names : (p : ℕ) → ¬ NameBreach g p
    names p b = n name_stage p (name_breach q b)

    types : {i : ℕ} {x : Typed} → At (expressions g) i x → Fitting (declared_items g) x x.role
    types {i} {x} h = go (fitting? (declared_apart names) x x.role)
      where
        go : Dec (Fitting (declared_items g) x x.role) → Fitting (declared_items g) x x.role
        go (yes f) = f
        go (no m) = absurd (n type_stage _ (no_type q h m))

-- ---- and so is one whose computed breaches of names and types are none

pub lawful_if : (g : List TopLevel) → name_places g ≡ [] → type_places g ≡ [] → Lawful g
lawful_if g e f = record { reached = reached_by_names names; names = names; types = types }
  where
    nowhere : {l : List ℕ} {p : ℕ} → l ≡ [] → ¬ Memᴰ p l
    nowhere {p} z m = Memᴰ.not-nil (subst (Memᴰ p) z m)

    names : (p : ℕ) → ¬ NameBreach g p
    names p b = nowhere e (name_breach_in g b)

    types : {i : ℕ} {x : Typed} → At (expressions g) i x → Fitting (declared_items g) x x.role
    types {i} {x} h = go (fitting? (declared_apart names) x x.role)
      where
        go : Dec (Fitting (declared_items g) x x.role) → Fitting (declared_items g) x x.role
        go (yes k) = k
        go (no m) = absurd (nowhere f (unfit_in g (declared_apart names) h m))
