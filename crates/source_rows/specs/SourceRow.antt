-- The answer to reading a row of a source, by the number of the property: of every state that the tables hold. By the four properties that a source has.
use Rattle.std.specs.Prelude.{ℕ, ◌+◌, ◌<◌, ◌≡◌, refl, Bool, List, get_or}
use Rattle.std.proofs.Common.{sym, ap, subst, ◌∙◌}
use Rattle.std.proofs.Math.Option.{Option, none, some}
use Rattle.paper_expressions.specs.Values.{one, text}
use Rattle.paper_expressions.specs.View.{At}
use Rattle.paper_guideline.specs.Structure.{TopLevel}
use Rattle.paper_rows.specs.Table.{data_item, source, ◌№◌, a_source, Property, properties, class, name, data_item_of, mandatory, RowValue, component_is, text_row, Table}
use Rattle.paper_rows.specs.Load as Load
use Load.{Adds}
use Rattle.paper_rows.proofs.Laws.Ranks.{property_rank}
use Rattle.paper_engine.proofs.Laws.Kept.{Moving, adds}
use Rattle.paper_calls.specs.Calls.{shows_value, shows_class, shows_component, shown_value, shown_class, shown_component}
use Rattle.parts.specs.Texts.{text_at_fn}
use Rattle.planned.specs.Planned.{sources_in, answered}
use Rattle.holding.specs.Holding.{Holds}
use Rattle.holding.specs.Shown.{kept, planned}
use Rattle.row_shown.specs.declared.Row.{Row}
use Rattle.row_shown.specs.declared.Shown.TheVariants.{NoRow, OfClass, OfComponent}
use Rattle.row_shown.specs.Shown.{Plain, NameOf, present, Shows}
use Rattle.row_shown.specs.Cells.{ByAnswer, plain_published, scalar_published}
use Rattle.task_rows.specs.Answers.{shows_none}
use Rattle.task_rows.specs.Listed.{is_property, place_of}
use Rattle.source_rows.specs.SourceLaws.{class_told, item_told, name_told}

-- r answers the row of the property q of the source n
abbrev pub OfSource : List ℕ → ℕ → Property → Row → Type 0
OfSource f n q r =
    (g : List TopLevel) (x b : List ℕ) (w : List (List Bool)) (s : List ℕ) (t : Table) (flag : Bool) (time : ℕ) → Holds g x b f w s t flag time → n < sources_in f → Shows b q (t (source № n) q) r

abbrev pub SourceRow : List ℕ → ℕ → ℕ → Row → Type 0
SourceRow f n p r = (q : Property) → At properties p q → OfSource f n q r

pub data Listed : ℕ → Type 0 where
  is_0 : Listed 0
  is_1 : Listed 1
  is_56 : Listed 56
  is_57 : Listed 57

pub not_listed : {p : ℕ} → ¬ (p ≡ 0) → ¬ (p ≡ 1) → ¬ (p ≡ 56) → ¬ (p ≡ 57) → ¬ Listed p
not_listed a b c d is_0 = a refl
not_listed a b c d is_1 = b refl
not_listed a b c d is_56 = c refl
not_listed a b c d is_57 = d refl

adds_listed : {g : List TopLevel} {n : ℕ} {q : Property} {r : RowValue} → Adds g (source № n) q r → Listed (property_rank q)
adds_listed (Load.source_3 h) = is_0
adds_listed (Load.source_4 h) = is_1
adds_listed (Load.source_7 h i e) = is_56
adds_listed (Load.source_8 h a) = is_57

stays : {n : ℕ} {q : Property} → ¬ Moving (source № n) q
stays z = elim z [ ]

module _ (f : List ℕ) (n : ℕ) (r : Row) where
  pub arm : (p : ℕ) (x : Property) → p ≡ property_rank x → OfSource f n x r → SourceRow f n p r
  arm p x e h q a = subst (λ (y : Property). OfSource f n y r) (sym (is_property x e a)) h

  pub of_class : Plain (OfClass 7) r → OfSource f n class r
  of_class k g x b w s t flag time h l =
      subst (λ (o : Option RowValue). Shows b class o r) (sym (class_told h l)) (record { shown = shows_class a_source; its = present shown_class; published = plain_published b r {s = OfClass 7} k })

  pub of_name : {i c : ℕ} → i ≡ get_or f (264 + n) 0 → c ≡ get_or f (1256 + i) 0 → NameOf c r → OfSource f n name r
  of_name {i} {c} d e k g x b w s t flag time h l =
      subst (λ (o : Option RowValue). Shows b name o r) (ap (λ (y : ℕ). some (text_row (text_at_fn b y))) (e ∙ ap (λ (y : ℕ). get_or f (1256 + y) 0) d) ∙ sym (name_told h l))
      (record { shown = shows_value (one (text (text_at_fn b c))); its = present shown_value; published = scalar_published b r k })

  pub of_item : {c : ℕ} → c ≡ get_or f (264 + n) 0 → Plain (OfComponent 1 c) r → OfSource f n data_item_of r
  of_item {c} e k g x b w s t flag time h l =
      subst (λ (o : Option RowValue). Shows b data_item_of o r) (ap (λ (y : ℕ). some (component_is (data_item № y))) e ∙ sym (item_told h l))
      (record { shown = shows_component (data_item № c); its = present shown_component; published = plain_published b r {s = OfComponent 1 c} k })

  pub of_mandatory : {c : ℕ} → c ≡ get_or f (392 + n) 0 → ByAnswer c r → OfSource f n mandatory r
  of_mandatory e k g x b w s t flag time h l = subst (λ (o : Option RowValue). Shows b mandatory o r) (ap answered e ∙ sym ((planned h).mandatories t (kept h) l)) (k b mandatory)

  pub of_none : (p : ℕ) → ¬ Listed p → Plain NoRow r → SourceRow f n p r
  of_none p m k q a g x b w s t flag time h l = subst (λ (o : Option RowValue). Shows b q o r) (sym (go (t (source № n) q) refl)) (shows_none b q r k)
    where
      go : (o : Option RowValue) → t (source № n) q ≡ o → t (source № n) q ≡ none
      go none e = e
      go (some v) e = absurd (m (subst Listed (place_of a) (adds_listed (adds (kept h) stays e))))
