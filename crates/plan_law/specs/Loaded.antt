-- What loading gives of a guideline: it is within the limits, has a root, and no assertion without an assignment; its rows are few and their texts short.
-- By its productions, and by the breaches that there are not.
use Rattle.std.specs.Prelude.{ℕ, ◌≤◌, ◌<◌, ◌≡◌, refl, ◌⊎◌, List, map, length}
use Rattle.std.proofs.Common.{arith, sym, ap, subst, ◌∙◌, inl, inr, length-append}
use Rattle.std.proofs.lemmas.List.{length-map}
use Rattle.paper_expressions.specs.View.{At, at_first, at_later}
use Rattle.paper_expressions.proofs.Laws.Parentheses.{bare}
use Rattle.paper_expressions.proofs.Laws.Search.{no_clash}
use Rattle.paper_tokens.specs.Lexical.{Token}
use Rattle.paper_guideline.specs.Structure
use Structure.{Placed, Generic, Attribute, Assignment, Task, TopLevel, tasks, Series, and_more, Assertion, AttributeAt, TaskAt, TopLevelAt, Structure}
use Rattle.paper_guideline.specs.Parts.{Typed, expressions}
use Rattle.paper_guideline.specs.Limits.{depth_limit, depth}
use Rattle.paper_guideline.specs.Refusals.{Read, Answers, loads, is_loaded, Breach, text_stage, count_stage, limit_stage, long, many_tokens, too_deep}
use Rattle.paper_rows.specs.Bare.{bare_assignment, bare_placed, bare_attribute, bare_task, bare_guideline}
use Rattle.paper_rows.proofs.Laws.Lists.{no_element, map_at, parted}
use Rattle.paper_rows.proofs.Laws.FineLaws.{sized}
use Rattle.paper_rows.proofs.Laws.Sized.{bare_sized}
use Rattle.paper_rows.proofs.Laws.BareLaws.{bare_typed, bare_tasks, bare_expressions}
use Rattle.parts.specs.Part.{Within}
use Rattle.expression_reader.specs.Reads.{within_depth}
use Rattle.guideline_rows.specs.Rows.{flatten}
use Rattle.guideline_rows.specs.FlatLaws.{structure_flat, few_rows}
use Rattle.guideline_rows.specs.Room.{tokens_fit, rows_short}
use Rattle.guideline_rows.specs.Encoded.{text_of}
use Rattle.row_tests.specs.Table.{row_limit}
use Rattle.planned.specs.Planned.{own_texts}
use Rattle.plan_told.specs.Told.{Bounded}
use Rattle.plan_law.specs.BareRows.{bare_bare}

-- ---- no assertion is without an assignment

assertion_some : {w r : List Token} {xs : List Assignment} → Assertion w r xs → 0 < length xs
assertion_some (Structure.assignment h k x) = omega arith
assertion_some (Structure.both {xs} {ys} h t k) = let a = assertion_some h in let l = length-append xs ys in omega arith
assertion_some (Structure.in_parentheses t h c) = assertion_some h

same_list : {xs ys : List Assignment} → Structure.postcondition ys ≡ Structure.postcondition xs → ys ≡ xs
same_list e = cc

attribute_some : {k : Structure.Class} {w r : List Token} {a : Placed Attribute} {xs : List Assignment} → AttributeAt k w r a → a.what ≡ Structure.postcondition xs → 0 < length xs
attribute_some (Structure.a_precondition h) e = absurd (no_clash (cc))
attribute_some (Structure.a_wait_condition h) e = absurd (no_clash (cc))
attribute_some (Structure.a_postcondition t c h s) e = subst (λ (l : List Assignment). 0 < length l) (same_list e) (assertion_some h)
attribute_some (Structure.a_trigger h) e = absurd (no_clash (cc))
attribute_some (Structure.a_component h s) e = absurd (no_clash (cc))
attribute_some (Structure.a_terminate_condition h) e = absurd (no_clash (cc))
attribute_some (Structure.a_source h s) e = absurd (no_clash (cc))

from_series : {A : Type 0} {One : List Token → List Token → A → Type 0} {w r : List Token} {l : List A} {i : ℕ} {a : A} → Series One w r l → At l i a → (v : List Token) × (u : List Token) × One v u a
from_series Structure.none h = absurd (no_element h)
from_series (and_more {w} {m} x s) at_first = (w, m, x)
from_series (and_more x s) (at_later h) = from_series s h

abbrev of_generic : Placed Generic → Placed Attribute
of_generic g = record { word = g.word; what = Structure.generic g.what }

task_some : {w r : List Token} {k : Task} {i : ℕ} {a : Placed Attribute} {xs : List Assignment} → TaskAt w r k → At k.attributes i a → a.what ≡ Structure.postcondition xs → 0 < length xs
task_some {a = a} {xs} (Structure.a_task {gs} n g s e f d) h q = go gs (parted (map of_generic gs) h) s
  where
    go : {k : Structure.Class} (gs : List (Placed Generic)) {ys : List (Placed Attribute)} {v u : List Token} → ((j : ℕ) × At (map of_generic gs) j a) ⊎ ((j : ℕ) × At ys j a) → Series (AttributeAt k) v u ys → 0 < length xs
    go gs (inl z) s = let m = map_at of_generic gs z.1 in let p = ap (λ (y : Placed Attribute). y.what) m.2 ∙ q in absurd (no_clash (cc))
    go gs (inr z) s = attribute_some (from_series s z.1).2 q

tops_task : {w r : List Token} {g : List TopLevel} {T : ℕ} {k : Task} → Series TopLevelAt w r g → At (tasks g) T k → (v : List Token) × (u : List Token) × TaskAt v u k
tops_task Structure.none h = absurd (no_element h)
tops_task (and_more {w} {m} (Structure.a_top_task x) s) at_first = (w, m, x)
tops_task (and_more (Structure.a_top_task x) s) (at_later h) = tops_task s h
tops_task (and_more (Structure.a_top_data_item x) s) h = tops_task s h

structure_task : {w : List Token} {g : List TopLevel} {T : ℕ} {k : Task} → Structure w g → At (tasks g) T k → (v : List Token) × (u : List Token) × TaskAt v u k
structure_task (Structure.guideline {w} {m} x e s) at_first = (w, m, x)
structure_task (Structure.guideline x e s) (at_later h) = tops_task s h

structure_rooted : {w : List Token} {g : List TopLevel} → Structure w g → 0 < length (tasks g)
structure_rooted (Structure.guideline x e s) = omega arith

bare_postcondition : (a : Attribute) {xs : List Assignment} → bare_attribute a ≡ Structure.postcondition xs → (ys : List Assignment) × (a ≡ Structure.postcondition ys) × (length ys ≡ length xs)
bare_postcondition (Structure.generic g) e = absurd (no_clash (cc))
bare_postcondition (Structure.precondition x) e = absurd (no_clash (cc))
bare_postcondition (Structure.wait_condition x) e = absurd (no_clash (cc))
bare_postcondition (Structure.terminate x) e = absurd (no_clash (cc))
bare_postcondition (Structure.postcondition ys) e = (ys, refl, sym (length-map ys bare_assignment) ∙ ap length (same_list e))
bare_postcondition (Structure.trigger n) e = absurd (no_clash (cc))
bare_postcondition (Structure.component n xs) e = absurd (no_clash (cc))
bare_postcondition (Structure.source n xs) e = absurd (no_clash (cc))

-- ---- what loading gives

within : {n m : ℕ} → ¬ (m < n) → n ≤ m
within k = omega arith

-- no limit is passed
pub unbroken : {Short : Type 0} {text : List ℕ} → Answers Short text loads → (p : ℕ) → ¬ Breach Short text limit_stage p
unbroken (is_loaded r n) p = n limit_stage p

module _ {Short : Type 0} {text : List ℕ} {g : List TopLevel} (answers : Answers Short text loads) (read : Read text g) where
  deep_enough : {i : ℕ} {y : Typed} → At (expressions g) i y → depth y.expression.tree ≤ depth_limit
  deep_enough {y = y} h = within (λ l. unbroken answers _ (too_deep read h l))

  pub bounded_loaded : Bounded (bare_guideline g)
  bounded_loaded = record { sized = bare_sized (sized answers read); deep = deep; rooted = rooted; asserted = asserted }
    where
      deep : {i : ℕ} {x : Typed} → At (expressions (bare_guideline g)) i x → Within depth_limit (bare x.expression.tree)
      deep {i} {x} h =
          let y = map_at bare_typed (expressions g) (subst (λ (l : List Typed). At l i x) (bare_expressions g) h) in
          subst (λ (z : Typed). Within depth_limit (bare z.expression.tree)) y.2
          (subst (Within depth_limit) (sym (bare_bare y.0.expression.tree)) (within_depth depth_limit y.0.expression.tree (deep_enough y.1)))

      rooted : 0 < length (tasks (bare_guideline g))
      rooted = let a = structure_rooted read.structure in let e = ap length (bare_tasks g) ∙ length-map (tasks g) bare_task in omega arith

      asserted : {T i w : ℕ} {k : Task} {xs : List Assignment} → At (tasks (bare_guideline g)) T k → At k.attributes i (record { word = w; what = Structure.postcondition xs }) → 0 < length xs
      asserted {T} {i} {w} {k} {xs} h q =
          let y = map_at bare_task (tasks g) (subst (λ (l : List Task). At l T k) (bare_tasks g) h) in
          let a = map_at (bare_placed bare_attribute) y.0.attributes (subst (λ (z : Task). At z.attributes i (record { word = w; what = Structure.postcondition xs })) (sym y.2) q) in
          let p = bare_postcondition a.0.what (ap (λ (z : Placed Attribute). z.what) a.2) in
          let s = task_some (structure_task read.structure y.1).2 a.1 p.1 in
          let e = p.2 in
          omega arith

  pub few_loaded : length (flatten g) ≤ row_limit
  few_loaded = go answers
    where
      go : Answers Short text loads → length (flatten g) ≤ row_limit
      go (is_loaded r n) = let a = few_rows read.structure in let b = within (λ l. n count_stage _ (many_tokens read.its l)) in omega arith

  pub short_loaded : length (text_of (flatten g)) ≤ own_texts
  short_loaded = go answers
    where
      go : Answers Short text loads → length (text_of (flatten g)) ≤ own_texts
      go (is_loaded r n) =
          let a = rows_short (structure_flat read.structure) in
          let b = tokens_fit read.its in
          let c = within (λ l. n text_stage _ (long l)) in
          omega arith
