-- Law: what the plan says of the names of tasks and data items is what the view of the table has. By the definition at each number.
use Rattle.std.specs.Prelude.{ℕ, zero, suc, ◌≤◌, ◌≡◌, List, get_or, length}
use Rattle.std.proofs.Common.{arith, sym, ap, ◌∙◌}
use Rattle.std.proofs.Math.Option.{none, some}
use Rattle.paper_expressions.specs.View.{Item, At}
use Rattle.paper_expressions.specs.View as Views
use Rattle.paper_expressions.proofs.Laws.Search.{at_one}
use Rattle.paper_guideline.specs.Structure
use Structure.{Task, TopLevel, tasks, data_items}
use Rattle.paper_guideline.specs.Parts as Parts
use Rattle.paper_rows.specs.Table
use Table.{task, ◌№◌, RowValue, text_row, Table, Contains}
use Rattle.paper_rows.specs.Load
use Load.{InstantiateTask, component_6, InstantiateComponent, task_5, Adds, attribute_1b}
use Rattle.paper_rows.proofs.Laws.Lists.{at_below, at_indexed}
use Rattle.paper_rows.proofs.Laws.Lawful.{Lawful}
use Rattle.paper_rows.proofs.Laws.Seen.{text_f}
use Rattle.paper_engine.proofs.Laws.Kept.{Kept, fixed_name, adds, has, item_view, task_view, view_f}
use Rattle.parts.specs.Codes.{declared_code}
use Rattle.parts.specs.Texts.{text_at_fn}
use Rattle.parts.specs.Part as Part
use Rattle.parts.specs.Items.{Items}
use Rattle.apply.specs.Tasks.{name_of}
use Rattle.truths.specs.Part.{part_at, part_size}
use Rattle.review.specs.Changes.{tasks_in}
use Rattle.planned.specs.Planned.{item_names, item_types, task_names, trigger_text}
use Rattle.plan_told.specs.Told.{NamesTold}
use Rattle.plan_told.proofs.RowLaws.{by_cases, same_text, no_root}
use Rattle.plan_told.proofs.ListLaws.{indexed_long}
use Rattle.plan_told.proofs.TaskLaws.{trigger_by}

name_by : {g : List TopLevel} {T : ℕ} {r : RowValue} → Adds g (task № T) Table.name r → (P : ℕ) × (a : Parts.Component) × InstantiateComponent g P a T
name_by (attribute_1b {c} {a} h) = (c, a, h)

module _ {g : List TopLevel} {p : Part.Table} {f : List ℕ} {t : Table} (lawful : Lawful g) (told : NamesTold g p f) (kept : Kept g t) where
  module _ (few : length (data_items g) ≤ 64) where
    items_number : length (view_f g t).items ≡ length (item_names f)
    items_number =
        let e = told.items in
        let l = told.long in
        indexed_long (item_view t) (data_items g) ∙ sym (part_size f 1256 (get_or f 1 0) (omega arith) ∙ e)

    pub items : Items p.bytes (item_names f) (item_types f) (view_f g t)
    items = record { number = items_number; named = named; typed = typed }
      where
        named : {i : ℕ} {x : Item} → At (view_f g t).items i x → text_at_fn p.bytes (get_or (item_names f) i 0) ≡ x.name
        named {i} h =
            let k = at_indexed (item_view t) (data_items g) h in
            let l = at_below k.1 in
            let e = told.items in
            ap (text_at_fn p.bytes) (part_at f 1256 (get_or f 1 0) i (omega arith)) ∙ told.item_name k.1 ∙ ap (λ (z : Item). z.name) k.2

        typed : {i : ℕ} {x : Item} → At (view_f g t).items i x → get_or (item_types f) i 0 ≡ declared_code x.declared
        typed {i} h =
            let k = at_indexed (item_view t) (data_items g) h in
            let l = at_below k.1 in
            let e = told.items in
            part_at f 1320 (get_or f 1 0) i (omega arith) ∙ told.item_type k.1 ∙ ap (λ (z : Item). declared_code z.declared) k.2

  pub trigger_texts : {T : ℕ} {v : List ℕ} → Contains t (task № T) Table.trigger (text_row v) → text_at_fn p.bytes (trigger_text f T) ≡ v
  trigger_texts h = let k = trigger_by (adds kept (λ x. elim x [ ]) h) in told.trigger-text k.1 ∙ sym (same_text k.2)

  module _ (few : length (tasks g) ≤ 32) (number : tasks_in f ≡ length (tasks g)) where
    pub named_tasks : length (view_f g t).tasks ≡ length (task_names f)
    named_tasks = let l = told.long in indexed_long (task_view t) (tasks g) ∙ sym (part_size f 1192 (tasks_in f) (omega arith) ∙ number)

    -- the root has no name row
    root_none : t (task № 0) Table.name ≡ none
    root_none = by_cases (t (task № 0) Table.name) (λ e. e) (λ r h. absurd (no_root lawful (name_by (adds kept fixed_name h)).2))

    -- every other has its own
    task_row : {n : ℕ} {k : Task} → InstantiateTask g k (suc n) → Contains t (task № suc n) Table.name (text_row k.named.spelt)
    task_row (component_6 h k) = own h k
      where
        own : {P T : ℕ} {a : Parts.Component} {k : Task} → InstantiateComponent g P a T → At (tasks g) T k → Contains t (task № T) Table.name (text_row k.named.spelt)
        own (task_5 i q j e) k = has kept fixed_name (attribute_1b (task_5 i q j e)) ∙ ap (λ (s : List ℕ). some (text_row s)) (e ∙ ap (λ (z : Task). z.named.spelt) (at_one j k))

    name_at : (i : ℕ) {k : Task} → At (tasks g) i k → text_f (t (task № i) Table.name) ≡ name_of p.bytes (task_names f) i
    name_at zero h = ap text_f root_none
    name_at (suc n) {k} h =
        let l = at_below h in
        ap text_f (task_row (lawful.reached h)) ∙ ap some (sym (ap (text_at_fn p.bytes) (part_at f 1192 (tasks_in f) (suc n) (omega arith)) ∙ told.task_name (omega arith) h))

    pub task-names : {i : ℕ} {x : Views.Task} → At (view_f g t).tasks i x → x.name ≡ name_of p.bytes (task_names f) i
    task-names {i} h = let k = at_indexed (task_view t) (tasks g) h in sym (ap (λ (z : Views.Task). z.name) k.2) ∙ name_at i k.1
