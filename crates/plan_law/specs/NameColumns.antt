-- Law: the plan that the rows write says the names of tasks and data items, their types and the texts of triggers. By the rows of each.
use Rattle.std.specs.Prelude.{ℕ, zero, suc, ◌+◌, ◌-◌, ◌≤◌, ◌<◌, ◌≡◌, refl, true, false, cond, ◌&&◌, ◌⊎◌, List, eqb, get_or, length}
use Rattle.std.proofs.Common.{arith, sym, ap, subst, ◌∙◌, inl, inr, ne_eqb}
use Rattle.paper_expressions.specs.View.{At}
use Rattle.paper_expressions.proofs.Laws.Tests.{two}
use Rattle.paper_expressions.proofs.Laws.Search.{at_one}
use Rattle.paper_tokens.specs.Tokens.{“data”, “trigger”}
use Rattle.paper_guideline.specs.Structure
use Structure.{Name, Attribute, Task, DataItem, TopLevel, tasks, data_items}
use Rattle.paper_rows.specs.Load.{SetTaskAttribute, attribute_5_trigger}
use Rattle.paper_rows.proofs.Laws.Lists.{at_below}
use Rattle.paper_rows.proofs.Laws.Lawful.{Lawful}
use Rattle.paper_rows.proofs.Laws.SingleLaws.{adds_once}
use Rattle.parts.specs.Codes.{declared_code}
use Rattle.parts.specs.Texts.{text_at_fn}
use Rattle.parts.specs.Part.{Table}
use Rattle.guideline_rows.specs.Rows.{name_of}
use Rattle.row_names.specs.Sheet.{task_kind}
use Rattle.plan.specs.Writes as Writes
use Writes.{Outline, one_if, plan_f, plan, tasks_before, items_before}
use Rattle.plan.specs.Filled.{Held}
use Rattle.plan_told.specs.Told.{NamesTold}
use Rattle.plan_told.proofs.RowLaws.{same_text}
use Rattle.plan_rows.specs.Stands.{stands_of, ItemStands, item_of}
use Rattle.plan_rows.specs.Reads.{Reads}
use Rattle.plan_rows.specs.ReadLaws.{below, head_row_of, tasks_at, is_head, item_row_of, items_at, is_item, item_seen, items_in_all, tasks_owned}
use Rattle.plan_rows.specs.Owned.{first_row}
use Rattle.plan_rows.specs.Words.{only_trigger, word_at, word_row, word_set, set_row}
use Rattle.plan_law.specs.Written.{written}
use Rattle.plan_law.specs.Columns.{write_name, write_trigger, write_item_count, write_item_name, write_item_type}
use Rattle.plan_law.specs.TaskColumns.{task_at, in_room, set_room}

module _ {g : List TopLevel} {s : Outline} {p : Table} {f : List ℕ} (lawful : Lawful g) (few : length (tasks g) ≤ 32) (few_items : length (data_items g) ≤ 64) (reads : Reads s p g) (held : Held (plan s) f) where
  task_name : {T : ℕ} {t : Task} → 0 < T → At (tasks g) T t → text_at_fn p.bytes (get_or f (1192 + T) 0) ≡ t.named.spelt
  task_name {T} {t} l h =
      let x = stands_of g h in
      let w = written (λ k. plan_f s k Writes.name T) (λ k. task_kind (s.kind k)) (λ k. tasks_before s k) (λ k. cond (eqb (tasks_before s k) 0) 0 (s.handle k)) T refl (λ k. write_name s T k) s.count
      (below reads (head_row_of reads x.2)) (is_head reads x.2) (tasks_at reads x.2) in
      let y = task_at lawful few reads held h w.k w.below w.of w.there in
      let z = w.there in
      let v : cond (eqb (tasks_before s w.k) 0) 0 (s.handle w.k) ≡ s.handle w.k = rw (ne_eqb (tasks_before s w.k) 0 (λ e. omega arith)) in
      ap (text_at_fn p.bytes) (held.cells Writes.name T (in_room lawful few reads held h) ∙ w.cell ∙ v) ∙ reads.named (head_row_of reads y.1) refl

  trigger-text : {T : ℕ} {n : Name} → SetTaskAttribute g T (Structure.trigger n) → text_at_fn p.bytes (get_or f (1224 + T) 0) ≡ n.spelt
  trigger-text {T} {n} h =
      let r = set_row reads h in
      let w = written (λ k. plan_f s k Writes.trigger T) (λ k. eqb (s.kind k) “trigger”) (λ k. tasks_before s k - 1) (λ k. s.handle k) T refl (λ k. write_trigger s T k) s.count
      r.below r.word (let e = r.tasks in omega arith) in
      let x = (word_at reads “trigger” w.k w.below w.of refl refl refl).1 in
      let o = only_trigger x.b.what x.word in
      let y = tasks_owned reads x.owned in
      let z = w.there in
      let v : x.T ≡ T = omega arith in
      let k = subst (SetTaskAttribute g T) o.1 (subst (λ (i : ℕ). SetTaskAttribute g i x.b.what) v (word_set reads lawful x)) in
      ap (text_at_fn p.bytes) (held.cells Writes.trigger T (set_room lawful few reads held h) ∙ w.cell)
      ∙ reads.named (word_row reads x) (ap (λ (a : Attribute). name_of (first_row x.b.word a)) o.1)
      ∙ same_text (adds_once lawful (attribute_5_trigger k) (attribute_5_trigger h))

  -- ---- data items

  total : (k : ℕ) → plan_f s k Writes.item_count 0 ≡ items_before s k
  total zero = refl
  total (suc k) = write_item_count s 0 k ∙ go (two (eqb (s.kind k) “data”)) (total k)
    where
      go : (eqb (s.kind k) “data” ≡ true) ⊎ (eqb (s.kind k) “data” ≡ false) → plan_f s k Writes.item_count 0 ≡ items_before s k
          → cond (eqb (s.kind k) “data” && eqb 0 0) (items_before s k + 1) (plan_f s k Writes.item_count 0) ≡ items_before s k + one_if (eqb (s.kind k) “data”)
      go (inl q) h = rw q
      go (inr q) h = rw q (h ∙ (let z : items_before s k ≡ items_before s k + 0 = omega arith in z))

  items : get_or f 1 0 ≡ length (data_items g)
  items = held.cells Writes.item_count 0 (omega arith) ∙ total s.count ∙ items_in_all reads

  -- the row of the data item d
  item-at : {i : ℕ} {d : DataItem} → At (data_items g) i d → (q : ℕ) → q < s.count → eqb (s.kind q) “data” ≡ true → items_before s q ≡ i → (k : ℕ) × ItemStands g k q i d
  item-at {i} {d} h q l e z =
      let x = item_seen reads q l e in
      let w : x.i ≡ i = sym (items_at reads x.stands) ∙ z in
      let y : ItemStands g x.k q i x.d = subst (λ (n : ℕ). ItemStands g x.k q n x.d) w x.stands in
      (x.k, subst (λ (u : DataItem). ItemStands g x.k q i u) (at_one y.at h) y)

  item_room : {i : ℕ} {d : DataItem} → At (data_items g) i d → i < 64
  item_room h = let l = at_below h in omega arith

  item_name : {i : ℕ} {d : DataItem} → At (data_items g) i d → text_at_fn p.bytes (get_or f (1256 + i) 0) ≡ d.named.spelt
  item_name {i} h =
      let x = item_of g h in
      let w = written (λ k. plan_f s k Writes.item_name i) (λ k. eqb (s.kind k) “data”) (λ k. items_before s k) (λ k. s.handle k) i refl (λ k. write_item_name s i k) s.count
      (below reads (item_row_of reads x.2)) (is_item reads x.2) (items_at reads x.2) in
      let y = item-at h w.k w.below w.of w.there in
      ap (text_at_fn p.bytes) (held.cells Writes.item_name i (item_room h) ∙ w.cell) ∙ reads.named (item_row_of reads y.1) refl

  item_type : {i : ℕ} {d : DataItem} → At (data_items g) i d → get_or f (1320 + i) 0 ≡ declared_code d.declared
  item_type {i} h =
      let x = item_of g h in
      let w = written (λ k. plan_f s k Writes.item_type i) (λ k. eqb (s.kind k) “data”) (λ k. items_before s k) (λ k. s.flag k) i refl (λ k. write_item_type s i k) s.count
      (below reads (item_row_of reads x.2)) (is_item reads x.2) (items_at reads x.2) in
      let y = item-at h w.k w.below w.of w.there in
      held.cells Writes.item_type i (item_room h) ∙ w.cell ∙ reads.flag (item_row_of reads y.1)

  pub names_told : NamesTold g p f
  names_told = record { items = items; long = held.long; task_name = task_name; trigger-text = trigger-text; item_name = item_name; item_type = item_type }
