-- What every call and every cycle keeps of the table of a guideline that loads, `Kept`; such a table has exactly one view, which is computed and sound.
use Rattle.std.specs.Prelude.{ℕ, zero, suc, ◌<◌, ◌≡◌, refl, ◌↔◌, ◌⊎◌, List, [], ◌∷◌, map, ℤ}
use Rattle.std.proofs.Common.{arith, sym, ap, subst, ◌∙◌, inl, inr}
use Rattle.std.proofs.Math.Decide.{dec_lt}
use Rattle.std.proofs.Math.Option.{Option, none, some}
use Rattle.paper_expressions.specs.Bytes.{folded, Alike}
use Rattle.paper_expressions.specs.Values.{Value, one, unknown, TaskState, dormant}
use Rattle.paper_expressions.specs.Types.{Declared, inferred, Of, of_scalar, unknown_of_any}
use Rattle.paper_expressions.proofs.Laws.Search.{no_clash, at_one}
use Rattle.paper_expressions.specs.View.{Item, View, At, at_first, at_later, Apart, Sound}
use Rattle.paper_expressions.specs.View as Views
use Rattle.paper_expressions.proofs.Laws.Typing.{SameItems}
use Rattle.paper_guideline.specs.Structure.{TopLevel, DataItem, Task, tasks, data_items}
use Rattle.paper_guideline.specs.Structure as Structure
use Rattle.paper_guideline.specs.Parts.{Typed, expressions}
use Rattle.paper_guideline.specs.Parts as Parts
use Rattle.paper_guideline.specs.Names.{Names, NameBreach, task_twice, data_item_twice}
use Rattle.paper_guideline.specs.Refusals.{Fitting, declared_items}
use Rattle.paper_rows.specs.Table
use Table.{task, data_item, source, Component, ◌№◌, Class, a_data_item, a_plan, an_action, an_enquiry, TaskClass, plan_is_task, enquiry_is_task, action_is_task}
use Table.{Property, class, name, state, trigger_active, confirmed, cycle_count, nbr_cycles_value, start_at, in_progress_time, discarded_time, completed_time, actual_procedure, parent_plan, postcondition, sources, type, value, requested}
use Table.{Allowed, allowed_state, RowValue, value_is, state_is, class_is, type_is, time_is, component_is, text_row, integer_row, Table, Contains, TaskId, DataItemId}
use Table.{ValueRow, no_value, a_value, ItemRows, NameRow, no_name, a_name, ParentRow, no_parent, a_parent, StateRow, no_state, in_state, in_none, TaskRows, ViewOf}
use Rattle.paper_rows.specs.Load
use Load.{InstantiateTask, load_5, component_6, InstantiateComponent, task_5, class_constant, ClassRow, Adds, task_2, task_3, attribute_1b, attribute_1c, data_item_3, data_item_4a, data_item_4b, Initial}
use Rattle.paper_rows.proofs.Laws.Seen.{value_f, state_f, text_f, task_f}
use Rattle.paper_rows.proofs.Laws.Lists.{at_most, same_lists, indexed, indexed_at, at_indexed, at_map, map_at}
use Rattle.paper_rows.proofs.Laws.Lawful.{Lawful, defined}

-- ---- the rows that calls and cycles change

pub data Moving : Component → Property → Type 0 where
  state_moves : {T : ℕ} → Moving (task № T) state
  trigger_moves : {T : ℕ} → Moving (task № T) trigger_active
  confirmed_moves : {T : ℕ} → Moving (task № T) confirmed
  count_moves : {T : ℕ} → Moving (task № T) cycle_count
  cycles_move : {T : ℕ} → Moving (task № T) nbr_cycles_value
  start_moves : {T : ℕ} → Moving (task № T) start_at
  in_progress_moves : {T : ℕ} → Moving (task № T) in_progress_time
  discarded_moves : {T : ℕ} → Moving (task № T) discarded_time
  completed_moves : {T : ℕ} → Moving (task № T) completed_time
  procedure_moves : {T : ℕ} → Moving (task № T) actual_procedure
  value_moves : {d : ℕ} → Moving (data_item № d) value
  requested_moves : {d : ℕ} → Moving (data_item № d) requested

pub fixed_class : {c : Component} → ¬ Moving c class
fixed_class h = elim h [ ]

pub fixed_name : {c : Component} → ¬ Moving c name
fixed_name h = elim h [ ]

pub fixed_type : {c : Component} → ¬ Moving c type
fixed_type h = elim h [ ]

pub fixed_sources : {c : Component} → ¬ Moving c sources
fixed_sources h = elim h [ ]

pub fixed_postcondition : {c : Component} → ¬ Moving c postcondition
fixed_postcondition h = elim h [ ]

pub fixed_parent : {c : Component} → ¬ Moving c parent_plan
fixed_parent h = elim h [ ]

-- a component of the guideline
pub data There (g : List TopLevel) : Component → Type 0 where
  task_there : {n : ℕ} {k : Task} → At (tasks g) n k → There g (task № n)
  item_there : {n : ℕ} {x : DataItem} → At (data_items g) n x → There g (data_item № n)
  source_there : {n : ℕ} {s : Parts.Source} → At (Parts.sources g) n s → There g (source № n)

-- a value row holds unknown or a value of the item's declared type
pub record TypedRow (t : Table) (d : ℕ) (r : RowValue) : Type 0 where
  pub held : Value
  pub is : r ≡ value_is held
  pub typed : (k : Declared) → Contains t (data_item № d) type (type_is k) → Of held (inferred k)

pub record Kept (g : List TopLevel) (t : Table) : Type 0 where
  -- the other rows are those of load
  pub fixed : {c : Component} {p : Property} {r : RowValue} → ¬ Moving c p → Contains t c p r ↔ Adds g c p r
  -- a row that moves is of a component that is there, and holds an allowed value
  pub there : {c : Component} {p : Property} {r : RowValue} → Moving c p → Contains t c p r → There g c
  pub allowed : {c : Component} {p : Property} {r : RowValue} → Moving c p → Contains t c p r → Allowed p r
  -- every task is in one of the four states
  pub states : {T : ℕ} → TaskId t T → (s : TaskState) × Contains t (task № T) state (state_is s)
  -- no cycling task in the first edition
  pub no_start : {T r : ℕ} → ¬ Contains t (task № T) start_at (time_is r)
  pub no_cycles : {T : ℕ} {n : ℤ} → ¬ Contains t (task № T) nbr_cycles_value (integer_row n)
  -- every data item holds unknown or a value of its declared type
  pub values : {d : ℕ} {r : RowValue} → Contains t (data_item № d) value r → TypedRow t d r

-- ---- the initial table

pub class_instantiated : {g : List TopLevel} {T : ℕ} {r : RowValue} → Adds g (task № T) class r → (k : Task) × InstantiateTask g k T
class_instantiated (task_2 h) = (h.definition, h.instantiated)

-- of the rows that move, load adds the state alone
added_moving : {g : List TopLevel} {c : Component} {p : Property} {r : RowValue} → Moving c p → Adds g c p r → (There g c) × (Allowed p r)
added_moving state_moves (task_3 h) = (task_there (defined h), allowed_state)
added_moving {g = g} {r = r} (trigger_moves {T = T}) x4 = elim x4 [ ]
added_moving {g = g} {r = r} (confirmed_moves {T = T}) x5 = elim x5 [ ]
added_moving {g = g} {r = r} (count_moves {T = T}) x6 = elim x6 [ ]
added_moving {g = g} {r = r} (cycles_move {T = T}) x7 = elim x7 [ ]
added_moving {g = g} {r = r} (start_moves {T = T}) x8 = elim x8 [ ]
added_moving {g = g} {r = r} (in_progress_moves {T = T}) x9 = elim x9 [ ]
added_moving {g = g} {r = r} (discarded_moves {T = T}) x10 = elim x10 [ ]
added_moving {g = g} {r = r} (completed_moves {T = T}) x11 = elim x11 [ ]
added_moving {g = g} {r = r} (procedure_moves {T = T}) x12 = elim x12 [ ]
added_moving {g = g} {r = r} (value_moves {d = d}) x13 = elim x13 [ ]
added_moving {g = g} {r = r} (requested_moves {d = d}) x14 = elim x14 [ ]

no_time : {g : List TopLevel} {T r : ℕ} → ¬ Adds g (task № T) start_at (time_is r)
no_time h = elim h [ ]

no_nbr : {g : List TopLevel} {T : ℕ} {r : RowValue} → ¬ Adds g (task № T) nbr_cycles_value r
no_nbr h = elim h [ ]

no_held : {g : List TopLevel} {d : ℕ} {r : RowValue} → ¬ Adds g (data_item № d) value r
no_held h = elim h [ ]

pub initial_kept : {g : List TopLevel} {t : Table} → Initial g t → Kept g t
initial_kept h =
    record {
      fixed = λ {c} {p} {r} n. h.rows c p r;
      there = λ {c} {p} {r} m k. (added_moving m ((h.rows c p r).0 k)).0;
      allowed = λ {c} {p} {r} m k. (added_moving m ((h.rows c p r).0 k)).1;
      states = λ {T} k. (dormant, (h.rows (task № T) state (state_is dormant)).1 (task_3 (class_instantiated ((h.rows (task № T) class _).0 k.row)).1));
      no_start = λ {T} {r} k. no_time ((h.rows (task № T) start_at (time_is r)).0 k);
      no_cycles = λ {T} {n} k. no_nbr ((h.rows (task № T) nbr_cycles_value _).0 k);
      values = λ {d} {r} k. absurd (no_held ((h.rows (data_item № d) value r).0 k));
    }

-- ---- facts of a table that is kept

module _ {g : List TopLevel} {t : Table} (kept : Kept g t) where
  pub adds : {c : Component} {p : Property} {r : RowValue} → ¬ Moving c p → Contains t c p r → Adds g c p r
  adds n h = (kept.fixed n).0 h

  pub has : {c : Component} {p : Property} {r : RowValue} → ¬ Moving c p → Adds g c p r → Contains t c p r
  has n h = (kept.fixed n).1 h

  pub instantiated : {T : ℕ} → TaskId t T → (k : Task) × InstantiateTask g k T
  instantiated h = class_instantiated (adds fixed_class h.row)

task_constant : (k : Structure.Class) → TaskClass (class_constant k)
task_constant Structure.plan = plan_is_task
task_constant Structure.action = action_is_task
task_constant Structure.enquiry = enquiry_is_task

pub task_id : {g : List TopLevel} {t : Table} {k : Task} {T : ℕ} → Kept g t → InstantiateTask g k T → TaskId t T
task_id {k} kept h =
    record { its = class_constant k.class; row = has kept fixed_class (task_2 (record { definition = k; instantiated = h; constant = refl })); task_class = task_constant k.class }

-- ---- the view of a table

abbrev pub item_view : Table → ℕ → DataItem → Item
item_view t d x = record { name = x.named.spelt; declared = x.declared; value = value_f (t (data_item № d) value) }

abbrev pub task_view : Table → ℕ → Task → Views.Task
task_view t c k = record { name = text_f (t (task № c) name); parent = task_f (t (task № c) parent_plan); state = state_f (t (task № c) state) }

abbrev pub view_f : List TopLevel → Table → View
view_f g t = record { items = indexed (item_view t) (data_items g); tasks = indexed (task_view t) (tasks g) }

-- a data item's rows

item_defined : {g : List TopLevel} {d : ℕ} {r : RowValue} → Adds g (data_item № d) class r → (x : DataItem) × At (data_items g) d x
item_defined (data_item_3 h) = (_, h)

value_row : (o : Option RowValue) → ((r : RowValue) → o ≡ some r → (w : Value) × (r ≡ value_is w)) → ValueRow o (value_f o)
value_row none f = no_value
value_row (some r) f = let k = f r refl in subst (λ (x : RowValue). ValueRow (some x) (value_f (some x))) (sym k.1) a_value

value_row_only : {o : Option RowValue} {w : Option Value} → ValueRow o w → value_f o ≡ w
value_row_only no_value = refl
value_row_only a_value = refl

-- a task's rows

name_row : (o : Option RowValue) → ((r : RowValue) → o ≡ some r → (s : List ℕ) × (r ≡ text_row s)) → NameRow o (text_f o)
name_row none f = no_name
name_row (some r) f = let k = f r refl in subst (λ (x : RowValue). NameRow (some x) (text_f (some x))) (sym k.1) a_name

name_row_only : {o : Option RowValue} {w : Option (List ℕ)} → NameRow o w → text_f o ≡ w
name_row_only no_name = refl
name_row_only a_name = refl

parent_row : (o : Option RowValue) → ((r : RowValue) → o ≡ some r → (n : ℕ) × (r ≡ component_is (task № n))) → ParentRow o (task_f o)
parent_row none f = no_parent
parent_row (some r) f = let k = f r refl in subst (λ (x : RowValue). ParentRow (some x) (task_f (some x))) (sym k.1) a_parent

parent_row_only : {o : Option RowValue} {w : Option ℕ} → ParentRow o w → task_f o ≡ w
parent_row_only no_parent = refl
parent_row_only a_parent = refl

state_row : (o : Option RowValue) (s : TaskState) → o ≡ some (state_is s) → StateRow o (state_f o)
state_row o s e = subst (λ (x : Option RowValue). StateRow x (state_f x)) (sym e) in_state

state_row_only : {o : Option RowValue} {w : Option TaskState} → StateRow o w → state_f o ≡ w
state_row_only no_state = refl
state_row_only in_state = refl
state_row_only in_none = refl

name_added : {g : List TopLevel} {T : ℕ} {r : RowValue} → Adds g (task № T) name r → (s : List ℕ) × (r ≡ text_row s)
name_added (attribute_1b h) = (_, refl)

parent_added : {g : List TopLevel} {T : ℕ} {r : RowValue} → Adds g (task № T) parent_plan r → (n : ℕ) × (r ≡ component_is (task № n))
parent_added (attribute_1c h) = (_, refl)

-- the name row of a task is its own name
name_own : {g : List TopLevel} {T : ℕ} {r : RowValue} → Adds g (task № T) name r → (k : Task) × At (tasks g) T k × (r ≡ text_row k.named.spelt)
name_own (attribute_1b (task_5 {t} {a} h i j e)) = (t, j, ap text_row e)

data_item_added : {g : List TopLevel} {d : ℕ} {x : DataItem} {r : RowValue} → At (data_items g) d x → Adds g (data_item № d) name r → r ≡ text_row x.named.spelt
data_item_added h (data_item_4a k) = ap (λ (z : DataItem). text_row z.named.spelt) (at_one k h)

data_item_typed : {g : List TopLevel} {d : ℕ} {x : DataItem} {r : RowValue} → At (data_items g) d x → Adds g (data_item № d) type r → r ≡ type_is x.declared
data_item_typed h (data_item_4b k) = ap (λ (z : DataItem). type_is z.declared) (at_one k h)

same_text : {s u : List ℕ} → text_row s ≡ text_row u → u ≡ s
same_text e = cc

same_value : {r : RowValue} {v w : Value} → some r ≡ some (value_is w) → r ≡ value_is v → v ≡ w
same_value e f = cc

-- ---- the table has this view

module _ {g : List TopLevel} {t : Table} (lawful : Lawful g) (kept : Kept g t) where
  items_to : (d : ℕ) (x : Item) → At (view_f g t).items d x → ItemRows t d x
  items_to d x h = go (at_indexed (item_view t) (data_items g) h)
    where
      rows : (y : DataItem) → At (data_items g) d y → ItemRows t d (item_view t d y)
      rows y k =
          record {
            class_row = has kept fixed_class (data_item_3 k);
            name_row = has kept fixed_name (data_item_4a k);
            type_row = has kept fixed_type (data_item_4b k);
            value_row = value_row (t (data_item № d) value) (λ r e. let z = kept.values e in (z.held, z.is));
          }

      go : (y : DataItem) × At (data_items g) d y × (item_view t d y ≡ x) → ItemRows t d x
      go k = subst (ItemRows t d) k.2 (rows k.0 k.1)

  items_back : (d : ℕ) (x : Item) → ItemRows t d x → At (view_f g t).items d x
  items_back d x h = go (item_defined (adds kept fixed_class h.class_row))
    where
      go : (y : DataItem) × At (data_items g) d y → At (view_f g t).items d x
      go k =
          let a = data_item_added k.1 (adds kept fixed_name h.name_row) in
          let b = data_item_typed k.1 (adds kept fixed_type h.type_row) in
          let c = value_row_only h.value_row in
          let a' : k.0.named.spelt ≡ x.name = cc in
          let b' : k.0.declared ≡ x.declared = cc in
          let e : item_view t d k.0 ≡ x = λ i. record { name = a' i; declared = b' i; value = c i } in
          subst (At (view_f g t).items d) e (indexed_at (item_view t) k.1)

  tasks_to : (c : ℕ) (x : Views.Task) → At (view_f g t).tasks c x → TaskRows t c x
  tasks_to c x h = go (at_indexed (task_view t) (tasks g) h)
    where
      rows : (k : Task) → At (tasks g) c k → TaskRows t c (task_view t c k)
      rows k q =
          let i = task_id kept (lawful.reached q) in
          let s = kept.states i in
          record {
            task_id = i;
            name_row = name_row (t (task № c) name) (λ r e. name_added (adds kept fixed_name e));
            parent_row = parent_row (t (task № c) parent_plan) (λ r e. parent_added (adds kept fixed_parent e));
            state_row = state_row (t (task № c) state) s.0 s.1;
          }

      go : (k : Task) × At (tasks g) c k × (task_view t c k ≡ x) → TaskRows t c x
      go k = subst (TaskRows t c) k.2 (rows k.0 k.1)

  tasks_back : (c : ℕ) (x : Views.Task) → TaskRows t c x → At (view_f g t).tasks c x
  tasks_back c x h = go (instantiated kept h.task_id)
    where
      go : (k : Task) × InstantiateTask g k c → At (view_f g t).tasks c x
      go k =
          let a = name_row_only h.name_row in
          let b = parent_row_only h.parent_row in
          let s = state_row_only h.state_row in
          let e : task_view t c k.0 ≡ x = λ i. record { name = a i; parent = b i; state = s i } in
          subst (At (view_f g t).tasks c) e (indexed_at (task_view t) (defined k.1))

  pub view_of : ViewOf t (view_f g t)
  view_of = record { items = λ d x. (items_to d x, items_back d x); tasks = λ c x. (tasks_to c x, tasks_back c x) }

  -- ---- it is sound

  items_apart : {i j : ℕ} {x y : Item} → At (view_f g t).items i x → At (view_f g t).items j y → Alike x.name y.name → i ≡ j
  items_apart {i} {j} {x} {y} h k e =
      let a = at_indexed (item_view t) (data_items g) h in
      let b = at_indexed (item_view t) (data_items g) k in
      let p : a.0.named.spelt ≡ x.name = ap (λ (z : Item). z.name) a.2 in
      let q : b.0.named.spelt ≡ y.name = ap (λ (z : Item). z.name) b.2 in
      let f : Alike a.0.named.spelt b.0.named.spelt = ap folded p ∙ e ∙ sym (ap folded q) in
      at_most (λ l. lawful.names _ (data_item_twice l a.1 b.1 f)) (λ l. lawful.names _ (data_item_twice l b.1 a.1 (sym f)))

  own_name : {c : ℕ} {x : Views.Task} {s : List ℕ} → At (view_f g t).tasks c x → x.name ≡ some s → (k : Task) × At (tasks g) c k × (k.named.spelt ≡ s)
  own_name {c} {x} {s} h e = go (tasks_to c x h).name_row
    where
      go : NameRow (t (task № c) name) x.name → (k : Task) × At (tasks g) c k × (k.named.spelt ≡ s)
      go r =
          let q : NameRow (t (task № c) name) (some s) = rw e at r in
          let w : Contains t (task № c) name (text_row s) = named q in
          let n = name_own (adds kept fixed_name w) in
          (n.0, n.1, same_text n.2)
        where
          named : {o : Option RowValue} {s : List ℕ} → NameRow o (some s) → o ≡ some (text_row s)
          named a_name = refl

  tasks_apart : {i j : ℕ} {x y : Views.Task} {a b : List ℕ} → At (view_f g t).tasks i x → At (view_f g t).tasks j y → x.name ≡ some a → y.name ≡ some b → Alike a b → i ≡ j
  tasks_apart h k p q e =
      let m = own_name h p in
      let n = own_name k q in
      let f : Alike m.0.named.spelt n.0.named.spelt = ap folded m.2 ∙ e ∙ sym (ap folded n.2) in
      at_most (λ l. lawful.names _ (task_twice l m.1 n.1 f)) (λ l. lawful.names _ (task_twice l n.1 m.1 (sym f)))

  held_row : {o : Option RowValue} {w : Option Value} {v : Value} → ValueRow o w → w ≡ some v → o ≡ some (value_is v)
  held_row no_value e = absurd (no_clash (cc))
  held_row a_value e = cc

  pub view_sound : Sound (view_f g t)
  view_sound =
      record {
        apart = record { items = items_apart; tasks = tasks_apart };
        typed = λ {i} {x} {w} h e. typed_of (items_to i x h) e;
      }
    where
      typed_of : {d : ℕ} {x : Item} {w : Value} → ItemRows t d x → x.value ≡ some w → Of w (inferred x.declared)
      typed_of {d} {x} {w} r e =
          let k = held_row r.value_row e in
          let z = kept.values k in
          let q : z.held ≡ w = (let y = z.is in cc) in
          subst (λ (v : Value). Of v (inferred x.declared)) q (z.typed x.declared r.type_row)

  -- types as in the declared items
  pub same_items : SameItems (declared_items g) (view_f g t)
  same_items = record { to = to; back = back }
    where
      bare : DataItem → Item
      bare d = record { name = d.named.spelt; declared = d.declared; value = none }

      to : {i : ℕ} {x : Item} → At (declared_items g).items i x → (y : Item) × At (view_f g t).items i y × (y.name ≡ x.name) × (y.declared ≡ x.declared)
      to {i} h =
          let k = map_at bare (data_items g) h in
          (item_view t i k.0, indexed_at (item_view t) k.1, ap (λ (z : Item). z.name) k.2, ap (λ (z : Item). z.declared) k.2)

      back : {i : ℕ} {y : Item} → At (view_f g t).items i y → (x : Item) × At (declared_items g).items i x × (x.name ≡ y.name)
      back h =
          let k = at_indexed (item_view t) (data_items g) h in
          (bare k.0, at_map bare k.1, ap (λ (z : Item). z.name) k.2)

-- ---- and no other

pub one_view : {t : Table} {v w : View} → ViewOf t v → ViewOf t w → v ≡ w
one_view {v} {w} h k =
    let a = same_lists v.items w.items (λ d x. (λ q. (k.items d x).1 ((h.items d x).0 q), λ q. (h.items d x).1 ((k.items d x).0 q))) in
    let b = same_lists v.tasks w.tasks (λ d x. (λ q. (k.tasks d x).1 ((h.tasks d x).0 q), λ q. (h.tasks d x).1 ((k.tasks d x).0 q))) in
    λ i. record { items = a i; tasks = b i }
