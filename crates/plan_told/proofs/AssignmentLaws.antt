-- Law: what the plan says of the assignments is what the rows postcondition hold, and they are numbered one task after the other.
-- By the one postcondition that a task has.
use Rattle.std.specs.Prelude.{ℕ, suc, ◌+◌, ◌<◌, ◌≤◌, ◌≡◌, refl, List, [], ◌∷◌, ◌++◌, map, length}
use Rattle.std.proofs.Common.{arith, sym, ap, subst, ◌∙◌, append-nil}
use Rattle.std.proofs.Math.Decide.{dec_lt}
use Rattle.std.proofs.Math.Option.{Option, some}
use Rattle.paper_expressions.specs.Expressions.{Expr}
use Rattle.paper_expressions.specs.Bytes.{folded, Alike}
use Rattle.paper_expressions.specs.View.{At, at_first, at_later}
use Rattle.paper_expressions.specs.Within.{Modest}
use Rattle.paper_expressions.proofs.Laws.Parentheses.{bare}
use Rattle.paper_expressions.proofs.Laws.Search.{at_one, alikeb, alike_reflects, Looked, found, missing, looked}
use Rattle.paper_guideline.specs.Structure
use Structure.{Placed, Attribute, Task, DataItem, TopLevel, tasks, data_items}
use Rattle.paper_guideline.specs.Parts.{assignments}
use Rattle.paper_guideline.specs.Names.{target_no_item, task_attribute_twice}
use Rattle.paper_guideline.specs.Limits.{depth_limit}
use Rattle.paper_rows.specs.Table
use Table.{task, data_item, ◌№◌, assertion_is, text_row, Assigns, Table, Contains}
use Rattle.paper_rows.specs.Load
use Load.{SetTaskAttribute, task_4, assigns, Adds, attribute_5_postcondition, data_item_4a}
use Rattle.paper_guideline.specs.Parts.{assigned_in, assignments_of}
use Rattle.paper_rows.proofs.Laws.Lists.{no_element, at_below, below_at, at_most, at_map, map_at, each, before_at, at_each}
use Rattle.paper_rows.proofs.Laws.Lawful.{Lawful, defined}
use Rattle.paper_engine.proofs.Laws.Kept.{Kept, fixed_postcondition, fixed_name, adds, has}
use Rattle.paper_engine.proofs.Laws.Attached.{assigned_at}
use Rattle.parts.specs.Part.{Ends, Within}
use Rattle.parts.specs.Part as Parts
use Rattle.operations.specs.Rows.{target_at, assign_at, assigns_at}
use Rattle.planned.specs.Planned.{assigned_end, assigned_task, Assignment, Assignments}
use Rattle.plan_told.specs.Told.{Bounded, AssignmentsTold}
use Rattle.plan_told.proofs.ListLaws.{before_less, before_fits}
use Rattle.plan_told.proofs.ConditionLaws.{modest_tree}

-- ---- a task with one postcondition has its assignments

abbrev given : Placed Attribute → List Structure.Assignment
given a = assigned_in a.what

only_postcondition : (a : Attribute) {m : ℕ} {y : Structure.Assignment} → At (assigned_in a) m y → (xs : List Structure.Assignment) × (a ≡ Structure.postcondition xs)
only_postcondition (Structure.postcondition xs) h = (xs, refl)
only_postcondition (Structure.generic _) {m = m} {y = y} h = elim h [ ]
only_postcondition (Structure.precondition _) {m = m} {y = y} h = elim h [ ]
only_postcondition (Structure.wait_condition _) {m = m} {y = y} h = elim h [ ]
only_postcondition (Structure.terminate _) {m = m} {y = y} h = elim h [ ]
only_postcondition (Structure.trigger _) {m = m} {y = y} h = elim h [ ]
only_postcondition (Structure.component _ _) {m = m} {y = y} h = elim h [ ]
only_postcondition (Structure.source _ _) {m = m} {y = y} h = elim h [ ]

none_given : (l : List (Placed Attribute)) → ((i w : ℕ) (xs : List Structure.Assignment) → ¬ At l i (record { word = w; what = Structure.postcondition xs })) → each given l ≡ []
none_given [] n = refl
none_given (a ∷ l) n = go a.what refl (none_given l (λ i w xs h. n (suc i) w xs (at_later h)))
  where
    go : (b : Attribute) → a.what ≡ b → each given l ≡ [] → assigned_in b ++ each given l ≡ []
    go (Structure.generic x) e h = h
    go (Structure.precondition x) e h = h
    go (Structure.wait_condition x) e h = h
    go (Structure.terminate x) e h = h
    go (Structure.postcondition xs) e h = absurd (n 0 a.word xs (subst (λ (z : Attribute). At (a ∷ l) 0 (record { word = a.word; what = z })) e at_first))
    go (Structure.trigger x) e h = h
    go (Structure.component x xs) e h = h
    go (Structure.source x xs) e h = h

one_given : (l : List (Placed Attribute)) {j w : ℕ} {xs : List Structure.Assignment} → At l j (record { word = w; what = Structure.postcondition xs })
    → ((i v : ℕ) (ys : List Structure.Assignment) → At l i (record { word = v; what = Structure.postcondition ys }) → i ≡ j) → each given l ≡ xs
one_given [] h u = absurd (no_element h)
one_given (a ∷ l) {xs = xs} at_first u = ap (λ (z : List Structure.Assignment). xs ++ z) (none_given l (λ i w ys k. let z = u (suc i) w ys (at_later k) in omega arith)) ∙ append-nil xs
one_given (a ∷ l) {xs = xs} (at_later {i = j} h) u = go a.what refl (one_given l h (λ i v ys k. let z = u (suc i) v ys (at_later k) in omega arith))
  where
    go : (b : Attribute) → a.what ≡ b → each given l ≡ xs → assigned_in b ++ each given l ≡ xs
    go (Structure.generic x) e q = q
    go (Structure.precondition x) e q = q
    go (Structure.wait_condition x) e q = q
    go (Structure.terminate x) e q = q
    go (Structure.postcondition ys) e q = absurd (let z = u 0 a.word ys (subst (λ (z : Attribute). At (a ∷ l) 0 (record { word = a.word; what = z })) e at_first) in omega arith)
    go (Structure.trigger x) e q = q
    go (Structure.component x ys) e q = q
    go (Structure.source x ys) e q = q

postcondition_by : {g : List TopLevel} {T : ℕ} {l : List Assigns} → Adds g (task № T) Table.postcondition (assertion_is l) → (xs : List Structure.Assignment) × SetTaskAttribute g T (Structure.postcondition xs) × (l ≡ map assigns xs)
postcondition_by (attribute_5_postcondition {l} h) = (l, h, refl)

module _ {g : List TopLevel} {p : Parts.Table} {f : List ℕ} (told : AssignmentsTold g p f) where
  -- ---- their numbers

  pub assignments_rise : {T U : ℕ} {k j : Task} → At (tasks g) T k → At (tasks g) U j → T < U → assign_at f T + assigns_at f T ≤ assign_at f U
  assignments_rise h q l =
      let a = told.first h in
      let b = told.count h in
      let c = told.first q in
      let z = before_less assignments_of h q l in
      omega arith

  pub assignments_most : {T : ℕ} {k : Task} → At (tasks g) T k → assign_at f T + assigns_at f T ≤ length (assignments g)
  assignments_most h =
      let a = told.first h in
      let b = told.count h in
      let z = before_fits assignments_of h in
      omega arith

module _ {g : List TopLevel} {p : Parts.Table} {f : List ℕ} (lawful : Lawful g) (told : AssignmentsTold g p f) where
  -- the data item to which an assignment assigns
  named_item : {a : ℕ} {x : Structure.Assignment} → At (assignments g) a x → (d : ℕ) × (y : DataItem) × At (data_items g) d y × Alike x.target.spelt y.named.spelt
  named_item {x = x} q = go (looked (λ (y : DataItem). Alike x.target.spelt y.named.spelt) (λ (y : DataItem). alikeb x.target.spelt y.named.spelt) (λ y. alike_reflects x.target.spelt y.named.spelt) (data_items g))
    where
      go : {o : Option ℕ} → Looked (λ (y : DataItem). Alike x.target.spelt y.named.spelt) (data_items g) o → (d : ℕ) × (y : DataItem) × At (data_items g) d y × Alike x.target.spelt y.named.spelt
      go (found {i} {x = y} u e) = (i, y, u, e)
      go (missing m) = absurd (lawful.names _ (target_no_item q m))

  pub targets : length (data_items g) ≤ 64 → {a : ℕ} → a < 256 → target_at f a < 64
  targets few {a} l = go (dec_lt a (length (assignments g)))
    where
      go : Dec (a < length (assignments g)) → target_at f a < 64
      go (yes z) =
          let x = below_at (assignments g) a z in
          let d = named_item x.1 in
          let e = told.target x.1 d.2 d.3 in
          let b = at_below d.2 in
          omega arith
      go (no z) = let e = told.no_target l (omega arith) in omega arith

  module _ {t : Table} (bounded : Bounded g) (kept : Kept g t) {T : ℕ} {k : Task} (h : At (tasks g) T k) where
    -- its one postcondition
    once : {i j w v : ℕ} {xs ys : List Structure.Assignment} → At k.attributes i (record { word = w; what = Structure.postcondition xs }) → At k.attributes j (record { word = v; what = Structure.postcondition ys }) → i ≡ j
    once {i} {j} {w} {v} {xs} {ys} q r =
        at_most (λ l. lawful.names v (task_attribute_twice h (record { i = i; j = j; earlier = record { word = w; what = Structure.postcondition xs }; later = record { word = v; what = Structure.postcondition ys }; in_order = l; at_i = q; at_j = r; same = refl; once = λ m. elim m [ ]; there = refl })))
        (λ l. lawful.names w (task_attribute_twice h (record { i = j; j = i; earlier = record { word = v; what = Structure.postcondition ys }; later = record { word = w; what = Structure.postcondition xs }; in_order = l; at_i = r; at_j = q; same = refl; once = λ m. elim m [ ]; there = refl })))

    its : {i w : ℕ} {xs : List Structure.Assignment} → At k.attributes i (record { word = w; what = Structure.postcondition xs }) → assignments_of k ≡ xs
    its q = one_given k.attributes q (λ i v ys r. once r q)

    set_its : {xs : List Structure.Assignment} → SetTaskAttribute g T (Structure.postcondition xs) → assignments_of k ≡ xs
    set_its {xs} (task_4 {k = j} {w} i q) = its (subst (λ (z : Task). At z.attributes j (record { word = w; what = Structure.postcondition xs })) (at_one (defined i) h) q)

    assignment : {l : List Assigns} {i : ℕ} {x : Assigns} {y : Structure.Assignment} → Contains t (task № T) Table.postcondition (assertion_is l) → At l i x → At (assignments_of k) i y → assigns y ≡ x
        → Assignment p f t T (assign_at f T + i) x
    assignment {i = i} {x} {y} r q u e =
        let b = told.first h in
        let at : At (assignments g) (assign_at f T + i) y = subst (λ (n : ℕ). At (assignments g) (n + i) y) (sym b) (before_at assignments_of h u) in
        let d = named_item at in
        let m = told.target at d.2 d.3 in
        let tree : y.value.tree ≡ x.assigned = ap (λ (z : Assigns). z.assigned) e in
        let n = assigned_at (adds kept fixed_postcondition r) q in
        record {
          named = d.1.named.spelt;
          target = subst (λ (n : ℕ). Contains t (data_item № n) Table.name (text_row d.1.named.spelt)) (sym m) (has kept fixed_name (data_item_4a d.2));
          alike = sym d.3 ∙ ap (λ (z : Assigns). folded z.target) e;
          ends = subst (λ (z : Expr). Ends p (assigned_end f (assign_at f T + i)) (bare z)) tree (told.ends at);
          deep = subst (λ (z : Expr). Within depth_limit (bare z)) n.2.1 (bounded.deep n.1.1);
          modest = subst (λ (z : Expr). Modest (bare z)) n.2.1 (modest_tree bounded n.1.1);
          by = ap (λ (n : ℕ). assigned_task f (n + i)) b ∙ told.by h u;
        }

    of : {l : List Assigns} {i : ℕ} {x : Assigns} → Contains t (task № T) Table.postcondition (assertion_is l) → At l i x → (i < assigns_at f T) × Assignment p f t T (assign_at f T + i) x
    of {l} {i} {x} r q =
        let a = postcondition_by (adds kept fixed_postcondition r) in
        let m = map_at assigns a.0 (subst (λ (z : List Assigns). At z i x) a.2 q) in
        let e = set_its a.1 in
        let u : At (assignments_of k) i m.0 = subst (λ (z : List Structure.Assignment). At z i m.0) (sym e) m.1 in
        let b = at_below u in
        let c = told.count h in
        (omega arith, assignment r q u m.2)

    all : {i : ℕ} → i < assigns_at f T → (l : List Assigns) × (x : Assigns) × Contains t (task № T) Table.postcondition (assertion_is l) × At l i x
    all {i} l =
        let c = told.count h in
        let y = below_at (assignments_of k) i (omega arith) in
        let a = at_each given k.attributes y.1 in
        let o = only_postcondition a.2.what a.4 in
        let q : At k.attributes a.0 (record { word = a.2.word; what = Structure.postcondition o.0 }) =
        subst (λ (z : Attribute). At k.attributes a.0 (record { word = a.2.word; what = z })) o.1 a.3 in
        let u : At o.0 i y.0 = subst (λ (z : List Structure.Assignment). At z i y.0) (its q) y.1 in
        (map assigns o.0, assigns y.0, has kept fixed_postcondition (attribute_5_postcondition (task_4 (lawful.reached h) q)), at_map assigns u)

    -- no assertion is without an assignment
    pub asserted : {l : List Assigns} → Contains t (task № T) Table.postcondition (assertion_is l) → 0 < assigns_at f T
    asserted r =
        let a = postcondition_by (adds kept fixed_postcondition r) in
        let e = ap length (set_its a.1) in
        let c = told.count h in
        let n = some a.1 in
        omega arith
      where
        some : {xs : List Structure.Assignment} → SetTaskAttribute g T (Structure.postcondition xs) → 0 < length xs
        some (task_4 i q) = bounded.asserted (defined i) q

    pub assigned : Assignments p f t T
    assigned = record { of = of; all = all }
