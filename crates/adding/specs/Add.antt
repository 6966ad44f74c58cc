-- 8.3.6: the contract of adding a value, and that the code's cases meet it. By what the plan says of data items and their types, and the value that is given.
use Rattle.std.specs.Prelude.{ℕ, ◌+◌, ◌*◌, ◌<◌, ◌≡◌, refl, Bool, true, false, List, ℤ, get_or}
use Rattle.std.proofs.Common.{sym, subst, ◌∙◌}
use Rattle.std.proofs.Math.Option.{Option, none, some}
use Rattle.paper_expressions.specs.Values as paper
use Rattle.paper_expressions.specs.Types.{inferred, Of}
use Rattle.paper_expressions.proofs.Laws.WithinLimits.{Limited}
use Rattle.paper_rows.specs.Table.{DataItemId}
use Rattle.paper_rows.proofs.Laws.Booleans.{is_false}
use Rattle.paper_calls.specs.Calls as Calls
use Calls.{Guideline, State, loaded, Unready, Small, add_data_value, Calls, add_7, add_8, add_9, add_9_none, add_6, add_done, refuses, done}
use Rattle.paper_calls.proofs.Laws.CallLaws.{add_mild, small_within}
use Rattle.paper_calls.proofs.Laws.TotalLaws.{adds_value, is_add}
use Rattle.values.specs.declared.value.Value.{Value}
use Rattle.state.specs.Items as Items
use Rattle.holding.specs.Holding.{Holds}
use Rattle.holding.specs.Shown.{kept}
use Rattle.item_rows.specs.ItemLaws.{class_told}
use Rattle.replying.specs.declared.Reply.{Reply}
use Rattle.replying.specs.Replying.{published, Holding, holds_loaded, Called, Replies}
use Rattle.replying.specs.Ready.{ready_f, replies_7, replies_refused, replies_done}
use Rattle.replying.specs.OneReply.{SameOutcome, one_reply}
use Rattle.value_given.specs.Given.{given}
use Rattle.value_given.specs.Kinds.{TypedBy}
use Rattle.value_given.specs.Bounds.{WithinBy}
use Rattle.value_given.specs.Made.{ValueMade}
use Rattle.adding.specs.Put.{Stores, put_elsewhere, holds_added}
use Rattle.adding.specs.Item.{OfType, item_below, item_type}

-- D the data item; t the tags, n the numbers and v the bytes that are given; b the text bytes, f the plan, s the state
abbrev pub Adds : ℕ → List ℕ → List ℤ → List ℕ → List ℕ → List ℕ → List ℕ → List ℕ → List ℕ → Reply → Type 0
Adds D t n v b f s b' s' r = (x : List ℕ) (w : List (List Bool)) → Replies (add_data_value D (given t n v)) x b f w s b' s' (published r)

module _ (D : ℕ) (t : List ℕ) (n : List ℤ) (v b f s : List ℕ) {r : Bool} (ready : r ≡ ready_f s) where
  -- of every part table and table of who waits
  abbrev Meets : List ℕ → List ℕ → Calls.Reply → Type 0
  Meets b' s' q = (x : List ℕ) (w : List (List Bool)) → Replies (add_data_value D (given t n v)) x b f w s b' s' q

  pub add_unready : r ≡ false → Meets b s (refuses 7 0 0)
  add_unready e x w = replies_7 (sym ready ∙ e) (λ st u. add_7 u)

  -- what is no data item
  pub add_none : {m : ℕ} → r ≡ true → m ≡ get_or f 1 0 → ¬ ((D < m) × (D < 64)) → Meets b s (refuses 8 0 0)
  add_none {m} e q l x w =
      replies_refused 8 (sym ready ∙ e) (λ g h u. add_8 u (λ i. (let z = item_below h i in l (subst (λ (y : ℕ). D < y) (sym q) z.0, z.1))))

  module _ {m k : ℕ} (e : r ≡ true) (q : m ≡ get_or f 1 0) (l : D < m) (small : D < 64) (read : k ≡ get_or f (1320 + D) 0) where
    below : D < get_or f 1 0
    below = subst (λ (y : ℕ). D < y) q l

    module _ {x : List ℕ} {w : List (List Bool)} {g : Guideline} (h : Holds g.structure x b f w s g.table g.flag g.time) where
      is_item : DataItemId g.table D
      is_item = class_told h small below

      its_type : OfType f g.table D
      its_type = item_type h small below

      mistyped : (o : Option paper.Value) → ¬ Unready (loaded g) → ((y : paper.Value) → o ≡ some y → ¬ Of y (inferred its_type.declared)) → Calls (add_data_value D o) (loaded g) (refuses 9 0 0) (loaded g)
      mistyped none u a = add_9_none u is_item
      mistyped (some y) u a = add_9 u is_item its_type.row (a y refl)

    pub add_mistyped : {c : Bool} → TypedBy t n k c → c ≡ false → Meets b s (refuses 9 0 0)
    add_mistyped z a x w =
        replies_refused 9 (sym ready ∙ e) (λ g h u. mistyped h (given t n v) u (λ y i j. is_false (z (its_type h).declared (read ∙ (its_type h).told) v) a (y, i, j)))

    pub add_large : {c d : Bool} → TypedBy t n k c → c ≡ true → WithinBy t n v d → d ≡ false → Meets b s (refuses 6 0 0)
    add_large z a i j x w = replies_refused 6 (sym ready ∙ e) called
      where
        called : (g : Guideline) → Holds g.structure x b f w s g.table g.flag g.time → ¬ Unready (loaded g) → Calls (add_data_value D (given t n v)) (loaded g) (refuses 6 0 0) (loaded g)
        called g h u =
            let y = (z (its_type h).declared (read ∙ (its_type h).told) v).0 a in
            subst (λ (o : Option paper.Value). Calls (add_data_value D o) (loaded g) (refuses 6 0 0) (loaded g)) (sym y.1)
            (add_6 u (is_item h) (its_type h).row y.2 (is_false (i y.0 y.1) j))

    pub add_stored : {c d : Bool} {made : Value} {b' s' : List ℕ} → TypedBy t n k c → c ≡ true → WithinBy t n v d → d ≡ true → ValueMade t n made → Stores v made D s s' b b' → Meets b' s' done
    add_stored {made = made} {b'} {s'} z a i j m p x w = replies_done (sym ready ∙ e) (put_elsewhere small p.written) called
      where
        called : (g : Guideline) → Holds g.structure x b f w s g.table g.flag g.time → ¬ Unready (loaded g) → Called (add_data_value D (given t n v)) x b' f w s' done (loaded g)
        called g h u =
            let y = (z (its_type h).declared (read ∙ (its_type h).told) v).0 a in
            let value = y.0 in
            let fits = (i value y.1).0 j in
            let means = m v value y.1 fits in
            let held = subst (λ (o : paper.Value). Items.Holds p.cells 0 17 p.out 0 (16384 + 768 * D) (some o)) means (p.form p.long p.wide (subst Limited (sym means) (small_within fits).limited)) in
            let after = adds_value D value g.table in
            record {
              after = loaded (record { structure = g.structure; table = after.0; flag = g.flag; time = g.time });
              calls = subst (λ (o : Option paper.Value). Calls (add_data_value D o) (loaded g) done (loaded (record { structure = g.structure; table = after.0; flag = g.flag; time = g.time }))) (sym y.1) (add_done u (is_item h) (its_type h).row y.2 fits after.1);
              holds = holds_loaded (holds_added h small p.written held (add_mild (kept h) (is_item h) (its_type h).row y.2 fits) after.1);
            }

-- only one reply, and one set of tables, meets the contract
pub one_add : (D : ℕ) (t : List ℕ) (n : List ℤ) (v : List ℕ) {b f s b' s' b'' s'' : List ℕ} (r q : Reply) {x : List ℕ} {w : List (List Bool)} {st : State}
    → Adds D t n v b f s b' s' r → Adds D t n v b f s b'' s'' q → Holding x b f w s st → SameOutcome (published r) b' s' (published q) b'' s''
one_add D t n v r q {x} {w} h k held = one_reply is_add (h x w) (k x w) held
