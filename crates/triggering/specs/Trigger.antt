-- 8.3.7: the contract of sending a trigger, and that the code's cases meet it. By what the plan says of triggers and parents.
use Rattle.std.specs.Prelude.{ℕ, zero, suc, ◌+◌, ◌-◌, ◌<◌, ◌≤◌, ◌≡◌, refl, Bool, true, false, not, ◌&&◌, List, eqb, ltb, get_or, length}
use Rattle.std.proofs.Common.{arith, sym, ap, subst, ◌∙◌, ext_get_or, eq-eqb, ne_eqb, le-ltb, lt-ltb}
use Rattle.std.proofs.Math.Decide.{dec_lt}
use Rattle.std.proofs.Math.Option.{Option, some}
use Rattle.paper_expressions.proofs.Laws.Search.{no_clash, sameb, same_reflects, Reflects, true_reflects, of_yes, of_no}
use Rattle.paper_expressions.specs.Values.{in_progress}
use Rattle.paper_guideline.specs.Structure.{TopLevel}
use Rattle.paper_rows.specs.Table.{task, Component, ◌№◌, Property, state, trigger, trigger_active, parent_plan, RowValue, state_is, component_is, truth_row, text_row, Table, Contains, TaskId}
use Rattle.paper_rows.specs.Load.{Adds, attribute_5_trigger, task_4}
use Rattle.paper_rows.proofs.Laws.Seen.{same_some}
use Rattle.paper_calls.specs.Calls.{Guideline, loaded, Unready, SmallText, send_trigger, trigger_7, trigger_6, trigger_done, SendTrigger, trigger_1, refuses, done}
use Rattle.paper_calls.proofs.Laws.CallLaws.{trigger_mild}
use Rattle.paper_calls.proofs.Laws.TotalLaws.{sends}
use Rattle.paper_engine.proofs.Laws.Kept.{adds, task_id}
use Rattle.parts.specs.Texts.{cells, text_at_fn}
use Rattle.blocks.specs.Blocks.{cells_long, cells_at}
use Rattle.state.specs.Cell.{plain_state}
use Rattle.state.specs.Layout.{row_is_fn, row_test, state_column, trigger_column}
use Rattle.waits.specs.Booleans.{Tests, is_and}
use Rattle.waits.specs.Twins.{parent_at, trigger_f}
use Rattle.planned.specs.Planned.{trigger_text}
use Rattle.review.specs.Changes.{tasks_in}
use Rattle.holding.specs.Holding.{Holds}
use Rattle.holding.specs.Shown.{worked, kept, planned}
use Rattle.replying.specs.declared.Reply.{Reply}
use Rattle.replying.specs.Replying.{published, holds_loaded, Called, Replies}
use Rattle.replying.specs.Ready.{ready_f, replies_7, replies_refused, replies_done}
use Rattle.replying.specs.Trues.{Trues, trues_elsewhere, Only, holds_trues}
use Rattle.triggering.specs.Hit.{hit_f}

abbrev pub Triggers : List ℕ → List ℕ → List ℕ → List ℕ → List ℕ → Reply → Type 0
Triggers u b f s s' r = (x : List ℕ) (w : List (List Bool)) → Replies (send_trigger u) x b f w s b s' (published r)

-- the whole of the text that is sent
whole : (u : List ℕ) → cells u 0 (length u) ≡ u
whole u = ext_get_or 0 (cells u 0 (length u)) u (cells_long u 0 (length u)) (λ i l. (let e = cells_long u 0 (length u) in let z : 0 + i ≡ i = omega arith in cells_at u 0 (length u) i (omega arith) ∙ ap (λ (y : ℕ). get_or u y 0) z))

pub trigger_unready : (u b f s : List ℕ) {r : Bool} → r ≡ ready_f s → r ≡ false → (x : List ℕ) (w : List (List Bool)) → Replies (send_trigger u) x b f w s b s (refuses 7 0 0)
trigger_unready u b f s e k x w = replies_7 (sym e ∙ k) (λ st z. trigger_7 z)

pub trigger_large : (u b f s : List ℕ) {r v : Bool} → r ≡ ready_f s → r ≡ true → Tests v (SmallText (cells u 0 (length u))) → v ≡ false → (x : List ℕ) (w : List (List Bool)) → Replies (send_trigger u) x b f w s b s (refuses 6 0 0)
trigger_large u b f s e k t n x w = replies_refused 6 (sym e ∙ k) (λ g h z. trigger_6 z (λ i. no_clash (let a = t.1 (subst SmallText (sym (whole u)) i) in cc)))

-- ---- the tasks that are hit are those of the definition

pub record Hit (f b s u : List ℕ) (T : ℕ) : Type 0 where
  pub triggered : trigger_f f T ≡ true
  pub below : ¬ (parent_at f T ≡ 0)
  pub near : parent_at f T ≤ 32
  pub running : row_is_fn s 8 (parent_at f T - 1) 5 2 ≡ true
  pub its : text_at_fn b (trigger_text f T) ≡ u

both : {a c : Bool} → (a && c) ≡ true → (a ≡ true) × (c ≡ true)
both {a} {c} e = (is_and {a = a} {b = c} (λ z. z, λ z. z) (λ z. z, λ z. z)).0 e

negated : {a : Bool} → not a ≡ true → a ≡ false
negated {a} e = go a e
  where
    go : (x : Bool) → not x ≡ true → x ≡ false
    go true z = absurd (no_clash (cc))
    go false z = refl

pub hit_is : {f b s u : List ℕ} {T : ℕ} → hit_f f b s u T ≡ true → Hit f b s u T
hit_is {f} {b} {s} {u} {T} e =
    let rest = row_is_fn s 8 (parent_at f T - 1) 5 2 && sameb (text_at_fn b (trigger_text f T)) u in
    let a = both {a = trigger_f f T} {c = not (eqb (parent_at f T) 0) && (not (ltb 32 (parent_at f T)) && rest)} e in
    let c = both {a = not (eqb (parent_at f T) 0)} {c = not (ltb 32 (parent_at f T)) && rest} a.1 in
    let d = both {a = not (ltb 32 (parent_at f T))} {c = rest} c.1 in
    let i = both {a = row_is_fn s 8 (parent_at f T - 1) 5 2} {c = sameb (text_at_fn b (trigger_text f T)) u} d.1 in
    record {
      triggered = a.0;
      below = λ z. no_clash (let y = sym (eq-eqb (parent_at f T) 0 z) ∙ negated c.0 in cc);
      near = small (dec_lt 32 (parent_at f T)) (negated d.0);
      running = i.0;
      its = true_reflects (same_reflects (text_at_fn b (trigger_text f T)) u) i.1;
    }
  where
    small : Dec (32 < parent_at f T) → ltb 32 (parent_at f T) ≡ false → parent_at f T ≤ 32
    small (yes l) z = absurd (no_clash (let y = sym (lt-ltb 32 (parent_at f T) l) ∙ z in cc))
    small (no l) z = omega arith

reflected : {P : Type 0} {b : Bool} → Reflects P b → P → b ≡ true
reflected (of_yes p) q = refl
reflected (of_no n) q = absurd (n q)

pub is_hit : {f b s u : List ℕ} {T : ℕ} → Hit f b s u T → hit_f f b s u T ≡ true
is_hit {f} {b} {s} {u} {T} h =
    rw (h.triggered, ne_eqb (parent_at f T) 0 h.below, le-ltb 32 (parent_at f T) h.near, h.running) (reflected (same_reflects (text_at_fn b (trigger_text f T)) u) h.its)

same_parent : {P Q : ℕ} → component_is (task № P) ≡ component_is (task № Q) → P ≡ Q
same_parent e = cc

same_text : {u v : List ℕ} → text_row u ≡ text_row v → u ≡ v
same_text e = cc

module _ {g : List TopLevel} {x b f : List ℕ} {w : List (List Bool)} {s : List ℕ} {t : Table} {flag : Bool} {time : ℕ} (h : Holds g x b f w s t flag time) (u : List ℕ) where
  triggered_task : {T : ℕ} {r : RowValue} → Adds g (task № T) trigger r → TaskId t T
  triggered_task (attribute_5_trigger (task_4 i q)) = task_id (kept h) i

  hits : {T P : ℕ} → Contains t (task № T) trigger (text_row u) → Contains t (task № T) parent_plan (component_is (task № P)) → Contains t (task № P) state (state_is in_progress) → (T < 32) × Hit f b s u T
  hits {T} {P} a c d = go (parent_at f T) refl
    where
      l : T < tasks_in f
      l = ((worked h).ids T).0 (triggered_task (adds (kept h) (λ z. elim z [ ]) a))

      small : T < 32
      small = let z = (worked h).number in let i = l in omega arith

      go : (p : ℕ) → parent_at f T ≡ p → (T < 32) × Hit f b s u T
      go zero e = absurd (no_clash (let z = sym (((worked h).parents l).none_there e) ∙ c in cc))
      go (suc Q) e =
          let z = ((worked h).parents l).there {P = Q} (e ∙ (let y : suc Q ≡ Q + 1 = omega arith in y)) in
          let i : Q ≡ P = same_parent (same_some (sym z.1 ∙ c)) in
          let j : parent_at f T - 1 ≡ P = omega arith in
          let m = z.0 in (
            small,
            record {
              triggered = ((worked h).triggers l).1 (u, a);
              below = λ y. omega arith;
              near = omega arith;
              running = subst (λ (y : ℕ). row_is_fn s 8 y 5 2 ≡ true) (sym j) ((row_test h.rows state_column (omega arith) (plain_state in_progress)).1 d);
              its = (planned h).triggers t (kept h) l a;
            },
          )

  sends_if : (T : ℕ) → T < 32 → Hit f b s u T → SendTrigger t u (task № T) trigger_active (some (truth_row true))
  sends_if T m i = go (dec_lt T (tasks_in f)) (parent_at f T) refl
    where
      go : Dec (T < tasks_in f) → (p : ℕ) → parent_at f T ≡ p → SendTrigger t u (task № T) trigger_active (some (truth_row true))
      go d zero e = absurd (i.below e)
      go (no l) (suc P) e = absurd (i.below ((worked h).rest m l))
      go (yes l) (suc P) e =
          let z = ((worked h).parents l).there {P = P} (e ∙ (let y : suc P ≡ P + 1 = omega arith in y)) in
          let a = ((worked h).triggers l).0 i.triggered in
          let k : a.0 ≡ u = sym ((planned h).triggers t (kept h) l a.1) ∙ i.its in
          let j : parent_at f T - 1 ≡ P = omega arith in
          trigger_1 (a.1 ∙ ap (λ (y : List ℕ). some (text_row y)) k) z.1 ((row_test h.rows state_column z.0 (plain_state in_progress)).0 (subst (λ (y : ℕ). row_is_fn s 8 y 5 2 ≡ true) j i.running))

  only_sent : Only (SendTrigger t u) trigger_active (hit_f f b s u)
  only_sent = record { of = λ c q o z. of z; all = λ T l e. sends_if T l (hit_is e) }
    where
      of : {c : Component} {q : Property} {o : Option RowValue} → SendTrigger t u c q o → (T : ℕ) × (c ≡ task № T) × (q ≡ trigger_active) × (o ≡ some (truth_row true)) × (T < 32) × (hit_f f b s u T ≡ true)
      of (trigger_1 {T} {P} a c d) = let z = hits a c d in (T, refl, refl, refl, z.0, is_hit z.1)

pub trigger_sent : (u b f s : List ℕ) {s' : List ℕ} {r v : Bool} → r ≡ ready_f s → r ≡ true → Tests v (SmallText (cells u 0 (length u))) → v ≡ true → Trues s 72 (hit_f f b s u) s'
    → (x : List ℕ) (w : List (List Bool)) → Replies (send_trigger u) x b f w s b s' done
trigger_sent u b f s {s'} e k t n m x w = replies_done (sym e ∙ k) (trues_elsewhere trigger_column m) called
  where
    called : (g : Guideline) → Holds g.structure x b f w s g.table g.flag g.time → ¬ Unready (loaded g) → Called (send_trigger u) x b f w s' done (loaded g)
    called g h z =
        let t' = sends g.table u in
        record { after = _; calls = trigger_done z (subst SmallText (whole u) (t.0 n)) t'.1; holds = holds_loaded (holds_trues h trigger_column m (only_sent h u) (trigger_mild u (kept h)) t'.1) }
