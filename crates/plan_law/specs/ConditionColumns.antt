-- Law: the plan that the rows write says where each condition of a task ends in the part table. By the row of the condition, once for all three kinds.
use Rattle.std.specs.Prelude.{ℕ, suc, ◌+◌, ◌-◌, ◌≤◌, ◌<◌, ◌≡◌, refl, true, false, cond, ◌&&◌, List, eqb, get_or, length}
use Rattle.std.proofs.Common.{arith, sym, ap, subst, ◌∙◌}
use Rattle.std.proofs.Math.Option.{some}
use Rattle.paper_expressions.specs.Expressions.{Expr}
use Rattle.paper_expressions.proofs.Laws.Parentheses.{bare}
use Rattle.paper_tokens.specs.Tokens.{“=”, “precondition”, “wait-condition”, “terminate”}
use Rattle.paper_guideline.specs.Structure
use Structure.{Outermost, Attribute, TopLevel, tasks}
use Rattle.paper_rows.specs.Load.{SetTaskAttribute, attribute_5_precondition, attribute_5_wait_condition, attribute_5_terminate}
use Rattle.paper_rows.proofs.Laws.Lawful.{Lawful}
use Rattle.paper_rows.proofs.Laws.SingleLaws.{adds_once}
use Rattle.parts.specs.Part.{Table, Ends}
use Rattle.guideline_rows.specs.Rows.{expression_of}
use Rattle.row_names.specs.Sheet.{head_kind}
use Rattle.row_names.specs.Flat.{sub_kind}
use Rattle.paper_guideline.specs.Names.{word_of as attribute-word}
use Rattle.plan.specs.Writes as Writes
use Writes.{Outline, plan_f, plan, tasks_before}
use Rattle.plan.specs.Filled.{Held}
use Rattle.plan_told.specs.Told.{ConditionsTold}
use Rattle.plan_told.proofs.RowLaws.{same_expression}
use Rattle.plan_rows.specs.Owned.{first_row}
use Rattle.plan_rows.specs.Reads.{Reads}
use Rattle.plan_rows.specs.ReadLaws.{tasks_owned}
use Rattle.plan_rows.specs.Words.{only_precondition, only_wait_condition, only_terminate, word_at, word_row, word_set, set_row}
use Rattle.plan_law.specs.Written.{unwritten, written}
use Rattle.plan_law.specs.Columns.{write_precondition, write_wait_condition, write_terminate}
use Rattle.plan_law.specs.TaskColumns.{set_room}

-- a kind of condition, by its word
record Kind (g : List TopLevel) (kind : Outermost → Attribute) (w : ℕ) : Type 0 where
  pub word : (x : Outermost) → attribute-word (kind x) ≡ w
  pub only : (a : Attribute) → attribute-word a ≡ w → (x : Outermost) × (a ≡ kind x)
  pub holds : (p : ℕ) (x : Outermost) → expression_of (first_row p (kind x)) ≡ some x
  pub same : {T : ℕ} {x y : Outermost} → SetTaskAttribute g T (kind x) → SetTaskAttribute g T (kind y) → x.tree ≡ y.tree
  pub no_head : head_kind w ≡ false
  pub no_sub : sub_kind w ≡ false
  pub no_target : eqb w “=” ≡ false

module _ {g : List TopLevel} {s : Outline} {p : Table} {f : List ℕ} (lawful : Lawful g) (few : length (tasks g) ≤ 32) (reads : Reads s p g) (held : Held (plan s) f) where
  module _ {w : ℕ} (d : ℕ) {kind : Outermost → Attribute} (is : Kind g kind w) (c : ℕ → ℕ → ℕ) (start : (T : ℕ) → c 0 T ≡ 0)
      (step : (T k : ℕ) → c (suc k) T ≡ cond (eqb (s.kind k) w && eqb (tasks_before s k - 1) T) (s.ends k) (c k T)) (cell : (T : ℕ) → T < 32 → get_or f (d + T) 0 ≡ c s.count T) where
    -- a row that is written to the cell of T
    its : {T : ℕ} (k : ℕ) → k < s.count → eqb (s.kind k) w ≡ true → tasks_before s k - 1 ≡ T → (x : Outermost) × SetTaskAttribute g T (kind x) × Ends p (s.ends k) (bare x.tree)
    its {T} k l e z =
        let x = (word_at reads w k l e is.no_head is.no_sub is.no_target).1 in
        let o = is.only x.b.what x.word in
        let y = tasks_owned reads x.owned in
        let v : x.T ≡ T = omega arith in (
          o.0,
          subst (SetTaskAttribute g T) o.1 (subst (λ (i : ℕ). SetTaskAttribute g i x.b.what) v (word_set reads lawful x)),
          reads.ends (word_row reads x) (ap (λ (a : Attribute). expression_of (first_row x.b.word a)) o.1 ∙ is.holds x.b.word o.0),
        )

    ends : {T : ℕ} {x : Outermost} → SetTaskAttribute g T (kind x) → Ends p (get_or f (d + T) 0) (bare x.tree)
    ends {T} {x} h =
        let r = set_row reads h in
        let v = written (λ k. c k T) (λ k. eqb (s.kind k) w) (λ k. tasks_before s k - 1) (λ k. s.ends k) T (start T) (step T) s.count
        r.below (subst (λ (n : ℕ). eqb (s.kind r.q) n ≡ true) (is.word x) r.word) (let e = r.tasks in omega arith) in
        let y = its v.k v.below v.of v.there in
        subst (λ (n : ℕ). Ends p n (bare x.tree)) (sym (cell T (set_room lawful few reads held h) ∙ v.cell)) (subst (λ (t : Expr). Ends p (s.ends v.k) (bare t)) (is.same y.1 h) y.2)

    none : {T : ℕ} → T < 32 → ((x : Outermost) → ¬ SetTaskAttribute g T (kind x)) → get_or f (d + T) 0 ≡ 0
    none {T} l n =
        cell T l
        ∙ unwritten (λ k. c k T) (λ k. eqb (s.kind k) w) (λ k. tasks_before s k - 1) (λ k. s.ends k) T (start T) (step T) s.count (λ k u e z. let y = its k u e z in n y.0 y.1)

    told : ConditionsTold g p f d kind
    told = record { ends = ends; none = none }

  pub preconditions_told : ConditionsTold g p f 520 Structure.precondition
  preconditions_told =
      told {w = “precondition”} 520 (record { word = λ x. refl; only = only_precondition; holds = λ q x. refl; same = λ h k. same_expression (adds_once lawful (attribute_5_precondition h) (attribute_5_precondition k)); no_head = refl; no_sub = refl; no_target = refl })
      (λ k T. plan_f s k Writes.precondition T) (λ T. refl) (λ T k. write_precondition s T k) (λ T l. held.cells Writes.precondition T l)

  pub wait_conditions_told : ConditionsTold g p f 552 Structure.wait_condition
  wait_conditions_told =
      told {w = “wait-condition”} 552 (record { word = λ x. refl; only = only_wait_condition; holds = λ q x. refl; same = λ h k. same_expression (adds_once lawful (attribute_5_wait_condition h) (attribute_5_wait_condition k)); no_head = refl; no_sub = refl; no_target = refl })
      (λ k T. plan_f s k Writes.wait_condition T) (λ T. refl) (λ T k. write_wait_condition s T k) (λ T l. held.cells Writes.wait_condition T l)

  pub terminates_told : ConditionsTold g p f 584 Structure.terminate
  terminates_told =
      told {w = “terminate”} 584 (record { word = λ x. refl; only = only_terminate; holds = λ q x. refl; same = λ h k. same_expression (adds_once lawful (attribute_5_terminate h) (attribute_5_terminate k)); no_head = refl; no_sub = refl; no_target = refl })
      (λ k T. plan_f s k Writes.terminate T) (λ T. refl) (λ T k. write_terminate s T k) (λ T l. held.cells Writes.terminate T l)
