-- The answer to reading a row of a task, by the number of the property: of every state that the tables hold. By the properties that are listed.
use Rattle.std.specs.Prelude.{ℕ, ◌+◌, ◌<◌, ◌≤◌, ◌≡◌, refl, Bool, true, false, ◌⊎◌, List, pos, get_or}
use Rattle.std.proofs.Common.{arith, sym, ap, subst, ◌∙◌, inl, inr}
use Rattle.std.proofs.Math.Option.{Option}
use Rattle.paper_expressions.specs.View.{At}
use Rattle.paper_guideline.specs.Structure.{TopLevel}
use Rattle.paper_rows.specs.Table.{task, ◌№◌, Property, properties, class, name, antecedent_tasks, trigger, parent_plan, confirmatory, terminal, integer_row, RowValue, Table}
use Rattle.paper_rows.proofs.Laws.Ranks.{property_rank}
use Rattle.paper_engine.proofs.Laws.Kept as Kept
use Rattle.state.specs.Layout.{TaskColumn, state_column, trigger_column, confirmed_column, count_column, cycles_column, start_column, in_progress_column, discarded_column, completed_column, procedure_column}
use Rattle.waits.specs.Booleans.{any_f}
use Rattle.waits.specs.Twins.{marked, waiting, trigger_f}
use Rattle.review.specs.Changes.{tasks_in}
use Rattle.planned.specs.Planned.{answered}
use Rattle.holding.specs.Holding.{Holds}
use Rattle.holding.specs.Shown.{kept, planned}
use Rattle.row_shown.specs.declared.Row.{Row}
use Rattle.row_shown.specs.declared.Shown.TheVariants.{NoRow}
use Rattle.row_shown.specs.Shown.{Plain, Shows}
use Rattle.row_shown.specs.Cells.{Few, ByAnswer}
use Rattle.task_rows.specs.Answers.{Moving, ThereIf, ClassRow, class_row, TextIf, text_if, ParentRow, parent_row, shows_none, shows_there}
use Rattle.task_rows.specs.Listed.{Listed, is_property, unlisted}
use Rattle.task_rows.specs.TaskLaws.{Tells, someb, class_told, name_told, trigger_told, parent_told, antecedents_told}

-- r answers the row of the property q of the task T
abbrev pub OfTask : List ℕ → List (List Bool) → List ℕ → ℕ → Property → Row → Type 0
OfTask f w s T q r = (g : List TopLevel) (x b : List ℕ) (t : Table) (flag : Bool) (time : ℕ) → Holds g x b f w s t flag time → T < tasks_in f → Shows b q (t (task № T) q) r

abbrev pub TaskRow : List ℕ → List (List Bool) → List ℕ → ℕ → ℕ → Row → Type 0
TaskRow f w s T p r = (q : Property) → At properties p q → OfTask f w s T q r

-- what counts is 0 or 1
few : {g : List TopLevel} {x b f : List ℕ} {w : List (List Bool)} {s : List ℕ} {t : Table} {flag : Bool} {time : ℕ} {c T : ℕ} {q : Property} → Holds g x b f w s t flag time → TaskColumn c q → Few (t (task № T) q)
few h state_column n e = absurd (let z = (kept h).allowed Kept.state_moves e in elim z [ ])
few h trigger_column n e = absurd (let z = (kept h).allowed Kept.trigger_moves e in elim z [ ])
few h confirmed_column n e = absurd (let z = (kept h).allowed Kept.confirmed_moves e in elim z [ ])
few h count_column n e = go (h.good.counted.small e)
  where
    same : {a b : ℕ} → integer_row (pos a) ≡ integer_row (pos b) → a ≡ b
    same z = cc

    go : (integer_row (pos n) ≡ integer_row (pos 0)) ⊎ (integer_row (pos n) ≡ integer_row (pos 1)) → n ≤ 1
    go (inl z) = let y = same z in omega arith
    go (inr z) = let y = same z in omega arith
few h cycles_column n e = absurd ((kept h).no_cycles e)
few h start_column n e = absurd (let z = (kept h).allowed Kept.start_moves e in elim z [ ])
few h in_progress_column n e = absurd (let z = (kept h).allowed Kept.in_progress_moves e in elim z [ ])
few h discarded_column n e = absurd (let z = (kept h).allowed Kept.discarded_moves e in elim z [ ])
few h completed_column n e = absurd (let z = (kept h).allowed Kept.completed_moves e in elim z [ ])
few h procedure_column n e = absurd (let z = (kept h).allowed Kept.procedure_moves e in elim z [ ])

module _ (f : List ℕ) (w : List (List Bool)) (s : List ℕ) (T : ℕ) (r : Row) where
  pub arm : (p : ℕ) (x : Property) → p ≡ property_rank x → OfTask f w s T x r → TaskRow f w s T p r
  arm p x e h q a = subst (λ (y : Property). OfTask f w s T y r) (sym (is_property x e a)) h

  pub of_moving : {c : ℕ} {q : Property} → TaskColumn c q → T < 32 → Moving s c T r → OfTask f w s T q r
  of_moving {c} {q} k l m g x b t flag time h n = m b q (t (task № T) q) (h.rows.tasks k l) (few h k)

  pub of_class : {k : ℕ} → k ≡ get_or f (168 + T) 0 → ClassRow k r → OfTask f w s T class r
  of_class e k g x b t flag time h l = subst (λ (o : Option RowValue). Shows b class o r) (ap class_row e ∙ sym (class_told h l)) (k b class)

  pub of_name : {n : ℕ} → n ≡ get_or f (1192 + T) 0 → TextIf (someb T) n r → OfTask f w s T name r
  of_name e k g x b t flag time h l = subst (λ (o : Option RowValue). Shows b name o r) (ap (text_if b (someb T)) e ∙ sym (name_told h l)) (k b name)

  pub of_trigger : {n : ℕ} {v : Bool} → v ≡ trigger_f f T → n ≡ get_or f (1224 + T) 0 → TextIf v n r → OfTask f w s T trigger r
  of_trigger {n = n} {v = v} d e k g x b t flag time h l = subst (λ (o : Option RowValue). Shows b trigger o r) (ap (λ (y : Bool). text_if b y n) d ∙ ap (text_if b (trigger_f f T)) e ∙ sym (trigger_told h l)) (k b trigger)

  pub of_parent : {p : ℕ} → p ≡ get_or f (8 + T) 0 → ParentRow p r → OfTask f w s T parent_plan r
  of_parent e k g x b t flag time h l = subst (λ (o : Option RowValue). Shows b parent_plan o r) (ap parent_row e ∙ sym (parent_told h l)) (k b parent_plan)

  pub of_confirmatory : {k : ℕ} → k ≡ get_or f (136 + T) 0 → ByAnswer k r → OfTask f w s T confirmatory r
  of_confirmatory e k g x b t flag time h l = subst (λ (o : Option RowValue). Shows b confirmatory o r) (ap answered e ∙ sym ((planned h).confirmatories t (kept h) l)) (k b confirmatory)

  pub of_terminal : {k : ℕ} → k ≡ get_or f (72 + T) 0 → ByAnswer k r → OfTask f w s T terminal r
  of_terminal e k g x b t flag time h l = subst (λ (o : Option RowValue). Shows b terminal o r) (ap answered e ∙ sym ((planned h).terminals t (kept h) l)) (k b terminal)

  -- a row that is only there
  shown_there : (b : List ℕ) (q : Property) (o : Option RowValue) (v : Bool) → ThereIf v r → Tells v q o → Shows b q o r
  shown_there b q o v k z = go v refl
    where
      go : (y : Bool) → v ≡ y → Shows b q o r
      go true e = let a = z.yes e in subst (λ (y : Option RowValue). Shows b q y r) (sym a.1) (shows_there b q r a.2 (k.yes e))
      go false e = subst (λ (y : Option RowValue). Shows b q y r) (sym (z.no e)) (shows_none b q r (k.no e))

  pub of_there : (q : Property) (c : ℕ) {k : ℕ} → k ≡ get_or f (c + T) 0 → ThereIf (someb k) r
      → ((g : List TopLevel) (x b : List ℕ) (t : Table) (flag : Bool) (time : ℕ) → Holds g x b f w s t flag time → T < tasks_in f → Tells (someb (get_or f (c + T) 0)) q (t (task № T) q)) → OfTask f w s T q r
  of_there q c {k} e i z g x b t flag time h l = shown_there b q (t (task № T) q) (someb (get_or f (c + T) 0)) (subst (λ (y : ℕ). ThereIf (someb y) r) e i) (z g x b t flag time h l)

  pub of_waits : {v : Bool} → v ≡ any_f (marked (waiting w T)) 32 → ThereIf v r → OfTask f w s T antecedent_tasks r
  of_waits {v} e i g x b t flag time h l = shown_there b antecedent_tasks (t (task № T) antecedent_tasks) (any_f (marked (waiting w T)) 32) (subst (λ (y : Bool). ThereIf y r) e i) (antecedents_told h l)

  pub of_none : (p : ℕ) → ¬ Listed p → Plain NoRow r → TaskRow f w s T p r
  of_none p n k q a g x b t flag time h l = subst (λ (o : Option RowValue). Shows b q o r) (sym (unlisted (kept h) a n)) (shows_none b q r k)
