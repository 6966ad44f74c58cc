-- From what the tests of names and types find to the answer of load. A text has one structure, so a breach of a stage is one of that structure.
use Rattle.std.specs.Prelude.{ℕ, ◌≤◌, refl, List}
use Rattle.std.proofs.Common.{arith, subst}
use Rattle.paper_guideline.specs.Structure.{TopLevel}
use Rattle.paper_guideline.specs.Names.{NameBreach}
use Rattle.paper_guideline.specs.Refusals
use Refusals.{Stage, name_stage, type_stage, turn, Read, Breach, name_breach, Answers, is_loaded, is_refused, loads, refused}
use Rattle.paper_guideline.proofs.Laws.StageTwin.{one_read}
use Rattle.types.specs.Judged.{Misfit}
use Rattle.types.specs.Load.{misfit_breach, breach_misfit}
use Rattle.stages.specs.Stages.{Passed, passed_next, over}

-- whether a table is short matters by its truth alone
module _ {S Z : Type 0} (to : S → Z) (back : Z → S) {text : List ℕ} where
  pub swapped : {a : Refusals.Answer} → Answers S text a → Answers Z text a
  swapped (is_loaded r none) = is_loaded r (λ s q b. none s q (over (λ e. back) b))
  swapped (is_refused r) =
      is_refused
      (record {
        stage = r.stage;
        broken = over (λ e. to) r.broken;
        numbered = r.numbered;
        smallest = λ b. r.smallest (over (λ e. back) b);
        first = λ m b. r.first m (over (λ e. back) b);
      })

-- a text that loads is not refused
pub never_both : {A S : Type 0} {text : List ℕ} {n p : ℕ} → Answers S text loads → Answers S text (refused n p) → A
never_both {p = p} (is_loaded r none) (is_refused z) = absurd (none z.stage p z.broken)

module _ {S : Type 0} {text : List ℕ} {g : List TopLevel} (read : Read text g) where
  -- ---- 4

  named_in : {q : ℕ} → Breach S text name_stage q → NameBreach g q
  named_in {q} (name_breach r b) = subst (λ (h : List TopLevel). NameBreach h q) (one_read r read) b

  pub name_refused : {p : ℕ} → Passed S text 5 → NameBreach g p → ((q : ℕ) → NameBreach g q → p ≤ q) → Answers S text (refused 4 p)
  name_refused {p} passed b least =
      is_refused
      (record { stage = name_stage; broken = name_breach read b; numbered = refl; smallest = λ {q} z. least q (named_in z); first = λ {s} {q} l z. passed s q (omega arith) z })

  pub name_passed : Passed S text 5 → ((q : ℕ) → ¬ NameBreach g q) → Passed S text 6
  name_passed passed none = passed_next S text 5 passed (λ q z. none q (named_in z))

  -- ---- 5

  pub type_refused : {p : ℕ} → Passed S text 6 → Misfit g p → ((q : ℕ) → Misfit g q → p ≤ q) → Answers S text (refused 5 p)
  type_refused {p} passed u least =
      is_refused
      (record { stage = type_stage; broken = misfit_breach read u; numbered = refl; smallest = λ {q} z. least q (breach_misfit read z); first = λ {s} {q} l z. passed s q (omega arith) z })

  pub type_passed : Passed S text 6 → ((q : ℕ) → ¬ Misfit g q) → Answers S text loads
  type_passed passed none = is_loaded read (λ s q. all s q (up-to s))
    where
      all : Passed S text 7
      all = passed_next S text 6 passed (λ q z. none q (breach_misfit read z))

      up-to : (s : Stage) → turn s ≤ 7
      up-to Refusals.text_stage = omega arith
      up-to Refusals.lexical_stage = omega arith
      up-to Refusals.count_stage = omega arith
      up-to Refusals.grammar_stage = omega arith
      up-to Refusals.left_out_stage = omega arith
      up-to Refusals.limit_stage = omega arith
      up-to name_stage = omega arith
      up-to type_stage = omega arith
