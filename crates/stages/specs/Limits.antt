-- The limits that load tests after what is left out, as one test each over the tokens, over the expressions and over the whole; and that together they are the stage's breaches. By the one structure that the tokens have.
use Rattle.std.specs.Prelude.{ℕ, ◌<◌, ◌≡◌, refl, List, length}
use Rattle.std.proofs.Common.{arith, sym, subst, inl, inr}
use Rattle.std.proofs.Math.Option.{none, some}
use Rattle.paper_expressions.specs.View.{At}
use Rattle.paper_tokens.specs.Lexical.{Token, Tokens}
use Rattle.paper_tokens.proofs.Laws.LexicalLaws as LexicalLaws
use Rattle.paper_guideline.specs.Structure.{TopLevel, Structure, tasks, data_items}
use Rattle.paper_guideline.proofs.Laws.StructureLaws.{one_structure}
use Rattle.paper_guideline.specs.Parts.{expressions, assignments, sources}
use Rattle.paper_guideline.specs.Limits.{task_limit, data_item_limit, part_limit, assignment_limit, source_limit}
use Rattle.paper_guideline.specs.Refusals
use Refusals.{limit_stage, Breach, Read, total_parts}
use Refusals.{token_breach, too_deep, long_list, many_tasks, many_data_items, many_parts, many_assignments, many_sources, short_table}
use Rattle.token_tests.specs.Reply.{OverLimit}
use Rattle.guideline_rows.specs.TallyLaws.{TooLarge, breaks_large}
use Rattle.stages.specs.Stages.{Passed, passed_next, Turned}
use Rattle.stages.specs.Least.{Least, Either}

-- a whole count is passed, or a lent table is too short
pub data CountOver (Short : Type 0) (g : List TopLevel) : Type 0 where
  tasks_over : task_limit < length (tasks g) → CountOver Short g
  data_items_over : data_item_limit < length (data_items g) → CountOver Short g
  parts_over : part_limit < total_parts (expressions g) → CountOver Short g
  assignments_over : assignment_limit < length (assignments g) → CountOver Short g
  sources_over : source_limit < length (sources g) → CountOver Short g
  short_over : Short → CountOver Short g

-- at the text's length
pub record WholeOver (Short : Type 0) (text : List ℕ) (g : List TopLevel) (p : ℕ) : Type 0 where
  pub over : CountOver Short g
  pub place : p ≡ length text

module _ (Short : Type 0) (text : List ℕ) {ts : List Token} {g : List TopLevel} (its : Tokens text 0 ts) (structure : Structure ts g) where
  abbrev pub Over : ℕ → Type 0
  Over = Either (OverLimit ts) (Either (TooLarge g) (WholeOver Short text g))

  read : Read text g
  read = record { tokens = ts; its = its; structure = structure }

  same_guideline : {h : List TopLevel} → Read text h → h ≡ g
  same_guideline {h} r = one_structure (subst (λ (v : List Token). Structure v h) (LexicalLaws.one_list r.its its) r.structure) structure

  whole : (p : ℕ) → CountOver Short g → p ≡ length text → Over p
  whole p c e = inr (inr (record { over = c; place = e }))

  over_of : {p : ℕ} → Breach Short text limit_stage p → Over p
  over_of (token_breach {i} {t} a h b) =
      inl (record { index = i; token = t; there = subst (λ (v : List Token). At v i t) (LexicalLaws.one_list a its) h; breach = b; place = refl })
  over_of (too_deep {i} {x} r h b) =
      inr (inl (record { i = i; x = x; at = subst (λ (v : List TopLevel). At (expressions v) i x) (same_guideline r) h; large = inl b; start = refl }))
  over_of (long_list {i} {x} r h b) =
      inr (inl (record { i = i; x = x; at = subst (λ (v : List TopLevel). At (expressions v) i x) (same_guideline r) h; large = inr b; start = refl }))
  over_of (many_tasks r b) = whole _ (tasks_over (subst (λ (v : List TopLevel). task_limit < length (tasks v)) (same_guideline r) b)) refl
  over_of (many_data_items r b) = whole _ (data_items_over (subst (λ (v : List TopLevel). data_item_limit < length (data_items v)) (same_guideline r) b)) refl
  over_of (many_parts r b) = whole _ (parts_over (subst (λ (v : List TopLevel). part_limit < total_parts (expressions v)) (same_guideline r) b)) refl
  over_of (many_assignments r b) = whole _ (assignments_over (subst (λ (v : List TopLevel). assignment_limit < length (assignments v)) (same_guideline r) b)) refl
  over_of (many_sources r b) = whole _ (sources_over (subst (λ (v : List TopLevel). source_limit < length (sources v)) (same_guideline r) b)) refl
  over_of (short_table s) = whole _ (short_over s) refl

  of_count : CountOver Short g → Breach Short text limit_stage (length text)
  of_count (tasks_over b) = many_tasks read b
  of_count (data_items_over b) = many_data_items read b
  of_count (parts_over b) = many_parts read b
  of_count (assignments_over b) = many_assignments read b
  of_count (sources_over b) = many_sources read b
  of_count (short_over s) = short_table s

  breach_of : (p : ℕ) → Over p → Breach Short text limit_stage p
  breach_of p (inl o) = subst (λ (q : ℕ). Breach Short text limit_stage q) (sym o.place) (token_breach its o.there o.breach)
  breach_of p (inr (inl o)) = breaks_large read o
  breach_of p (inr (inr o)) = subst (λ (q : ℕ). Breach Short text limit_stage q) (sym o.place) (of_count o.over)

  -- ---- 6, for all else

  pub limit_refused : {p : ℕ} → Passed Short text 4 → Least Over (some p) → Turned Short text 6 p
  limit_refused {p} h l = record {
    refused = record {
      stage = limit_stage;
      broken = breach_of p l.0;
      numbered = refl;
      smallest = λ {q} b. l.1 q (over_of b);
      first = λ {s} {q} m b. h s q (omega arith) b;
    };
    stage = omega arith;
  }

  pub limit_passed : Passed Short text 4 → Least Over none → Passed Short text 5
  limit_passed h n = passed_next Short text 4 h (λ q b. n q (over_of b))
