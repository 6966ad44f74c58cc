-- Laws for load: a text that breaks no stage before gives what check asks for, and what check tells are the breaches of the stage of types. By the one structure of the text.
use Rattle.std.specs.Prelude.{ℕ, ◌≤◌, ◌<◌, ◌≡◌, refl, List, length}
use Rattle.std.proofs.Common.{sym, subst, arith}
use Rattle.paper_expressions.specs.View.{At}
use Rattle.paper_guideline.specs.Structure.{TopLevel, data_items}
use Rattle.paper_guideline.specs.Limits.{token_limit, data_item_limit}
use Rattle.paper_guideline.specs.Names.{NameBreach}
use Rattle.paper_guideline.specs.Parts.{expressions}
use Rattle.paper_guideline.specs.Refusals.{count_stage, limit_stage, type_stage, declared_items, Fitting, Read, Breach, many_tokens, many_data_items, no_type}
use Rattle.paper_guideline.proofs.Laws.StageTwin.{one_read}
use Rattle.parts.specs.Part.{Table}
use Rattle.guideline_rows.specs.Rows.{flatten}
use Rattle.guideline_rows.specs.Encoded.{Encoded}
use Rattle.guideline_rows.specs.FlatLaws.{few_rows}
use Rattle.guideline_rows.specs.LimitLaws.{in_limits}
use Rattle.row_tests.specs.Table.{row_limit}
use Rattle.types.specs.Judged.{Misfit, Given}

pub within : {n m : ℕ} → ¬ (m < n) → n ≤ m
within h = omega arith

module _ {Short : Type 0} {text : List ℕ} {g : List TopLevel} (read : Read text g) where
  pub rows_within : {n : ℕ} → n ≡ length (flatten g) → ((p : ℕ) → ¬ Breach Short text count_stage p) → n ≤ row_limit
  rows_within c counts = let f = few_rows read.structure in let w : length read.tokens ≤ token_limit = within (λ l. counts (length text) (many_tokens read.its l)) in omega arith

  pub items_within : ((p : ℕ) → ¬ Breach Short text limit_stage p) → length (data_items g) ≤ data_item_limit
  items_within limits = within (λ l. limits (length text) (many_data_items read l))

  pub given_of : {x : List ℕ} {n : ℕ} {t : Table} → Encoded (flatten g) x t → n ≡ length (flatten g)
      → ((p : ℕ) → ¬ Breach Short text count_stage p) → ((p : ℕ) → ¬ Breach Short text limit_stage p) → ((p : ℕ) → ¬ NameBreach g p) → Given x n t g
  given_of e c counts limits names = record { encoded = e; limits = in_limits read limits; count = c; few_rows = rows_within c counts; few_items = items_within limits; names = names }

pub misfit_breach : {Short : Type 0} {text : List ℕ} {g : List TopLevel} {p : ℕ} → Read text g → Misfit g p → Breach Short text type_stage p
misfit_breach {Short} {text} read m = subst (Breach Short text type_stage) (sym m.there) (no_type read m.at m.misfit)

pub breach_misfit : {Short : Type 0} {text : List ℕ} {g : List TopLevel} {p : ℕ} → Read text g → Breach Short text type_stage p → Misfit g p
breach_misfit {g = g} read (no_type {i} {x} r h n) =
    let e = one_read r read in
    record { i = i; x = x; at = subst (λ (k : List TopLevel). At (expressions k) i x) e h; misfit = subst (λ (k : List TopLevel). ¬ Fitting (declared_items k) x x.role) e n; there = refl }
