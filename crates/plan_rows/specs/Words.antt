-- Rows that begin with the word of an attribute of a task: from the attribute to its row, and back. By what the rows before it count.
use Rattle.std.specs.Prelude.{ℕ, suc, ◌-◌, ◌<◌, ◌≡◌, refl, true, false, List, eqb}
use Rattle.std.proofs.Common.{arith, sym, subst, ◌∙◌, eqb-true, eq-eqb}
use Rattle.paper_expressions.specs.View.{At}
use Rattle.paper_expressions.proofs.Laws.Search.{at_one}
use Rattle.paper_tokens.specs.Tokens.{“=”, “precondition”, “wait-condition”, “terminate”, “trigger”, “component”, “source”}
use Rattle.paper_guideline.specs.Structure
use Structure.{Name, Outermost, Placed, ComponentAttribute, SourceAttribute, Attribute, TopLevel, tasks}
use Rattle.paper_rows.specs.Load.{SetTaskAttribute, task_4}
use Rattle.paper_rows.proofs.Laws.Lawful.{Lawful, defined}
use Rattle.parts.specs.Part.{Table}
use Rattle.guideline_rows.specs.Rows.{Row, flatten, kind-of}
use Rattle.row_names.specs.Pieces.{piece_at}
use Rattle.row_names.specs.Sheet.{head_kind}
use Rattle.row_names.specs.Flat.{sub_kind}
use Rattle.paper_guideline.specs.Names.{word_of as attribute-word}
use Rattle.row_names.specs.Owners.{generic_kind}
use Rattle.plan.specs.Writes.{Outline, tasks_before}
use Rattle.plan_rows.specs.Owned.{first_row, rows_first, owned_of, owned_row}
use Rattle.plan_rows.specs.Seen.{Word, word_seen}
use Rattle.plan_rows.specs.Reads.{Reads}
use Rattle.plan_rows.specs.ReadLaws.{row_of, below, tasks_owned}

pub first_kind : (p : ℕ) (a : Attribute) → kind-of (first_row p a) ≡ attribute-word a
first_kind p (Structure.generic x) = generic_kind p x
first_kind p (Structure.precondition x) = refl
first_kind p (Structure.wait_condition x) = refl
first_kind p (Structure.terminate x) = refl
first_kind p (Structure.postcondition xs) = refl
first_kind p (Structure.trigger n) = refl
first_kind p (Structure.component n xs) = refl
first_kind p (Structure.source n xs) = refl

-- ---- the attributes of a word

pub only_precondition : (a : Attribute) → attribute-word a ≡ “precondition” → (x : Outermost) × (a ≡ Structure.precondition x)
only_precondition (Structure.generic (Structure.caption x)) e = absurd (omega arith)
only_precondition (Structure.generic (Structure.description x)) e = absurd (omega arith)
only_precondition (Structure.precondition x) e = (x, refl)
only_precondition (Structure.wait_condition x) e = absurd (omega arith)
only_precondition (Structure.terminate x) e = absurd (omega arith)
only_precondition (Structure.postcondition xs) e = absurd (omega arith)
only_precondition (Structure.trigger n) e = absurd (omega arith)
only_precondition (Structure.component n xs) e = absurd (omega arith)
only_precondition (Structure.source n xs) e = absurd (omega arith)

pub only_wait_condition : (a : Attribute) → attribute-word a ≡ “wait-condition” → (x : Outermost) × (a ≡ Structure.wait_condition x)
only_wait_condition (Structure.generic (Structure.caption x)) e = absurd (omega arith)
only_wait_condition (Structure.generic (Structure.description x)) e = absurd (omega arith)
only_wait_condition (Structure.precondition x) e = absurd (omega arith)
only_wait_condition (Structure.wait_condition x) e = (x, refl)
only_wait_condition (Structure.terminate x) e = absurd (omega arith)
only_wait_condition (Structure.postcondition xs) e = absurd (omega arith)
only_wait_condition (Structure.trigger n) e = absurd (omega arith)
only_wait_condition (Structure.component n xs) e = absurd (omega arith)
only_wait_condition (Structure.source n xs) e = absurd (omega arith)

pub only_terminate : (a : Attribute) → attribute-word a ≡ “terminate” → (x : Outermost) × (a ≡ Structure.terminate x)
only_terminate (Structure.generic (Structure.caption x)) e = absurd (omega arith)
only_terminate (Structure.generic (Structure.description x)) e = absurd (omega arith)
only_terminate (Structure.precondition x) e = absurd (omega arith)
only_terminate (Structure.wait_condition x) e = absurd (omega arith)
only_terminate (Structure.terminate x) e = (x, refl)
only_terminate (Structure.postcondition xs) e = absurd (omega arith)
only_terminate (Structure.trigger n) e = absurd (omega arith)
only_terminate (Structure.component n xs) e = absurd (omega arith)
only_terminate (Structure.source n xs) e = absurd (omega arith)

pub only_trigger : (a : Attribute) → attribute-word a ≡ “trigger” → (n : Name) × (a ≡ Structure.trigger n)
only_trigger (Structure.generic (Structure.caption x)) e = absurd (omega arith)
only_trigger (Structure.generic (Structure.description x)) e = absurd (omega arith)
only_trigger (Structure.precondition x) e = absurd (omega arith)
only_trigger (Structure.wait_condition x) e = absurd (omega arith)
only_trigger (Structure.terminate x) e = absurd (omega arith)
only_trigger (Structure.postcondition xs) e = absurd (omega arith)
only_trigger (Structure.trigger n) e = (n, refl)
only_trigger (Structure.component n xs) e = absurd (omega arith)
only_trigger (Structure.source n xs) e = absurd (omega arith)

pub only_component : (a : Attribute) → attribute-word a ≡ “component” → (n : Name) × (xs : List (Placed ComponentAttribute)) × (a ≡ Structure.component n xs)
only_component (Structure.generic (Structure.caption x)) e = absurd (omega arith)
only_component (Structure.generic (Structure.description x)) e = absurd (omega arith)
only_component (Structure.precondition x) e = absurd (omega arith)
only_component (Structure.wait_condition x) e = absurd (omega arith)
only_component (Structure.terminate x) e = absurd (omega arith)
only_component (Structure.postcondition xs) e = absurd (omega arith)
only_component (Structure.trigger n) e = absurd (omega arith)
only_component (Structure.component n xs) e = (n, xs, refl)
only_component (Structure.source n xs) e = absurd (omega arith)

pub only_source : (a : Attribute) → attribute-word a ≡ “source” → (n : Name) × (xs : List (Placed SourceAttribute)) × (a ≡ Structure.source n xs)
only_source (Structure.generic (Structure.caption x)) e = absurd (omega arith)
only_source (Structure.generic (Structure.description x)) e = absurd (omega arith)
only_source (Structure.precondition x) e = absurd (omega arith)
only_source (Structure.wait_condition x) e = absurd (omega arith)
only_source (Structure.terminate x) e = absurd (omega arith)
only_source (Structure.postcondition xs) e = absurd (omega arith)
only_source (Structure.trigger n) e = absurd (omega arith)
only_source (Structure.component n xs) e = absurd (omega arith)
only_source (Structure.source n xs) e = (n, xs, refl)

-- ---- rows

module _ {g : List TopLevel} {s : Outline} {p : Table} (reads : Reads s p g) where
  -- the row of a word, with what it is of
  pub word_at : (w q : ℕ) → q < s.count → eqb (s.kind q) w ≡ true → head_kind w ≡ false → sub_kind w ≡ false → eqb w “=” ≡ false → (r : Row) × Word g q r w
  word_at w q l e a b c = let r = row_of reads q l in (r.0, word_seen g r.1 (sym (reads.kind r.1) ∙ eqb-true (s.kind q) w e) a b c)

  pub word_row : {w q : ℕ} {r : Row} (x : Word g q r w) → At (flatten g) q (first_row x.b.word x.b.what)
  word_row {q = q} x = subst (λ (z : Row). At (flatten g) q z) (at_one x.owned.at (rows_first x.b.word x.b.what)) (owned_row x.owned)

  module _ (lawful : Lawful g) where
    pub word_set : {w q : ℕ} {r : Row} (x : Word g q r w) → SetTaskAttribute g x.T x.b.what
    word_set x = task_4 (lawful.reached x.owned.stands.at) (piece_at x.owned.piece)

  pub record SetRow (T : ℕ) (a : Attribute) : Type 0 where
    pub q : ℕ
    pub below : q < s.count
    pub word : eqb (s.kind q) (attribute-word a) ≡ true
    pub tasks : tasks_before s q ≡ suc T

  pub set_row : {T : ℕ} {a : Attribute} → SetTaskAttribute g T a → SetRow T a
  set_row {a = a} (task_4 {w = w} i h) =
      let o = owned_of g (defined i) h (rows_first w a) in
      record { q = o.0; below = below reads (owned_row o.1); word = eq-eqb (s.kind o.0) (attribute-word a) (reads.kind (owned_row o.1) ∙ first_kind w a); tasks = tasks_owned reads o.1 }
