-- The last steps: a type or none, and the value; each ends in an answer that is written.
use Rattle.std.specs.Prelude.{ℕ, ◌≡◌, refl, List, length}
use Rattle.std.proofs.Common.{eq-eqb}
use Rattle.paper_expressions.proofs.Laws.Search.{no_clash}
use Rattle.paper_expressions.specs.Types.{Ty}
use Rattle.paper_expressions.specs.Expressions.{HasType}
use Rattle.paper_guideline.specs.Limits.{depth_limit}
use Rattle.paper_guideline.specs.Line.{no_items, refused, answer_written}
use Rattle.parts.specs.Part.{Table}
use Rattle.resolution.specs.Letters.{letter, letter_some, Outcome, is, none}
use Rattle.typer.specs.Typed.{Typed}
use Rattle.values.specs.declared.value.Value.{Value}
use Rattle.values.specs.Meaning.{meaning_v}
use Rattle.evaluator.specs.Columns.{columns}
use Rattle.evaluator.specs.Published.{Published}
use Rattle.digits.specs.Appends.{Appends}
use Rattle.written.specs.Named.{OfType, answer_of}
use Rattle.line_answer.specs.Reply.{Answered}
use Rattle.line_answer.specs.Steps.{Blank, Held, Worth}
use Rattle.line_answer.specs.Stages.{untyped, given}
use Rattle.line_answer.specs.Given.{type_is, value_is, value_limited}
use Rattle.line_answer.specs.Writing.{refuses, answers}

no_type : {P : Ty → Type 0} {r : ℕ} → Outcome P r → r ≡ 0 → (t : Ty) → ¬ P t
no_type (is {t = u} h) e = absurd (no_clash (cc (letter_some u, eq-eqb (letter u) 0 e)))
no_type (none m) e = m

a_type : {P : Ty → Type 0} {r : ℕ} → Outcome P r → ¬ (r ≡ 0) → (t : Ty) × (r ≡ letter t) × P t
a_type (is {t} h) n = (t, refl, h)
a_type (none m) n = absurd (n refl)

module _ {line : List ℕ} {t : Table} {names : List ℕ} {end x : ℕ} (h : Held line t end) (empty : length names ≡ 0) where
  outcome : {types : List ℕ} → Typed t names types 0 end depth_limit x → Outcome (HasType no_items 0 h.expression) x
  outcome typed = type_is h.expression empty h.ends h.deep typed

  module _ {out cells : List ℕ} {r : ℕ} (o : Blank out) where
    pub without_type : {types : List ℕ} → Typed t names types 0 end depth_limit x → x ≡ 0 → Appends out cells 0 r (answer_written (refused 5)) → Answered line (length out) cells r
    without_type typed e w = refuses o (untyped h.tree.its h.tree.tree h.before (no_type (outcome typed) e)) w

    pub with_type : {types : List ℕ} → Typed t names types 0 end depth_limit x → ¬ (x ≡ 0) → Worth t end x (length out) cells r → Answered line (length out) cells r
    with_type typed n w = let k = a_type (outcome typed) n in w line h k.0 k.1 k.2

    -- the value, of a type that is known
    pub with_value : {tags items ts states : List ℕ} (v : Value) {ty : Ty} → length ts ≡ 0 → Published t (columns names tags items ts states) 0 end depth_limit v
        → OfType x out cells 0 r (answer_of (meaning_v t.bytes v)) → x ≡ letter ty → HasType no_items 0 h.expression ty → Answered line (length out) cells r
    with_value v {ty} e p w q k =
        let i = value_is h.expression empty h.ends h.deep v e h.modest k p in
        answers o (value_limited i h.modest) (given h.tree.its h.tree.tree h.before k i.fits) (w.wrote ty q)
