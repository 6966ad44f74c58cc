-- Laws: a field by the test on its type, and by what reading answered.
use Rattle.std.specs.Prelude.{◌≡◌, refl, Bool, List, ℕ, ℤ}
use Rattle.std.proofs.Common.{sym, ap, ◌∙◌}
use Rattle.std.proofs.Math.Path.{subst}
use Rattle.paper_expressions.proofs.Laws.Search.{no_clash}
use Rattle.paper_expressions.specs.Values as paper
use Rattle.typed_value.specs.Elements.{Found, wrong}
use Rattle.typed_value.specs.Cells.{texts_with}
use Rattle.typed_value.specs.Readings.{ReadAs, read_value, read_wrong}
use Rattle.typed_value.specs.declared.steps.Slip.{Slip}
use Rattle.typed_value.specs.declared.Typed.{Typed}
use Rattle.typed_value.specs.declared.Typed.TheVariants.{Value, Wrong}
use Rattle.field_values.specs.Reading.{text_type, refusal_by, field_by, field_as, FieldRead, field_value, field_wrong}

pub unknown_bytes : (b : List ℕ) → b ≡ texts_with (paper.one paper.unknown) b
unfolding texts_with
unknown_bytes b = refl

module _ (d : ℕ) {t : List ℕ} {n : List ℤ} {b t' : List ℕ} {n' : List ℤ} {b' : List ℕ} where
  pub read_as : (field : List ℕ) {u : Bool} {r : ℕ} (v : Bool) → u ≡ text_type d → u ≡ v → FieldRead d t n b t' n' b' r (field_by v field) → FieldRead d t n b t' n' b' r (field_as d field)
  unfolding field_as
  read_as field {r = r} v e f h = subst (λ (x : Bool). FieldRead d t n b t' n' b' r (field_by x field)) (sym f ∙ e) h

  pub as_value : {o : Found paper.Value} {q : Typed} → ReadAs t n b t' n' b' q o → q ≡ Value → FieldRead d t n b t' n' b' 0 o
  as_value (read_value x y z) e = field_value x y z
  as_value read_wrong e = absurd (no_clash (cc))

  pub as_wrong : {o : Found paper.Value} {q : Typed} {k : Slip} {p r : ℕ} → ReadAs t n b t' n' b' q o → q ≡ Wrong k p → r ≡ refusal_by k d → FieldRead d t n b t' n' b' r o
  as_wrong (read_value x y z) e f = absurd (no_clash (cc))
  as_wrong {k = k} (read_wrong {k = l} {p = p}) e f =
      let z : l ≡ k = cc in
      subst (λ (y : ℕ). FieldRead d t n b t' n' b' y (wrong l p)) (sym (f ∙ ap (λ (y : Slip). refusal_by y d) (sym z))) field_wrong
