-- The law that the types of atoms and constants are the rules'. By cases.
use Rattle.std.specs.Prelude.{◌≡◌, refl, List, ℕ, ◌≤◌, ◌<◌, get_or, length}
use Rattle.std.proofs.Common.{sym, ap, subst, ◌∙◌, arith}
use Rattle.paper_expressions.specs.Types.{Declared, inferred, a_text, an_integer, a_boolean, a_datetime, a_date, a_time, a_real, a_setof_text, a_setof_integer, a_setof_real}
use Rattle.paper_expressions.specs.Expressions.{Atom, IntegerLit, FloatLit, StringLit, Paren, Listing, Apply, HasType, rule_1b, rule_1c, rule_2, rule_3, rule_4}
use Rattle.parts.specs.Codes.{declared_code}
use Rattle.parts.specs.CodeRange.{operator_code}
use Rattle.parts.specs.Items.{Found}
use Rattle.parts.specs.ItemLaws.{resolved, unresolved}
use Rattle.resolution.specs.Letters.{letter, Outcome, is, as_is}
use Rattle.typer.specs.Leaves.{inferred_of, AtomTyped, LeafTyped, leaf_of}

pub inferred_letter : (d : Declared) → inferred_of (declared_code d) ≡ letter (inferred d)
inferred_letter a_text = refl
inferred_letter an_integer = refl
inferred_letter a_boolean = refl
inferred_letter a_datetime = refl
inferred_letter a_date = refl
inferred_letter a_time = refl
inferred_letter a_real = refl
inferred_letter a_setof_text = refl
inferred_letter a_setof_integer = refl
inferred_letter a_setof_real = refl

pub atom_item : (b names types : List ℕ) (T h i r : ℕ) → Found b names h i → i < length names → r ≡ inferred_of (get_or types i 0) → AtomTyped b names types T h r
atom_item b names types T h i r f l e v held =
    let x = resolved held f l in
    as_is (inferred x.0.declared) (e ∙ ap inferred_of (held.typed x.1) ∙ inferred_letter x.0.declared) (rule_1b x.1 x.2 refl)

pub atom_text : (b names types : List ℕ) (T h i : ℕ) → Found b names h i → length names ≤ i → AtomTyped b names types T h 84
atom_text b names types T h i f l v held = is (rule_1c (unresolved held f l))

pub leaf_typed : (b names types : List ℕ) (T k x a r : ℕ) → (k ≡ 1 → AtomTyped b names types T x a) → r ≡ leaf_of k a → LeafTyped b names types T k x r
leaf_typed b names types T k x a r f y v (Atom n) held e l h =
    subst (Outcome (HasType v T (Atom n))) (sym (y ∙ ap (λ (m : ℕ). leaf_of m a) e)) (subst (λ (s : List ℕ). Outcome (HasType v T (Atom s)) a) h (f e v held))
leaf_typed b names types T k x a r f y v (IntegerLit n) held e l h = subst (Outcome (HasType v T (IntegerLit n))) (sym (y ∙ ap (λ (m : ℕ). leaf_of m a) e)) (is rule_2)
leaf_typed b names types T k x a r f y v (FloatLit n) held e l h = subst (Outcome (HasType v T (FloatLit n))) (sym (y ∙ ap (λ (m : ℕ). leaf_of m a) e)) (is rule_3)
leaf_typed b names types T k x a r f y v (StringLit n) held e l h = subst (Outcome (HasType v T (StringLit n))) (sym (y ∙ ap (λ (m : ℕ). leaf_of m a) e)) (is rule_4)
leaf_typed b names types T k x a r f y v (Paren n) held e l h = absurd h
leaf_typed b names types T k x a r f y v (Listing es) held e l h = absurd (omega arith)
leaf_typed b names types T k x a r f y v (Apply o es) held e l h = let c = operator_code o in absurd (omega arith)
