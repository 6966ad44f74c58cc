-- Law: an expression and the same without its parentheses have the same types and come to the same values. By induction.
use Rattle.std.specs.Prelude.{◌≡◌, List, [], ◌∷◌, ℕ}
use Rattle.paper_expressions.specs.Values.{Scalar, Value}
use Rattle.paper_expressions.specs.Types.{Ty}
use Rattle.paper_expressions.specs.Clauses.{Clause}
use Rattle.paper_expressions.specs.View.{View}
use Rattle.paper_expressions.specs.Operators.{Op}
use Rattle.paper_expressions.specs.Expressions.{Expr, Exprs, Atom, IntegerLit, FloatLit, StringLit, Paren, Listing, Apply, ε, ◌▸◌}
use Rattle.paper_expressions.specs.Expressions.{HasType, rule_1b, rule_1c, rule_2, rule_3, rule_4, rule_5, rule_8_9, rule_10, HaveTypes, types_none, types_more}
use Rattle.paper_expressions.specs.Evaluation.{Evaluates, atom_data, atom_text, number_integer, number_float, string, parentheses, infix_form, functor_form, listing, Values, values_none, values_more}
pub use Rattle.paper_expressions.specs.Syntax.{bare, bares}
use Rattle.paper_expressions.proofs.Laws.Promise.{apply_fits, operands}

module _ (τ : View) (T : ℕ) where
  -- ---- the same types

  mutual
    pub type_to_bare : {e : Expr} {t : Ty} → HasType τ T e t → HasType τ T (bare e) t
    type_to_bare (rule_1b h k e) = rule_1b h k e
    type_to_bare (rule_1c m) = rule_1c m
    type_to_bare rule_2 = rule_2
    type_to_bare rule_3 = rule_3
    type_to_bare rule_4 = rule_4
    type_to_bare (rule_5 h) = type_to_bare h
    type_to_bare (rule_8_9 hs h) = rule_8_9 (types_to_bare hs) h
    type_to_bare (rule_10 hs h) = rule_10 (types_to_bare hs) h

    types_to_bare : {es : Exprs} {ts : List Ty} → HaveTypes τ T es ts → HaveTypes τ T (bares es) ts
    types_to_bare types_none = types_none
    types_to_bare (types_more h hs) = types_more (type_to_bare h) (types_to_bare hs)

  mutual
    pub type_of_bare : (e : Expr) {t : Ty} → HasType τ T (bare e) t → HasType τ T e t
    type_of_bare (Atom a) h = h
    type_of_bare (IntegerLit n) h = h
    type_of_bare (FloatLit n) h = h
    type_of_bare (StringLit s) h = h
    type_of_bare (Paren e) h = rule_5 (type_of_bare e h)
    type_of_bare (Listing es) (rule_8_9 hs h) = rule_8_9 (types_of_bare es hs) h
    type_of_bare (Apply o es) (rule_10 hs h) = rule_10 (types_of_bare es hs) h

    types_of_bare : (es : Exprs) {ts : List Ty} → HaveTypes τ T (bares es) ts → HaveTypes τ T es ts
    types_of_bare ε h = h
    types_of_bare (e ▸ es) (types_more h hs) = types_more (type_of_bare e h) (types_of_bare es hs)

  -- ---- the same value

  abbrev pub ComesTo : Expr → Value → Type 0
  ComesTo e w = (cs : List Clause) × Evaluates τ T e cs w

  mutual
    pub value_to_bare : {e : Expr} {cs : List Clause} {w : Value} → Evaluates τ T e cs w → ComesTo (bare e) w
    value_to_bare (atom_data h k) = (_, atom_data h k)
    value_to_bare (atom_text h) = (_, atom_text h)
    value_to_bare number_integer = (_, number_integer)
    value_to_bare number_float = (_, number_float)
    value_to_bare string = (_, string)
    value_to_bare (parentheses h) = value_to_bare h
    value_to_bare (infix_form i g h k) = (_, infix_form i (value_to_bare g).1 (value_to_bare h).1 k)
    value_to_bare (functor_form n hs k d) = (_, functor_form n (values_to_bare hs) k d)
    value_to_bare (listing hs h) = (_, listing (values_to_bare hs) h)

    values_to_bare : {es : Exprs} {ws : List Value} → Values τ T es ws → Values τ T (bares es) ws
    values_to_bare values_none = values_none
    values_to_bare (values_more h hs) = values_more (value_to_bare h).1 (values_to_bare hs)

  apply_of_bare : {o : Op} {es fs : Exprs} {cs : List Clause} {w : Value} → ((ws : List Value) → Values τ T fs ws → Values τ T es ws) → Evaluates τ T (Apply o fs) cs w → ComesTo (Apply o es) w
  apply_of_bare f h = let k = operands τ T h in apply_fits τ T (f k.0 k.2) k.3

  mutual
    pub value_of_bare : (e : Expr) {cs : List Clause} {w : Value} → Evaluates τ T (bare e) cs w → ComesTo e w
    value_of_bare (Atom a) h = (_, h)
    value_of_bare (IntegerLit n) h = (_, h)
    value_of_bare (FloatLit n) h = (_, h)
    value_of_bare (StringLit s) h = (_, h)
    value_of_bare (Paren e) h = (_, parentheses (value_of_bare e h).1)
    value_of_bare (Listing es) (listing hs h) = (_, listing (values_of_bare es hs) h)
    value_of_bare (Apply o es) h = apply_of_bare (λ ws hs. values_of_bare es hs) h

    values_of_bare : (es : Exprs) {ws : List Value} → Values τ T (bares es) ws → Values τ T es ws
    values_of_bare ε h = h
    values_of_bare (e ▸ es) (values_more h hs) = values_more (value_of_bare e h).1 (values_of_bare es hs)
