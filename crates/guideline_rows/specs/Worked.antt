-- The rows of one guideline that has every attribute, worked.
use Rattle.std.specs.Prelude.{ℕ, ◌≡◌, refl, true, false, List, [], ◌∷◌, map, pos}
use Prim.Native.String.{String}
use Rattle.paper_expressions.specs.Bytes.{bytes}
use Rattle.paper_expressions.specs.Types.{an_integer}
use Rattle.paper_expressions.specs.Expressions.{IntegerLit}
use Rattle.paper_guideline.specs.Structure
use Structure.{Name, Outermost, Placed, schedule_constraint, terminal, caption, description, source_generic, mandatory}
use Structure.{generic, precondition, wait_condition, terminate, postcondition, trigger, component, source, plan, action, enquiry, TopLevel, task, data_item}
use Rattle.guideline_rows.specs.Rows.{a_task, a_data_item, with_expression, with_name, with_answer, a_postcondition, an_assignment, flatten, kind-of}

abbrev n : String → ℕ → Name
n s p = record { spelt = bytes s; place = p }

abbrev at : {A : Type 0} → ℕ → A → Placed A
at p a = record { word = p; what = a }

abbrev x : ℕ → Outermost
x p = record { start = p; tree = IntegerLit (pos 1) }

-- numbers are places
abbrev whole : List TopLevel
whole =
    task (record {
      class = plan;
      named = n "p" 1;
      attributes =
          at 2 (generic (caption (x 3)))
          ∷ at 4 (component (n "e" 5) (at 6 (terminal true) ∷ []))
          ∷ at 7 (component (n "a" 8) (at 9 (schedule_constraint (n "e" 10)) ∷ []))
          ∷ at 11 (terminate (x 12))
          ∷ [];
    })
    ∷ data_item (record { named = n "d" 20; declared = an_integer; attributes = at 21 (description (x 22)) ∷ [] })
    ∷ task (record {
      class = enquiry;
      named = n "e" 30;
      attributes =
          at 31 (precondition (x 32))
          ∷ at 33 (source (n "d" 34) (at 35 (source_generic (caption (x 36))) ∷ at 37 (mandatory false) ∷ []))
          ∷ [];
    })
    ∷ task (record {
      class = action;
      named = n "a" 40;
      attributes =
          at 41 (wait_condition (x 42))
          ∷ at 43 (postcondition (record { target = n "d" 44; value = x 45 } ∷ record { target = n "d" 46; value = x 47 } ∷ []))
          ∷ at 48 (trigger (n "t" 49))
          ∷ [];
    })
    ∷ []

-- by kind: 49 plan, 10 caption, 13 component, 64 terminal, 57 schedule_constraint, 65 terminate, 18 data, 23 description, 26 enquiry, 51 precondition,
-- 60 source, 35 mandatory, 1 action, 70 wait_condition, 50 postcondition, 81 an assignment, 66 trigger
in_order : flatten whole
    ≡ a_task plan (n "p" 1)
    ∷ with_expression 10 2 (x 3)
    ∷ with_name 13 4 (n "e" 5)
    ∷ with_answer 64 6 true
    ∷ with_name 13 7 (n "a" 8)
    ∷ with_name 57 9 (n "e" 10)
    ∷ with_expression 65 11 (x 12)
    ∷ a_data_item (n "d" 20) an_integer
    ∷ with_expression 23 21 (x 22)
    ∷ a_task enquiry (n "e" 30)
    ∷ with_expression 51 31 (x 32)
    ∷ with_name 60 33 (n "d" 34)
    ∷ with_expression 10 35 (x 36)
    ∷ with_answer 35 37 false
    ∷ a_task action (n "a" 40)
    ∷ with_expression 70 41 (x 42)
    ∷ a_postcondition 43
    ∷ an_assignment (record { target = n "d" 44; value = x 45 })
    ∷ an_assignment (record { target = n "d" 46; value = x 47 })
    ∷ with_name 66 48 (n "t" 49)
    ∷ []
in_order = refl

kinds : map kind-of (flatten whole) ≡ 49 ∷ 10 ∷ 13 ∷ 64 ∷ 13 ∷ 57 ∷ 65 ∷ 18 ∷ 23 ∷ 26 ∷ 51 ∷ 60 ∷ 10 ∷ 35 ∷ 1 ∷ 70 ∷ 50 ∷ 81 ∷ 81 ∷ 66 ∷ []
kinds = refl
