-- The parts of one guideline that has every attribute, worked: its expressions with what each has to be and the task that each is attached to, and its components, sources and assignments.
use Rattle.std.specs.Prelude.{ℕ, ◌≡◌, refl, true, List, [], ◌∷◌, map, pos}
use Prim.Native.String.{String}
use Rattle.paper_expressions.specs.Bytes.{bytes}
use Rattle.paper_expressions.specs.Types.{an_integer}
use Rattle.paper_expressions.specs.Expressions.{IntegerLit}
use Rattle.paper_guideline.specs.Structure
use Structure.{Name, Outermost, Placed, Assignment, schedule_constraint, terminal, caption, description, source_generic, mandatory}
use Structure.{generic, precondition, wait_condition, terminate, postcondition, trigger, component, source, plan, action, enquiry, TopLevel, task, data_item}
use Rattle.paper_guideline.specs.Parts.{Role, condition, wording, assigned_to, Typed, expressions, assignments, Component, components, Source, sources}

abbrev n : String → ℕ → Name
n s p = record { spelt = bytes s; place = p }

abbrev at : {A : Type 0} → ℕ → A → Placed A
at p a = record { word = p; what = a }

abbrev x : ℕ → Outermost
x p = record { start = p; tree = IntegerLit (pos 1) }

-- a plan p, a data item d, an enquiry e and an action a; numbers are places
abbrev whole : List TopLevel
whole =
    task (record {
      class = plan;
      named = n "p" 1;
      attributes =
          at 2 (generic (caption (x 3)))
          ∷ at 4 (generic (description (x 5)))
          ∷ at 6 (component (n "e" 7) (at 8 (terminal true) ∷ []))
          ∷ at 9 (component (n "a" 10) (at 11 (schedule_constraint (n "e" 12)) ∷ []))
          ∷ at 13 (terminate (x 14))
          ∷ [];
    })
    ∷ data_item (record { named = n "d" 20; declared = an_integer; attributes = at 21 (caption (x 22)) ∷ [] })
    ∷ task (record {
      class = enquiry;
      named = n "e" 30;
      attributes =
          at 31 (precondition (x 32))
          ∷ at 33 (source (n "d" 34) (at 35 (source_generic (caption (x 36))) ∷ at 37 (mandatory true) ∷ []))
          ∷ [];
    })
    ∷ task (record {
      class = action;
      named = n "a" 40;
      attributes =
          at 41 (wait_condition (x 42))
          ∷ at 43 (postcondition (record { target = n "d" 44; value = x 45 } ∷ record { target = n "d" 46; value = x 47 } ∷ []))
          ∷ at 48 (trigger (n "t" 49))
          ∷ [];
    })
    ∷ []

abbrev shown : Typed → ℕ × Role × ℕ
shown t = (t.expression.start, t.role, t.attached)

pub expressions_worked : map shown (expressions whole)
    ≡ (3, wording, 0) ∷ (5, wording, 0) ∷ (14, condition, 0) ∷ (22, wording, 0) ∷ (32, condition, 1) ∷ (36, wording, 1)
    ∷ (42, condition, 2) ∷ (45, assigned_to (n "d" 44), 2) ∷ (47, assigned_to (n "d" 46), 2) ∷ []
expressions_worked = refl

pub components_worked : map (λ (c : Component). c.named.place) (components whole) ≡ 7 ∷ 10 ∷ []
components_worked = refl

pub sources_worked : map (λ (s : Source). s.named.place) (sources whole) ≡ 34 ∷ []
sources_worked = refl

pub assignments_worked : map (λ (a : Assignment). a.target.place) (assignments whole) ≡ 44 ∷ 46 ∷ []
assignments_worked = refl
