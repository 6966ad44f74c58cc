-- Each rule on names, worked: a small guideline and the places of all its breaches; the last rows break none. One statement over the list of rows, by computing the twin.
use Rattle.std.specs.Prelude.{ℕ, ◌≡◌, refl, Bool, true, ◌&&◌, pos}
use Prim.Native.String.{String}
use Rattle.std.proofs.Common.{sym, subst, ⊎_elim}
use mathlib.Core.List.Memᴰ
use mathlib.Core.List.{List, [], ◌∷◌, Memᴰ}
use Rattle.paper_expressions.specs.Bytes.{bytes}
use Rattle.paper_expressions.specs.Types.{an_integer}
use Rattle.paper_expressions.specs.Expressions.{IntegerLit}
use Rattle.paper_expressions.proofs.Laws.Tests.{and_l, and_r, every}
use Rattle.paper_grammar.proofs.Laws.Ll.{is_in, subset}
use Rattle.paper_guideline.specs.Structure
use Structure.{Name, Outermost, Placed, ComponentAttribute, schedule_constraint, terminal, caption, mandatory, Attribute, generic, precondition, postcondition, trigger, component, source}
use Structure.{plan, action, enquiry, TopLevel, task, data_item}
use Rattle.paper_guideline.specs.Names.{NameBreach}
use Rattle.paper_guideline.proofs.Laws.StructureLaws.{in_list}
use Rattle.paper_guideline.proofs.Laws.NameTwin.{name_places, name_breach_if, name_breach_in}

-- ---- small guidelines; a number is a place

abbrev n : String → ℕ → Name
n s p = record { spelt = bytes s; place = p }

abbrev at : {A : Type 0} → ℕ → A → Placed A
at p a = record { word = p; what = a }

-- 1, at its place
abbrev x : ℕ → Outermost
x p = record { start = p; tree = IntegerLit (pos 1) }

abbrev a_plan : Name → List (Placed Attribute) → TopLevel
a_plan m l = task (record { class = plan; named = m; attributes = l })

abbrev an_action : Name → List (Placed Attribute) → TopLevel
an_action m l = task (record { class = action; named = m; attributes = l })

abbrev an_enquiry : Name → List (Placed Attribute) → TopLevel
an_enquiry m l = task (record { class = enquiry; named = m; attributes = l })

abbrev an_item : Name → TopLevel
an_item m = data_item (record { named = m; declared = an_integer; attributes = [] })

abbrev part : ℕ → Name → List (Placed ComponentAttribute) → Placed Attribute
part p m l = at p (component m l)

-- ---- the rows

pub record Row : Type 0 where
  pub guideline : List TopLevel
  pub breaches : List ℕ

infix 2 ◌breaks-at◌
abbrev ◌breaks-at◌ : List TopLevel → List ℕ → Row
g breaks-at ps = record { guideline = g; breaches = ps }

abbrev apart_plans : List TopLevel
apart_plans = a_plan (n "p" 8) [] ∷ a_plan (n "q" 30) (part 33 (n "r" 46) [] ∷ []) ∷ a_plan (n "r" 70) (part 73 (n "q" 86) [] ∷ []) ∷ []

-- plan p with the components a and q, q waiting twice for a; the enquiry e, component of q, with two sources d; the action a; the data item d and one named a
abbrev a_good_one : List TopLevel
a_good_one =
    a_plan (n "p" 8) (part 11 (n "a" 24) [] ∷ part 27 (n "q" 40) (at 43 (schedule_constraint (n "a" 70)) ∷ at 75 (schedule_constraint (n "a" 102)) ∷ []) ∷ [])
    ∷ an_enquiry (n "e" 130) (at 133 (source (n "d" 143) (at 146 (mandatory true) ∷ [])) ∷ at 160 (source (n "d" 170) (at 173 (mandatory true) ∷ [])) ∷ at 190 (trigger (n "a" 200)) ∷ [])
    ∷ an_action (n "a" 220) (at 223 (postcondition (record { target = n "D" 240; value = x 244 } ∷ [])) ∷ [])
    ∷ a_plan (n "q" 260) (at 263 (generic (caption (x 274))) ∷ part 277 (n "e" 290) [] ∷ [])
    ∷ an_item (n "d" 310)
    ∷ an_item (n "a" 340)
    ∷ []

unfoldable pub rows : List Row
rows =
    -- plan p with the components a and b; the actions a, b and B
    ((a_plan (n "p" 8) (part 11 (n "a" 24) [] ∷ part 27 (n "b" 40) [] ∷ []) ∷ an_action (n "a" 66) [] ∷ an_action (n "b" 90) [] ∷ an_action (n "B" 114) [] ∷ []) breaks-at (114 ∷ []))
    -- the data items d and D
    ∷ ((a_plan (n "p" 8) [] ∷ an_item (n "d" 30) ∷ an_item (n "D" 60) ∷ []) breaks-at (60 ∷ []))
    -- two preconditions of one task
    ∷ ((a_plan (n "p" 8) (at 11 (precondition (x 27)) ∷ at 30 (precondition (x 46)) ∷ []) ∷ []) breaks-at (30 ∷ []))
    -- terminal twice in one component
    ∷ ((a_plan (n "p" 8) (part 11 (n "a" 24) (at 27 (terminal true) ∷ at 44 (terminal true) ∷ []) ∷ []) ∷ an_action (n "a" 80) [] ∷ []) breaks-at (44 ∷ []))
    -- mandatory twice in one source, which names no data item
    ∷ ((an_enquiry (n "e" 11) (at 14 (source (n "d" 24) (at 27 (mandatory true) ∷ at 46 (mandatory true) ∷ [])) ∷ []) ∷ []) breaks-at (24 ∷ 46 ∷ []))
    -- caption twice in one data item
    ∷ ((a_plan (n "p" 8) [] ∷ data_item (record { named = n "d" 30; declared = an_integer; attributes = at 50 (caption (x 60)) ∷ at 64 (caption (x 74)) ∷ [] }) ∷ []) breaks-at (64 ∷ []))
    -- a component that no task has the name of
    ∷ ((a_plan (n "p" 8) (part 11 (n "a" 24) [] ∷ []) ∷ []) breaks-at (24 ∷ []))
    -- the root as its own component
    ∷ ((a_plan (n "p" 8) (part 11 (n "p" 24) [] ∷ []) ∷ []) breaks-at (24 ∷ []))
    -- a component twice
    ∷ ((a_plan (n "p" 8) (part 11 (n "a" 24) [] ∷ part 27 (n "a" 40) [] ∷ []) ∷ an_action (n "a" 66) [] ∷ []) breaks-at (40 ∷ []))
    -- a task that is no component
    ∷ ((a_plan (n "p" 8) [] ∷ an_action (n "a" 30) [] ∷ []) breaks-at (30 ∷ []))
    -- the plans q and r, each a component of the other, reached by none
    ∷ (apart_plans breaks-at (30 ∷ 70 ∷ []))
    -- a schedule constraint on its own component
    ∷ ((a_plan (n "p" 8) (part 11 (n "a" 24) (at 27 (schedule_constraint (n "a" 60)) ∷ []) ∷ []) ∷ an_action (n "a" 90) [] ∷ []) breaks-at (60 ∷ []))
    -- and on no component of its plan
    ∷ ((a_plan (n "p" 8) (part 11 (n "a" 24) (at 27 (schedule_constraint (n "b" 60)) ∷ []) ∷ []) ∷ an_action (n "a" 90) [] ∷ []) breaks-at (60 ∷ []))
    -- an assignment to what is no data item
    ∷ ((a_plan (n "p" 8) (at 11 (postcondition (record { target = n "d" 28; value = x 32 } ∷ [])) ∷ []) ∷ an_item (n "e" 60) ∷ []) breaks-at (28 ∷ []))
    -- a source in another spelling than its data item
    ∷ ((an_enquiry (n "q" 11) (at 14 (source (n "D" 24) []) ∷ []) ∷ an_item (n "d" 60) ∷ []) breaks-at (24 ∷ []))
    -- two triggers of one task
    ∷ ((a_plan (n "p" 8) (at 11 (trigger (n "go" 20)) ∷ at 25 (trigger (n "come" 34)) ∷ []) ∷ []) breaks-at (25 ∷ []))
    -- none: the root alone
    ∷ ((a_plan (n "p" 8) [] ∷ []) breaks-at [])
    -- none: two components, one of them a plan that is defined behind its own; a name of both kinds; attributes that may stand again
    ∷ (a_good_one breaks-at [])
    ∷ []

-- a rule on names is broken at these places and at no other
pub record Exactly (g : List TopLevel) (ps : List ℕ) : Type 0 where
  pub there : (p : ℕ) → Memᴰ p ps → NameBreach g p
  pub only : (p : ℕ) → NameBreach g p → Memᴰ p ps

abbrev pub Every : List Row → Type 0
Every [] = Unit {0}
Every (r ∷ rs) = Exactly r.guideline r.breaches × Every rs

-- ---- the proof

abbrev alike : Row → Bool
alike r = subset (name_places r.guideline) r.breaches && subset r.breaches (name_places r.guideline)

all_alike : every alike rows ≡ true
unfolding rows
all_alike = refl

in_subset : {k : ℕ} (ks js : List ℕ) → subset ks js ≡ true → Memᴰ k ks → Memᴰ k js
in_subset [] js e m = absurd (Memᴰ.not-nil m)
in_subset {k} (i ∷ ks) js e m = ⊎_elim
    (λ (h : k ≡ i). subst (λ (j : ℕ). Memᴰ j js) (sym h) (in_list js i (and_l (is_in i js) (subset ks js) e)))
    (λ (h : Memᴰ k ks). in_subset ks js (and_r (is_in i js) (subset ks js) e) h)
    (Memᴰ.cases_cons m)

each_row : (rs : List Row) → every alike rs ≡ true → Every rs
each_row [] e = tt
each_row (r ∷ rs) e =
    let g = r.guideline in
    let ps = r.breaches in
    let h = and_l (alike r) (every alike rs) e in
    let k = and_l (subset (name_places g) ps) (subset ps (name_places g)) h in
    let l = and_r (subset (name_places g) ps) (subset ps (name_places g)) h in
    (record { there = λ p m. name_breach_if g (in_subset ps (name_places g) l m); only = λ p b. in_subset (name_places g) ps k (name_breach_in g b) }, each_row rs (and_r (alike r) (every alike rs) e))

pub worked_breaches : Every rows
worked_breaches = each_row rows all_alike
