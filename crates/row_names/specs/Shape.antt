-- What the rows of a guideline rely on: it begins with a task, and in each task the captions and descriptions come first.
-- Law: every structure has this shape. By the productions.
use Rattle.std.specs.Prelude.{ℕ, zero, suc, ◌<◌, ◌≡◌, refl, Bool, true, false, ◌⊎◌, List, [], ◌∷◌, ◌++◌, map, length}
use Rattle.std.proofs.Common.{sym, ap, subst, ◌∙◌, inl, inr, ⊎_elim, arith}
use Rattle.paper_expressions.specs.View.{At, at_first, at_later}
use Rattle.paper_expressions.proofs.Laws.Tests.{contra}
use Rattle.parts.specs.ItemLaws.{index_of}
use Rattle.paper_tokens.specs.Lexical.{Token}
use Rattle.paper_guideline.specs.Structure
use Structure.{Placed, Generic, Attribute, generic, precondition, wait_condition, terminate, postcondition, trigger, component, source, Class, Task, TopLevel, task, data_item, tasks}
use Structure.{Series, none, and_more, AttributeAt, a_precondition, a_wait_condition, a_postcondition, a_trigger, a_component, a_terminate_condition, a_source, TaskAt, a_task}
use Structure.{TopLevelAt, a_top_task, a_top_data_item, Structure, guideline}
use Rattle.row_names.specs.Pieces.{Mapped, map_at, Behind, at_either}

-- ---- definitions

abbrev pub is_generic : Attribute → Bool
is_generic (generic g) = true
is_generic (precondition x) = false
is_generic (wait_condition x) = false
is_generic (terminate x) = false
is_generic (postcondition xs) = false
is_generic (trigger n) = false
is_generic (component n xs) = false
is_generic (source n xs) = false

-- before a caption or description only such stand
pub record Leads (xs : List (Placed Attribute)) : Type 0 where
  pub before : {i j : ℕ} {a b : Placed Attribute} → i < j → At xs i a → At xs j b → is_generic b.what ≡ true → is_generic a.what ≡ true

pub record Shaped (g : List TopLevel) : Type 0 where
  pub root : Task
  pub first : At g 0 (task root)
  pub leads : {i : ℕ} {t : Task} → At (tasks g) i t → Leads t.attributes

-- ---- the law

not_generic : {k : Class} {w r : List Token} {a : Placed Attribute} → AttributeAt k w r a → is_generic a.what ≡ false
not_generic (a_precondition s) = refl
not_generic (a_wait_condition s) = refl
not_generic (a_postcondition t c s e) = refl
not_generic (a_trigger s) = refl
not_generic (a_component s xs) = refl
not_generic (a_terminate_condition s) = refl
not_generic (a_source s xs) = refl

rest_plain : {k : Class} {w r : List Token} {xs : List (Placed Attribute)} {i : ℕ} {a : Placed Attribute}
    → Series (AttributeAt k) w r xs → At xs i a → is_generic a.what ≡ false
rest_plain (and_more s m) at_first = not_generic s
rest_plain (and_more s m) (at_later h) = rest_plain m h
rest_plain {k = k} {i = i} {a = a} (none {r = r}) x5 = elim x5 [ ]

abbrev lead : Placed Generic → Placed Attribute
lead g = record { word = g.word; what = generic g.what }

module _ (gs : List (Placed Generic)) (xs : List (Placed Attribute)) (plain : (i : ℕ) (a : Placed Attribute) → At xs i a → is_generic a.what ≡ false) where
  not_behind : {i j : ℕ} {a b : Placed Attribute} → i < j → At (map lead gs ++ xs) j b → is_generic b.what ≡ true → ¬ Behind (map lead gs) xs i a
  not_behind {b = b} l k e p = ⊎_elim
      (λ q. let z = index_of q in let n = p.index in omega arith)
      (λ q. contra (sym (plain q.m b q.at) ∙ e))
      (at_either (map lead gs) k)

  leading : Leads (map lead gs ++ xs)
  leading = record {
    before = λ l h k e. ⊎_elim
        (λ p. let r = map_at lead gs p in ap (λ (x : Placed Attribute). is_generic x.what) r.is)
        (λ p. absurd (not_behind l k e p))
        (at_either (map lead gs) h);
  }

task_leads : {w r : List Token} {t : Task} → TaskAt w r t → Leads t.attributes
task_leads (a_task {gs = gs} {xs = xs} n g a e f d) = leading gs xs (λ i b h. rest_plain a h)

top_leads : {w r : List Token} {g : List TopLevel} {i : ℕ} {t : Task} → Series TopLevelAt w r g → At (tasks g) i t → Leads t.attributes
top_leads (and_more (a_top_task s) m) at_first = task_leads s
top_leads (and_more (a_top_task s) m) (at_later h) = top_leads m h
top_leads (and_more (a_top_data_item s) m) h = top_leads m h
top_leads {i = i} {t = t} (none {r = r}) h = elim h [ ]

all_lead : {w m : List Token} {root : Task} {tops : List TopLevel} {i : ℕ} {t : Task} → TaskAt w m root → Series TopLevelAt m [] tops → At (root ∷ tasks tops) i t → Leads t.attributes
all_lead s m at_first = task_leads s
all_lead s m (at_later h) = top_leads m h

pub structure_shaped : {ts : List Token} {g : List TopLevel} → Structure ts g → Shaped g
structure_shaped (guideline {root = root} s c m) = record { root = root; first = at_first; leads = λ h. all_lead s m h }
