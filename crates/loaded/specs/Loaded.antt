-- Law: the tables that load leaves hold the state that the published call leaves: the loaded guideline with its initial table, or the empty one. By what each table holds.
use Rattle.std.specs.Prelude.{ℕ, ◌+◌, ◌*◌, ◌<◌, ◌≤◌, ◌≡◌, refl, Bool, true, false, ◌||◌, List, length, get_or}
use Rattle.std.proofs.Common.{arith, sym, ap, subst, ◌∙◌, inl, inr, ⊎_elim}
use Rattle.std.proofs.Math.Option.{Option, none}
use Rattle.std.proofs.Math.ListN.{get_or-eq_default}
use Rattle.paper_expressions.proofs.Laws.Tests.{two, or_r}
use Rattle.paper_expressions.specs.Values.{Value}
use Rattle.paper_guideline.specs.Structure.{TopLevel, tasks}
use Rattle.paper_guideline.specs.Refusals as Refusals
use Rattle.paper_rows.specs.Table.{data_item, ◌№◌, value, Table}
use Rattle.paper_rows.specs.Load.{Initial}
use Rattle.paper_rows.specs.Bare.{bare_guideline}
use Rattle.paper_rows.proofs.Laws.Seen.{value_f}
use Rattle.paper_rows.proofs.Laws.RowLists.{look_f}
use Rattle.paper_rows.proofs.Laws.InitialLaws.{load_f, initial}
use Rattle.paper_rows.proofs.Laws.LoadLaws.{lawful}
use Rattle.paper_rows.proofs.Laws.BareLaws.{bare_lawful}
use Rattle.paper_rows.proofs.Laws.Lawful.{Lawful}
use Rattle.paper_rows.proofs.Laws.Sized.{Sized, bare_sized}
use Rattle.paper_rows.proofs.Laws.FineLaws.{sized}
use Rattle.paper_calls.specs.Calls as Calls
use Calls.{State, Guideline, empty, loaded, load, Calls, load_done, load_refused}
use Rattle.paper_calls.proofs.Laws.CallLaws.{GoodTable, Good, good_loaded, load_good}
use Rattle.parts.specs.Part as Parts
use Rattle.guideline_rows.specs.Rows.{flatten}
use Rattle.guideline_rows.specs.Encoded.{text_of}
use Rattle.blank.specs.Zeros.{zero_at}
use Rattle.stages.specs.Judged.{is_short}
use Rattle.opening.specs.Opened.{Opened}
use Rattle.opening.specs.Initial.{first_rows, first_items, no_value}
use Rattle.plan_law.specs.Loaded.{short_loaded}
use Rattle.plan_law.specs.Law.{plans_loaded}
use Rattle.holding.specs.Holding.{Holds, ItemAt}
use Rattle.replying.specs.Replying.{Holding, holds_none, holds_loaded}
use Rattle.load.specs.declared.Reply.{Reply}
use Rattle.load.specs.declared.Reply.TheVariants as Reply
use Rattle.load.specs.Loads.{Lent, few, short_f, Loaded, Outcome, Replied}
use Rattle.load.specs.LoadsLaws.{bare_number, enough, never_short}

-- ---- definitions: the reply that the code's answer stands for, and what load's tables then hold

abbrev pub published : Reply → Calls.Reply
published Reply.Done = Calls.done
published (Reply.Refused n p) = Calls.refuses n p 0

-- load, in whichever state before, has this reply, and the tables hold the state that it leaves
pub record Leaves (text : List ℕ) (a a' : Lent) (r : Reply) (before : State) : Type 0 where
  pub after : State
  pub calls : Calls (load text (short_f a)) before (published r) after
  pub holds : Holding a'.parts.cells a'.parts.bytes a'.plan a'.waits a'.state after

-- ---- accepted

or_false : (a b : Bool) → ¬ ((a || b) ≡ true) → b ≡ false
or_false a b h = ⊎_elim (λ (e : b ≡ true). absurd (h (or_r a b e))) (λ (e : b ≡ false). e) (two b)

module _ (text : List ℕ) (a a' : Lent) (h : Loaded text a a') where
  abbrev g : List TopLevel
  g = bare_guideline h.guideline

  fine : Lawful g
  fine = bare_lawful (lawful h.answers h.read)

  abbrev t : Table
  t = look_f (load_f g)

  first : Initial g t
  first = initial fine

  long : (1640 ≤ length a.plan) × (65536 ≤ length a.parts.bytes) × (2952 ≤ length a.state)
  long = enough (length a.plan) (length a.parts.bytes) (length a.state) (or_false (is_short (length a.rows) (length a.parts.cells) (length a.parts.bytes)) (few (length a.plan) (length a.parts.bytes) (length a.state)) (never_short h.answers))

  good : GoodTable g t
  good = go (load_good h.answers h.read first)
    where
      go : {x : Guideline} → Good (loaded x) → GoodTable x.structure x.table
      go (good_loaded l z k m) = k

  few_tasks : length (tasks g) ≤ 32
  few_tasks = (bare_sized (sized h.answers h.read)).few_tasks

  opened : Opened (length (tasks g)) a'.state
  opened = subst (λ (n : ℕ). Opened n a'.state) (sym (bare_number h.guideline)) h.opened

  -- behind the guideline's own texts all bytes are zero
  no_text : (i : ℕ) → 16384 ≤ i → get_or a'.parts.bytes i 0 ≡ 0
  no_text i l = let k = short_loaded h.answers h.read in h.encoded.bytes i ∙ get_or-eq_default (text_of (flatten h.guideline)) 0 (omega arith)

  no_values : (d : ℕ) → d < 64 → ItemAt a'.state a'.parts.bytes d (value_f (t (data_item № d) value))
  no_values d l =
      subst (λ (o : Option Value). ItemAt a'.state a'.parts.bytes d o) (sym (ap value_f (no_value fine first few_tasks opened d)))
      (first_items fine first few_tasks opened a'.parts.bytes d (16384 + 768 * d) (16384 + 768 * d) l (λ i. no_text (16384 + 768 * d + i) (omega arith)))

  holds : Holds g a'.parts.cells a'.parts.bytes a'.plan a'.waits a'.state t false 0
  holds =
      record {
        plans = plans_loaded h.answers h.read h.encoded refl h.filled;
        lawful = fine;
        sized = bare_sized (sized h.answers h.read);
        good = good;
        timely = omega arith;
        rows = first_rows fine first few_tasks opened;
        values = no_values;
        loaded = opened.loaded;
        flagged = opened.rest 1 (λ z. omega arith) (inl (omega arith)) (inl (omega arith));
        timed = opened.rest 2 (λ z. omega arith) (inl (omega arith)) (inl (omega arith));
        spare = λ i l m. opened.rest i (λ z. omega arith) (inl (omega arith)) (inl (omega arith));
        cells = (let k = h.state_long in let m = long.2 in omega arith);
        bytes = (let k = h.long.bytes in let m = long.1 in omega arith);
      }

  accepted : (s : State) → Leaves text a a' Reply.Done s
  accepted s = record { after = _; calls = load_done h.answers h.read first; holds = holds_loaded holds }

-- ---- the whole

leaves : (text : List ℕ) (a a' : Lent) (r : Reply) → Outcome text a a' r → (s : State) → Leaves text a a' r s
leaves text a a' Reply.Done h s = accepted text a a' h s
leaves text a a' (Reply.Refused n p) h s =
    record { after = empty; calls = load_refused h.0; holds = holds_none (zero_at a'.state a.state h.1.rest.state 0) }

pub load_leaves : {text : List ℕ} {a a' : Lent} {r : Reply} → Replied text a a' r → (s : State) → Leaves text a a' r s
load_leaves {text} {a} {a'} {r} h s = leaves text a a' r h.outcome s
