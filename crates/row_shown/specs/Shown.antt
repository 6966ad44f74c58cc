-- What the code's answer to reading a row stands for, and when it answers a row of the table. Definitions only.
use Rattle.std.specs.Prelude.{ℕ, ◌≡◌, false, cond, List, eqb}
use Rattle.std.proofs.Math.Option.{Option, none, some}
use Rattle.paper_expressions.specs.Types.{Declared, a_text, an_integer, a_boolean, a_datetime, a_date, a_time, a_real, a_setof_text, a_setof_integer, a_setof_real}
use Rattle.paper_rows.specs.Table.{Kind, task, data_item, candidate, argument, parameter, source, warning_condition, ◌№◌, Property, RowValue, Class, a_data_item, a_generic_task, a_plan, a_decision, an_enquiry, an_action, a_source, a_candidate, a_parameter, a_warning_flag}
use Rattle.paper_calls.specs.Calls as Calls
use Calls.{no_row, there, shows_value, shows_state, shows_class, shows_type, shows_time, shows_component, ShownAs, row, refuses}
use Rattle.state.specs.Cell.{state_of}
use Rattle.values.specs.declared.scalar.Scalar.{Scalar}
use Rattle.values.specs.declared.scalar.Scalar.TheVariants.{Text}
use Rattle.values.specs.declared.value.Value.{Value}
use Rattle.values.specs.Meaning.{meaning, meaning_v, handle_of}
use Rattle.paper_expressions.specs.Values.{one}
use Rattle.row_shown.specs.declared.Shown.{Shown}
use Rattle.row_shown.specs.declared.Shown.TheVariants.{NoRow, There, OfValue, OfState, OfClass, OfType, OfTime, OfComponent, Refused}
use Rattle.row_shown.specs.declared.Row.{Row}

-- ---- the cases by their numbers (Numbers); another number is that of the last

abbrev pub class_of : ℕ → Class
class_of n =
    cond (eqb n 1) a_data_item (cond (eqb n 2) a_generic_task (cond (eqb n 3) a_plan (cond (eqb n 4) a_decision (cond (eqb n 5) an_enquiry (cond (eqb n 6) an_action (cond (eqb n 7) a_source
    (cond (eqb n 8) a_candidate (cond (eqb n 9) a_parameter a_warning_flag))))))))

abbrev pub type_of : ℕ → Declared
type_of n =
    cond (eqb n 1) a_text (cond (eqb n 2) an_integer (cond (eqb n 3) a_boolean (cond (eqb n 4) a_datetime (cond (eqb n 5) a_date (cond (eqb n 6) a_time (cond (eqb n 7) a_real
    (cond (eqb n 8) a_setof_text (cond (eqb n 9) a_setof_integer a_setof_real))))))))

abbrev pub kind-of : ℕ → Kind
kind-of n = cond (eqb n 0) task (cond (eqb n 1) data_item (cond (eqb n 2) candidate (cond (eqb n 3) argument (cond (eqb n 4) parameter (cond (eqb n 5) source warning_condition)))))

-- ---- the published reply; b are the text bytes

abbrev pub reply_of : List ℕ → Shown → Value → Calls.Reply
reply_of b NoRow v = row no_row
reply_of b There v = row there
reply_of b OfValue v = row (shows_value (meaning_v b v))
reply_of b (OfState n) v = row (shows_state (state_of n))
reply_of b (OfClass n) v = row (shows_class (class_of n))
reply_of b (OfType n) v = row (shows_type (type_of n))
reply_of b (OfTime n) v = row (shows_time n)
reply_of b (OfComponent k n) v = row (shows_component (kind-of k № n))
reply_of b (Refused n) v = refuses n 0 0

abbrev pub published_row : List ℕ → Row → Calls.Reply
published_row b r = reply_of b r.shown r.value

-- ---- when it answers a row, or that there is none

pub data RowShown (q : Property) : Option RowValue → Calls.Shown → Type 0 where
  absent : RowShown q none no_row
  present : {r : RowValue} {s : Calls.Shown} → ShownAs q r s → RowShown q (some r) s

pub record Shows (b : List ℕ) (q : Property) (o : Option RowValue) (r : Row) : Type 0 where
  pub shown : Calls.Shown
  pub its : RowShown q o shown
  pub published : published_row b r ≡ row shown

-- ---- the two ways to make an answer

abbrev pub Plain : Shown → Row → Type 0
Plain s r = r.shown ≡ s

abbrev pub OfScalar : Scalar → Row → Type 0
OfScalar s r = (r.shown ≡ OfValue) × (r.value.many ≡ false) × (r.value.one ≡ s)

-- the text with the handle h
abbrev pub NameOf : ℕ → Row → Type 0
NameOf h r = OfScalar (Text (handle_of h)) r
