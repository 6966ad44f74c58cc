-- The fluke of README, from its bytes to the row that tells the risk: load, the clock, a run that asks for the depths, their values, a run that starts the dose, its confirmation, a run, and the row. By computation.
use Rattle.std.specs.Prelude.{ℕ, refl, [], ◌∷◌, pos}
use Rattle.std.proofs.Common.{arith}
use Rattle.paper_expressions.specs.Values.{Scalar, integer}
use Rattle.paper_expressions.specs.Types.{a_setof_integer, SetofInteger, Of, of_list, element_integer, each_none, each_more, integer-of}
use Rattle.paper_expressions.specs.View.{At, at_first, at_later}
use Rattle.paper_expressions.proofs.Laws.Search.{at_has}
use Rattle.paper_tokens.specs.Kinds.{kind_of}
use Rattle.paper_tokens.specs.Words.{reserved, yes_or_no, data_types}
use Rattle.paper_tokens.specs.Lexical.{bare_atom, quoted_atom, integer_form, plain_float, exponent, float_form, string_form, white_form, comment_form}
use Rattle.paper_tokens.proofs.Laws.FormsLaws.{nul, deriv}
use Rattle.paper_tokens.proofs.Laws.TerminalLaws.{terminal_f}
use Rattle.paper_guideline.specs.LeftOut.{left_out_words, left_out_functors}
use Rattle.paper_guideline.specs.Tree.{infixes}
use Rattle.paper_rows.specs.Table
use Table.{data_item, ◌№◌, type, type_is, Contains, TaskId, DataItemId, properties, kinds}
use Rattle.paper_rows.specs.Load.{data_item_3, data_item_4b}
use Rattle.paper_rows.proofs.Laws.Lawful.{Lawful}
use Rattle.paper_rows.proofs.Laws.LoadLaws.{lawful_if}
use Rattle.paper_rows.proofs.Laws.InitialLaws.{initial}
use Rattle.paper_engine.proofs.Laws.Kept.{Kept, has, task_id, initial_kept, fixed_class, fixed_type}
use Rattle.paper_engine.proofs.Laws.Twins.{evaluate_f, schedule_f, scheduled_f, start_f, initialise_up_f, termination_f, discard_2_f, discard_up_f, settled_f, complete_f, cycle_f, review_f}
use Rattle.paper_engine.proofs.Laws.RowsLaws.{changes_f, target_f}
use Rattle.paper_engine.proofs.Laws.EnactLaws.{enact_f, collision_f}
use Rattle.paper_calls.specs.Calls
use Calls.{empty, Small, SmallScalar, small_list, small_integer, time_done, confirm_done, add_done, read_done, a_row, shown_value, Series, no_call, then_call}
use Rattle.paper_calls.proofs.Laws.CallLaws.{sets_kept, confirm_mild, add_mild}
use Rattle.paper_calls.proofs.Laws.WorkedCalls.{confirms, adds_value, state_of, ready, runs, kept_after}
use Rattle.paper_worked.specs.Loading.{Loads}
use Rattle.paper_worked.proofs.LoadingLaws.{loads_if, load_of}
use Rattle.paper_worked.proofs.FromTextsLaws as FromTexts
use Rattle.paper_worked.specs.Fluke.{fluke_text, fluke, depths, asked, told, begun, signed, dosed, Computed, Fluke}

pub reads_fluke : Loads fluke_text fluke
unfolding reserved kind_of nul deriv bare_atom quoted_atom integer_form plain_float exponent float_form string_form white_form comment_form terminal_f yes_or_no data_types left_out_words left_out_functors infixes
reads_fluke = loads_if refl

-- ---- what is computed: reports, rows, and the states of the tasks, 0 dormant, 1 in_progress, 2 discarded, 3 completed

pub computed : Computed
unfolding evaluate_f schedule_f scheduled_f start_f initialise_up_f termination_f discard_2_f discard_up_f settled_f complete_f cycle_f review_f changes_f target_f enact_f collision_f properties kinds
computed =
    record {
      first = refl;
      first_flag = refl;
      asks = refl;
      waits = refl;
      second = refl;
      second_flag = refl;
      begins = refl;
      third = refl;
      third_flag = refl;
      ends_so = refl;
      risk = refl;
    }

-- ---- the calls

lawful : Lawful fluke
unfolding evaluate_f schedule_f scheduled_f start_f initialise_up_f termination_f discard_2_f discard_up_f settled_f complete_f cycle_f review_f changes_f target_f enact_f collision_f properties kinds
lawful = lawful_if fluke refl refl

asked_kept : Kept fluke asked
asked_kept = kept_after lawful (initial_kept (initial lawful))

is_item : DataItemId asked 0
is_item = has asked_kept fixed_class (data_item_3 at_first)

is_set : Contains asked (data_item № 0) type (type_is a_setof_integer)
is_set = has asked_kept fixed_type (data_item_4b at_first)

integers : Of depths SetofInteger
integers = of_list element_integer (each_more integer-of (each_more integer-of (each_more integer-of each_none)))

small : Small depths
small = small_list {l = integer (pos 12) ∷ integer (pos 3) ∷ integer (pos 15) ∷ []} (omega arith) elements
  where
    elements : (i : ℕ) (s : Scalar) → At (integer (pos 12) ∷ integer (pos 3) ∷ integer (pos 15) ∷ []) i s → SmallScalar s
    elements i s at_first = small_integer {n = pos 12} (omega arith)
    elements i s (at_later at_first) = small_integer {n = pos 3} (omega arith)
    elements i s (at_later (at_later at_first)) = small_integer {n = pos 15} (omega arith)
    elements i s (at_later (at_later (at_later h))) = elim h [ ]

told_kept : Kept fluke told
told_kept = sets_kept asked_kept (add_mild {k = a_setof_integer} asked_kept is_item is_set integers small) (adds_value 0 depths asked)

begun_kept : Kept fluke begun
begun_kept = kept_after lawful told_kept

is_dose : TaskId begun 2
is_dose = task_id begun_kept (lawful.reached (at_later (at_later at_first)))

signed_kept : Kept fluke signed
signed_kept = sets_kept begun_kept (confirm_mild begun_kept is_dose) (confirms 2 begun)

pub worked_fluke : Fluke
unfolding properties kinds
worked_fluke =
    record {
      loads = load_of reads_fluke lawful empty;
      clock = time_done {x = 7} FromTexts.ready (omega arith);
      asks = runs lawful (initial_kept (initial lawful)) computed.first_flag computed.first;
      answers = add_done {k = a_setof_integer} ready is_item is_set integers small (adds_value 0 depths asked);
      begins = runs lawful told_kept computed.second_flag computed.second;
      confirms = confirm_done ready is_dose (confirms 2 begun);
      finishes = runs lawful signed_kept computed.third_flag computed.third;
      risk = read_done (a_row (record { kind = data_item; kind_at = at_has kinds 1 refl; property_at = at_has properties 42 refl; row = computed.risk }) shown_value);
    }

-- so they are a series of calls
pub fluke_series : Series (state_of fluke dosed)
fluke_series =
    let w = worked_fluke in
    then_call (then_call (then_call (then_call (then_call (then_call (then_call no_call w.loads) w.clock) w.asks) w.answers) w.begins) w.confirms) w.finishes
