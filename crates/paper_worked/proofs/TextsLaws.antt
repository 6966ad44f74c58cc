-- Each worked text loads as its guideline. By computation from its bytes.
use Rattle.std.specs.Prelude.{refl}
use Rattle.paper_tokens.specs.Kinds.{kind_of}
use Rattle.paper_tokens.specs.Words.{reserved, yes_or_no, data_types}
use Rattle.paper_tokens.specs.Lexical.{bare_atom, quoted_atom, integer_form, plain_float, exponent, float_form, string_form, white_form, comment_form}
use Rattle.paper_tokens.proofs.Laws.FormsLaws.{nul, deriv}
use Rattle.paper_tokens.proofs.Laws.TerminalLaws.{terminal_f}
use Rattle.paper_guideline.specs.LeftOut.{left_out_words, left_out_functors}
use Rattle.paper_guideline.specs.Tree.{infixes}
use Rattle.paper_engine.proofs.Laws.Worked.{plots, terminal_part, unwanted, triggered, mandatory_source, collision}
use Rattle.paper_worked.specs.Loading.{Loads}
use Rattle.paper_worked.proofs.LoadingLaws.{loads_if}
use Rattle.paper_worked.specs.Texts.{plots_text, terminal_text, unwanted_text, triggered_text, source_text, collision_text}

pub reads_plots : Loads plots_text plots
unfolding reserved kind_of nul deriv bare_atom quoted_atom integer_form plain_float exponent float_form string_form white_form comment_form terminal_f yes_or_no data_types left_out_words left_out_functors infixes
reads_plots = loads_if refl

pub reads_terminal : Loads terminal_text terminal_part
unfolding reserved kind_of nul deriv bare_atom quoted_atom integer_form plain_float exponent float_form string_form white_form comment_form terminal_f yes_or_no data_types left_out_words left_out_functors infixes
reads_terminal = loads_if refl

pub reads_unwanted : Loads unwanted_text unwanted
unfolding reserved kind_of nul deriv bare_atom quoted_atom integer_form plain_float exponent float_form string_form white_form comment_form terminal_f yes_or_no data_types left_out_words left_out_functors infixes
reads_unwanted = loads_if refl

pub reads_triggered : Loads triggered_text triggered
unfolding reserved kind_of nul deriv bare_atom quoted_atom integer_form plain_float exponent float_form string_form white_form comment_form terminal_f yes_or_no data_types left_out_words left_out_functors infixes
reads_triggered = loads_if refl

pub reads_source : Loads source_text mandatory_source
unfolding reserved kind_of nul deriv bare_atom quoted_atom integer_form plain_float exponent float_form string_form white_form comment_form terminal_f yes_or_no data_types left_out_words left_out_functors infixes
reads_source = loads_if refl

pub reads_collision : Loads collision_text collision
unfolding reserved kind_of nul deriv bare_atom quoted_atom integer_form plain_float exponent float_form string_form white_form comment_form terminal_f yes_or_no data_types left_out_words left_out_functors infixes
reads_collision = loads_if refl
