-- `words`: the bytes are the strings of the definitions, packed, by one computed equality.
use Rattle.std.proofs.Common.{refl}
use Rattle.paper_tokens.specs.Words.{reserved, yes_or_no, data_types}
use Rattle.words.specs.Entries.{strings, packed, table}
use Rattle.words.proofs.words.Goals as goal

pub returns : goal.returns
unfolding table packed strings reserved yes_or_no data_types
returns c = refl
