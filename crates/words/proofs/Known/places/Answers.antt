-- `Known::places`: the strings of the definitions, counted, by computing.
use Rattle.std.proofs.Common.{refl}
use Rattle.paper_tokens.specs.Words.{reserved, yes_or_no, data_types}
use Rattle.words.specs.Entries.{strings, places}
use Rattle.words.proofs.Known.places.Goals as goal

pub returns : goal.returns
unfolding places strings reserved yes_or_no data_types
returns c = refl
