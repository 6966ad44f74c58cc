-- `spellings`: the table is the spellings, by one computed equality.
use Rattle.std.proofs.Common.{refl}
use Rattle.paper_tokens.specs.Words.{reserved}
use Rattle.explain.specs.Spelling.{others, spellings, spellings_table}
use Rattle.explain.proofs.spelling.spellings.Goals as goal

pub returns : goal.returns
unfolding reserved others spellings spellings_table
returns c = refl
