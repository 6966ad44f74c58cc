-- `longest`: where no comment can end, the rule of comments may be dead from the start.
use Rattle.matches.proofs.Ends.{shut_none}
use Rattle.matches.proofs.longest.Goals as goal

pub walk-requires : goal.walk-requires
walk-requires c = (c.requires.0, λ e. shut_none c.args.text.now c.args.at c.args.last c.requires.1 (c.hopeless.ensures e))
