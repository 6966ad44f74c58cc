-- What a line that is typed asks for: README's table of lines. Definitions only.
use Rattle.std.specs.Prelude.{ℕ, cond, ◌&&◌, List, eqb, ltb, leb, length, get_or}
use Rattle.typed_value.specs.Lexemes.{blankb, letterb, past, after_of}
use Rattle.commands.specs.Words.{keyword_of}
use Rattle.commands.specs.Names.{no_name_fn, name_of}
use Rattle.commands.specs.Times.{number_of, amount_of}
use Rattle.commands.specs.declared.names.Name.{Name}
use Rattle.commands.specs.declared.times.Amount.{Amount}
use Rattle.commands.specs.declared.keywords.Keyword.{Keyword}
use Rattle.commands.specs.declared.keywords.Keyword.TheVariants as K
use Rattle.commands.specs.declared.Way.{Way}
use Rattle.commands.specs.declared.Way.TheVariants.{To, On, Back}
use Rattle.commands.specs.declared.Command.{Command}
use Rattle.commands.specs.declared.Command.TheVariants.{Nothing, Give, Run, RunFor, Confirm, Trigger, Time, Later, Earlier, Tree, Asked, Rows, Why, Help, Quit, Unclear}

-- a command that nothing follows
unfoldable pub alone_of : List ℕ → ℕ → Command → Command
alone_of s at c = cond (ltb at (length s)) (Unclear at) c

-- a name that nothing follows; else where that is
unfoldable pub only_name : List ℕ → ℕ → Name
only_name s at =
    cond (name_of s at).there
    (cond (ltb (past blankb s (name_of s at).next) (length s)) (no_name_fn (past blankb s (name_of s at).next)) (name_of s at))
    (name_of s at)

-- what is done with something that has a name
abbrev pub named : Keyword → ℕ → ℕ → ℕ → Command
named K.Confirm at from to = Confirm from to
named K.Trigger at from to = Trigger from to
named K.Rows at from to = Rows from to
named K.Why at from to = Why from to
named K.Run at from to = Unclear at
named K.Time at from to = Unclear at
named K.Tree at from to = Unclear at
named K.Asked at from to = Unclear at
named K.Help at from to = Unclear at
named K.Quit at from to = Unclear at
named K.None at from to = Unclear at

unfoldable pub on_name : List ℕ → ℕ → Keyword → Command
on_name s at k = cond (only_name s at).there (named k at (only_name s at).from (only_name s at).to) (Unclear (only_name s at).next)

-- run, run 3
unfoldable pub run_of : List ℕ → ℕ → Command
run_of s at =
    cond (leb (length s) at) Run
    (cond (leb (number_of s at).next at) (Unclear at) (alone_of s (past blankb s (number_of s at).next) (RunFor (number_of s at).value)))

abbrev pub by_way' : Way → ℕ → Command
by_way' To n = Time n
by_way' On n = Later n
by_way' Back n = Earlier n

abbrev pub by_way : Amount → Way → Command
by_way a way = cond a.there (by_way' way a.seconds) (Unclear a.next)

-- time 3600, time +6 weeks, time -1 day
unfoldable pub time_of : List ℕ → ℕ → Command
time_of s at =
    cond (eqb (get_or s at 0) 43) (by_way (amount_of s (after_of s at)) On)
    (cond (eqb (get_or s at 0) 45) (by_way (amount_of s (after_of s at)) Back) (by_way (amount_of s at) To))

-- what follows a keyword at a place; the keyword begins at `from`
abbrev pub worded : List ℕ → ℕ → ℕ → Keyword → Command
worded s from at K.Run = run_of s at
worded s from at K.Time = time_of s at
worded s from at K.Tree = alone_of s at Tree
worded s from at K.Asked = alone_of s at Asked
worded s from at K.Help = alone_of s at Help
worded s from at K.Quit = alone_of s at Quit
worded s from at K.None = Unclear from
worded s from at K.Confirm = on_name s at K.Confirm
worded s from at K.Trigger = on_name s at K.Trigger
worded s from at K.Rows = on_name s at K.Rows
worded s from at K.Why = on_name s at K.Why

-- the command whose word stands between two places
unfoldable pub by_word : List ℕ → ℕ → ℕ → Command
by_word s from to = worded s from (past blankb s to) (keyword_of s from to)

-- NAME = VALUE, whatever the name is; else by the word at p, with n what stands there as a name, and q behind it
abbrev pub given : List ℕ → ℕ → Name → ℕ → Command
given s p n q = cond (eqb (get_or s q 0) 61 && n.there) (Give n.from n.to (after_of s q)) (by_word s p (past letterb s p))

unfoldable pub command_of : List ℕ → Command
command_of s =
    cond (leb (length s) (past blankb s 0)) Nothing
    (given s (past blankb s 0) (name_of s (past blankb s 0)) (past blankb s (name_of s (past blankb s 0)).next))
