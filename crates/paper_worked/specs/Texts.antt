-- The worked guidelines as an adviser writes them.
use Rattle.std.specs.Prelude.{ℕ, List, [], ◌∷◌, ◌++◌}
use Prim.Native.String.{String}
use Rattle.paper_expressions.specs.Bytes.{bytes}

-- a text by its lines, each ended by a newline
abbrev pub lines : List String → List ℕ
lines [] = []
lines (s ∷ l) = bytes s ++ (10 ∷ lines l)

abbrev pub plots_text : List ℕ
plots_text = lines (
    "plan :: plots;"
    ∷ "  component :: north;"
    ∷ "  component :: south; schedule_constraint :: completed(north);"
    ∷ "  component :: east;"
    ∷ "end plan."
    ∷ "enquiry :: east;"
    ∷ "  wait_condition :: is_completed(\"south\");"
    ∷ "end enquiry."
    ∷ "enquiry :: north; end enquiry."
    ∷ "enquiry :: south; end enquiry."
    ∷ []
    )

abbrev pub terminal_text : List ℕ
terminal_text = lines (
    "plan :: walk;"
    ∷ "  component :: gate; terminal :: yes;"
    ∷ "  component :: hedge;"
    ∷ "end plan."
    ∷ "enquiry :: gate; end enquiry."
    ∷ "action :: hedge; end action."
    ∷ []
    )

abbrev pub unwanted_text : List ℕ
unwanted_text = lines (
    "plan :: spray;"
    ∷ "  component :: mix;"
    ∷ "  component :: rinse; schedule_constraint :: completed(mix);"
    ∷ "end plan."
    ∷ "action :: mix; precondition :: 1 > 2; end action."
    ∷ "action :: rinse; end action."
    ∷ []
    )

abbrev pub triggered_text : List ℕ
triggered_text = lines (
    "plan :: flood; component :: pump; end plan."
    ∷ "enquiry :: pump; trigger :: alarm; end enquiry."
    ∷ []
    )

abbrev pub source_text : List ℕ
source_text = lines (
    "plan :: gauge; component :: read; end plan."
    ∷ "enquiry :: read;"
    ∷ "  source :: level; mandatory :: yes;"
    ∷ "end enquiry."
    ∷ "data :: level; type :: real; end data."
    ∷ []
    )

abbrev pub collision_text : List ℕ
collision_text = lines (
    "plan :: dose;"
    ∷ "  postcondition :: x = 2 and x = 2.0;"
    ∷ "end plan."
    ∷ "data :: x; type :: real; end data."
    ∷ []
    )
