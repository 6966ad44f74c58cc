-- The words that commands begin with. Definitions only.
use Rattle.std.specs.Prelude.{ℕ, cond, List, [], ◌∷◌}
use Rattle.typed_value.specs.Lexemes.{word_at}
use Rattle.commands.specs.declared.keywords.Keyword.{Keyword}
use Rattle.commands.specs.declared.keywords.Keyword.TheVariants.{Run, Rows, Time, Tree, Trigger, Confirm, Asked, Why, Help, Quit, None}

abbrev pub “run” : List ℕ
“run” = 114 ∷ 117 ∷ 110 ∷ []

abbrev pub “rows” : List ℕ
“rows” = 114 ∷ 111 ∷ 119 ∷ 115 ∷ []

abbrev pub “time” : List ℕ
“time” = 116 ∷ 105 ∷ 109 ∷ 101 ∷ []

abbrev pub “tree” : List ℕ
“tree” = 116 ∷ 114 ∷ 101 ∷ 101 ∷ []

abbrev pub “trigger” : List ℕ
“trigger” = 116 ∷ 114 ∷ 105 ∷ 103 ∷ 103 ∷ 101 ∷ 114 ∷ []

abbrev pub “confirm” : List ℕ
“confirm” = 99 ∷ 111 ∷ 110 ∷ 102 ∷ 105 ∷ 114 ∷ 109 ∷ []

abbrev pub “asked” : List ℕ
“asked” = 97 ∷ 115 ∷ 107 ∷ 101 ∷ 100 ∷ []

abbrev pub “why” : List ℕ
“why” = 119 ∷ 104 ∷ 121 ∷ []

abbrev pub “help” : List ℕ
“help” = 104 ∷ 101 ∷ 108 ∷ 112 ∷ []

abbrev pub “quit” : List ℕ
“quit” = 113 ∷ 117 ∷ 105 ∷ 116 ∷ []

-- the keyword that stands between two places
unfoldable pub keyword_of : List ℕ → ℕ → ℕ → Keyword
keyword_of s from to =
    cond (word_at s from to “run”) Run
    (cond (word_at s from to “rows”) Rows
    (cond (word_at s from to “time”) Time
    (cond (word_at s from to “tree”) Tree
    (cond (word_at s from to “trigger”) Trigger
    (cond (word_at s from to “confirm”) Confirm
    (cond (word_at s from to “asked”) Asked
    (cond (word_at s from to “why”) Why
    (cond (word_at s from to “help”) Help
    (cond (word_at s from to “quit”) Quit
    None)))))))))
