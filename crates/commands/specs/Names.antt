-- Names as guidelines write them: bare, or between single quotes. Definitions only.
use Rattle.std.specs.Prelude.{ℕ, ◌+◌, true, false, cond, List, eqb, leb, length, get_or}
use Rattle.typed_value.specs.Lexemes.{letterb, past, after_of}
use Rattle.typed_value.specs.Texts.{close_of}
use Rattle.commands.specs.declared.names.Name.{Name}

abbrev pub no_name_fn : ℕ → Name
no_name_fn at = record { there = false; from = at; to = at; next = at }

-- a name behind its opening quote
unfoldable pub quoted_of : List ℕ → ℕ → Name
quoted_of s from = cond (leb (length s) (close_of 39 s from)) (no_name_fn from) (record { there = true; from = from; to = close_of 39 s from; next = close_of 39 s from + 1 })

-- the name that stands here
unfoldable pub name_of : List ℕ → ℕ → Name
name_of s at =
    cond (eqb (get_or s at 0) 39) (quoted_of s (after_of s at))
    (cond (leb (past letterb s at) at) (no_name_fn at) (record { there = true; from = at; to = past letterb s at; next = past letterb s at }))
