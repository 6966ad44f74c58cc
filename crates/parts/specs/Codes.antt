-- The number of each kind of part. 0 is no part. Definitions only.
-- Numbers that are not taken are for what later editions read.
use Rattle.std.specs.Prelude.{ℕ, List, [], ◌∷◌}
use Rattle.paper_expressions.specs.Types.{Declared, a_text, an_integer, a_boolean, a_datetime, a_date, a_time, a_real, a_setof_text, a_setof_integer, a_setof_real}
use Rattle.paper_expressions.specs.Values.{dormant, in_progress, discarded, completed}
use Rattle.paper_expressions.specs.Operators.{plus, minus, times, is>, is<, is>=, is<=, is=, is!=, max, min}
use Rattle.paper_expressions.specs.Operators.{Op, arithmetic, divide, compare, and, or, includes, oneof, if, negate, isknown, not, count, sum, extreme, nth, is-in, no_such}
use Rattle.paper_expressions.specs.Expressions.{Expr, Atom, IntegerLit, FloatLit, StringLit, Paren, Listing, Apply}

-- the operators, from 10 on: ten numbers for each list of allowed types
abbrev pub code : Op → ℕ
code (arithmetic plus) = 10
code (arithmetic minus) = 11
code (arithmetic times) = 12
code divide = 20
code (compare is>) = 30
code (compare is<) = 31
code (compare is>=) = 32
code (compare is<=) = 33
code (compare is=) = 34
code (compare is!=) = 35
code and = 40
code or = 41
code includes = 50
code oneof = 60
code if = 70
code negate = 80
code isknown = 90
code not = 100
code count = 110
code sum = 120
code (extreme max) = 130
code (extreme min) = 131
code nth = 140
code (is-in dormant) = 150
code (is-in in_progress) = 151
code (is-in discarded) = 152
code (is-in completed) = 153
code (no_such n) = 250

-- every part; parentheses are none
abbrev pub kind : Expr → ℕ
kind (Atom a) = 1
kind (IntegerLit n) = 2
kind (FloatLit n) = 3
kind (StringLit s) = 4
kind (Listing es) = 5
kind (Apply o es) = code o
kind (Paren e) = 0

-- the declared type of a data item, in the order of 4.3
abbrev pub declared_code : Declared → ℕ
declared_code a_text = 1
declared_code an_integer = 2
declared_code a_boolean = 3
declared_code a_datetime = 4
declared_code a_date = 5
declared_code a_time = 6
declared_code a_real = 7
declared_code a_setof_text = 8
declared_code a_setof_integer = 9
declared_code a_setof_real = 10

abbrev pub declared_codes : List ℕ
declared_codes =
    declared_code a_text ∷ declared_code an_integer ∷ declared_code a_boolean ∷ declared_code a_datetime ∷ declared_code a_date ∷
    declared_code a_time ∷ declared_code a_real ∷ declared_code a_setof_text ∷ declared_code a_setof_integer ∷ declared_code a_setof_real ∷ []
