-- "How much fits" (document 01): each limit of reading, named once, on what it limits; those of values are in paper_expressions. Definitions only.
use Rattle.std.specs.Prelude.{ℕ, suc, ◌+◌, cond, leb}
use Rattle.paper_expressions.specs.Expressions.{Expr, Exprs, Atom, IntegerLit, FloatLit, StringLit, Paren, Listing, Apply, ε, ◌▸◌}

-- bytes of the whole text that is loaded
abbrev pub guideline_limit : ℕ
guideline_limit = 16384

abbrev pub token_limit : ℕ
token_limit = 4096

-- brackets open at once
abbrev pub bracket_limit : ℕ
bracket_limit = 24

abbrev pub task_limit : ℕ
task_limit = 32

abbrev pub data_item_limit : ℕ
data_item_limit = 64

-- expression parts, in all expressions together
abbrev pub part_limit : ℕ
part_limit = 1024

abbrev pub depth_limit : ℕ
depth_limit = 24

-- assignments in all postconditions, sources in all tasks
abbrev pub assignment_limit : ℕ
assignment_limit = 256

abbrev pub source_limit : ℕ
source_limit = 128

-- digits of a literal behind the point
abbrev pub decimal_limit : ℕ
decimal_limit = 3

-- ---- what they measure

abbrev pub larger : ℕ → ℕ → ℕ
larger n m = cond (leb n m) m n

-- "expression parts (an atom, constant, operator application, call or list is one; parentheses are none)"
abbrev mutual
  pub parts : Expr → ℕ
  parts (Atom a) = 1
  parts (IntegerLit n) = 1
  parts (FloatLit n) = 1
  parts (StringLit s) = 1
  parts (Paren e) = parts e
  parts (Listing es) = suc (parts_of es)
  parts (Apply o es) = suc (parts_of es)

  pub parts_of : Exprs → ℕ
  parts_of ε = 0
  parts_of (e ▸ es) = parts e + parts_of es

-- "depth (an atom or constant is 1; each operator, call, list or parenthesis adds 1)"
abbrev mutual
  pub depth : Expr → ℕ
  depth (Atom a) = 1
  depth (IntegerLit n) = 1
  depth (FloatLit n) = 1
  depth (StringLit s) = 1
  depth (Paren e) = suc (depth e)
  depth (Listing es) = suc (deepest es)
  depth (Apply o es) = suc (deepest es)

  pub deepest : Exprs → ℕ
  deepest ε = 0
  deepest (e ▸ es) = larger (depth e) (deepest es)

abbrev pub count : Exprs → ℕ
count ε = 0
count (e ▸ es) = suc (count es)

-- "list elements": the most that any list in an expression has (those of `[..]`, not a call's operands)
abbrev mutual
  pub longest_list : Expr → ℕ
  longest_list (Atom a) = 0
  longest_list (IntegerLit n) = 0
  longest_list (FloatLit n) = 0
  longest_list (StringLit s) = 0
  longest_list (Paren e) = longest_list e
  longest_list (Listing es) = larger (count es) (longest_lists es)
  longest_list (Apply o es) = longest_lists es

  pub longest_lists : Exprs → ℕ
  longest_lists ε = 0
  longest_lists (e ▸ es) = larger (longest_list e) (longest_lists es)
