-- What the turns have to do: where the next one stands, and what its row says. Definitions only.
use Rattle.std.specs.Prelude.{ℕ, ◌+◌, ◌*◌, ◌≤◌, ◌<◌, ◌≡◌, Bool, true, false, ◌⊎◌, List, [], ◌∷◌, length, Option as Maybe, None, Some, IfSome, IsSomeAnd}
use Rattle.std.proofs.Math.Option.{Option, none, some}
use Rattle.paper_expressions.specs.Limits.{list_limit}
use Rattle.paper_guideline.specs.Limits.{guideline_limit, token_limit, part_limit, depth_limit}
use Rattle.paper_tokens.specs.Lexical.{Token, atom}
use Rattle.paper_guideline.specs.Structure.{Name, Outermost}
use Rattle.parts.specs.Part.{table}
use Rattle.leaves.specs.Source.{Source, Here, Stand, Clean}
use Rattle.expression_steps.specs.Rows.{Beside}
use Rattle.expression_steps.specs.Levels.{kind_of}
use Rattle.guideline_rows.specs.Rows.{named, Row, kind-of, word_of, name_of, expression_of, flag_of}
use Rattle.guideline_rows.specs.Sizes.{size_in, first_of, end_of, start_of, HeldIn}
use Rattle.guideline_rows.specs.Tally.{with, LargeAt}
use Rattle.guideline_rows.specs.Brackets.{Fine}
use Rattle.guideline_rows.specs.Flat
use Flat.{Mode, outside, front, behind, Shape, shape, Turn}
use Flat.{task_line, data_lines, expression_line, name_line, answer_line, constraint_line, postcondition_word, end_line, opening, assignment_there, closing, going_on, finish}
use Rattle.guideline_turns.specs.declared.Mode.{Mode as Begins}
use Rattle.guideline_turns.specs.declared.Mode.TheVariants.{Row as AtRow, Before, Behind}
use Rattle.guideline_turns.specs.declared.Label.{Label}
use Rattle.guideline_turns.specs.declared.Extent.{Extent}
use Rattle.guideline_turns.specs.declared.Entry.{Entry}
use Rattle.guideline_turns.specs.declared.Passed.{Passed}

abbrev pub mode_of : Begins → Mode
mode_of AtRow = outside
mode_of Before = front
mode_of Behind = behind

-- the letter of a shape, for lines
abbrev pub letter : Shape → ℕ
letter task_line = 116
letter data_lines = 100
letter expression_line = 101
letter name_line = 110
letter answer_line = 121
letter constraint_line = 99
letter postcondition_word = 112
letter end_line = 46
letter opening = 46
letter assignment_there = 46
letter closing = 46
letter going_on = 46
letter finish = 46

-- on to a token, with no row
abbrev pub onto : ℕ → Begins → Passed
onto n m = record { next = n; mode = m; row = None }

abbrev pub IsLarge : ℕ → ℕ → Bool → Type 0
IsLarge depth longest true = (depth_limit < depth) ⊎ (list_limit < longest)
IsLarge depth longest false = (depth ≤ depth_limit) × (longest ≤ list_limit)

-- ---- what was passed says a row

-- the token j is the name
pub record Named (c : Source) (j : ℕ) (n : Name) : Type 0 where
  pub token : Token
  pub here : Here c j token
  pub atom : token.rule ≡ atom
  pub is : named token ≡ n

-- the name's token and its place, if there is one
abbrev pub NameAt : Source → Maybe Label → Option Name → Type 0
NameAt c None none = Unit {0}
NameAt c None (some n) = ⊥
NameAt c (Some l) none = ⊥
NameAt c (Some l) (some n) = Named c l.token n × (l.place ≡ n.place)

abbrev pub place_in : Maybe Label → ℕ
place_in None = 0
place_in (Some l) = l.place

-- of an expression, if there is one: its first part, the one behind its last, where it starts, and whether it is past a limit
abbrev pub first_in : Maybe Extent → ℕ
first_in None = 0
first_in (Some x) = x.first

abbrev pub end_in : Maybe Extent → ℕ
end_in None = 0
end_in (Some x) = x.end

abbrev pub start_in : Maybe Extent → ℕ
start_in None = 0
start_in (Some x) = x.start

abbrev pub large_in : Maybe Extent → Bool
large_in None = false
large_in (Some x) = x.large

-- there is one in both, or in none
abbrev pub Alike : Maybe Extent → Option Outermost → Type 0
Alike None none = Unit {0}
Alike None (some e) = ⊥
Alike (Some x) none = ⊥
Alike (Some x) (some e) = Unit {0}

-- no token passes a limit, and the text none
pub record Sound (c : Source) : Type 0 where
  pub clean : Clean c []
  pub short : length c.text ≤ guideline_limit

-- the expression, if there is one, is past a limit of its own, and starts at s
pub record Sized (e : Option Outermost) (large : Bool) (s : ℕ) : Type 0 where
  pub some : large ≡ true → LargeAt (with e []) s
  pub met : (q : ℕ) → LargeAt (with e []) q → (large ≡ true) × (s ≡ q)

-- the parts stand from u on, in the table l that was k; they hold the expression where there is room, and no token is past a limit
pub record Told (c : Source) (k l : List ℕ) (u : ℕ) (t : Entry) (x : Row) : Type 0 where
  pub kind : t.kind ≡ kind-of x
  pub word : t.word ≡ word_of x
  pub low : t.word ≤ guideline_limit
  pub name : NameAt c t.name (name_of x)
  pub alike : Alike t.expression (expression_of x)
  pub first : first_in t.expression ≡ first_of u (expression_of x)
  pub end : end_in t.expression ≡ end_of u (expression_of x)
  pub start : start_in t.expression ≡ start_of (expression_of x)
  pub near : start_in t.expression ≤ guideline_limit
  pub sized : Sized (expression_of x) (large_in t.expression) (start_in t.expression)
  pub held : Sound c → u + size_in (expression_of x) ≤ part_limit → (u + size_in (expression_of x)) * 4 ≤ length k → HeldIn (table l c.text) u (expression_of x)
  pub flag : t.flag ≡ flag_of x

abbrev pub Tells : Source → List ℕ → List ℕ → ℕ → Maybe Entry → List Row → Type 0
Tells c k l u None [] = Unit {0}
Tells c k l u None (x ∷ y) = ⊥
Tells c k l u (Some t) [] = ⊥
Tells c k l u (Some t) (x ∷ []) = Told c k l u t x
Tells c k l u (Some t) (x ∷ y ∷ z) = ⊥

pub record Gives (c : Source) (k l : List ℕ) (u : ℕ) (t : Passed) (m : Mode) (r : List Token) (rs : List Row) : Type 0 where
  pub stand : Stand c t.next r
  pub mode : mode_of t.mode ≡ m
  pub rows : Tells c k l u t.row rs

-- ---- one turn

-- the tokens from p on are w, within the limits
pub record Fair (c : Source) (p : ℕ) (w : List Token) : Type 0 where
  pub stand : Stand c p w
  pub fine : Fine w
  pub few : length c.kinds ≤ token_limit
  pub short : length c.text ≤ guideline_limit

-- the part behind those in use then
abbrev pub parts_behind : ℕ → Maybe Extent → ℕ
parts_behind u None = u
parts_behind u (Some x) = x.end

abbrev pub parts_then : ℕ → Maybe Entry → ℕ
parts_then u None = u
parts_then u (Some t) = parts_behind u t.expression

-- what is passed has a token, and no more parts than tokens; no other part changes
pub record Went (k l : List ℕ) (p u : ℕ) (t : Passed) : Type 0 where
  pub near : p ≤ token_limit
  pub on : p < t.next
  pub few : parts_then u t.row ≤ t.next
  pub more : u ≤ parts_then u t.row
  pub beside : Beside u (parts_then u t.row) k l

-- a turn of a shape, of the shape that the first token tells, and of any: no turn that stands there is given up
pub record Passes (s : Shape) (c : Source) (k l : List ℕ) (p u : ℕ) (o : Maybe Passed) : Type 0 where
  pub onward : IfSome o (Went k l p u)
  pub done : (w r : List Token) (m : Mode) (rs : List Row) → Fair c p w → Turn s w r m rs → IsSomeAnd o (λ t. Gives c k l u t m r rs)

pub record Steps (m : Mode) (c : Source) (k l : List ℕ) (p u : ℕ) (o : Maybe Passed) : Type 0 where
  pub onward : IfSome o (Went k l p u)
  pub done : (s : Shape) (w r : List Token) (n : Mode) (rs : List Row) → shape m (kind_of w) ≡ s → Fair c p w → Turn s w r n rs → IsSomeAnd o (λ t. Gives c k l u t n r rs)

-- without an expression: whatever the part table
abbrev pub Plain : Shape → Source → ℕ → Passed → Type 0
Plain s c p t = (k : List ℕ) (u : ℕ) → u ≤ p → Passes s c k k p u (Some t)

abbrev pub PlainSteps : Mode → Source → ℕ → Passed → Type 0
PlainSteps m c p t = (k : List ℕ) (u : ℕ) → u ≤ p → Steps m c k k p u (Some t)
