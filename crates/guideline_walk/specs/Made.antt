-- What the walk has to do: count what the rows of a guideline amount to, and, where there is room and no token is past a limit, write their encoding. Definitions only.
use Rattle.std.specs.Prelude.{ℕ, ◌+◌, ◌*◌, ◌≤◌, ◌<◌, ◌≡◌, Bool, true, false, cond, ◌||◌, List, [], ◌∷◌, eqb, ltb, length, Option as Maybe, None, Some, IfNone, IfSome}
use Rattle.std.proofs.Math.Option.{Option, none, some}
use Rattle.paper_guideline.specs.Limits.{guideline_limit, token_limit, part_limit}
use Rattle.paper_tokens.specs.Tokens.{“plan”, “action”, “enquiry”, “data”, “=”, “source”}
use Rattle.paper_tokens.specs.Lexical.{Token}
use Rattle.paper_guideline.specs.Structure.{Name, Outermost, TopLevel, Structure}
use Rattle.paper_guideline.specs.Refusals.{TooManyOpen}
use Rattle.parts.specs.Texts.{cells}
use Rattle.parts.specs.Part.{table}
use Rattle.parts.specs.Encode.{flat}
use Rattle.leaves.specs.declared.names.Span.{Span}
use Rattle.leaves.specs.Source.{Source, source, Stand}
use Rattle.pool.specs.Written.{Written}
use Rattle.pool.specs.Pooled.{nowhere, Fits}
use Rattle.guideline_rows.specs.Rows.{Row, flatten, expression_of}
use Rattle.guideline_rows.specs.Sizes.{size_in, first_of, end_of, HeldIn, parts_in}
use Rattle.guideline_rows.specs.Tally.{of_kind, row_expressions, LargeAt}
use Rattle.guideline_rows.specs.Encoded.{name_text, expression_text, row_text, text_of, behind_name, expression_parts, parts_of, name_handle, row_cells, cells_of}
use Rattle.guideline_turns.specs.declared.Label.{Label}
use Rattle.guideline_turns.specs.declared.Extent.{Extent}
use Rattle.guideline_turns.specs.declared.Entry.{Entry}
use Rattle.guideline_turns.specs.Made.{Named, place_in, first_in, end_in, start_in, large_in, Alike, parts_behind, Sound, Told}
use Rattle.guideline_walk.specs.declared.Totals.{Totals}
use Rattle.guideline_walk.specs.declared.texts.Moved.{Moved}

-- ---- what rows amount to

pub record Tallied (rows : List Row) (w : Totals) : Type 0 where
  pub count : w.rows ≡ length rows
  pub parts : w.parts ≡ parts_in rows
  pub tasks : w.tasks ≡ of_kind “plan” rows + of_kind “action” rows + of_kind “enquiry” rows
  pub items : w.items ≡ of_kind “data” rows
  pub assignments : w.assignments ≡ of_kind “=” rows
  pub sources : w.sources ≡ of_kind “source” rows
  -- some expression is past a limit, and the smallest place where such a one starts
  pub some : w.large ≡ true → LargeAt (row_expressions rows) w.place
  pub least : (q : ℕ) → LargeAt (row_expressions rows) q → (w.large ≡ true) × (w.place ≤ q)
  pub none : w.large ≡ false → w.place ≡ 0

-- ---- their encoding

-- room for the rows, their parts and their texts in tables of these lengths, and no token past a limit
pub record Roomy (c : Source) (x k b : List ℕ) (rows : List Row) : Type 0 where
  pub sound : Sound c
  pub cells : length rows * 8 ≤ length x
  pub few : parts_in rows ≤ part_limit
  pub parts : parts_in rows * 4 ≤ length k
  pub bytes : Fits b (length (text_of rows))

-- the tables x, k, b of rows, parts and texts before, and y, l, d after
pub record Laid (x y k l b d : List ℕ) (rows : List Row) (w : Totals) : Type 0 where
  pub used : w.bytes ≡ length (text_of rows)
  pub cells : Written x y 0 (cells_of 0 0 rows)
  pub parts : Written k l 0 (flat (parts_of 0 rows))
  pub bytes : Written b d 0 (text_of rows)

-- ---- the whole

-- the columns hold the tokens ts of a structure, within the limits that are tested before
pub record Given (c : Source) (ts : List Token) (g : List TopLevel) : Type 0 where
  pub stand : Stand c 0 ts
  pub structure : Structure ts g
  pub brackets : (q : ℕ) → ¬ TooManyOpen 0 ts q
  pub few : length ts ≤ token_limit
  pub short : length c.text ≤ guideline_limit

pub record Walked (c : Source) (x y k l b d : List ℕ) (rows : List Row) (w : Totals) : Type 0 where
  pub ok : w.ok ≡ true
  pub tally : Tallied rows w
  pub laid : Roomy c x k b rows → Laid x y k l b d rows w

pub record Walks (c : Source) (x y k l b d : List ℕ) (w : Totals) : Type 0 where
  pub done : (ts : List Token) (g : List TopLevel) → Given c ts g → Walked c x y k l b d (flatten g) w

-- ---- one row, added up

abbrev pub one : ℕ → ℕ → ℕ
one k j = cond (eqb k j) 1 0

abbrev pub least : Bool → ℕ → ℕ → ℕ
least b place start = cond b (cond (ltb start place) start place) start

abbrev pub then_parts : ℕ → Maybe Extent → ℕ
then_parts u x = parts_behind u x

abbrev pub place_of : Totals → Maybe Extent → ℕ
place_of w x = cond (large_in x) (least w.large w.place (start_in x)) w.place

pub record Small (w : Totals) : Type 0 where
  pub rows : w.rows ≤ token_limit
  pub tasks : w.tasks ≤ 3 * w.rows
  pub items : w.items ≤ w.rows
  pub assignments : w.assignments ≤ w.rows
  pub sources : w.sources ≤ w.rows

-- that, and no more rows and parts than tokens
pub record Bound (w : Totals) (p : ℕ) : Type 0 where
  pub rows : w.rows ≤ p
  pub parts : w.parts ≤ p
  pub tasks : w.tasks ≤ 3 * w.rows
  pub items : w.items ≤ w.rows
  pub assignments : w.assignments ≤ w.rows
  pub sources : w.sources ≤ w.rows

pub record Adds (w : Totals) (t : Entry) (o : ℕ) (r : Totals) : Type 0 where
  pub ok : r.ok ≡ w.ok
  pub rows : r.rows ≡ w.rows + 1
  pub parts : r.parts ≡ then_parts w.parts t.expression
  pub bytes : r.bytes ≡ o
  pub tasks : r.tasks ≡ w.tasks + (one t.kind “plan” + one t.kind “action” + one t.kind “enquiry”)
  pub items : r.items ≡ w.items + one t.kind “data”
  pub assignments : r.assignments ≡ w.assignments + one t.kind “=”
  pub sources : r.sources ≡ w.sources + one t.kind “source”
  pub large : r.large ≡ (w.large || large_in t.expression)
  pub place : r.place ≡ place_of w t.expression

-- ---- one row, written

-- what fits a cell
abbrev pub low : ℕ → ℕ
low x = cond (ltb x 4294967296) x 0

abbrev pub eight : Entry → ℕ → List ℕ
eight t h = t.kind ∷ low t.word ∷ h ∷ low (place_in t.name) ∷ low (first_in t.expression) ∷ low (start_in t.expression) ∷ low (end_in t.expression) ∷ t.flag ∷ []

pub record Puts (x y : List ℕ) (n : ℕ) (t : Entry) (h : ℕ) : Type 0 where
  pub done : n * 8 + 8 ≤ length x → Written x y (n * 8) (eight t h)

-- what the name of the token j is without its quotes
pub record SpellsName (text places lengths : List ℕ) (j : ℕ) (s : Span) : Type 0 where
  pub short : s.n < 64
  pub near : s.at + s.n ≤ nowhere + 64
  pub named : (kinds : List ℕ) (n : Name) → Sound (source text kinds places lengths) → Named (source text kinds places lengths) j n → cells text s.at s.n ≡ n.spelt

-- the name, if there is one, stands from o on
pub record NameMoved (b d : List ℕ) (o : ℕ) (n : Option Name) (r : Moved) : Type 0 where
  pub behind : r.behind ≡ o + length (name_text n)
  pub handle : r.handle ≡ name_handle o n
  pub bytes : Written b d o (name_text n)

-- which name a row has: the token of its label alone says so, wherever the label says that it stands
abbrev pub NamedBy : Source → Maybe Label → Option Name → Type 0
NamedBy c None none = Unit {0}
NamedBy c None (some n) = ⊥
NamedBy c (Some l) none = ⊥
NamedBy c (Some l) (some n) = Named c l.token n

pub record MovesName (text places lengths b d : List ℕ) (l : Maybe Label) (o : ℕ) (r : Moved) : Type 0 where
  pub done : (kinds : List ℕ) (n : Option Name) → Sound (source text kinds places lengths) → NamedBy (source text kinds places lengths) l n → Fits b (o + length (name_text n)) → NameMoved b d o n r

-- the texts of the expression, if there is one, stand from o up to r, and its parts lead there
pub record TextsMoved (k l b d : List ℕ) (u o r : ℕ) (e : Option Outermost) : Type 0 where
  pub ends : r ≡ o + length (expression_text e)
  pub parts : Written k l (u * 4) (flat (expression_parts o e))
  pub bytes : Written b d o (expression_text e)

pub record MovesTexts (text k l b d : List ℕ) (x : Maybe Extent) (o r : ℕ) : Type 0 where
  pub done : (u : ℕ) (e : Option Outermost) → Alike x e → first_in x ≡ first_of u e → end_in x ≡ end_of u e → HeldIn (table k text) u e → (u + size_in e) * 4 ≤ length k → Fits b (o + length (expression_text e))
      → TextsMoved k l b d u o r e

-- the row n, whose texts stand from o on and whose parts from u on
pub record RowLaid (x y k l b d : List ℕ) (n o u : ℕ) (row : Row) (r : Totals) : Type 0 where
  pub used : r.bytes ≡ o + length (row_text row)
  pub cells : Written x y (n * 8) (row_cells o u row)
  pub parts : Written k l (u * 4) (flat (expression_parts (behind_name o row) (expression_of row)))
  pub bytes : Written b d o (row_text row)

pub record WritesRow (text places lengths x y k l b d : List ℕ) (w : Totals) (t : Entry) (r : Totals) : Type 0 where
  pub adds : Adds w t r.bytes r
  pub laid : (kinds j : List ℕ) (u : ℕ) (row : Row) → Told (source text kinds places lengths) j k u t row → Sound (source text kinds places lengths) → w.rows * 8 + 8 ≤ length x
      → length k ≡ length j → u + size_in (expression_of row) ≤ part_limit → (u + size_in (expression_of row)) * 4 ≤ length j → Fits b (w.bytes + length (row_text row))
      → RowLaid x y k l b d w.rows w.bytes u row r

-- the row, if there is one; else all stays
pub record Writes (text places lengths x y k l b d : List ℕ) (w : Totals) (o : Maybe Entry) (r : Totals) : Type 0 where
  pub none : IfNone o ((r ≡ w) × (y ≡ x) × (l ≡ k) × (d ≡ b))
  pub some : IfSome o (λ t. WritesRow text places lengths x y k l b d w t r)
