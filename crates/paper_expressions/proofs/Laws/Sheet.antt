-- Law: the worked sheet of document 01, as one statement over its ten rows marked P, and further rows that guard what the definitions
-- and their executable twins share. By computing the twins.
use Rattle.std.specs.Prelude.{◌≡◌, refl, Bool, true, false, List, [], ◌∷◌, ℕ, ℤ, pos, negsuc, length}
use Rattle.std.proofs.Common.{sym, ap, subst, ◌∙◌}
use Rattle.std.proofs.Math.Option.{Option, none, some}
use Prim.Native.String.{String}
use Rattle.paper_expressions.specs.Bytes.{bytes}
use Rattle.paper_expressions.specs.Values.{Scalar, unknown, truth, integer, real, text, Value, one, sequence, TaskState, dormant, in_progress, discarded, completed}
use Rattle.paper_expressions.specs.Types.{Ty, Text, Integer, Real, SetofText, SetofReal, SetofInteger, TruthValue, Declared, a_text, an_integer, a_boolean, a_datetime, a_date, a_time, a_real, a_setof_text, a_setof_integer, a_setof_real}
use Rattle.paper_expressions.specs.Clauses.{Clause}
use Rattle.paper_expressions.specs.View.{View, Item, Task, Sound}
use Rattle.paper_expressions.specs.Operators.{plus, minus, times, is<, is=, is!=, Op, arithmetic, divide, compare, and, or, includes, oneof}
use Rattle.paper_expressions.specs.Expressions.{Expr, Exprs, Atom, IntegerLit, FloatLit, StringLit, Paren, Listing, Apply, ε, ◌▸◌, HasType}
use Rattle.paper_expressions.specs.Evaluation.{Evaluates}
use Rattle.paper_expressions.proofs.Laws.Search.{ExactlyOne}
use Rattle.paper_expressions.proofs.Laws.Typing.{type_f, type_has}
use Rattle.paper_expressions.proofs.Laws.Functors.{functor_f}
use Rattle.paper_expressions.proofs.Laws.Only.{Answer, gives, fails}
use Rattle.paper_expressions.proofs.Laws.Promise.{eval_f, eval_only, promised}
use Rattle.paper_expressions.proofs.Laws.Soundness.{sound_if}

-- ---- rows

pub data Row : Type 0 where
  row : Expr → Ty → Value → Row

-- the expression has the type, exactly one clause fits it, and its value is the row's
pub record Holds (τ : View) (e : Expr) (t : Ty) (w : Value) : Type 0 where
  pub typed : HasType τ 0 e t
  pub exactly_one : ExactlyOne (Evaluates τ 0 e)
  pub worth : exactly_one.value ≡ w

pub data Every (τ : View) : List Row → Type 0 where
  end : Every τ []
  ◌then◌ : {e : Expr} {t : Ty} {w : Value} {rs : List Row} → Holds τ e t w → Every τ rs → Every τ (row e t w ∷ rs)

infixr 3 ◌then◌
-- ---- trees, as they are written

abbrev pub int : ℕ → Expr
int n = IntegerLit (pos n)

-- in thousandths
abbrev pub float : ℕ → Expr
float n = FloatLit (pos n)

abbrev pub atom : String → Expr
atom s = Atom (bytes s)

abbrev pub quoted : String → Expr
quoted s = StringLit (bytes s)

abbrev pub list : Exprs → Expr
list es = Listing es

abbrev pub call : String → Exprs → Expr
call n es = Apply (functor_f (bytes n)) es

abbrev pub ◌⟨◌⟩◌ : Expr → Op → Expr → Expr
◌⟨◌⟩◌ e1 o e2 = Apply o (e1 ▸ e2 ▸ ε)

infix 6 ◌⟨◌⟩◌
-- ---- the sheet: d is an integer item holding unknown

abbrev pub sheet : View
sheet = record { items = record { name = bytes "d"; declared = an_integer; value = some (one unknown) } ∷ []; tasks = [] }

abbrev pub rows : List Row
rows =
    -- min([12, 3, 15])
    row (call "min" (list (int 12 ▸ int 3 ▸ int 15 ▸ ε) ▸ ε)) Integer (one (integer (pos 3)))
    -- min([d, 7])
    ∷ row (call "min" (list (atom "d" ▸ int 7 ▸ ε) ▸ ε)) Integer (one (integer (pos 7)))
    -- sum([d, 7])
    ∷ row (call "sum" (list (atom "d" ▸ int 7 ▸ ε) ▸ ε)) Integer (one unknown)
    -- min([])
    ∷ row (call "min" (list ε ▸ ε)) Integer (one unknown)
    -- d != d
    ∷ row (atom "d" ⟨ compare is!= ⟩ atom "d") TruthValue (one (truth false))
    -- [d, 1] < [5, 2]
    ∷ row (list (atom "d" ▸ int 1 ▸ ε) ⟨ compare is< ⟩ list (int 5 ▸ int 2 ▸ ε)) TruthValue (one (truth true))
    -- if(d = 1, 2, 3)
    ∷ row (call "if" ((atom "d" ⟨ compare is= ⟩ int 1) ▸ int 2 ▸ int 3 ▸ ε)) Integer (one (integer (pos 3)))
    -- max(["b", "B"])
    ∷ row (call "max" (list (quoted "b" ▸ quoted "B" ▸ ε) ▸ ε)) Text (one (text (bytes "b")))
    -- -1 / 3
    ∷ row (IntegerLit (negsuc 0) ⟨ divide ⟩ int 3) Real (one (real (negsuc 332)))
    -- 2000000 + 1
    ∷ row (int 2_000_000 ⟨ arithmetic plus ⟩ int 1) Integer (one unknown)
    ∷ []

-- ---- further rows

abbrev pub item : String → Declared → Option Value → Item
item n d w = record { name = bytes n; declared = d; value = w }

abbrev pub task : String → Option TaskState → Task
task n s = record { name = some (bytes n); parent = some 0; state = s }

abbrev pub farm : View
farm =
    record {
      items =
          item "d" an_integer (some (one unknown))
          ∷ item "none" an_integer none
          ∷ item "Note" a_text (some (one unknown))
          ∷ item "wet" a_boolean (some (one (text (bytes "yes"))))
          ∷ item "since" a_datetime (some (one (integer (pos 7))))
          ∷ item "day" a_date (some (one (real (pos 7500))))
          ∷ item "hour" a_time none
          ∷ item "pH" a_real (some (one (real (pos 6900))))
          ∷ item "words" a_setof_text (some (sequence (text (bytes "a") ∷ [])))
          ∷ item "counts" a_setof_integer (some (sequence (integer (pos 1) ∷ unknown ∷ [])))
          ∷ item "levels" a_setof_real (some (sequence (integer (pos 1) ∷ real (pos 2500) ∷ [])))
          ∷ [];
      tasks =
          record { name = none; parent = none; state = some in_progress }
          ∷ task "wash" (some dormant)
          ∷ task "Spin" (some in_progress)
          ∷ task "skip" (some discarded)
          ∷ task "rinse" (some completed)
          ∷ task "dry" none
          ∷ [];
    }

abbrev pub further : List Row
further =
    -- isknown(d)
    row (call "isknown" (atom "d" ▸ ε)) TruthValue (one (truth true))
    -- isknown(1)
    ∷ row (call "isknown" (int 1 ▸ ε)) TruthValue (one (truth false))
    -- "b" = "B"
    ∷ row (quoted "b" ⟨ compare is= ⟩ quoted "B") TruthValue (one (truth true))
    -- "AZ" = "az"
    ∷ row (quoted "AZ" ⟨ compare is= ⟩ quoted "az") TruthValue (one (truth true))
    -- "@" = "`"
    ∷ row (quoted "@" ⟨ compare is= ⟩ quoted "`") TruthValue (one (truth false))
    -- "[" = "{"
    ∷ row (quoted "[" ⟨ compare is= ⟩ quoted "{") TruthValue (one (truth false))
    -- "B" < "a"
    ∷ row (quoted "B" ⟨ compare is< ⟩ quoted "a") TruthValue (one (truth false))
    -- "ab" < "abc"
    ∷ row (quoted "ab" ⟨ compare is< ⟩ quoted "abc") TruthValue (one (truth true))
    -- [] = []
    ∷ row (list ε ⟨ compare is= ⟩ list ε) TruthValue (one (truth true))
    -- (2 + 3) * 4
    ∷ row (Paren (int 2 ⟨ arithmetic plus ⟩ int 3) ⟨ arithmetic times ⟩ int 4) Integer (one (integer (pos 20)))
    -- 5 - 3
    ∷ row (int 5 ⟨ arithmetic minus ⟩ int 3) Integer (one (integer (pos 2)))
    -- 2000000 + 0
    ∷ row (int 2_000_000 ⟨ arithmetic plus ⟩ int 0) Integer (one (integer (pos 2_000_000)))
    -- 1999999.999 + 0.001
    ∷ row (float 1_999_999_999 ⟨ arithmetic plus ⟩ float 1) Real (one (real (pos 2_000_000_000)))
    -- 2000000.000 + 0.001
    ∷ row (float 2_000_000_000 ⟨ arithmetic plus ⟩ float 1) Real (one unknown)
    -- 1.500 - 2
    ∷ row (float 1500 ⟨ arithmetic minus ⟩ int 2) Real (one (real (negsuc 499)))
    -- 0.333 * 0.500
    ∷ row (float 333 ⟨ arithmetic times ⟩ float 500) Real (one (real (pos 166)))
    -- 2 * 1.500
    ∷ row (int 2 ⟨ arithmetic times ⟩ float 1500) Real (one (real (pos 3000)))
    -- 2 / 3
    ∷ row (int 2 ⟨ divide ⟩ int 3) Real (one (real (pos 666)))
    -- - 2 / 3
    ∷ row (call "-" (int 2 ▸ ε) ⟨ divide ⟩ int 3) Real (one (real (negsuc 665)))
    -- 2 / 0
    ∷ row (int 2 ⟨ divide ⟩ int 0) Real (one unknown)
    -- 2000000 / 0.500
    ∷ row (int 2_000_000 ⟨ divide ⟩ float 500) Real (one unknown)
    -- 1 = 1 and 1 = 2
    ∷ row ((int 1 ⟨ compare is= ⟩ int 1) ⟨ and ⟩ (int 1 ⟨ compare is= ⟩ int 2)) TruthValue (one (truth false))
    -- 1 = 1 or 1 = 2
    ∷ row ((int 1 ⟨ compare is= ⟩ int 1) ⟨ or ⟩ (int 1 ⟨ compare is= ⟩ int 2)) TruthValue (one (truth true))
    -- [1, 2] includes 2
    ∷ row (list (int 1 ▸ int 2 ▸ ε) ⟨ includes ⟩ int 2) TruthValue (one (truth true))
    -- 3 oneof [1, 2]
    ∷ row (int 3 ⟨ oneof ⟩ list (int 1 ▸ int 2 ▸ ε)) TruthValue (one (truth false))
    -- not(1 = 2)
    ∷ row (call "not" ((int 1 ⟨ compare is= ⟩ int 2) ▸ ε)) TruthValue (one (truth true))
    -- count(["a", "b"])
    ∷ row (call "count" (list (quoted "a" ▸ quoted "b" ▸ ε) ▸ ε)) Integer (one (integer (pos 2)))
    -- sum([1, 0.500])
    ∷ row (call "sum" (list (int 1 ▸ float 500 ▸ ε) ▸ ε)) Real (one (real (pos 1500)))
    -- sum([])
    ∷ row (call "sum" (list ε ▸ ε)) Integer (one (integer (pos 0)))
    -- sum([2000000, 1])
    ∷ row (call "sum" (list (int 2_000_000 ▸ int 1 ▸ ε) ▸ ε)) Integer (one unknown)
    -- nth(2, ["a", "b"])
    ∷ row (call "nth" (int 2 ▸ list (quoted "a" ▸ quoted "b" ▸ ε) ▸ ε)) Text (one (text (bytes "b")))
    -- nth(0, [5])
    ∷ row (call "nth" (int 0 ▸ list (int 5 ▸ ε) ▸ ε)) Integer (one unknown)
    -- is_dormant("WASH")
    ∷ row (call "is_dormant" (quoted "WASH" ▸ ε)) TruthValue (one (truth true))
    -- is_in_progress(spin)
    ∷ row (call "is_in_progress" (atom "spin" ▸ ε)) TruthValue (one (truth true))
    -- is_discarded("skip")
    ∷ row (call "is_discarded" (quoted "skip" ▸ ε)) TruthValue (one (truth true))
    -- is_completed("rinse")
    ∷ row (call "is_completed" (quoted "rinse" ▸ ε)) TruthValue (one (truth true))
    -- is_completed("wash")
    ∷ row (call "is_completed" (quoted "wash" ▸ ε)) TruthValue (one (truth false))
    -- is_dormant("dry")
    ∷ row (call "is_dormant" (quoted "dry" ▸ ε)) TruthValue (one (truth false))
    -- is_dormant("nobody")
    ∷ row (call "is_dormant" (quoted "nobody" ▸ ε)) TruthValue (one unknown)
    -- is_dormant(note), with note unknown
    ∷ row (call "is_dormant" (atom "note" ▸ ε)) TruthValue (one unknown)
    -- D
    ∷ row (atom "D") Integer (one unknown)
    -- none
    ∷ row (atom "none") Integer (one unknown)
    -- free
    ∷ row (atom "free") Text (one (text (bytes "free")))
    -- note
    ∷ row (atom "note") Text (one unknown)
    -- wet
    ∷ row (atom "wet") Text (one (text (bytes "yes")))
    -- since
    ∷ row (atom "since") Real (one (integer (pos 7)))
    -- day
    ∷ row (atom "day") Real (one (real (pos 7500)))
    -- hour
    ∷ row (atom "hour") Real (one unknown)
    -- ph
    ∷ row (atom "ph") Real (one (real (pos 6900)))
    -- words
    ∷ row (atom "words") SetofText (sequence (text (bytes "a") ∷ []))
    -- counts
    ∷ row (atom "counts") SetofInteger (sequence (integer (pos 1) ∷ unknown ∷ []))
    -- levels
    ∷ row (atom "levels") SetofReal (sequence (integer (pos 1) ∷ real (pos 2500) ∷ []))
    ∷ []

-- ---- the proof

abbrev pub value_f : Answer (List Clause) → Option Value
value_f (gives cs w) = some w
value_f fails = none

module _ (τ : View) (sound : Sound τ) where
  holds : {e : Expr} {t : Ty} {w : Value} → type_f τ 0 e ≡ some t → value_f (eval_f τ 0 e) ≡ some w → Holds τ e t w
  holds {e} {t} {w} h k =
      let typed = type_has τ 0 e h in
      let p = promised τ 0 sound typed in
      let q = rw (eval_only τ 0 sound.apart p.exactly_one.fits) at k in
      record { typed = typed; exactly_one = p.exactly_one; worth = cc }

ok : {e : Expr} {t : Ty} {w : Value} → type_f sheet 0 e ≡ some t → value_f (eval_f sheet 0 e) ≡ some w → Holds sheet e t w
ok = holds sheet (sound_if sheet refl)

pub ten_rows : length rows ≡ 10
ten_rows = refl

pub worked_sheet : Every sheet rows
worked_sheet =
    ok refl refl then ok refl refl then ok refl refl then ok refl refl then ok refl refl then ok refl refl then ok refl refl then ok refl refl then ok refl refl then ok refl refl then end

so : {e : Expr} {t : Ty} {w : Value} → type_f farm 0 e ≡ some t → value_f (eval_f farm 0 e) ≡ some w → Holds farm e t w
so = holds farm (sound_if farm refl)

pub further_rows : Every farm further
further_rows =
    so refl refl then so refl refl then so refl refl then so refl refl then so refl refl then so refl refl then so refl refl then so refl refl
    then so refl refl then so refl refl then so refl refl then so refl refl then so refl refl then so refl refl then so refl refl then so refl refl
    then so refl refl then so refl refl then so refl refl then so refl refl then so refl refl then so refl refl then so refl refl then so refl refl
    then so refl refl then so refl refl then so refl refl then so refl refl then so refl refl then so refl refl then so refl refl then so refl refl
    then so refl refl then so refl refl then so refl refl then so refl refl then so refl refl then so refl refl then so refl refl then so refl refl
    then so refl refl then so refl refl then so refl refl then so refl refl then so refl refl then so refl refl then so refl refl then so refl refl
    then so refl refl
    then so refl refl then so refl refl then so refl refl then end
