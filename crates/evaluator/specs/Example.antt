-- Laws: what the contract says of two small guidelines: `if(is_dormant(t), min([a, 5]), 9)`, where the item a holds 3 and the task t is dormant,
-- is 3; and '' names a task like any other name. So the contract can be met, and its columns mean what their names say. By computing the twins.
use Rattle.std.specs.Prelude.{◌≡◌, refl, true, [], ◌∷◌, ℕ, pos, get_or}
use Rattle.std.proofs.Common.{subst, arith}
use Rattle.std.proofs.Math.Option.{none, some}
use Rattle.paper_expressions.specs.Bytes.{bytes}
use Rattle.paper_expressions.specs.Values as paper
use Rattle.paper_expressions.specs.Values.{one, integer, truth, dormant, in_progress}
use Rattle.paper_expressions.specs.Types.{Integer, TruthValue, an_integer}
use Rattle.paper_expressions.specs.View.{View, Item, Task, At, at_first, at_later}
use Rattle.paper_expressions.specs.Operators.{if, extreme, min, is-in}
use Rattle.paper_expressions.specs.Expressions.{Expr, Atom, IntegerLit, Listing, Apply, ε, ◌▸◌}
use Rattle.paper_expressions.proofs.Laws.WithinLimits.{Limited, one_limited, integer_small, Modest, atom_modest, integer_modest, listing_modest, apply_modest, none_modest, more_modest}
use Rattle.paper_expressions.proofs.Laws.Typing.{type_has}
use Rattle.paper_expressions.proofs.Laws.Promise.{eval_only}
use Rattle.paper_expressions.proofs.Laws.Soundness.{sound_if}
use Rattle.parts.specs.Codes.{declared_code}
use Rattle.parts.specs.Texts.{text_at_fn}
use Rattle.parts.specs.Part.{Table, table, Ends, Within}
use Rattle.values.specs.declared.value.Value.{Value}
use Rattle.values.specs.Meaning.{meaning_v}
use Rattle.apply.specs.Tasks.{name_of, state_number}
use Rattle.evaluator.specs.Columns.{Columns, columns, shown, shown_at, Setting}
use Rattle.evaluator.specs.Published.{Published}

-- ---- the guideline

abbrev guideline : View
guideline =
    record {
      items = record { name = bytes "a"; declared = an_integer; value = some (one (integer (pos 3))) } ∷ [];
      tasks = record { name = none; parent = none; state = some in_progress } ∷ record { name = some (bytes "t"); parent = some 0; state = some dormant } ∷ [];
    }

abbrev expression : Expr
expression =
    Apply if
    (Apply (is-in dormant) (Atom (bytes "t") ▸ ε)
    ▸ Apply (extreme min) (Listing (Atom (bytes "a") ▸ IntegerLit (pos 5) ▸ ε) ▸ ε)
    ▸ IntegerLit (pos 9)
    ▸ ε)

-- ---- the tables

abbrev parts : Table
parts =
    table
    (1 ∷ 0 ∷ 1 ∷ 65
    ∷ 150 ∷ 1 ∷ 2 ∷ 0
    ∷ 1 ∷ 0 ∷ 1 ∷ 1
    ∷ 2 ∷ 0 ∷ 1 ∷ 2_000_000_005
    ∷ 5 ∷ 2 ∷ 3 ∷ 0
    ∷ 131 ∷ 1 ∷ 4 ∷ 0
    ∷ 2 ∷ 0 ∷ 1 ∷ 2_000_000_009
    ∷ 70 ∷ 3 ∷ 8 ∷ 0
    ∷ [])
    (bytes "at")

abbrev lent : Columns
lent = columns (1 ∷ []) (0 ∷ 2 ∷ []) (0 ∷ 2_000_000_003 ∷ []) (0 ∷ 65 ∷ []) (2 ∷ 1 ∷ [])

-- ---- what the contract asks

three_held : Limited (one (integer (pos 3)))
three_held = one_limited (integer_small {n = pos 3} (omega arith))

small : {i : ℕ} {x : Item} {w : paper.Value} → At guideline.items i x → x.value ≡ some w → Limited w
small {w} at_first e = let q : one (integer (pos 3)) ≡ w = cc in subst Limited q three_held
small (at_later h) e = elim h [ ]

name_at : {i : ℕ} {x : Item} → At guideline.items i x → text_at_fn (bytes "at") (get_or lent.names i 0) ≡ x.name
name_at at_first = refl
name_at (at_later h) = elim h [ ]

type-at : {i : ℕ} {x : Item} → At guideline.items i x → get_or (2 ∷ []) i 0 ≡ declared_code x.declared
type-at at_first = refl
type-at (at_later h) = elim h [ ]

value-at : {i : ℕ} {x : Item} → At guideline.items i x → shown_at (bytes "at") lent.tags lent.nums i ≡ shown x.value
value-at at_first = refl
value-at (at_later h) = elim h [ ]

task_at : {i : ℕ} {x : Task} → At guideline.tasks i x → x.name ≡ name_of (bytes "at") lent.tasks i
task_at at_first = refl
task_at (at_later at_first) = refl
task_at (at_later (at_later h)) = elim h [ ]

state_at : {i : ℕ} {x : Task} → At guideline.tasks i x → get_or lent.states i 0 ≡ state_number x.state
state_at at_first = refl
state_at (at_later at_first) = refl
state_at (at_later (at_later h)) = elim h [ ]

setting : Setting parts lent guideline
setting =
    record {
      apart = (sound_if guideline refl).apart;
      held = record { held = small };
      items = record { types = 2 ∷ []; items = record { number = refl; named = name_at; typed = type-at }; values = value-at };
      tasks = record { number = refl; named = task_at; stated = state_at };
    }

ends : Ends parts 8 expression
ends =
    record {
      start = 0;
      spans = refl;
      held = (
        (
          ((record { kinds = refl; counts = refl; sizes = refl; loads = refl }, tt), record { kinds = refl; counts = refl; sizes = refl; loads = refl }),
          (
            ((((record { kinds = refl; counts = refl; sizes = refl; loads = refl }, (record { kinds = refl; counts = refl; sizes = refl; loads = refl }, tt)), record { kinds = refl; counts = refl; sizes = refl; loads = refl }), tt), record { kinds = refl; counts = refl; sizes = refl; loads = refl }),
            (record { kinds = refl; counts = refl; sizes = refl; loads = refl }, tt),
          ),
        ),
        record { kinds = refl; counts = refl; sizes = refl; loads = refl },
      );
    }

modest : Modest expression
modest =
    apply_modest
    (more_modest (apply_modest (more_modest (atom_modest {a = bytes "t"} (omega arith)) none_modest))
    (more_modest (apply_modest (more_modest (listing_modest {es = Atom (bytes "a") ▸ IntegerLit (pos 5) ▸ ε} (omega arith) (more_modest (atom_modest {a = bytes "a"} (omega arith)) (more_modest (integer_modest {n = pos 5} (omega arith)) none_modest))) none_modest))
    (more_modest (integer_modest {n = pos 9} (omega arith)) none_modest)))

within : Within 4 expression
within = (omega arith, ((omega arith, (omega arith, tt)), ((omega arith, ((omega arith, (omega arith, (omega arith, tt))), tt)), (omega arith, tt))))

-- ---- what it then says

pub example : (r : Value) → Published parts lent 0 8 4 r → meaning_v (bytes "at") r ≡ one (integer (pos 3))
example r f =
    let sound = sound_if guideline refl in
    let v = f guideline expression Integer sound setting ends within modest (type_has guideline 0 expression refl) in
    let e = eval_only guideline 0 sound.apart v.fits in
    cc

-- ---- `is_dormant('')`, where a task is named '' and dormant, is true

abbrev nameless : View
nameless =
    record {
      items = [];
      tasks = record { name = none; parent = none; state = some in_progress } ∷ record { name = some []; parent = some 0; state = some dormant } ∷ [];
    }

abbrev asks : Expr
asks = Apply (is-in dormant) (Atom [] ▸ ε)

abbrev two_parts : Table
two_parts = table (1 ∷ 0 ∷ 1 ∷ 0 ∷ 150 ∷ 1 ∷ 2 ∷ 0 ∷ []) []

abbrev two_tasks : Columns
two_tasks = columns [] [] [] (0 ∷ 0 ∷ []) (2 ∷ 1 ∷ [])

its_name : {i : ℕ} {x : Task} → At nameless.tasks i x → x.name ≡ name_of [] two_tasks.tasks i
its_name at_first = refl
its_name (at_later at_first) = refl
its_name (at_later (at_later h)) = elim h [ ]

its_state : {i : ℕ} {x : Task} → At nameless.tasks i x → get_or two_tasks.states i 0 ≡ state_number x.state
its_state at_first = refl
its_state (at_later at_first) = refl
its_state (at_later (at_later h)) = elim h [ ]

its_setting : Setting two_parts two_tasks nameless
its_setting =
    record {
      apart = (sound_if nameless refl).apart;
      held = record { held = λ h. elim h [ ] };
      items = record { types = []; items = record { number = refl; named = λ h. elim h [ ]; typed = λ h. elim h [ ] }; values = λ h. elim h [ ] };
      tasks = record { number = refl; named = its_name; stated = its_state };
    }

pub nameless_example : (r : Value) → Published two_parts two_tasks 0 2 2 r → meaning_v [] r ≡ one (truth true)
nameless_example r f =
    let sound = sound_if nameless refl in
    let part : Ends two_parts 2 asks = record { start = 0; spans = refl; held = ((record { kinds = refl; counts = refl; sizes = refl; loads = refl }, tt), record { kinds = refl; counts = refl; sizes = refl; loads = refl }) } in
    let v = f nameless asks TruthValue sound its_setting part (omega arith, (omega arith, tt)) (apply_modest (more_modest (atom_modest {a = []} (omega arith)) none_modest)) (type_has nameless 0 asks refl) in
    let e = eval_only nameless 0 sound.apart v.fits in
    cc
