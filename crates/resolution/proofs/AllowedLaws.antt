-- Law: the choice among the allowed types that the letters of Allowed.antt say is rule 10's, for every operator and operands. By one computed test for each operator's list.
use Rattle.std.specs.Prelude.{◌≡◌, refl, List, ℕ, ◌/◌, ◌<◌, ◌≤◌, T, length}
use Rattle.paper_expressions.specs.Types.{Ty}
use Rattle.paper_expressions.specs.Values.{dormant, in_progress, discarded, completed}
use Rattle.paper_expressions.specs.Operators.{plus, minus, times, is>, is<, is>=, is<=, is=, is!=, max, min, ◌⇒◌, allowed}
use Rattle.paper_expressions.specs.Operators.{Op, arithmetic, divide, compare, and, or, includes, oneof, if, negate, isknown, not, count, sum, extreme, nth, is-in, no_such}
use Rattle.paper_expressions.specs.Expressions.{Among, First, Applied, rule_10a, rule_10b}
use Rattle.paper_expressions.proofs.Laws.Typing.{no_applied}
use Rattle.parts.specs.Codes.{code}
use Rattle.resolution.specs.Letters.{letter_some, Outcome, is, none}
use Rattle.resolution.specs.Resolution.{slots, entries, plain, or_else, resolve_of, exact_entry, first_entry, one_entry, too_many, too_many_first}
use Rattle.resolution.specs.Allowed.{list_of}

-- the test: these are the definitions' allowed types, in their order
pub listed : (o : Op) → list_of (code o / 10) ≡ entries (allowed o)
listed (arithmetic plus) = refl
listed (arithmetic minus) = refl
listed (arithmetic times) = refl
listed divide = refl
listed (compare is>) = refl
listed (compare is<) = refl
listed (compare is>=) = refl
listed (compare is<=) = refl
listed (compare is=) = refl
listed (compare is!=) = refl
listed and = refl
listed or = refl
listed includes = refl
listed oneof = refl
listed if = refl
listed negate = refl
listed isknown = refl
listed not = refl
listed count = refl
listed sum = refl
listed (extreme max) = refl
listed (extreme min) = refl
listed nth = refl
listed (is-in dormant) = refl
listed (is-in in_progress) = refl
listed (is-in discarded) = refl
listed (is-in completed) = refl
listed (no_such n) = refl

all_plain : (o : Op) → T (plain (allowed o))
all_plain (arithmetic k) = tt
all_plain divide = tt
all_plain (compare k) = tt
all_plain and = tt
all_plain or = tt
all_plain includes = tt
all_plain oneof = tt
all_plain if = tt
all_plain negate = tt
all_plain isknown = tt
all_plain not = tt
all_plain count = tt
all_plain sum = tt
all_plain (extreme e) = tt
all_plain nth = tt
all_plain (is-in s) = tt
all_plain (no_such n) = tt

pub applied : (o : Op) (ts : List Ty) → length ts ≤ 3 → Outcome (Applied o ts) (resolve_of (slots 3 ts) (list_of (code o / 10)))
applied o ts few = rw (listed o) (go (exact_entry ts few (allowed o) (all_plain o)) (first_entry ts few (allowed o) (all_plain o)))
  where
    go : {r s : ℕ} → Outcome (λ t. Among (ts ⇒ t) (allowed o)) r → Outcome (First ts (allowed o)) s → Outcome (Applied o ts) (or_else r s)
    go (is {t} h) k = rw (letter_some t) (is (rule_10a (record { allows = h; only = λ u m. one_entry (allowed o) (all_plain o) m h })))
    go (none f) (is k) = is (rule_10b (λ u w. f u w.allows) k)
    go (none f) (none g) = none (no_applied (λ t w. f t w.allows) g)

-- an operator that is given more than three operands
pub unapplied : (o : Op) (ts : List Ty) → 3 < length ts → (t : Ty) → ¬ Applied o ts t
unapplied o ts m t (rule_10a h) = too_many (allowed o) (all_plain o) m h.allows
unapplied o ts m t (rule_10b n f) = too_many_first (allowed o) (all_plain o) m f
