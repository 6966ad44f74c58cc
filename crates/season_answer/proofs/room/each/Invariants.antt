-- `each`: turn by turn (`Turn`), whatever bytes the calls append.
use Rattle.std.proofs.Common.{ℕ, ◌<◌, List}
use Rattle.digits.specs.Appends.{Appends}
use Rattle.season_answer.specs.FieldsLaws.{Turn}
use Rattle.season_answer.proofs.room.each.Given as goal

abbrev pub invariant-loop-i : goal.invariant-loop-i
invariant-loop-i g l =
    (w : ℕ → List ℕ) → ((i : ℕ) (s : _) (p r : ℕ) (t : _) → i < l.n → goal.F-post g l.one i s p r t → Appends s.now t.now p r (w i)) → Turn w l.n l.initial.out l.out l.o l.p l.i
