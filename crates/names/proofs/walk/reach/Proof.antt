-- `reach`: each turn follows one task that waits; what the marks lack falls.
use mathlib.Core.Path.{◌≡◌, refl, sym, subst, ◌∙◌}
use mathlib.Core.List.{List}
use Prim.Native.Nat.{ℕ}
use lib.ListN.{length, set, length-set}
use borrow.Author.Rules.{rules}
use Rattle.row_tests.specs.Table.{sheet}
use Rattle.names.specs.Walk.{Waits, Begun, Walked, lack, lacks, no_marks, walk_first, walk_next, walk_end}
use Rattle.names.proofs.walk.reach.Statement.{statement}
use Rattle.names.proofs.walk.reach.Tie as tie

abbrev invariant-loop : tie.invariant-loop-i
invariant-loop rows n bytes tasks m marks₀ i₀ marks i =
    (length marks ≡ length marks₀) × Waits marks i × ((blank : List ℕ) → marks₀ ≡ set blank 0 1 → Begun rows n bytes tasks m blank → Walked (sheet rows n bytes) tasks m marks)

abbrev decreases-loop : tie.decreases-loop-i
decreases-loop rows n bytes tasks m marks₀ i₀ marks i = lack marks

returns : tie.Need-returns-then-marks-eq0 invariant-loop decreases-loop
returns c = record { long = refl; told = λ g. absurd (no_marks g c.if-marks-eq0.true) }

loop-holds : tie.Need-loop-i-init invariant-loop decreases-loop
loop-holds c = let a = c.args in (refl, c.waiting-i.ensures, λ blank e g. subst (Walked (sheet a.rows.now a.n a.bytes.now) a.tasks.now a.m) (sym e) (walk_first g))

loop-less : tie.Need-loop-i-smaller invariant-loop decreases-loop
loop-less c = let w = c.spread.ensures in lacks c.loop-i.invariant.1 c.loop-i-test.true w.0 w.1

loop-again : tie.Need-loop-i-preserved invariant-loop decreases-loop
loop-again c =
    let v = c.loop-i.invariant in
    let w = c.spread.ensures in
    let l = w.0 ∙ length-set c.loop-i.marks c.loop-i.i 2 ∙ v.0 in
    (l, c.waiting-i-in-loop-i.ensures, λ blank e g. walk_next g (v.2 blank e g) v.1 (v.0 ∙ subst (λ (z : List ℕ). length z ≡ length blank) (sym e) (length-set blank 0 1)) c.loop-i-test.true c.number.ensures w)

same_length : tie.Need-shape_of-marks invariant-loop decreases-loop
same_length c = c.loop-i.invariant.0 ∙ length-set c.args.marks.now 0 1

returns-2 : tie.Need-returns invariant-loop decreases-loop
returns-2 c =
    let a = c.args in
    let v = c.loop-i.invariant in
    let l = v.0 ∙ length-set a.marks.now 0 1 in
    record { long = l; told = λ g. walk_end g (v.2 a.marks.now refl g) v.1 l c.loop-i-test.false }

pub reach_spec : {M : Type 1} → statement M
reach_spec =
    tie.close
    (tie.spec
    invariant-loop
    decreases-loop
    returns
    (λ c. search rules) (λ c κs. search rules)
    loop-holds
    (λ c. search rules) (λ c κs. search rules) (λ c κs. search rules) (λ c κs. search rules)
    loop-less
    loop-again
    same_length
    returns-2)
