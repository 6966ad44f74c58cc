-- `next`: with no turn done the line is the one that was held; after one, none was.
use Rattle.std.proofs.Common.{◌≡◌, ℕ, refl, inl, inr, ⊎_elim, arith}
use Rattle.typed_lines.specs.LineLaws.{line_again}
use Rattle.typed_lines.proofs.lines.next.Goals as goal

pub loop-turn-init : goal.loop-turn-init
loop-turn-init c = inl (refl, refl, refl)

pub returns-then-is_line : goal.returns-then-is_line
returns-then-is_line c = record { line = c.is_line.ensures.0 c.if-is_line.true; unread = λ w. ⊎_elim (λ e. (e.1, e.2)) (λ n. absurd (n w)) c.loop-turn.invariant; cells = c.loop-turn.auto.buffer }

pub loop-turn-preserved : goal.loop-turn-preserved
loop-turn-preserved c = inr (λ w. ⊎_elim (λ e. absurd (let t = c.is_line.ensures.1 (line_again _ _ _ _ e.1 e.2 w) in let f = c.if-is_line.false in let z : ◌≡◌ {A = ℕ} 0 1 = cc in omega arith)) (λ n. n w) c.loop-turn.invariant)

pub returns : goal.returns
returns c =
    let l = c.loop-turn-test.false in
    record { line = inl refl; unread = λ w. ⊎_elim (λ e. absurd (let z = e.0 in omega arith)) (λ n. absurd (n w)) c.loop-turn.invariant; cells = c.loop-turn.auto.buffer }
