-- `behind`: the bytes left decide what all decide, up to the point, or up to the end.
use Rattle.std.proofs.Common.{ℕ, List, ◌≡◌, ◌+◌, ◌-◌, ◌<◌, ◌≤◌, length, get_or, take, drop, arith, sym, ap, ◌∙◌}
use Rattle.std.proofs.lemmas.List.{at_drop_all}
use Rattle.paper_tokens.specs.Literals.{behind_point}
use Rattle.leaves.specs.Cells.{sliced, drop_cells, cell_at, cells_more, length_cells}
use Rattle.token_tests.proofs.sizes.behind.Goals as goal

abbrev long : List ℕ → ℕ
long w = length (behind_point w)

at_point : (t : List ℕ) (at n i : ℕ) → at + n ≤ length t → i < length (take (at + n - at) (drop at t)) → get_or (take (at + n - at) (drop at t)) i 0 ≡ 46
    → long (drop i (take (at + n - at) (drop at t))) ≡ n - i - 1
at_point t at n i r h b =
    let e = sliced t at n r in
    let l : i < n = rw (e, length_cells t at n) at h in
    let y : get_or t (at + i) 0 ≡ 46 = sym (cell_at t at n i l) ∙ (rw e at b) in
    rw (e, drop_cells t at n i, cells_more t (at + i) (n - i) (omega arith), y) (length_cells t (at + i + 1) (n - i - 1))

pub returns-then-b-eq46 : goal.returns-then-b-eq46
returns-then-b-eq46 c =
    let a = c.args in
    let l = c.loop-i in
    sym (at_point a.text.now a.at a.n l.i c.requires c.loop-i-test.true c.if-b-eq46.true) ∙ l.invariant ∙ ap long (sliced a.text.now a.at a.n c.requires)

pub returns : goal.returns
returns c =
    let a = c.args in
    let l = c.loop-i in
    sym (at_drop_all long _ l.i c.loop-i-test.false) ∙ l.invariant ∙ ap long (sliced a.text.now a.at a.n c.requires)
