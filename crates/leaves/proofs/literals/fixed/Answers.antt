-- `fixed`: the bytes left go on from what is read, up to the point, or up to the end.
use Rattle.std.proofs.Common.{ℕ, List, ◌≡◌, ◌+◌, ◌-◌, ◌*◌, ◌<◌, ◌≤◌, length, get_or, take, drop, arith, refl, sym, ap, ◌∙◌}
use Rattle.std.proofs.lemmas.List.{at_drop_all}
use Rattle.parts.specs.Texts.{cells}
use Rattle.leaves.specs.Cells.{sliced, drop_cells, cell_at, cells_more, length_cells}
use Rattle.leaves.specs.Numbers as N
use Rattle.leaves.proofs.literals.fixed.Goals as goal

at_point : (t : List ℕ) (at n i v : ℕ) → at + n ≤ length t → i < length (take (at + n - at) (drop at t)) → get_or (take (at + n - at) (drop at t)) i 0 ≡ 46
    → N.fixed v (drop i (take (at + n - at) (drop at t))) ≡ v * 1000 + N.three (cells t (at + i + 1) (n - i - 1))
at_point t at n i v r h b =
    let e = sliced t at n r in
    let l : i < n = rw (e, length_cells t at n) at h in
    let y : get_or t (at + i) 0 ≡ 46 = sym (cell_at t at n i l) ∙ (rw e at b) in
    rw (e, drop_cells t at n i, cells_more t (at + i) (n - i) (omega arith), y) refl

pub returns-then-b-eq46 : goal.returns-then-b-eq46
returns-then-b-eq46 c =
    let a = c.args in
    let l = c.loop-i in
    let h = c.three.ensures in
    let m = l.invariant.0 in (
      ap (λ (x : ℕ). l.v * 1000 + x) h.0 ∙ sym (at_point a.text.now a.at a.n l.i l.v c.requires c.loop-i-test.true c.if-b-eq46.true)
          ∙ l.invariant.1 ∙ ap (N.fixed 0) (sliced a.text.now a.at a.n c.requires),
      omega arith,
    )

pub returns : goal.returns
returns c =
    let a = c.args in
    let l = c.loop-i in
    let m = l.invariant.0 in
    (sym (at_drop_all (N.fixed l.v) _ l.i c.loop-i-test.false) ∙ l.invariant.1 ∙ ap (N.fixed 0) (sliced a.text.now a.at a.n c.requires), omega arith)
