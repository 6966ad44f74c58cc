-- `push` copies the alternative's symbols, as they stand in the table, to the stack.
use Rattle.std.proofs.Common.{ℕ, ◌+◌, ◌-◌, ◌*◌, ◌≤◌, ◌<◌, ◌≡◌, List, length, take, drop, arith, ap, ◌∙◌}
use Rattle.std.proofs.lemmas.List.{length-drop, length-take-le}
use Rattle.grammar.specs.Tables.{byte_of, side_of, table}
use Rattle.grammar.proofs.TableLaws.{side_many, side_within, side_at, side_short}
use Rattle.grammar.proofs.MachineLaws.{written, written_length}
use Rattle.grammar.proofs.push.Goals as goal

pub overflow_sub-at : goal.overflow_sub-at
overflow_sub-at c =
    let w = side_many c.args.a c.from-n.result (c.from-n.ensures ∙ c.byte.ensures) in
    let s = side_short c.args.a in
    let h = c.requires.stack_len.2 in
    omega arith

pub slice_bounds-side-end : goal.slice_bounds-side-end
slice_bounds-side-end c =
    let l = ap length c.requires.t_value in
    let w = side_within c.args.a c.from-n.result c.requires.stack_len.1 (c.from-n.ensures ∙ c.byte.ensures) in
    omega arith

-- what is copied
part : (t : List ℕ) (a n : ℕ) → t ≡ table → a < 210 → n ≡ byte_of a 1 → take (97 + a * 10 + 2 + n - (97 + a * 10 + 2)) (drop (97 + a * 10 + 2) t) ≡ side_of a
part t a n e h w =
    let m : 97 + a * 10 + 2 + n - (97 + a * 10 + 2) ≡ n = omega arith in
    ap (λ (l : List ℕ). take (97 + a * 10 + 2 + n - (97 + a * 10 + 2)) (drop (97 + a * 10 + 2) l)) e
    ∙ ap (λ (k : ℕ). take k (drop (97 + a * 10 + 2) table)) m ∙ side_at a n h w

pub copy_from_slice-requires : goal.copy_from_slice-requires
copy_from_slice-requires c =
    let st = c.args.stack.now in
    let at = c.args.top - c.from-n.result in
    let w = side_many c.args.a c.from-n.result (c.from-n.ensures ∙ c.byte.ensures) in
    let s = side_short c.args.a in
    let h = c.requires.stack_len in
    let h0 = h.0 in
    let h2 = h.2 in
    let h3 = h.3 in
    let p = ap length (part c.args.t.now c.args.a c.from-n.result c.requires.t_value h.1 (c.from-n.ensures ∙ c.byte.ensures)) in
    let l : c.args.top - at ≤ length (drop at st) = omega (arith, length-drop at st) in
    let q = length-take-le (c.args.top - at) (drop at st) l in
    omega arith

pub returns : goal.returns
returns c =
    let st = c.args.stack.now in
    let top = c.args.top in
    let at = top - c.from-n.result in
    let w = side_many c.args.a c.from-n.result (c.from-n.ensures ∙ c.byte.ensures) in
    let s = side_short c.args.a in
    let h = c.requires.stack_len in
    let h0 = h.0 in
    let h2 = h.2 in
    let h3 = h.3 in
    let e = c.copy_from_slice.ensures.after ∙ part c.args.t.now c.args.a c.from-n.result c.requires.t_value h.1 (c.from-n.ensures ∙ c.byte.ensures) in
    let n : at + length (side_of c.args.a) ≡ top = omega arith in
    let l : top ≤ length st = omega arith in
    (written_length st (side_of c.args.a) _ top at e n l ∙ h.0, omega arith, omega arith, written st (side_of c.args.a) _ top at e n l)
