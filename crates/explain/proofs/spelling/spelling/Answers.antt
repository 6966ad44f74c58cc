-- `spelling`: the bytes behind the first of a cell, as many as that says, are those of the spelling, one by one.
use Rattle.std.proofs.Common.{rules, ◌≡◌, [], get_or, ℕ, ◌+◌, ◌*◌, ◌<◌, ◌≤◌, length, take, drop, List, ◌∷◌, refl, ◌∙◌, arith, length-take, length-drop}
use Rattle.std.proofs.lemmas.List.{ext_get_or, get_or-take, get_or-drop}
use Rattle.paper_tokens.specs.Words.{reserved}
use Rattle.explain.specs.Spelling.{others, spellings, spellings_table, size_at, size_past, letter_at, short}
use Rattle.explain.proofs.spelling.spelling.Goals as goal

none : (s : List ℕ) → 0 ≡ length s → [] ≡ s
none [] e = refl
none (x ∷ s) e = absurd (omega arith)

long : length spellings_table ≡ 2424
unfolding reserved others spellings spellings_table
long = refl

whole : (t : List ℕ) (k w n m : ℕ) → t ≡ spellings_table → k ≤ 100 → w ≡ k → n ≡ get_or t (w * 24) 0 → m ≡ n → take m (drop (w * 24 + 1) t) ≡ get_or spellings k []
whole t k w n m et h ew en em =
    let l = long in
    let s = short k in
    let z = size_at k h in
    let f : m ≡ length (get_or spellings k []) = em ∙ en ∙ rw (et, ew) z in
    rw (et, ew)
    (ext_get_or 0 _ _ (simp (length-take, length-drop) (omega arith))
    (λ i u.
    let b = simp length-take at u in
    let v : i < m = omega arith in
    rw (get_or-take {A = ℕ} m _ i 0 v, get_or-drop) (letter_at k i h (omega arith))))

pub returns-then-k-ge-COUNT : goal.returns-then-k-ge-COUNT
returns-then-k-ge-COUNT c = none _ (size_past c.args.k (omega arith))

pub slice_bounds-result-end-2 : goal.slice_bounds-result-end-2
slice_bounds-result-end-2 c =
    let s = short c.args.k in
    let e = size_at c.args.k (omega arith) in
    let a = c.from-at.ensures in
    let n : c.from-n.result ≡ length (get_or spellings c.args.k []) = c.from-n.ensures ∙ rw (c.requires, a) e in
    search rules

pub returns : goal.returns
returns c = whole c.args.t.now c.args.k c.from-at.result c.from-n.result _ c.requires (omega arith) c.from-at.ensures c.from-n.ensures (omega arith)
