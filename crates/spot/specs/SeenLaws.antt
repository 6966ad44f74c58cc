-- One byte more, in each of the four cases; and the refusal of a text that is too long. By what stands at each place of a longer text.
use Rattle.std.specs.Prelude.{ℕ, zero, suc, ◌+◌, ◌-◌, ◌≤◌, ◌<◌, ◌≡◌, refl, true, false, List, [], ◌∷◌, ◌++◌, eqb, ltb, length, take, get_or}
use Rattle.std.proofs.Common.{add-one, arith, sym, ap, subst, ◌∙◌, inl, inr, ⊎_elim, append_assoc, length-append, take-suc, ltb-true, ltb-false, eq-eqb, ne_eqb}
use Rattle.std.proofs.Math.ListN.{get_or-append}
use Rattle.std.proofs.Math.Seq.{get_or-append_seam}
use Rattle.paper_expressions.proofs.Laws.Tests.{two, contra}
use Rattle.paper_expressions.specs.View.{At, at_first, at_later}
use Rattle.paper_guideline.specs.Limits.{guideline_limit}
use Rattle.paper_guideline.specs.Refusals.{text_stage, Breach, high_byte, long, Refused}
use Rattle.spot.specs.Lines.{newline, newlines, Unbroken, Begins, one_more, unbroken_up}
use Rattle.spot.specs.Seen.{high_at, Describes}
use Rattle.spot.specs.declared.seen.Seen.{Seen}

-- ---- a longer text is the same up to the end of the shorter

newlines_few : (t : List ℕ) (n : ℕ) → newlines t n ≤ n
newlines_few t zero = omega arith
newlines_few t (suc n) = let h = newlines_few t n in ⊎_elim
    (λ (e : eqb (get_or t n 0) 10 ≡ true). rw e (omega arith))
    (λ (e : eqb (get_or t n 0) 10 ≡ false). rw e (omega arith))
    (two (eqb (get_or t n 0) 10))

newlines_same : (t u : List ℕ) (n : ℕ) → n ≤ length t → newlines (t ++ u) n ≡ newlines t n
newlines_same t u zero h = refl
newlines_same t u (suc n) h =
    let a = newlines_same t u n (omega arith) in
    let b = get_or-append t u 0 n (omega arith) in
    subst (λ (x : ℕ). newlines (t ++ u) n + newline x ≡ newlines t n + newline (get_or t n 0)) (sym b) (ap (λ (x : ℕ). x + newline (get_or t n 0)) a)

unbroken_same : (t u : List ℕ) (a n : ℕ) → n ≤ length t → Unbroken t a n → Unbroken (t ++ u) a n
unbroken_same t u a n h w i l g e = w i l g (sym (get_or-append t u 0 i (omega arith)) ∙ e)

begins_same : (t u : List ℕ) (p b : ℕ) → p ≤ length t → Begins t p b → Begins (t ++ u) p b
begins_same t u p b h s =
    let l = s.before in
    record {
      before = l;
      whole = unbroken_same t u b p h s.whole;
      first = ⊎_elim
          (λ (e : b ≡ 0). inl e)
          (λ (e : get_or t (b - 1) 0 ≡ 10). ⊎_elim
          (λ (f : ltb 0 b ≡ true). let g = ltb-true 0 b f in inr (get_or-append t u 0 (b - 1) (omega arith) ∙ e))
          (λ (f : ltb 0 b ≡ false). let g = ltb-false 0 b f in inl (omega arith))
          (two (ltb 0 b)))
          s.first;
    }

longer : (t : List ℕ) (b : ℕ) → length (t ++ (b ∷ [])) ≡ length t + 1
longer t b = length-append t (b ∷ [])

last_is : (t : List ℕ) (b p : ℕ) → p ≡ length t → get_or (t ++ (b ∷ [])) p 0 ≡ b
last_is t b p e = ap (λ (i : ℕ). get_or (t ++ (b ∷ [])) i 0) e ∙ get_or-append_seam t b [] 0

-- ---- one byte more

module _ {t : List ℕ} {s : Seen} (d : Describes t s) (b : ℕ) where
  earlier : (i : ℕ) → i < s.place → get_or (t ++ (b ∷ [])) i 0 ≤ 127
  earlier i h = let w = d.within in subst (λ (x : ℕ). x ≤ 127) (sym (get_or-append t (b ∷ []) 0 i (omega arith))) (d.before i h)

  line_stays : s.line ≡ newlines (t ++ (b ∷ [])) s.place + 1
  line_stays = d.line ∙ ap (λ (x : ℕ). x + 1) (sym (newlines_same t (b ∷ []) s.place d.within))

  begins_stays : Begins (t ++ (b ∷ [])) s.place s.begin
  begins_stays = begins_same t (b ∷ []) s.place s.begin d.within d.begins

  pub line_fits : s.line ≤ length t + 1
  line_fits = let e = d.line in let f = newlines_few t s.place in let w = d.within in omega arith

  -- behind a byte over 127 nothing changes
  pub after_high : (n : ℕ) → n ≡ s.total + 1 → s.high ≡ true
      → Describes (t ++ (b ∷ [])) (high_at s n)
  after_high n e h =
      let l = longer t b in
      let f = d.total in
      let w = d.there h in
      let a = w.0 in
      record {
        total = omega arith;
        within = omega arith;
        before = earlier;
        there = λ _. (omega arith, subst (λ (x : ℕ). 127 < x) (sym (get_or-append t (b ∷ []) 0 s.place a)) w.1);
        none = λ x. contra (sym x);
        line = line_stays;
        begins = begins_stays;
      }

  -- the first byte over 127
  pub first_high : (n : ℕ) → n ≡ s.total + 1 → s.high ≡ false → 127 < b
      → Describes (t ++ (b ∷ [])) (high_at s n)
  first_high n e h g =
      let l = longer t b in
      let f = d.total in
      let a = d.none h in
      record {
        total = omega arith;
        within = omega arith;
        before = earlier;
        there = λ _. (omega arith, subst (λ (x : ℕ). 127 < x) (sym (last_is t b s.place a)) g);
        none = λ x. contra (sym x);
        line = line_stays;
        begins = begins_stays;
      }

  -- a byte that is not
  module _ (h : s.high ≡ false) (g : b ≤ 127) where
    earlier_yet : (m : ℕ) → m ≡ s.place + 1 → (i : ℕ) → i < m → get_or (t ++ (b ∷ [])) i 0 ≤ 127
    earlier_yet m e i l = ⊎_elim
        (λ (f : ltb i s.place ≡ true). earlier i (ltb-true i s.place f))
        (λ (f : ltb i s.place ≡ false).
        let k = ltb-false i s.place f in
        let a = d.none h in
        let z : i ≡ length t = omega arith in
        subst (λ (x : ℕ). x ≤ 127) (sym (last_is t b i z)) g)
        (two (ltb i s.place))

    counted : (m : ℕ) → m ≡ s.place + 1 → newlines (t ++ (b ∷ [])) m + 1 ≡ s.line + newline b
    counted m e =
        let a = ap (newlines (t ++ (b ∷ []))) e ∙ one_more (t ++ (b ∷ [])) s.place in
        let c = ap newline (last_is t b s.place (d.none h)) in
        let f = line_stays in
        omega arith

    pub plain : (n m : ℕ) → n ≡ s.total + 1 → m ≡ s.place + 1 → ¬ (b ≡ 10)
        → Describes (t ++ (b ∷ [])) (record { total = n; place = m; high = false; line = s.line; begin = s.begin })
    plain n m e f k =
        let l = longer t b in
        let x = d.total in
        let a = d.none h in
        let o = rw (ne_eqb b 10 k) at (counted m f) in
        let y = begins_stays in
        let z = y.before in
        record {
          total = omega arith;
          within = omega arith;
          before = earlier_yet m f;
          there = λ q. contra q;
          none = λ _. omega arith;
          line = omega arith;
          begins = record {
            before = omega arith;
            whole = subst (Unbroken (t ++ (b ∷ [])) s.begin) (sym f)
                (unbroken_up (t ++ (b ∷ [])) s.begin s.place (λ q. k (sym (last_is t b s.place a) ∙ q)) y.whole);
            first = y.first;
          };
        }

    pub new_line : (n m j : ℕ) → n ≡ s.total + 1 → m ≡ s.place + 1 → j ≡ s.line + 1 → b ≡ 10
        → Describes (t ++ (b ∷ [])) (record { total = n; place = m; high = false; line = j; begin = m })
    new_line n m j e f v k =
        let l = longer t b in
        let x = d.total in
        let a = d.none h in
        let o = rw (eq-eqb b 10 k) at (counted m f) in
        let w : m - 1 ≡ length t = omega arith in
        record {
          total = omega arith;
          within = omega arith;
          before = earlier_yet m f;
          there = λ q. contra q;
          none = λ _. omega arith;
          line = omega arith;
          begins = record { before = omega arith; whole = λ i p q. absurd (omega arith); first = inr (last_is t b (m - 1) w ∙ k) };
        }

pub chunk_more : (t chunk : List ℕ) (i : ℕ) → i < length chunk → (t ++ take i chunk) ++ (get_or chunk i 0 ∷ []) ≡ t ++ take (i + 1) chunk
chunk_more t chunk i h =
    append_assoc t (take i chunk) (get_or chunk i 0 ∷ [])
    ∙ ap (λ (l : List ℕ). t ++ l) (sym (take-suc chunk i 0 h) ∙ ap (λ (n : ℕ). take n chunk) (sym (add-one i)))

-- ---- a text over the limit is refused with 1 at the place

at_is : {l : List ℕ} {i x : ℕ} → At l i x → get_or l i 0 ≡ x
at_is at_first = refl
at_is (at_later a) = at_is a

is_at : (l : List ℕ) (i : ℕ) → i < length l → At l i (get_or l i 0)
is_at [] i h = absurd (omega arith)
is_at (x ∷ l) zero h = at_first
is_at (x ∷ l) (suc i) h = at_later (is_at l i (omega arith))

module _ {t : List ℕ} {s : Seen} (d : Describes t s) where
  least : {q : ℕ} → Breach ⊥ t text_stage q → s.place ≤ q
  least {q} (high_byte {b} a l) =
      let e = at_is a in
      ⊎_elim
      (λ (f : ltb q s.place ≡ true). let z = d.before q (ltb-true _ _ f) in absurd (omega arith))
      (λ (f : ltb q s.place ≡ false). ltb-false _ _ f)
      (two (ltb q s.place))
  least (long l) = d.within

  broken : guideline_limit < length t → Breach ⊥ t text_stage s.place
  broken h = ⊎_elim
      (λ (e : s.high ≡ true). let w = d.there e in high_byte (is_at t s.place w.0) w.1)
      (λ (e : s.high ≡ false). subst (Breach ⊥ t text_stage) (sym (d.none e)) (long h))
      (two s.high)

  pub refused_long : guideline_limit < length t → Refused ⊥ t 1 s.place
  refused_long h = record {
    stage = text_stage;
    broken = broken h;
    numbered = refl;
    smallest = λ {q} b. least b;
    first = λ {s} {q} l. absurd (omega arith);
  }
