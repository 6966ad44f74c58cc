-- Laws: bytes that move to the front one by one, and a buffer that has its line.
use Rattle.std.specs.Prelude.{ℕ, ◌+◌, ◌-◌, ◌≤◌, ◌<◌, ◌≡◌, refl, true, false, ◌⊎◌, List, eqb, ltb, length, get_or, set}
use Rattle.std.proofs.Common.{arith, ◌∙◌, ⊎_elim, length-set, get_or-set_same, get_or-set_other, eqb-true, ltb-true, ltb-false}
use Rattle.std.proofs.lemmas.Bool.{eqb-false}
use Rattle.paper_expressions.proofs.Laws.Tests.{two}
use Rattle.typed_lines.specs.Lines.{Newline, Ends, HasLine, Shifted}
use Rattle.typed_lines.specs.declared.lines.Held.{Held}

-- k bytes have moved
pub record Moving (b : List ℕ) (from k : ℕ) (v : List ℕ) : Type 0 where
  pub cells : length v ≡ length b
  pub fits : k ≤ length b - from
  pub moved : (j : ℕ) → j < k → get_or v j 0 ≡ get_or b (from + j) 0
  pub stays : (j : ℕ) → k ≤ j → get_or v j 0 ≡ get_or b j 0

pub moving_none : (b : List ℕ) (from : ℕ) → Moving b from 0 b
moving_none b from = record { cells = refl; fits = omega arith; moved = λ j l. absurd (omega arith); stays = λ j l. refl }

pub moving_more : (b : List ℕ) (from k : ℕ) (v : List ℕ) → from + k < length b → Moving b from k v → Moving b from (k + 1) (set v k (get_or v (from + k) 0))
moving_more b from k v l m = record { cells = length-set v k (get_or v (from + k) 0) ∙ m.cells; fits = (let z = m.fits in omega arith); moved = moved; stays = stays }
  where
    moved : (j : ℕ) → j < k + 1 → get_or (set v k (get_or v (from + k) 0)) j 0 ≡ get_or b (from + j) 0
    moved j q = ⊎_elim
        (λ (e : eqb j k ≡ true). let n = m.cells in rw (eqb-true j k e, get_or-set_same v k (get_or v (from + k) 0) 0 (omega arith)) (m.stays (from + k) (omega arith)))
        (λ (e : eqb j k ≡ false). let f = eqb-false j k e in get_or-set_other v k j (get_or v (from + k) 0) 0 f ∙ m.moved j (omega arith))
        (two (eqb j k))

    stays : (j : ℕ) → k + 1 ≤ j → get_or (set v k (get_or v (from + k) 0)) j 0 ≡ get_or b j 0
    stays j q = get_or-set_other v k j (get_or v (from + k) 0) 0 (λ e. omega arith) ∙ m.stays j (omega arith)

pub moving_all : (b : List ℕ) (from to k : ℕ) (v : List ℕ) → k ≤ to - from → (to - from ≤ k) ⊎ (length b ≤ from + k) → Moving b from k v → Shifted b from to v
moving_all b from to k v l q m = record {
  cells = m.cells;
  moved = λ j a c. m.moved j (⊎_elim (λ z. omega arith) (λ z. omega arith) q);
  stays = λ j a. let y = m.fits in m.stays j (⊎_elim (λ z. omega arith) (λ z. omega arith) a);
}

-- nothing is to be moved
pub shifted_none : (b : List ℕ) (from to : ℕ) → to ≤ from → Shifted b from to b
shifted_none b from to l = record { cells = refl; moved = λ k q. absurd (omega arith); stays = λ k q. refl }

-- a newline that is held is found
pub found_below : (b : List ℕ) (n r : ℕ) → Newline b n r → Ends b n → r < n
found_below b n r w e = ⊎_elim
    (λ (t : ltb r n ≡ true). ltb-true r n t)
    (λ (t : ltb r n ≡ false).
    let l = ltb-false r n t in
    let m = e.below in
    absurd (w.earlier e.place (omega arith) e.newline))
    (two (ltb r n))

-- what has a line once has it again
pub line_again : (b v : List ℕ) (h k : Held) → k ≡ h → v ≡ b → HasLine b h → HasLine v k
line_again b v h k e f w = rw (e, f) w
