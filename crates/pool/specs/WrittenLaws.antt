-- Laws of writing cells: writing that goes on where it stopped is one writing, and what is written can be read. By the bounds of each part.
use Rattle.std.specs.Prelude.{◌≡◌, refl, ◌⊎◌, List, [], ◌∷◌, ◌++◌, ℕ, zero, suc, ◌+◌, ◌*◌, ◌≤◌, ◌<◌, get_or, length, set}
use Rattle.std.proofs.Common.{ap, subst, ◌∙◌, inl, inr, not-suc-le-zero, arith, length-append, length-set, get_or-set_same, get_or-set_other}
use Rattle.parts.specs.Encode.{Spelt}
use Rattle.parts.specs.EncodeLaws.{join}
use Rattle.pool.specs.Written.{Written}

-- ---- what stands in a column

pub spelt_at : (l s : List ℕ) (a j : ℕ) → Spelt l a s → j < length s → get_or l (a + j) 0 ≡ get_or s j 0
spelt_at l [] a j h g = absurd (not-suc-le-zero g)
spelt_at l (c ∷ s) a zero h g = ap (λ (i : ℕ). get_or l i 0) (omega arith) ∙ h.0
spelt_at l (c ∷ s) a (suc j) h g = ap (λ (i : ℕ). get_or l i 0) (omega arith) ∙ spelt_at l s (suc a) j h.1 (omega arith)

pub spelt_kept : (l m s : List ℕ) (a : ℕ) → ((j : ℕ) → a ≤ j → j < a + length s → get_or m j 0 ≡ get_or l j 0) → Spelt l a s → Spelt m a s
spelt_kept l m [] a f h = tt
spelt_kept l m (c ∷ s) a f h = (f a (omega arith) (omega arith) ∙ h.0, spelt_kept l m s (suc a) (λ j x y. f j (omega arith) (omega arith)) h.1)

pub spelt_split : (l s w : List ℕ) (a : ℕ) → Spelt l a (s ++ w) → Spelt l a s × Spelt l (a + length s) w
spelt_split l [] w a h = (tt, subst (λ (i : ℕ). Spelt l i w) (omega arith) h)
spelt_split l (c ∷ s) w a h = let g = spelt_split l s w (suc a) h.1 in ((h.0, g.0), subst (λ (i : ℕ). Spelt l i w) (omega arith) g.1)

-- ---- writing

pub written_none : (l : List ℕ) (a : ℕ) → Written l l a []
written_none l a = record { long = refl; inside = tt; outside = λ j h. refl }

pub written_same : (l : List ℕ) (a : ℕ) → Written l l a (get_or l a 0 ∷ [])
written_same l a = record { long = refl; inside = (refl, tt); outside = λ j h. refl }

apart : (a j : ℕ) → (j < a) ⊎ (a + 1 ≤ j) → j ≡ a → ⊥
apart a j (inl h) e = omega arith
apart a j (inr h) e = omega arith

pub written_one : (l : List ℕ) (a v : ℕ) → a < length l → Written l (set l a v) a (v ∷ [])
written_one l a v h = record { long = length-set l a v; inside = (get_or-set_same l a v 0 h, tt); outside = λ j g. get_or-set_other l a j v 0 (apart a j g) }

-- ---- a row of four cells, of which the last is written

cell_at : (l : List ℕ) {i j v : ℕ} → i ≡ j → get_or l j 0 ≡ v → get_or l i 0 ≡ v
cell_at l e h = ap (λ (k : ℕ). get_or l k 0) e ∙ h

pub row_same : (l : List ℕ) (i : ℕ) → Written l l (i * 4) (get_or l (i * 4) 0 ∷ get_or l (i * 4 + 1) 0 ∷ get_or l (i * 4 + 2) 0 ∷ get_or l (i * 4 + 3) 0 ∷ [])
row_same l i = record {
  long = refl;
  inside = (refl, (cell_at l {j = i * 4 + 1} (omega arith) refl, (cell_at l {j = i * 4 + 2} (omega arith) refl, (cell_at l {j = i * 4 + 3} (omega arith) refl, tt))));
  outside = λ j h. refl;
}

pub row_last : (l : List ℕ) (i v : ℕ) → i * 4 + 3 < length l → Written l (set l (i * 4 + 3) v) (i * 4) (get_or l (i * 4) 0 ∷ get_or l (i * 4 + 1) 0 ∷ get_or l (i * 4 + 2) 0 ∷ v ∷ [])
row_last l i v h =
    let m = set l (i * 4 + 3) v in
    record {
      long = length-set l (i * 4 + 3) v;
      inside = (
        get_or-set_other l (i * 4 + 3) (i * 4) v 0 (λ e. omega arith),
        (
          cell_at m {j = i * 4 + 1} (omega arith) (get_or-set_other l (i * 4 + 3) (i * 4 + 1) v 0 (λ e. omega arith)),
          (
            cell_at m {j = i * 4 + 2} (omega arith) (get_or-set_other l (i * 4 + 3) (i * 4 + 2) v 0 (λ e. omega arith)),
            (cell_at m {j = i * 4 + 3} (omega arith) (get_or-set_same l (i * 4 + 3) v 0 h), tt),
          ),
        ),
      );
      outside = λ j g. get_or-set_other l (i * 4 + 3) j v 0 (beside j g);
    }
  where
    beside : (j : ℕ) → (j < i * 4) ⊎ (i * 4 + 4 ≤ j) → j ≡ i * 4 + 3 → ⊥
    beside j (inl g) e = omega arith
    beside j (inr g) e = omega arith

-- ---- one writing behind the other

module _ {l m k : List ℕ} {a z : ℕ} {s w : List ℕ} (x : Written l m a s) (e : z ≡ a + length s) (y : Written m k z w) where
  beside : (j : ℕ) → (j < a) ⊎ (a + length (s ++ w) ≤ j) → get_or k j 0 ≡ get_or l j 0
  beside j (inl h) = y.outside j (inl (omega arith)) ∙ x.outside j (inl h)
  beside j (inr h) = let n = length-append s w in y.outside j (inr (omega arith)) ∙ x.outside j (inr (omega arith))

  pub written_more : Written l k a (s ++ w)
  written_more = record {
    long = y.long ∙ x.long;
    inside = join (λ i c. get_or k i 0 ≡ c) s w a
        (spelt_kept m k s a (λ j f g. y.outside j (inl (omega arith))) x.inside)
        (subst (λ (i : ℕ). Spelt k i w) e y.inside);
    outside = beside;
  }
