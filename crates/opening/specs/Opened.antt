-- The state table that an accepted load leaves, cell by cell, and the steps that make it. By the tasks passed.
use Rattle.std.specs.Prelude.{ℕ, ◌+◌, ◌-◌, ◌<◌, ◌≤◌, ◌≡◌, refl, ◌⊎◌, List, get_or, set, length, replicate}
use Rattle.std.proofs.Common.{arith, sym, ap, subst, ◌∙◌, inl, inr, length-set, ext_get_or, get_or-set_same, get_or-set_other, below_more}
use Rattle.std.proofs.Math.Decide.{dec_lt, ℕ_discrete}
use Rattle.blank.specs.Zeros.{zero_at, zeros_long}

-- ---- definitions

-- loaded; each of n tasks is dormant; no other row, the flag is not set, and the time is 0
pub record Opened (n : ℕ) (s : List ℕ) : Type 0 where
  pub loaded : get_or s 0 0 ≡ 1
  pub tags : (T : ℕ) → T < n → get_or s (8 + T) 0 ≡ 5
  pub numbers : (T : ℕ) → T < n → get_or s (40 + T) 0 ≡ 1
  pub rest : (i : ℕ) → ¬ (i ≡ 0) → (i < 8) ⊎ (8 + n ≤ i) → (i < 40) ⊎ (40 + n ≤ i) → get_or s i 0 ≡ 0

-- s before, s' after
pub record Opens (s : List ℕ) (n : ℕ) (s' : List ℕ) : Type 0 where
  pub size : length s' ≡ length s
  pub opened : n ≤ 32 → 2952 ≤ length s → Opened n s'

-- the row of one task
pub record Marks (s : List ℕ) (t : ℕ) (s' : List ℕ) : Type 0 where
  pub size : length s' ≡ length s
  pub tag : t < 32 → 2952 ≤ length s → get_or s' (8 + t) 0 ≡ 5
  pub number : t < 32 → 2952 ≤ length s → get_or s' (40 + t) 0 ≡ 1
  pub other : (i : ℕ) → ¬ (i ≡ 8 + t) → ¬ (i ≡ 40 + t) → get_or s' i 0 ≡ get_or s i 0

-- ---- only one table fits

pub one_opened : {n : ℕ} {s u : List ℕ} → length s ≡ length u → Opened n s → Opened n u → s ≡ u
one_opened {n} {s} {u} e a b = ext_get_or 0 s u e (λ i l. at i (ℕ_discrete i 0))
  where
    tag : (i : ℕ) → 8 ≤ i → i < 8 + n → get_or s i 0 ≡ get_or u i 0
    tag i l m = let T = i - 8 in let z : 8 + T ≡ i = omega arith in
        ap (λ (j : ℕ). get_or s j 0) (sym z) ∙ a.tags T (omega arith) ∙ sym (b.tags T (omega arith)) ∙ ap (λ (j : ℕ). get_or u j 0) z

    number : (i : ℕ) → 40 ≤ i → i < 40 + n → get_or s i 0 ≡ get_or u i 0
    number i l m = let T = i - 40 in let z : 40 + T ≡ i = omega arith in
        ap (λ (j : ℕ). get_or s j 0) (sym z) ∙ a.numbers T (omega arith) ∙ sym (b.numbers T (omega arith)) ∙ ap (λ (j : ℕ). get_or u j 0) z

    both : (i : ℕ) → ¬ (i ≡ 0) → (i < 8) ⊎ (8 + n ≤ i) → (i < 40) ⊎ (40 + n ≤ i) → get_or s i 0 ≡ get_or u i 0
    both i z l m = a.rest i z l m ∙ sym (b.rest i z l m)

    later : (i : ℕ) → ¬ (i ≡ 0) → (i < 8) ⊎ (8 + n ≤ i) → Dec (i < 40) → Dec (i < 40 + n) → get_or s i 0 ≡ get_or u i 0
    later i z a (yes l) (yes m) = both i z a (inl l)
    later i z a (yes l) (no m) = both i z a (inl l)
    later i z a (no l) (yes m) = number i (omega arith) m
    later i z a (no l) (no m) = both i z a (inr (omega arith))

    go : (i : ℕ) → ¬ (i ≡ 0) → Dec (i < 8) → Dec (i < 8 + n) → get_or s i 0 ≡ get_or u i 0
    go i z (yes l) (yes m) = later i z (inl l) (dec_lt i 40) (dec_lt i (40 + n))
    go i z (yes l) (no m) = later i z (inl l) (dec_lt i 40) (dec_lt i (40 + n))
    go i z (no l) (yes m) = tag i (omega arith) m
    go i z (no l) (no m) = later i z (inr (omega arith)) (dec_lt i 40) (dec_lt i (40 + n))

    at : (i : ℕ) → Dec (i ≡ 0) → get_or s i 0 ≡ get_or u i 0
    at i (yes z) = ap (λ (j : ℕ). get_or s j 0) z ∙ a.loaded ∙ sym b.loaded ∙ ap (λ (j : ℕ). get_or u j 0) (sym z)
    at i (no z) = go i z (dec_lt i 8) (dec_lt i (8 + n))

-- ---- the steps

pub first_cell : (s s₀ : List ℕ) → s ≡ replicate (length s₀) 0 → 2952 ≤ length s → Opened 0 (set s 0 1)
first_cell s s₀ e l =
    record {
      loaded = get_or-set_same s 0 1 0 (omega arith);
      tags = λ T m. absurd (omega arith);
      numbers = λ T m. absurd (omega arith);
      rest = λ i z a b. get_or-set_other s 0 i 1 0 z ∙ zero_at s s₀ e i;
    }

pub one_more : (s u : List ℕ) (t : ℕ) → 2952 ≤ length s → t < 32 → Opened t s → Marks s t u → Opened (t + 1) u
one_more s u t n l a h =
    record {
      loaded = h.other 0 (λ e. omega arith) (λ e. omega arith) ∙ a.loaded;
      tags = below_more (λ (T : ℕ). get_or u (8 + T) 0 ≡ 5) t (λ T m. h.other (8 + T) (λ e. omega arith) (λ e. omega arith) ∙ a.tags T m) (h.tag l n);
      numbers = below_more (λ (T : ℕ). get_or u (40 + T) 0 ≡ 1) t (λ T m. h.other (40 + T) (λ e. omega arith) (λ e. omega arith) ∙ a.numbers T m) (h.number l n);
      rest = λ i z b c. rest i z b c;
    }
  where
    rest : (i : ℕ) → ¬ (i ≡ 0) → (i < 8) ⊎ (8 + (t + 1) ≤ i) → (i < 40) ⊎ (40 + (t + 1) ≤ i) → get_or u i 0 ≡ 0
    rest i z (inl b) (inl c) = h.other i (λ e. omega arith) (λ e. omega arith) ∙ a.rest i z (inl b) (inl c)
    rest i z (inl b) (inr c) = absurd (omega arith)
    rest i z (inr b) (inl c) = h.other i (λ e. omega arith) (λ e. omega arith) ∙ a.rest i z (inr (omega arith)) (inl c)
    rest i z (inr b) (inr c) = h.other i (λ e. omega arith) (λ e. omega arith) ∙ a.rest i z (inr (omega arith)) (inr (omega arith))

pub one_row : (s : List ℕ) (t : ℕ) → t < 32 → 2952 ≤ length s → Marks s t (set (set s (8 + t) 5) (8 + t + 32) 1)
one_row s t l m =
    let n : length (set s (8 + t) 5) ≡ length s = length-set s (8 + t) 5 in
    let e : 8 + t + 32 ≡ 40 + t = omega arith in
    record {
      size = length-set (set s (8 + t) 5) (8 + t + 32) 1 ∙ n;
      tag = λ k j. get_or-set_other (set s (8 + t) 5) (8 + t + 32) (8 + t) 1 0 (λ z. omega arith) ∙ get_or-set_same s (8 + t) 5 0 (omega arith);
      number = λ k j. subst (λ (i : ℕ). get_or (set (set s (8 + t) 5) (8 + t + 32) 1) i 0 ≡ 1) e (get_or-set_same (set s (8 + t) 5) (8 + t + 32) 1 0 (omega arith));
      other = λ i a b. get_or-set_other (set s (8 + t) 5) (8 + t + 32) i 1 0 (λ z. b (z ∙ e)) ∙ get_or-set_other s (8 + t) i 5 0 a;
    }

pub past : (s : List ℕ) (t : ℕ) → ¬ (t < 32) → Marks s t s
past s t l = record { size = refl; tag = λ k j. absurd (l k); number = λ k j. absurd (l k); other = λ i a b. refl }

pub short : (s : List ℕ) (t : ℕ) → length s < 2952 → Marks s t s
short s t l = record { size = refl; tag = λ k j. absurd (omega arith); number = λ k j. absurd (omega arith); other = λ i a b. refl }

pub too_short : (s₀ s : List ℕ) (n : ℕ) → s ≡ replicate (length s₀) 0 → length s < 2952 → Opens s₀ n s
too_short s₀ s n e l = let z = zeros_long s s₀ e in record { size = z; opened = λ k m. absurd (omega arith) }

pub all_open : (s₀ s u : List ℕ) (n t : ℕ) → s ≡ replicate (length s₀) 0 → length u ≡ length (set s 0 1) → t ≡ n → (t ≤ 32 → Opened t u) → Opens s₀ n u
all_open s₀ s u n t e f g h =
    record { size = f ∙ length-set s 0 1 ∙ zeros_long s s₀ e; opened = λ k m. subst (λ (i : ℕ). Opened i u) g (h (omega arith)) }
