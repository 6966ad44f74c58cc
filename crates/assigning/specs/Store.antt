-- The new values written into the state and the text bytes: of each item with a mark its cells and bytes, and nothing else. By the items passed.
use Rattle.std.specs.Prelude.{ℕ, ◌+◌, ◌*◌, ◌<◌, ◌≤◌, ◌≡◌, refl, true, false, ◌↔◌, ◌⊎◌, List, get_or, length}
use Rattle.std.proofs.Common.{arith, not-suc-le-zero, sym, ap, subst, ◌∙◌, inl, inr}
use Rattle.std.proofs.Math.Decide.{dec_lt, ℕ_discrete}
use Rattle.paper_expressions.proofs.Laws.Tests.{contra}
use Rattle.blocks.specs.Blocks.{Copied}

-- an item's cells and bytes in the state are as in the scratch
pub record New (news texts : List ℕ) (d : ℕ) (s b : List ℕ) : Type 0 where
  pub tags : (j : ℕ) → j < 17 → get_or s (776 + 17 * d + j) 0 ≡ get_or news (36 * d + 1 + j) 0
  pub numbers : (j : ℕ) → j < 17 → get_or s (1864 + 17 * d + j) 0 ≡ get_or news (36 * d + 18 + j) 0
  pub bytes : (i : ℕ) → i < 768 → get_or b (16384 + 768 * d + i) 0 ≡ get_or texts (768 * d + i) 0

-- as before
pub record Old (d : ℕ) (s s' b b' : List ℕ) : Type 0 where
  pub tags : (j : ℕ) → j < 17 → get_or s' (776 + 17 * d + j) 0 ≡ get_or s (776 + 17 * d + j) 0
  pub numbers : (j : ℕ) → j < 17 → get_or s' (1864 + 17 * d + j) 0 ≡ get_or s (1864 + 17 * d + j) 0
  pub bytes : (i : ℕ) → i < 768 → get_or b' (16384 + 768 * d + i) 0 ≡ get_or b (16384 + 768 * d + i) 0

-- what is no item's stays
pub record Rest (s s' b b' : List ℕ) : Type 0 where
  pub size : length s' ≡ length s
  pub room : length b' ≡ length b
  pub cells : (i : ℕ) → i < 776 → get_or s' i 0 ≡ get_or s i 0
  pub bytes : (i : ℕ) → i < 16384 → get_or b' i 0 ≡ get_or b i 0
  -- behind the items' cells and bytes
  pub behind : (i : ℕ) → 2952 ≤ i → get_or s' i 0 ≡ get_or s i 0
  pub past : (i : ℕ) → 65536 ≤ i → get_or b' i 0 ≡ get_or b i 0

old_refl : (d : ℕ) (s b : List ℕ) → Old d s s b b
old_refl d s b = record { tags = λ j l. refl; numbers = λ j l. refl; bytes = λ i l. refl }

rest_refl : (s b : List ℕ) → Rest s s b b
rest_refl s b = record { size = refl; room = refl; cells = λ i l. refl; bytes = λ i l. refl; behind = λ i l. refl; past = λ i l. refl }

-- ---- one item

pub record StoredOne (news texts : List ℕ) (d : ℕ) (s s' b b' : List ℕ) : Type 0 where
  pub rest : Rest s s' b b'
  pub none : get_or news (36 * d) 0 ≡ 0 → Old d s s' b b'
  pub given : ¬ (get_or news (36 * d) 0 ≡ 0) → 2952 ≤ length s → 65536 ≤ length b → New news texts d s' b'
  pub other : (e : ℕ) → e < 64 → ¬ (e ≡ d) → Old e s s' b b'

pub stored_none : (news texts : List ℕ) (d : ℕ) (s b : List ℕ) {x : ℕ} → x ≡ get_or news (36 * d) 0 → x ≡ 0 → StoredOne news texts d s s b b
stored_none news texts d s b e f =
    record { rest = rest_refl s b; none = λ z. old_refl d s b; given = λ z. absurd (z (sym e ∙ f)); other = λ i l n. old_refl i s b }

pub stored_one : (news texts : List ℕ) (d : ℕ) (s u s' b b' : List ℕ) {x : ℕ} → d < 64 → x ≡ get_or news (36 * d) 0 → ¬ (x ≡ 0)
    → Copied news (36 * d + 1) s (776 + 17 * d) 17 u → Copied news (36 * d + 18) u (1864 + 17 * d) 17 s' → Copied texts (768 * d) b (16384 + 768 * d) 768 b'
    → StoredOne news texts d s s' b b'
stored_one news texts d s u s' b b' l e f x y z =
    record {
      rest = record {
        size = y.size ∙ x.size;
        room = z.size;
        cells = λ i h. y.other i (inl (omega arith)) ∙ x.other i (inl (omega arith));
        bytes = λ i h. z.other i (inl (omega arith));
        behind = λ i h. y.other i (inr (omega arith)) ∙ x.other i (inr (omega arith));
        past = λ i h. z.other i (inr (omega arith));
      };
      none = λ g. absurd (f (e ∙ g));
      given = λ g n m. record {
        tags = λ j h. y.other (776 + 17 * d + j) (inl (omega arith)) ∙ x.same j h (omega arith);
        numbers = λ j h. (let a = x.size in y.same j h (omega arith));
        bytes = λ i h. z.same i h (omega arith);
      };
      other = λ i h n. go i h n (dec_lt i d);
    }
  where
    go : (i : ℕ) → i < 64 → ¬ (i ≡ d) → Dec (i < d) → Old i s s' b b'
    go i h n (yes g) =
        record {
          tags = λ j k. y.other (776 + 17 * i + j) (inl (omega arith)) ∙ x.other (776 + 17 * i + j) (inl (omega arith));
          numbers = λ j k. y.other (1864 + 17 * i + j) (inl (omega arith)) ∙ x.other (1864 + 17 * i + j) (inr (omega arith));
          bytes = λ j k. z.other (16384 + 768 * i + j) (inl (omega arith));
        }
    go i h n (no g) =
        record {
          tags = λ j k. y.other (776 + 17 * i + j) (inl (omega arith)) ∙ x.other (776 + 17 * i + j) (inr (omega arith));
          numbers = λ j k. y.other (1864 + 17 * i + j) (inr (omega arith)) ∙ x.other (1864 + 17 * i + j) (inr (omega arith));
          bytes = λ j k. z.other (16384 + 768 * i + j) (inr (omega arith));
        }

-- ---- the first k

pub record Stored (news texts : List ℕ) (k : ℕ) (s s' b b' : List ℕ) : Type 0 where
  pub rest : Rest s s' b b'
  pub given : (d : ℕ) → d < k → ¬ (get_or news (36 * d) 0 ≡ 0) → 2952 ≤ length s → 65536 ≤ length b → New news texts d s' b'
  pub none : (d : ℕ) → d < 64 → (get_or news (36 * d) 0 ≡ 0) ⊎ (k ≤ d) → Old d s s' b b'

pub stored_start : (news texts s b : List ℕ) → Stored news texts 0 s s b b
stored_start news texts s b = record { rest = rest_refl s b; given = λ d l. absurd (not-suc-le-zero l); none = λ d l h. old_refl d s b }

rest_then : {s u s' b c b' : List ℕ} → Rest s u b c → Rest u s' c b' → Rest s s' b b'
rest_then x y =
    record {
      size = y.size ∙ x.size;
      room = y.room ∙ x.room;
      cells = λ i l. y.cells i l ∙ x.cells i l;
      bytes = λ i l. y.bytes i l ∙ x.bytes i l;
      behind = λ i l. y.behind i l ∙ x.behind i l;
      past = λ i l. y.past i l ∙ x.past i l;
    }

old_then : {d : ℕ} {s u s' b c b' : List ℕ} → Old d s u b c → Old d u s' c b' → Old d s s' b b'
old_then x y = record { tags = λ i l. y.tags i l ∙ x.tags i l; numbers = λ i l. y.numbers i l ∙ x.numbers i l; bytes = λ i l. y.bytes i l ∙ x.bytes i l }

new_then : {news texts : List ℕ} {d : ℕ} {u s' c b' : List ℕ} → New news texts d u c → Old d u s' c b' → New news texts d s' b'
new_then x y = record { tags = λ i l. y.tags i l ∙ x.tags i l; numbers = λ i l. y.numbers i l ∙ x.numbers i l; bytes = λ i l. y.bytes i l ∙ x.bytes i l }

pub stored_more : (news texts : List ℕ) (k : ℕ) (s u s' b c b' : List ℕ) → k < 64 → Stored news texts k s u b c → StoredOne news texts k u s' c b' → Stored news texts (k + 1) s s' b b'
stored_more news texts k s u s' b c b' l h x = record { rest = rest_then h.rest x.rest; given = given; none = none }
  where
    given : (d : ℕ) → d < k + 1 → ¬ (get_or news (36 * d) 0 ≡ 0) → 2952 ≤ length s → 65536 ≤ length b → New news texts d s' b'
    given d m n p q = go (ℕ_discrete d k)
      where
        go : Dec (d ≡ k) → New news texts d s' b'
        go (yes e) = let y = h.rest.size in let z = h.rest.room in
            subst (λ (i : ℕ). New news texts i s' b') (sym e) (x.given (λ g. n (ap (λ (i : ℕ). get_or news (36 * i) 0) e ∙ g)) (omega arith) (omega arith))
        go (no e) = new_then (h.given d (omega arith) n p q) (x.other d (omega arith) e)

    none : (d : ℕ) → d < 64 → (get_or news (36 * d) 0 ≡ 0) ⊎ (k + 1 ≤ d) → Old d s s' b b'
    none d m (inr z) = old_then (h.none d m (inr (omega arith))) (x.other d m (λ e. omega arith))
    none d m (inl z) = old_then (h.none d m (inl z)) (go (ℕ_discrete d k))
      where
        go : Dec (d ≡ k) → Old d u s' c b'
        go (yes e) = subst (λ (i : ℕ). Old i u s' c b') (sym e) (x.none (ap (λ (i : ℕ). get_or news (36 * i) 0) (sym e) ∙ z))
        go (no e) = x.other d m e

pub stored_all : (news texts : List ℕ) (k : ℕ) (s s' b b' : List ℕ) → k ≡ 64 → Stored news texts k s s' b b' → Stored news texts 64 s s' b b'
stored_all news texts k s s' b b' e h = subst (λ (i : ℕ). Stored news texts i s s' b b') e h

-- ---- collisions

abbrev pub Collided : List ℕ → Type 0
Collided news = (d : ℕ) × (d < 64) × (get_or news (36 * d) 0 ≡ 2)

abbrev pub NoneYet : List ℕ → ℕ → Type 0
NoneYet news k = (d : ℕ) → d < k → ¬ (get_or news (36 * d) 0 ≡ 2)

pub collided_here : (news : List ℕ) (k : ℕ) {x : ℕ} → k < 64 → x ≡ get_or news (36 * k) 0 → x ≡ 2 → (true ≡ true) ↔ Collided news
collided_here news k l e f = (λ z. (k, l, sym e ∙ f), λ z. refl)

pub collided_none : (news : List ℕ) (k : ℕ) → 64 ≤ k → NoneYet news k → (false ≡ true) ↔ Collided news
collided_none news k l h = (λ z. contra z, λ z. absurd (h z.0 (let m = z.1 in omega arith) z.2))
