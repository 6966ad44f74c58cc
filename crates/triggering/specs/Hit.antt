-- Which tasks a trigger hits, as a test on the cells, and the cells that sending it writes. By the tasks passed.
use Rattle.std.specs.Prelude.{ℕ, ◌+◌, ◌-◌, ◌/◌, ◌%◌, ◌<◌, ◌≤◌, ◌≡◌, refl, Bool, true, false, not, cond, ◌&&◌, ◌||◌, List, eqb, ltb, get_or, length}
use Rattle.std.proofs.Common.{arith, sym, ap, ap₂, subst, ◌∙◌, inl, ext_get_or, below_more, eq-eqb, ne_eqb, lt-ltb, le-ltb, eqb-true}
use Rattle.std.proofs.Math.Decide.{dec_lt, ℕ_discrete}
use Rattle.paper_expressions.proofs.Laws.Tests.{contra}
use Rattle.paper_expressions.proofs.Laws.Search.{sameb, same_reflects, Reflects, of_yes, of_no}
use Rattle.parts.specs.Texts.{text_at_fn}
use Rattle.blocks.specs.Blocks.{cells_long, cells_at}
use Rattle.state.specs.Layout.{row_is_fn}
use Rattle.waits.specs.Twins.{parent_at, trigger_f}
use Rattle.planned.specs.Planned.{trigger_text}
use Rattle.replying.specs.Trues.{Trues, put_true, trues_none, trues_as, trues_more}

-- ---- two texts

reflected : {P : Type 0} {b : Bool} → Reflects P b → P → true ≡ b
reflected (of_yes p) q = refl
reflected (of_no n) q = absurd (n q)

refuted : {P : Type 0} {b : Bool} → Reflects P b → ¬ P → false ≡ b
refuted (of_yes p) n = absurd (n p)
refuted (of_no m) n = refl

pub same_test : {x y u v : ℕ} → x ≡ u → y ≡ v → eqb x y ≡ eqb u v
same_test e f = ap₂ eqb e f

-- the first k bytes are the same
abbrev pub Agree : List ℕ → ℕ → List ℕ → ℕ → Type 0
Agree b p u k = (j : ℕ) → j < k → get_or b (p + j) 0 ≡ get_or u j 0

pub agree_more : (b : List ℕ) (p : ℕ) (u : List ℕ) (k : ℕ) {r : Bool} → r ≡ eqb (get_or b (p + k) 0) (get_or u k 0) → r ≡ true → Agree b p u k → Agree b p u (k + 1)
agree_more b p u k e g h = below_more (λ (j : ℕ). get_or b (p + j) 0 ≡ get_or u j 0) k h (eqb-true (get_or b (p + k) 0) (get_or u k 0) (sym e ∙ g))

pub other_size : (b : List ℕ) (h : ℕ) (u : List ℕ) → ¬ (h % 64 ≡ length u) → false ≡ sameb (text_at_fn b h) u
other_size b h u n = refuted (same_reflects (text_at_fn b h) u) (λ e. n (sym (cells_long b (h / 64) (h % 64)) ∙ ap length e))

pub other_byte : (b : List ℕ) (h : ℕ) (u : List ℕ) (k : ℕ) {r : Bool} → k < h % 64 → r ≡ eqb (get_or b (h / 64 + k) 0) (get_or u k 0) → r ≡ false → false ≡ sameb (text_at_fn b h) u
other_byte b h u k l e n =
    refuted (same_reflects (text_at_fn b h) u) (λ z. contra (sym n ∙ e ∙ eq-eqb (get_or b (h / 64 + k) 0) (get_or u k 0) (sym (cells_at b (h / 64) (h % 64) k l) ∙ ap (λ (y : List ℕ). get_or y k 0) z)))

pub agreed : (b : List ℕ) (h : ℕ) (u : List ℕ) (k : ℕ) → h % 64 ≡ length u → h % 64 ≤ k → Agree b (h / 64) u k → true ≡ sameb (text_at_fn b h) u
agreed b h u k e l a =
    let n = cells_long b (h / 64) (h % 64) in
    reflected (same_reflects (text_at_fn b h) u) (ext_get_or 0 (text_at_fn b h) u (n ∙ e) (λ i j. cells_at b (h / 64) (h % 64) i (omega arith) ∙ a i (omega arith)))

-- ---- a task that is hit

abbrev pub hit_f : List ℕ → List ℕ → List ℕ → List ℕ → ℕ → Bool
hit_f f b s u T = trigger_f f T && (not (eqb (parent_at f T) 0) && (not (ltb 32 (parent_at f T)) && (row_is_fn s 8 (parent_at f T - 1) 5 2 && sameb (text_at_fn b (trigger_text f T)) u)))

module _ (f b s u : List ℕ) (T : ℕ) where
  pub no_trigger : {x : ℕ} → x ≡ get_or f (40 + T) 0 → ¬ (x ≡ 1) → false ≡ hit_f f b s u T
  no_trigger e n = sym (rw (ne_eqb (get_or f (40 + T) 0) 1 (λ z. n (e ∙ z))))

  module _ {x p : ℕ} (d : x ≡ get_or f (40 + T) 0) (e : x ≡ 1) (q : p ≡ get_or f (8 + T) 0) where
    one : trigger_f f T ≡ true
    one = eq-eqb (get_or f (40 + T) 0) 1 (sym d ∙ e)

    pub no_parent : p ≡ 0 → false ≡ hit_f f b s u T
    no_parent z = sym (rw (one, eq-eqb (get_or f (8 + T) 0) 0 (sym q ∙ z)))

    some_parent : ¬ (p ≡ 0) → eqb (parent_at f T) 0 ≡ false
    some_parent z = ne_eqb (get_or f (8 + T) 0) 0 (λ y. z (q ∙ y))

    pub far_parent : ¬ (p ≡ 0) → 32 < p → false ≡ hit_f f b s u T
    far_parent z l = sym (rw (one, some_parent z, lt-ltb 32 (get_or f (8 + T) 0) (subst (λ (y : ℕ). 32 < y) q l)))

    near : ¬ (32 < p) → ltb 32 (parent_at f T) ≡ false
    near l = le-ltb 32 (get_or f (8 + T) 0) (let i : p ≤ 32 = omega arith in subst (λ (y : ℕ). y ≤ 32) q i)

    pub not_running : {r : Bool} → ¬ (p ≡ 0) → ¬ (32 < p) → r ≡ row_is_fn s 8 (p - 1) 5 2 → r ≡ false → false ≡ hit_f f b s u T
    not_running z l g i = sym (rw (one, some_parent z, near l) (ap (λ (y : ℕ). row_is_fn s 8 (y - 1) 5 2 && sameb (text_at_fn b (trigger_text f T)) u) (sym q) ∙ ap (λ (y : Bool). y && sameb (text_at_fn b (trigger_text f T)) u) (sym g ∙ i)))

    pub by_text : {r v : Bool} {h : ℕ} → ¬ (p ≡ 0) → ¬ (32 < p) → r ≡ row_is_fn s 8 (p - 1) 5 2 → r ≡ true → h ≡ get_or f (1224 + T) 0 → v ≡ sameb (text_at_fn b h) u → v ≡ hit_f f b s u T
    by_text z l g i k m = m ∙ ap (λ (y : ℕ). sameb (text_at_fn b y) u) k ∙ sym (rw (one, some_parent z, near l) (ap (λ (y : ℕ). row_is_fn s 8 (y - 1) 5 2 && sameb (text_at_fn b (trigger_text f T)) u) (sym q) ∙ ap (λ (y : Bool). y && sameb (text_at_fn b (trigger_text f T)) u) (sym g ∙ i)))

-- ---- sending it

abbrev pub step_f : List ℕ → List ℕ → List ℕ → List ℕ → ℕ → List ℕ
step_f f b s u T = cond (hit_f f b s u T) (put_true s 72 T) s

pub step_hit : (f b s u : List ℕ) (T : ℕ) {r : Bool} {v : List ℕ} → r ≡ hit_f f b s u T → r ≡ true → v ≡ put_true s 72 T → v ≡ step_f f b s u T
step_hit f b s u T e k h = h ∙ ap (λ (y : Bool). cond y (put_true s 72 T) s) (sym k ∙ e)

pub step_miss : (f b s u : List ℕ) (T : ℕ) {r : Bool} → r ≡ hit_f f b s u T → r ≡ false → s ≡ step_f f b s u T
step_miss f b s u T e k = ap (λ (y : Bool). cond y (put_true s 72 T) s) (sym k ∙ e)

-- the state of no task is changed on the way
pub hit_stays : (f b u : List ℕ) {s v : List ℕ} {h : ℕ → Bool} (T : ℕ) → Trues s 72 h v → hit_f f b v u T ≡ hit_f f b s u T
hit_stays f b u {s} {v} T m = go (ℕ_discrete (parent_at f T) 0) (dec_lt 32 (parent_at f T))
  where
    with_row : List ℕ → Bool
    with_row y = row_is_fn y 8 (parent_at f T - 1) 5 2

    go : Dec (parent_at f T ≡ 0) → Dec (32 < parent_at f T) → hit_f f b v u T ≡ hit_f f b s u T
    go (yes e) d = rw (eq-eqb (parent_at f T) 0 e) refl
    go (no e) (yes d) = rw (lt-ltb 32 (parent_at f T) d) refl
    go (no e) (no d) =
        let row : with_row v ≡ with_row s = ap₂ (λ (y z : ℕ). eqb y 5 && eqb z 2) (m.other (8 + (parent_at f T - 1)) (inl (omega arith))) (m.other (8 + 32 + (parent_at f T - 1)) (inl (omega arith))) in
        ap (λ (y : Bool). trigger_f f T && (not (eqb (parent_at f T) 0) && (not (ltb 32 (parent_at f T)) && (y && sameb (text_at_fn b (trigger_text f T)) u)))) row

-- the tasks below k that are hit
abbrev pub below : (ℕ → Bool) → ℕ → ℕ → Bool
below h k T = ltb T k && h T

below_hit : (h : ℕ → Bool) (k T : ℕ) → h k ≡ true → below h (k + 1) T ≡ (eqb T k || below h k T)
below_hit h k T e = go (dec_lt T k) (ℕ_discrete T k)
  where
    go : Dec (T < k) → Dec (T ≡ k) → below h (k + 1) T ≡ (eqb T k || below h k T)
    go (yes l) d = rw (lt-ltb T (k + 1) (omega arith), lt-ltb T k l, ne_eqb T k (λ z. omega arith)) refl
    go (no l) (yes d) = rw (lt-ltb T (k + 1) (omega arith), eq-eqb T k d) (ap h d ∙ e)
    go (no l) (no d) = rw (le-ltb T (k + 1) (let z : k + 1 ≤ T = omega arith in z), le-ltb T k (omega arith), ne_eqb T k d) refl

below_miss : (h : ℕ → Bool) (k T : ℕ) → h k ≡ false → below h (k + 1) T ≡ below h k T
below_miss h k T e = go (dec_lt T k) (ℕ_discrete T k)
  where
    go : Dec (T < k) → Dec (T ≡ k) → below h (k + 1) T ≡ below h k T
    go (yes l) d = rw (lt-ltb T (k + 1) (omega arith), lt-ltb T k l) refl
    go (no l) (yes d) = rw (lt-ltb T (k + 1) (omega arith), le-ltb T k (omega arith)) (ap h d ∙ e)
    go (no l) (no d) = rw (le-ltb T (k + 1) (let z : k + 1 ≤ T = omega arith in z), le-ltb T k (omega arith)) refl

-- the invariant of the loop
abbrev pub Sent : List ℕ → List ℕ → List ℕ → List ℕ → ℕ → List ℕ → Type 0
Sent f b u s k v = Trues s 72 (below (hit_f f b s u) k) v

pub sent_none : (f b u s : List ℕ) → Sent f b u s 0 s
sent_none f b u s = trues_as (λ T l. rw (le-ltb T 0 (omega arith)) refl) (trues_none s 72)

pub sent_more : (f b u s : List ℕ) (k : ℕ) (v v' : List ℕ) → k < 32 → v' ≡ step_f f b v u k → Sent f b u s k v → Sent f b u s (k + 1) v'
sent_more f b u s k v v' l e m = go (hit_f f b v u k) refl
  where
    go : (a : Bool) → hit_f f b v u k ≡ a → Sent f b u s (k + 1) v'
    go true d = trues_as (λ T i. below_hit (hit_f f b s u) k T (sym (hit_stays f b u k m) ∙ d)) (trues_more k l (e ∙ ap (λ (y : Bool). cond y (put_true v 72 k) v) d) m)
    go false d = trues_as (λ T i. below_miss (hit_f f b s u) k T (sym (hit_stays f b u k m) ∙ d)) (subst (Trues s 72 (below (hit_f f b s u) k)) (sym (e ∙ ap (λ (y : Bool). cond y (put_true v 72 k) v) d)) m)

pub sent_all : (f b u s : List ℕ) {v : List ℕ} (k : ℕ) → 32 ≤ k → Sent f b u s k v → Trues s 72 (hit_f f b s u) v
sent_all f b u s k l m = trues_as (λ T i. sym (rw (lt-ltb T k (omega arith)) refl)) m
