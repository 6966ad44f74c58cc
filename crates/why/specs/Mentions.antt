-- Which data items an expression names, and for the states of which tasks it asks by name; and the steps of the loops over its parts.
use Rattle.std.specs.Prelude.{ℕ, ◌+◌, ◌*◌, ◌-◌, ◌≤◌, ◌<◌, ◌≡◌, refl, Bool, true, false, ◌||◌, List, [], ◌∷◌, eqb, get_or, set, length}
use Rattle.std.proofs.Common.{arith, sym, ap, subst, ◌∙◌, ⊎_elim, get_or-set_same, get_or-set_other, eqb-true, eq-eqb, ne_eqb}
use Rattle.std.proofs.Math.Decide.{dec_lt, ℕ_discrete}
use Rattle.paper_expressions.proofs.Laws.Tests.{contra, or_cases, or_l, or_r}
use Rattle.paper_grammar.proofs.Laws.Ll.{is_in}
use Rattle.parts.specs.Items.{Found}
use Rattle.waits.specs.Booleans.{Tests}
use Rattle.waits.specs.Twins.{marked}

-- ---- what a part names

-- the part p of the table x is an atom that names the data item d; n are the names of the data items
pub record Named (x b n : List ℕ) (p d : ℕ) : Type 0 where
  pub atom : get_or x (p * 4) 0 ≡ 1
  pub found : Found b n (get_or x (p * 4 + 3) 0) d
  pub there : d < length n

-- is_dormant and its fellows
abbrev pub state_code : ℕ → Bool
state_code k = is_in k (150 ∷ 151 ∷ 152 ∷ 153 ∷ [])

-- an atom or a string
abbrev pub text_code : ℕ → Bool
text_code k = is_in k (1 ∷ 4 ∷ [])

-- the part p asks for the state of a task, and the part before it is its name and names no data item; k are the names of the tasks behind the root
pub record Asks (x b n k : List ℕ) (p t : ℕ) : Type 0 where
  pub asked : state_code (get_or x (p * 4) 0) ≡ true
  pub behind : 0 < p
  pub text : text_code (get_or x ((p - 1) * 4) 0) ≡ true
  pub free : (d : ℕ) → d < 64 → ¬ Named x b n (p - 1) d
  pub below : 0 < t
  pub found : Found b k (get_or x ((p - 1) * 4 + 3) 0) (t - 1)
  pub there : t - 1 < length k

pub one_found : {b n : List ℕ} {h r q : ℕ} → Found b n h r → Found b n h q → r ≡ q
one_found {r = r} {q = q} x y = go (dec_lt r q) (dec_lt q r)
  where
    go : Dec (r < q) → Dec (q < r) → r ≡ q
    go (yes l) m = absurd (y.before r l (x.found (let z = y.within in omega arith)))
    go (no l) (yes m) = absurd (x.before q m (y.found (let z = x.within in omega arith)))
    go (no l) (no m) = omega arith

-- r is the one below the limit of which P holds; if there is none, r is the limit
abbrev pub TheOne : (ℕ → Type 0) → ℕ → ℕ → Type 0
TheOne P limit r = (r ≤ limit) × (r < limit → P r) × ((d : ℕ) → d < limit → P d → r ≡ d)

pub no_one : (P : ℕ → Type 0) (limit : ℕ) → ((d : ℕ) → d < limit → ¬ P d) → TheOne P limit limit
no_one P limit h = (omega arith, λ l. absurd (omega arith), λ d l p. absurd (h d l p))

-- ---- the branches: m are the names as they were lent, h is the handle as it was read, j where it was found

module _ (x b n : List ℕ) (p : ℕ) where
  pub item_not : {k : ℕ} → k ≡ get_or x (p * 4) 0 → ¬ (k ≡ 1) → TheOne (Named x b n p) 64 64
  item_not e q = no_one (Named x b n p) 64 (λ d l w. q (e ∙ w.atom))

  module _ {m : List ℕ} {h j : ℕ} (e : m ≡ n) (g : h ≡ get_or x (p * 4 + 3) 0) (w : Found b m h j) where
    at : Found b n (get_or x (p * 4 + 3) 0) j
    at = subst (λ (y : List ℕ). Found b y (get_or x (p * 4 + 3) 0) j) e (subst (λ (y : ℕ). Found b m y j) g w)

    pub item_far : 64 ≤ j → TheOne (Named x b n p) 64 64
    item_far l = no_one (Named x b n p) 64 (λ d k v. let z : d ≡ j = one_found v.found at in omega arith)

    pub item_none : length m ≤ j → TheOne (Named x b n p) 64 64
    item_none l = no_one (Named x b n p) 64 (λ d k v. let z : d ≡ j = one_found v.found at in let y : length m ≡ length n = ap length e in let u = v.there in omega arith)

    pub item_here : {k : ℕ} → k ≡ get_or x (p * 4) 0 → k ≡ 1 → j < 64 → j < length m → TheOne (Named x b n p) 64 j
    item_here q a l u = (omega arith, λ k. record { atom = sym q ∙ a; found = at; there = subst (λ (y : List ℕ). j < length y) e u }, λ d k v. one_found at v.found)

-- the task t behind the root has the name with the handle h
abbrev pub TaskOf : List ℕ → List ℕ → ℕ → ℕ → Type 0
TaskOf b k h t = (0 < t) × Found b k h (t - 1) × (t - 1 < length k)

module _ (b k : List ℕ) (h : ℕ) {m : List ℕ} {g j : ℕ} (e : m ≡ k) (q : g ≡ h) (w : Found b m g j) where
  found_at : Found b k h j
  found_at = subst (λ (y : List ℕ). Found b y h j) e (subst (λ (y : ℕ). Found b m y j) q w)

  pub task_far : 32 ≤ j → TheOne (TaskOf b k h) 32 32
  task_far l = no_one (TaskOf b k h) 32 (λ t u v. let z : t - 1 ≡ j = one_found v.1 found_at in omega arith)

  pub task_none : length m ≤ j → TheOne (TaskOf b k h) 32 32
  task_none l = no_one (TaskOf b k h) 32 (λ t u v. let z : t - 1 ≡ j = one_found v.1 found_at in let y : length m ≡ length k = ap length e in let a = v.2 in omega arith)

  pub task_here : j < 32 → j < length m → TheOne (TaskOf b k h) 32 (j + 1)
  task_here l u =
      let z : j + 1 - 1 ≡ j = omega arith in
      let y : j < length k = subst (λ (y : List ℕ). j < length y) e u in
      (omega arith, λ i. (omega arith, subst (λ (y : ℕ). Found b k h y) (sym z) found_at, subst (λ (y : ℕ). y < length k) (sym z) y), λ t i v. let a : t - 1 ≡ j = one_found v.1 found_at in let c = v.0 in omega arith)

module _ (x b n k : List ℕ) (p : ℕ) where
  pub asks_first : p ≡ 0 → TheOne (Asks x b n k p) 32 32
  asks_first e = no_one (Asks x b n k p) 32 (λ t l v. let a = v.behind in omega arith)

  pub asks_no_state : {c : ℕ} {r : Bool} → c ≡ get_or x (p * 4) 0 → r ≡ state_code c → r ≡ false → TheOne (Asks x b n k p) 32 32
  asks_no_state e g f = no_one (Asks x b n k p) 32 (λ t l v. contra (sym f ∙ g ∙ ap state_code e ∙ v.asked))

  pub asks_no_text : {c : ℕ} {r : Bool} → c ≡ get_or x ((p - 1) * 4) 0 → r ≡ text_code c → r ≡ false → TheOne (Asks x b n k p) 32 32
  asks_no_text e g f = no_one (Asks x b n k p) 32 (λ t l v. contra (sym f ∙ g ∙ ap text_code e ∙ v.text))

  pub asks_item : {r : ℕ} → TheOne (Named x b n (p - 1)) 64 r → r < 64 → TheOne (Asks x b n k p) 32 32
  asks_item {r} h l = no_one (Asks x b n k p) 32 (λ t i v. v.free r l (h.1 l))

  pub asks_task : {c d q r : ℕ} {u v : Bool} → ¬ (p ≡ 0) → c ≡ get_or x (p * 4) 0 → u ≡ state_code c → u ≡ true → d ≡ get_or x ((p - 1) * 4) 0 → v ≡ text_code d → v ≡ true
      → TheOne (Named x b n (p - 1)) 64 q → 64 ≤ q → TheOne (TaskOf b k (get_or x ((p - 1) * 4 + 3) 0)) 32 r → TheOne (Asks x b n k p) 32 r
  asks_task {q = q} {r = r} z ec eu tu ed ev tv h l w = (w.0, to, λ t i a. w.2 t i (a.below, a.found, a.there))
    where
      to : r < 32 → Asks x b n k p r
      to i =
          let a = w.1 i in
          record {
            asked = sym (ap state_code ec) ∙ sym eu ∙ tu;
            behind = omega arith;
            text = sym (ap text_code ed) ∙ sym ev ∙ tv;
            free = λ d j y. (let y : q ≡ d = h.2 d j y in omega arith);
            below = a.0;
            found = a.1;
            there = a.2;
          }

-- ---- which are named by the parts of an expression

pub record Some (P : ℕ → ℕ → Type 0) (from to d : ℕ) : Type 0 where
  pub part : ℕ
  pub low : from ≤ part
  pub high : part < to
  pub names : P part d

-- the marks say of which things below the limit some part from `from` up to `to` speaks
abbrev pub Mentioned : (ℕ → ℕ → Type 0) → ℕ → ℕ → ℕ → List Bool → Type 0
Mentioned P limit from to m = (d : ℕ) → d < limit → Tests (marked m d) (Some P from to d)

or_none : (a : Bool) → (a || false) ≡ a
or_none true = refl
or_none false = refl

-- the mark of r is raised
pub raised : (r k : ℕ) (m : List Bool) → r < length m → marked (set m r true) k ≡ (marked m k || eqb r k)
raised r k m l = go (ℕ_discrete r k)
  where
    go : Dec (r ≡ k) → marked (set m r true) k ≡ (marked m k || eqb r k)
    go (yes q) = subst (λ (y : ℕ). marked (set m r true) y ≡ (marked m y || eqb r y)) q (get_or-set_same m r true false l ∙ sym (or_r (marked m r) (eqb r r) (eq-eqb r r refl)))
    go (no q) = get_or-set_other m r k true false (λ z. q (sym z)) ∙ sym (ap (λ (y : Bool). marked m k || y) (ne_eqb r k q) ∙ or_none (marked m k))

module _ (P : ℕ → ℕ → Type 0) (limit from : ℕ) where
  pub mentioned_none : (m : List Bool) → ((d : ℕ) → d < limit → marked m d ≡ false) → Mentioned P limit from from m
  mentioned_none m e d l = (λ q. absurd (let z : ◌≡◌ {A = ℕ} 0 1 = cc (e d l) in omega arith), λ s. absurd (let a = s.low in let b = s.high in omega arith))

  pub mentioned_more : (p r : ℕ) (m : List Bool) → length m ≡ limit + 1 → from ≤ p → TheOne (P p) limit r → Mentioned P limit from p m → Mentioned P limit from (p + 1) (set m r true)
  mentioned_more p r m size lo one h d l = (to, back)
    where
      rise : marked (set m r true) d ≡ (marked m d || eqb r d)
      rise = raised r d m (let z = one.0 in omega arith)

      to : marked (set m r true) d ≡ true → Some P from (p + 1) d
      to e = ⊎_elim old new (or_cases (marked m d) (eqb r d) (sym rise ∙ e))
        where
          old : marked m d ≡ true → Some P from (p + 1) d
          old q = let s = (h d l).0 q in record { part = s.part; low = s.low; high = (let z = s.high in omega arith); names = s.names }

          new : eqb r d ≡ true → Some P from (p + 1) d
          new q = let z : r ≡ d = eqb-true r d q in record { part = p; low = lo; high = omega arith; names = subst (P p) z (one.1 (omega arith)) }

      back : Some P from (p + 1) d → marked (set m r true) d ≡ true
      back s = rise ∙ go (dec_lt s.part p)
        where
          go : Dec (s.part < p) → (marked m d || eqb r d) ≡ true
          go (yes k) = or_l (marked m d) (eqb r d) ((h d l).1 (record { part = s.part; low = s.low; high = k; names = s.names }))
          go (no k) =
              let a = s.high in
              let z : s.part ≡ p = omega arith in
              or_r (marked m d) (eqb r d) (eq-eqb r d (one.2 d l (subst (λ (y : ℕ). P y d) z s.names)))

  pub mentioned_end : (p to : ℕ) (m : List Bool) → to ≤ p → p ≤ to → Mentioned P limit from p m → Mentioned P limit from to m
  mentioned_end p to m a b h = let z : p ≡ to = omega arith in subst (λ (y : ℕ). Mentioned P limit from y m) z h
