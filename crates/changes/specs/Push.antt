-- One row asked for, as the code writes it: behind the others, or not again if it stands there. By the four cells.
use Rattle.std.specs.Prelude.{ℕ, ◌+◌, ◌*◌, ◌<◌, ◌≤◌, ◌≡◌, refl, Bool, true, false, List, get_or, set, length, MatchBool}
use Rattle.std.proofs.Common.{arith, sym, subst, ◌∙◌, length-set, get_or-set_same, get_or-set_other}
use Rattle.std.specs.List.{range_with_len, AllWithin, HoldsAt}
use Rattle.std.proofs.lemmas.List.FromFn.{length-range_with_len, get_or-range_with_len}
use Rattle.std.proofs.Math.Decide.{dec_lt}
use Rattle.std.proofs.Math.Option.{some}
use Rattle.paper_rows.specs.Table.{Component, Property, RowValue}
use Rattle.state.specs.Cell.{Plain, row_tag, row_number}
use Rattle.changes.specs.Row.{component_code, Column, Says, Stands, Same, Own, Appends, One, this}

abbrev pub pushed : List ℕ → ℕ → ℕ → ℕ → ℕ → ℕ → List ℕ
pushed o n a b k x = set (set (set (set o (4 * n) a) (4 * n + 1) b) (4 * n + 2) k) (4 * n + 3) x

module _ (o : List ℕ) (n a b k x : ℕ) where
  pub pushed_size : length (pushed o n a b k x) ≡ length o
  pushed_size = simp length-set

  abbrev o1 : List ℕ
  o1 = set o (4 * n) a

  abbrev o2 : List ℕ
  o2 = set (set o (4 * n) a) (4 * n + 1) b

  abbrev o3 : List ℕ
  o3 = set (set (set o (4 * n) a) (4 * n + 1) b) (4 * n + 2) k

  last_other : (j : ℕ) → ¬ (j ≡ 4 * n + 3) → get_or (pushed o n a b k x) j 0 ≡ get_or o3 j 0
  last_other j h = get_or-set_other o3 (4 * n + 3) j x 0 h

  third_other : (j : ℕ) → ¬ (j ≡ 4 * n + 2) → get_or o3 j 0 ≡ get_or o2 j 0
  third_other j h = get_or-set_other o2 (4 * n + 2) j k 0 h

  second_other : (j : ℕ) → ¬ (j ≡ 4 * n + 1) → get_or o2 j 0 ≡ get_or o1 j 0
  second_other j h = get_or-set_other o1 (4 * n + 1) j b 0 h

  pub pushed_kept : (j : ℕ) → j < 4 * n → get_or (pushed o n a b k x) j 0 ≡ get_or o j 0
  pushed_kept j h = last_other j (λ e. omega arith) ∙ third_other j (λ e. omega arith) ∙ second_other j (λ e. omega arith) ∙ get_or-set_other o (4 * n) j a 0 (λ e. omega arith)

  module _ (room : 4 * (n + 1) ≤ length o) where
    at0 : get_or (pushed o n a b k x) (4 * n) 0 ≡ a
    at0 = last_other (4 * n) (λ e. omega arith) ∙ third_other (4 * n) (λ e. omega arith) ∙ second_other (4 * n) (λ e. omega arith) ∙ get_or-set_same o (4 * n) a 0 (omega arith)

    at1 : get_or (pushed o n a b k x) (4 * n + 1) 0 ≡ b
    at1 = last_other (4 * n + 1) (λ e. omega arith) ∙ third_other (4 * n + 1) (λ e. omega arith) ∙ get_or-set_same o1 (4 * n + 1) b 0 (simp length-set (omega arith))

    at2 : get_or (pushed o n a b k x) (4 * n + 2) 0 ≡ k
    at2 = last_other (4 * n + 2) (λ e. omega arith) ∙ get_or-set_same o2 (4 * n + 2) k 0 (simp length-set (omega arith))

    at3 : get_or (pushed o n a b k x) (4 * n + 3) 0 ≡ x
    at3 = get_or-set_same o3 (4 * n + 3) x 0 (simp length-set (omega arith))

    pub pushed_says : {c : Component} {p : Property} {r : RowValue} → a ≡ component_code c → Column p b → Plain (some r) → k ≡ row_tag r → x ≡ row_number r → Says (pushed o n a b k x) n c p r
    pushed_says {c} {p} {r} e f g h i = record { component = at0 ∙ e; property = subst (Column p) (sym at1) f; cell = record { plain = g; its_tag = at2 ∙ h; its_number = at3 ∙ i } }

    -- an old row that is the same
    pub pushed_same : {i : ℕ} → i < n → Same (pushed o n a b k x) i n → Stands o i a b k x
    pushed_same {i} l h =
        record {
          cell_1 = sym (pushed_kept (4 * i) (omega arith)) ∙ h.cell_1 ∙ at0;
          cell_2 = sym (pushed_kept (4 * i + 1) (omega arith)) ∙ h.cell_2 ∙ at1;
          cell_3 = sym (pushed_kept (4 * i + 2) (omega arith)) ∙ h.cell_3 ∙ at2;
          cell_4 = sym (pushed_kept (4 * i + 3) (omega arith)) ∙ h.cell_4 ∙ at3;
        }

-- the row stands there already only if no other task asks for it
abbrev pub Fresh : List ℕ → ℕ → ℕ → ℕ → ℕ → ℕ → Type 0
Fresh o n a b k x = 4 * n ≤ length o → (i : ℕ) → i < n → Stands o i a b k x → Own b

-- what a function promises that asks for one row: for every row that the four numbers are
abbrev pub Asks : List ℕ → ℕ → ℕ → ℕ → ℕ → ℕ → List ℕ → ℕ → Type 0
Asks o n a b k x q m = (c : Component) (p : Property) (r : RowValue) → a ≡ component_code c → Column p b → Plain (some r) → k ≡ row_tag r → x ≡ row_number r → Appends o n q m (One c p r)

-- and that does not look whether it stands there
abbrev pub Pushes : List ℕ → ℕ → ℕ → ℕ → ℕ → ℕ → List ℕ → ℕ → Type 0
Pushes o n a b k x q m = Fresh o n a b k x → Asks o n a b k x q m

pub pushes : (o : List ℕ) (n a b k x : ℕ) → 4 * (n + 1) ≤ length o → (q : List ℕ) → q ≡ pushed o n a b k x → Pushes o n a b k x q (n + 1)
pushes o n a b k x room q e fresh c p r f g h i j =
    subst (λ (z : List ℕ). Appends o n z (n + 1) (One c p r)) (sym e)
    (record { size = pushed_size o n a b k x; more = omega arith; rows = λ l. record { kept = pushed_kept o n a b k x; asked = asked; all = all; once = once } })
  where
    says : Says (pushed o n a b k x) n c p r
    says = pushed_says o n a b k x room f g h i j

    asked : (z : ℕ) → n ≤ z → z < n + 1 → (d : Component) × (u : Property) × (v : RowValue) × Says (pushed o n a b k x) z d u v × One c p r d u v
    asked z l m = let y : n ≡ z = omega arith in (c, p, r, subst (λ (w : ℕ). Says (pushed o n a b k x) w c p r) y says, this)

    all : {d : Component} {u : Property} {v : RowValue} → One c p r d u v → (z : ℕ) × (z < n + 1) × Says (pushed o n a b k x) z d u v
    all this = (n, omega arith, says)

    once : {y z : ℕ} → y < z → n ≤ z → z < n + 1 → Same (pushed o n a b k x) y z → (y < n) × Own (get_or (pushed o n a b k x) (4 * z + 1) 0)
    once {y} {z} l m w s =
        let t : z ≡ n = omega arith in
        let u = pushed_same o n a b k x room (omega arith) (subst (λ (v : ℕ). Same (pushed o n a b k x) y v) t s) in
        (omega arith, subst (λ (v : ℕ). Own (get_or (pushed o n a b k x) (4 * v + 1) 0)) (sym t) (subst Own (sym (at1 o n a b k x room)) (fresh (omega arith) y (omega arith) u)))

-- without room the table stays, and the number of rows says so
pub pushes_not : (o : List ℕ) (n a b k x m : ℕ) → n ≤ m → ¬ (4 * m ≤ length o) → Pushes o n a b k x o m
pushes_not o n a b k x m l room fresh c p r f g h i j = record { size = refl; more = l; rows = λ z. absurd (room z) }

-- ---- whether it stands there

abbrev pub IsRow : List ℕ → ℕ → ℕ → ℕ → ℕ → ℕ → Bool → Type 0
IsRow o i a b k x true = Stands o i a b k x
IsRow o i a b k x false = ¬ Stands o i a b k x

abbrev pub Found : List ℕ → ℕ → ℕ → ℕ → ℕ → ℕ → Bool → Type 0
Found o n a b k x true = (i : ℕ) × (i < n) × Stands o i a b k x
Found o n a b k x false = 4 * n ≤ length o → (i : ℕ) → i < n → ¬ Stands o i a b k x

-- of the first i rows none is it
abbrev pub NoneUpto : List ℕ → ℕ → ℕ → ℕ → ℕ → ℕ → Type 0
NoneUpto o a b k x i = (j : ℕ) → j < i → ¬ Stands o j a b k x

pub none_more : (o : List ℕ) (a b k x i : ℕ) {t : Bool} → t ≡ false → IsRow o i a b k x t → NoneUpto o a b k x i → NoneUpto o a b k x (i + 1)
none_more o a b k x i {t} is h none j l s = go (dec_lt j i)
  where
    go : Dec (j < i) → ⊥
    go (yes z) = none j z s
    go (no z) = let w : j ≡ i = omega arith in subst (IsRow o i a b k x) is h (subst (λ (y : ℕ). Stands o y a b k x) w s)

pub found_here : (o : List ℕ) (n a b k x i : ℕ) {t : Bool} → t ≡ true → IsRow o i a b k x t → i < n → Found o n a b k x true
found_here o n a b k x i {t} is h l = (i, l, subst (IsRow o i a b k x) is h)

-- what `any` says of the rows that have room: their numbers are those below m
pub found_any : (o : List ℕ) (n m a b k x : ℕ) (r : Bool) → m ≤ n → (4 * n ≤ length o → m ≡ n)
    → MatchBool r ((i : ℕ) × (i < length (range_with_len 0 m)) × HoldsAt (λ i. Stands o i a b k x) (range_with_len 0 m) i) (AllWithin (λ i. ¬ Stands o i a b k x) (range_with_len 0 m) 0 (length (range_with_len 0 m)))
    → Found o n a b k x r
found_any o n m a b k x true l room h =
    let e = length-range_with_len 0 m in
    let i : h.0 < m = let z = h.1 in omega arith in
    let w : get_or (range_with_len 0 m) h.0 0 ≡ h.0 = let y = get_or-range_with_len 0 m h.0 0 i in omega arith in
    (h.0, omega arith, subst (λ (y : ℕ). Stands o y a b k x) w (h.2 0))
found_any o n m a b k x false l room h = λ z i y s.
    let e = length-range_with_len 0 m in
    let u : i < m = let v = room z in omega arith in
    let w : get_or (range_with_len 0 m) i 0 ≡ i = let v = get_or-range_with_len 0 m i 0 u in omega arith in
    h i 0 (omega arith) (omega arith) (subst (λ (t : ℕ). Stands o t a b k x) (sym w) s)

stands_says : {o : List ℕ} {i a b k x : ℕ} {c : Component} {p : Property} {r : RowValue} → Stands o i a b k x → a ≡ component_code c → Column p b → Plain (some r) → k ≡ row_tag r → x ≡ row_number r
    → Says o i c p r
stands_says {p} h e f g i j = record { component = h.cell_1 ∙ e; property = subst (Column p) (sym h.cell_2) f; cell = record { plain = g; its_tag = h.cell_3 ∙ i; its_number = h.cell_4 ∙ j } }

pub asks_there : (o : List ℕ) (n a b k x : ℕ) {t : Bool} → t ≡ true → Found o n a b k x t → Asks o n a b k x o n
asks_there o n a b k x {t} is found c p r e f g h j =
    let w = subst (Found o n a b k x) is found in
    let says : Says o w.0 c p r = stands_says w.2 e f g h j in
    record {
      size = refl;
      more = omega arith;
      rows = λ l. record { kept = λ y z. refl; asked = λ y u v. absurd (omega arith); all = λ z. (w.0, w.1, same z says); once = λ u v z s. absurd (omega arith) };
    }
  where
    same : {i : ℕ} {d : Component} {u : Property} {v : RowValue} → One c p r d u v → Says o i c p r → Says o i d u v
    same this z = z

pub asks_new : (o : List ℕ) (n a b k x : ℕ) (q : List ℕ) (m : ℕ) {t : Bool} → t ≡ false → Found o n a b k x t → Pushes o n a b k x q m → Asks o n a b k x q m
asks_new o n a b k x q m {t} is found h =
    let none = subst (Found o n a b k x) is found in
    h (λ room i l s. absurd (none room i l s))
