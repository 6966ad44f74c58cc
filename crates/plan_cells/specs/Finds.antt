-- A search of the list of tasks, or of data items, finds the number of the first row of that name: the list has the rows in their order.
use Rattle.std.specs.Prelude.{ℕ, zero, suc, ◌+◌, ◌≤◌, ◌<◌, ◌≡◌, refl, Bool, true, false, cond, ◌&&◌, List, ltb, get_or}
use Rattle.std.proofs.Common.{sym, ap, subst, ◌∙◌, ⊎_elim, arith, ltb-true, ltb-false, eq-eqb, ne_eqb}
use Rattle.std.proofs.Math.Decide.{dec_lt}
use Rattle.paper_expressions.proofs.Laws.Tests.{contra, two, both, and_l, and_r}
use Rattle.paper_tokens.specs.Tokens.{“component”}
use Rattle.parts.specs.Texts.{text_at_fn}
use Rattle.row_names.specs.Sheet.{task_kind}
use Rattle.row_tests.specs.Table.{cell_of, kind_of}
use Rattle.name_tests.specs.Lists.{tally, matched, Lists, entry, index, tally_rise}
use Rattle.plan.specs.Writes.{one_if, counted, first_that, outline, task_row, task_named, child}

-- ---- counting, and the first that passes

pub counted_few : (c : ℕ → Bool) (kind : ℕ → ℕ) (k : ℕ) → counted c kind k ≤ k
counted_few c kind zero = omega arith
counted_few c kind (suc k) = let z = counted_few c kind k in let y = one (c (kind k)) in omega arith
  where
    one : (b : Bool) → one_if b ≤ 1
    one true = omega arith
    one false = omega arith

pub record First (c : ℕ → Bool) (n r : ℕ) : Type 0 where
  pub within : r ≤ n
  pub here : r < n → c r ≡ true
  pub before : (j : ℕ) → j < r → c j ≡ false

pub first_is : (c : ℕ → Bool) (n : ℕ) → First c n (first_that c n)
first_is c zero = record { within = omega arith; here = λ l. absurd (omega arith); before = λ j l. absurd (omega arith) }
first_is c (suc n) = go (first_is c n) (ltb (first_that c n) n) refl (c n) refl
  where
    go : {r : ℕ} → First c n r → (b : Bool) → ltb r n ≡ b → (d : Bool) → c n ≡ d → First c (suc n) (cond b r (cond d n (suc n)))
    go {r} p true e d f =
        let l = ltb-true r n e in
        record { within = omega arith; here = λ u. p.here l; before = p.before }
    go {r} p false e true f =
        let l = ltb-false r n e in
        record { within = omega arith; here = λ u. f; before = λ j u. p.before j (omega arith) }
    go {r} p false e false f =
        let l = ltb-false r n e in
        record { within = omega arith; here = λ u. absurd (omega arith); before = λ j u. last j u (dec_lt j n) }
      where
        last : (j : ℕ) → j < suc n → Dec (j < n) → c j ≡ false
        last j u (yes w) = p.before j (let l = ltb-false r n e in omega arith)
        last j u (no w) = let z : n ≡ j = omega arith in subst (λ (i : ℕ). c i ≡ false) z f

-- the one that passes and before which none does
pub first_found : (c : ℕ → Bool) (n j : ℕ) → j < n → c j ≡ true → ((i : ℕ) → i < j → c i ≡ false) → first_that c n ≡ j
first_found c n j l e f = go (first_is c n) (dec_lt (first_that c n) j) (dec_lt j (first_that c n))
  where
    go : {r : ℕ} → First c n r → Dec (r < j) → Dec (j < r) → r ≡ j
    go {r} p (yes a) b = contra (sym (f r a) ∙ p.here (omega arith))
    go {r} p (no a) (yes b) = contra (sym (p.before j b) ∙ e)
    go {r} p (no a) (no b) = omega arith

-- none passes
pub first_none : (c : ℕ → Bool) (n : ℕ) → ((i : ℕ) → i < n → c i ≡ false) → first_that c n ≡ n
first_none c n f = go (first_is c n) (dec_lt (first_that c n) n)
  where
    go : {r : ℕ} → First c n r → Dec (r < n) → r ≡ n
    go {r} p (yes a) = contra (sym (f r a) ∙ p.here a)
    go {r} p (no a) = let l = p.within in omega arith

-- ---- a search of a list

abbrev pub found_at : List ℕ → List ℕ → List ℕ → Bool → ℕ → ℕ → Bool
found_at x b l f h k = matched b f (cell_of x (get_or l k 0) 2) h

pub record Finds (x b l : List ℕ) (m : ℕ) (f : Bool) (h r : ℕ) : Type 0 where
  pub within : r ≤ m
  pub found : r < m → found_at x b l f h r ≡ true
  pub before : (k : ℕ) → k < r → found_at x b l f h k ≡ false

pub tally_counted : (c : ℕ → Bool) (x : List ℕ) (i : ℕ) → tally c x i ≡ counted c (kind_of x) i
tally_counted c x zero = refl
tally_counted c x (suc i) = ⊎_elim
    (λ (e : c (kind_of x i) ≡ true). rw e (ap (λ (z : ℕ). z + 1) (tally_counted c x i)))
    (λ (e : c (kind_of x i) ≡ false). rw e (ap (λ (z : ℕ). z + 0) (tally_counted c x i)))
    (two (c (kind_of x i)))

module _ {c : ℕ → Bool} {x l : List ℕ} {n m : ℕ} (t : Lists c x n l m) (b : List ℕ) (f : Bool) (h : ℕ) where
  abbrev named : ℕ → Bool
  named i = c (kind_of x i) && matched b f (cell_of x i 2) h

  unlisted : {r : ℕ} → Finds x b l m f h r → (i : ℕ) → i < n → (c (kind_of x i) ≡ true → tally c x i < r) → named i ≡ false
  unlisted {r} s i u v = ⊎_elim (λ e. absurd (no e)) (λ e. e) (two (named i))
    where
      no : named i ≡ true → ⊥
      no e =
          let k = and_l (c (kind_of x i)) (matched b f (cell_of x i 2) h) e in
          let z = index t i u k in
          contra (sym (s.before (tally c x i) (v k)) ∙ subst (λ (j : ℕ). matched b f (cell_of x j 2) h ≡ true) (sym z.1) (and_r (c (kind_of x i)) (matched b f (cell_of x i 2) h) e))

  found_row : {r : ℕ} → Finds x b l m f h r → Dec (r < m) → tally c x (first_that named n) ≡ r
  found_row {r} s (yes u) =
      let e = entry t r u in
      let here = both (c (kind_of x e.0)) (matched b f (cell_of x e.0 2) h) e.2 (subst (λ (j : ℕ). matched b f (cell_of x j 2) h ≡ true) e.4 (s.found u)) in
      ap (tally c x) (first_found named n e.0 e.1 here (λ i w. below e.0 e.1 e.3 i w)) ∙ e.3
    where
      below : (j : ℕ) → j < n → tally c x j ≡ r → (i : ℕ) → i < j → named i ≡ false
      below j a g i w = unlisted s i (omega arith) (λ k. let z = tally_rise c x i j w k in omega arith)
  found_row {r} s (no u) =
      let e : r ≡ m = let z = s.within in omega arith in
      ap (tally c x) (first_none named n (λ i w. unlisted s i w (λ k. let z = (index t i w k).0 in omega arith))) ∙ sym t.count ∙ sym e

  -- the number of the first row of the name
  pub found_number : {r : ℕ} → Finds x b l m f h r → r ≡ counted c (kind_of x) (first_that named n)
  found_number {r} s = sym (found_row s (dec_lt r m)) ∙ tally_counted c x (first_that named n)

  -- the row of that number
  row_of : (r : ℕ) → First named n r → Dec (r < n) → {d : ℕ} → d ≡ counted c (kind_of x) r → (d < m → get_or l d 0 ≡ r) × (m ≤ d → n ≡ r)
  row_of r p (yes u) {d} e =
      let k = and_l (c (kind_of x r)) (matched b f (cell_of x r 2) h) (p.here u) in
      let z = index t r u k in
      let q = e ∙ sym (tally_counted c x r) in
      (λ v. subst (λ (j : ℕ). get_or l j 0 ≡ r) (sym q) z.1, λ v. absurd (let y = z.0 in omega arith))
  row_of r p (no u) {d} e =
      let w : n ≡ r = let z = p.within in omega arith in
      let q = e ∙ sym (tally_counted c x r) ∙ ap (tally c x) (sym w) ∙ sym t.count in
      (λ v. absurd (omega arith), λ v. w)

-- ---- what the code does

-- the task that the last component names, behind the row k
abbrev pub Child : List ℕ → List ℕ → List ℕ → ℕ → ℕ → ℕ → ℕ → Type 0
Child x b tasks m k last r = (n : ℕ) → Lists task_kind x n tasks m → last ≡ child (outline x n b) k → r ≡ child (outline x n b) (suc k)

pub child_named : (x b tasks : List ℕ) (m k last : ℕ) {r q h : ℕ} → q ≡ kind_of x k → q ≡ “component” → h ≡ cell_of x k 2 → Finds x b tasks m false h r → Child x b tasks m k last r
child_named x b tasks m k last {r} {q} {h} eq ec eh s n t e =
    rw (eq-eqb (kind_of x k) “component” (sym eq ∙ ec))
    (found_number t b false (cell_of x k 2) (subst (λ (z : ℕ). Finds x b tasks m false z r) eh s))

pub child_last : (x b tasks : List ℕ) (m k last : ℕ) {q : ℕ} → q ≡ kind_of x k → ¬ (q ≡ “component”) → Child x b tasks m k last last
child_last x b tasks m k last eq ec n t e = rw (ne_eqb (kind_of x k) “component” (λ z. ec (eq ∙ z))) e

-- the row of the task c of m
abbrev pub Row : List ℕ → ℕ → ℕ → ℕ → ℕ → Type 0
Row tasks m n c r = (x b : List ℕ) (h : ℕ) → Lists task_kind x n tasks m → c ≡ task_named (outline x n b) (text_at_fn b h) → r ≡ task_row (outline x n b) (text_at_fn b h)

module _ (tasks : List ℕ) (m n c : ℕ) where
  pub row_in : {r : ℕ} → c < m → r ≡ get_or tasks c 0 → Row tasks m n c r
  row_in u er x b h t e = let p = task_row (outline x n b) (text_at_fn b h) in er ∙ (row_of t b false h p (first_is _ n) (dec_lt p n) e).0 u

  pub row_out : m ≤ c → Row tasks m n c n
  row_out u x b h t e = let p = task_row (outline x n b) (text_at_fn b h) in (row_of t b false h p (first_is _ n) (dec_lt p n) e).1 u
