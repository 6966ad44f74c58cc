-- A run, turn by turn: from the state that the tables hold the published run, its report, and the state that it comes to. By what is left to run after each cycle.
use Rattle.std.specs.Prelude.{ℕ, suc, ◌+◌, ◌*◌, ◌<◌, ◌≤◌, ◌≡◌, refl, Bool, true, false, List, get_or, length}
use Rattle.std.proofs.Common.{arith, sym, ap, subst, ◌∙◌}
use Rattle.paper_expressions.proofs.Laws.Search.{no_clash}
use Rattle.paper_guideline.specs.Structure.{TopLevel}
use Rattle.paper_rows.specs.Table.{Table}
use Rattle.paper_engine.specs.Operations.{Changes}
use Rattle.paper_engine.specs.Cycle as Cycle
use Cycle.{Ending, quiet, bounded, exception, ends, State, SomeRow, EnactChanges, Runs, stop_quiet, stop_bounded, stop_exception, repeat}
use Rattle.paper_engine.proofs.Laws.EnactLaws.{cycle}
use Rattle.state.specs.Cell.{bit}
use Rattle.holding.specs.Holding.{Holds}
use Rattle.holding.specs.Shown.{kept}
use Rattle.holding.specs.Elsewhere.{Elsewhere, unmoved, moved_on}
use Rattle.asking.specs.Asks as Asks
use Rattle.cycles.specs.Cycled.{Cycled}
use Rattle.change_rows.specs.declared.Asked.{Asked}
use Rattle.running.specs.declared.Turn.{Turn}
use Rattle.running.specs.SomeRow.{no_row, a_row}

-- ---- definitions

abbrev pub ending_code : Ending → ℕ
ending_code quiet = 1
ending_code bounded = 2
ending_code exception = 3

abbrev pub state : Table → Bool → State
state t flag = record { table = t; flag = flag }

-- the first m rows of the numbers q are those that every state which the tables hold asks for
abbrev pub AskedNow : List ℕ → List ℕ → List ℕ → List (List Bool) → List ℕ → List ℕ → ℕ → Type 0
AskedNow x b f w s q m = (g : List TopLevel) (t : Table) (flag : Bool) (time : ℕ) → Holds g x b f w s t flag time → Asks.Asked f t time q m

-- the tables hold the state that the published run comes to, and the ending and the count are its
pub record Comes (g : List TopLevel) (x b' f : List ℕ) (w : List (List Bool)) (s' : List ℕ) (t : Table) (flag : Bool) (time bound ending cycles : ℕ) : Type 0 where
  pub t' : Table
  pub flag' : Bool
  pub published : Cycle.Report
  pub runs : Runs time bound 0 (state t flag) (state t' flag') published
  pub holds : Holds g x b' f w s' t' flag' time
  pub its_ending : ending ≡ ending_code published.ending
  pub its_cycles : cycles ≡ published.cycles

-- of every state that the tables hold
abbrev pub Ran : List ℕ → List ℕ → List ℕ → List ℕ → List (List Bool) → List ℕ → List ℕ → ℕ → ℕ → ℕ → Type 0
Ran x b b' f w s s' bound ending cycles = (g : List TopLevel) (t : Table) (flag : Bool) (time : ℕ) → Holds g x b f w s t flag time → Comes g x b' f w s' t flag time bound ending cycles

-- after k cycles: what the run comes to from there, it comes to from the beginning
pub record ComesOn (g : List TopLevel) (x b' f : List ℕ) (w : List (List Bool)) (s' : List ℕ) (t : Table) (flag : Bool) (time bound k : ℕ) : Type 0 where
  pub t' : Table
  pub flag' : Bool
  pub holds : Holds g x b' f w s' t' flag' time
  pub on : (u : State) (r : Cycle.Report) → Runs time bound k (state t' flag') u r → Runs time bound 0 (state t flag) u r

abbrev pub Going : List ℕ → List ℕ → List ℕ → List ℕ → List (List Bool) → List ℕ → List ℕ → ℕ → ℕ → Type 0
Going x b b' f w s s' bound k = (g : List TopLevel) (t : Table) (flag : Bool) (time : ℕ) → Holds g x b f w s t flag time → ComesOn g x b' f w s' t flag time bound k

-- a run that goes on with rows that are asked for
pub record Goes (bound : ℕ) (x b f : List ℕ) (w : List (List Bool)) (s b' s' : List ℕ) (u : Turn) : Type 0 where
  pub few : u.asked.n ≤ 576
  pub some_row : ¬ (u.asked.n ≡ 0)
  pub below : u.cycles < bound
  pub asks : AskedNow x b' f w s' u.asked.cells u.asked.n
  pub on : Going x b b' f w s s' bound u.cycles

-- a run that has ended
pub record Ends (bound : ℕ) (x b f : List ℕ) (w : List (List Bool)) (s b' s' : List ℕ) (u : Turn) : Type 0 where
  pub how : Ending
  pub its : u.ending ≡ ending_code how
  pub ran : Ran x b b' f w s s' bound u.ending u.cycles

-- b and s where the run began, b' and s' where the turn u stands
pub record Turned (bound lent : ℕ) (x b f : List ℕ) (w : List (List Bool)) (s b' s' : List ℕ) (u : Turn) : Type 0 where
  pub all_lent : u.lent ≡ lent
  pub elsewhere : Elsewhere b s b' s'
  pub goes : u.going ≡ true → Goes bound x b f w s b' s' u
  pub ended : u.going ≡ false → Ends bound x b f w s b' s' u

abbrev pub made : Bool → ℕ → ℕ → ℕ → Asked → Turn
made going ending cycles lent a = record { going = going; ending = ending; cycles = cycles; lent = lent; asked = a }

-- after k cycles
pub data Decided (bound k lent : ℕ) (a : Asked) (u : Turn) : Type 0 where
  is_quiet : a.n ≡ 0 → u ≡ made false 1 k lent a → Decided bound k lent a u
  is_bounded : ¬ (a.n ≡ 0) → bound ≤ k → u ≡ made false 2 k lent a → Decided bound k lent a u
  goes_on : ¬ (a.n ≡ 0) → k < bound → u ≡ made true 0 k lent a → Decided bound k lent a u

-- from the tables b₁ and s₁ after k cycles, where the m rows of the numbers q are asked for, the next turn: wherever the run began
abbrev pub Nexts : ℕ → ℕ → List ℕ → List ℕ → List (List Bool) → List ℕ → List ℕ → List ℕ → ℕ → ℕ → List ℕ → List ℕ → Turn → Type 0
Nexts bound lent x f w b₁ s₁ q m k b' s' u =
    (b s : List ℕ) → k < bound → ¬ (m ≡ 0) → AskedNow x b₁ f w s₁ q m → Going x b b₁ f w s s₁ bound k → Elsewhere b s b₁ s₁ → Turned bound lent x b f w s b' s' u

-- ---- the turns

pub going_none : (x b f : List ℕ) (w : List (List Bool)) (s : List ℕ) (bound : ℕ) → Going x b b f w s s bound 0
going_none x b f w s bound g t flag time h = record { t' = t; flag' = flag; holds = h; on = λ u r z. z }

-- the rows that the code finds, where it has room for them
pub asks_now : (x b f : List ℕ) (w : List (List Bool)) (s o q : List ℕ) (m n : ℕ) → Asks.AskedFor x b f w s o q m → Asks.Lent o → (4 * m ≤ length q → n ≡ m) → AskedNow x b f w s q n
asks_now x b f w s o q m n k lent e g t flag time h =
    let z = k g t flag time h lent in
    subst (Asks.Asked f t time q) (sym (e z.room)) z

-- the flag after a cycle, by its cell
flag_off : (flag : Bool) {n : ℕ} → n ≡ bit flag → n ≡ 0 → flag ≡ false
flag_off true e f = absurd (let z : ⊥ = omega arith in z)
flag_off false e f = refl

flag_on : (flag : Bool) {n : ℕ} → n ≡ bit flag → ¬ (n ≡ 0) → flag ≡ true
flag_on true e f = refl
flag_on false e f = absurd (f e)

-- a cycle that is enacted: the tables hold its table and flag
record Enacted (g : List TopLevel) (x b' f : List ℕ) (w : List (List Bool)) (s' : List ℕ) (t : Table) (flag : Bool) (time : ℕ) : Type 0 where
  some_row : SomeRow (Changes t time)
  t' : Table
  flag' : Bool
  enacts : EnactChanges (Changes t time) t flag t' flag'
  holds : Holds g x b' f w s' t' flag' time

module _ (x b b₁ b' f : List ℕ) (w : List (List Bool)) (s s₁ s' : List ℕ) (bound k : ℕ) (going : Going x b b₁ f w s s₁ bound k) (q : List ℕ) (m : ℕ) (asks : AskedNow x b₁ f w s₁ q m) where
  enacted : {g : List TopLevel} {t : Table} {flag : Bool} {time : ℕ} → ¬ (m ≡ 0) → Cycled x b₁ b' f s₁ s' q m → Holds g x b₁ f w s₁ t flag time → Enacted g x b' f w s' t flag time
  enacted {g} {t} {flag} {time} n cycled h =
      let c = cycle h.lawful (kept h) time flag in
      let a = asks g t flag time h in
      record { some_row = a_row h a n; t' = _; flag' = _; enacts = c; holds = cycled g w t flag time h a _ _ c }

  pub going_more : {n : ℕ} → ¬ (m ≡ 0) → Cycled x b₁ b' f s₁ s' q m → n ≡ get_or s' 1 0 → n ≡ 0 → k < bound → Going x b b' f w s s' bound (k + 1)
  going_more some_row cycled i z l g t flag time h =
      let y = going g t flag time h in
      let a = enacted some_row cycled y.holds in
      let off : a.flag' ≡ false = flag_off a.flag' (i ∙ a.holds.flagged) z in
      let c : EnactChanges (Changes y.t' time) y.t' y.flag' a.t' false = subst (EnactChanges (Changes y.t' time) y.t' y.flag' a.t') off a.enacts in
      let ne : ¬ (k ≡ bound) = λ v. omega arith in
      record {
        t' = a.t';
        flag' = false;
        holds = subst (λ (v : Bool). Holds g x b' f w s' a.t' v time) off a.holds;
        on = λ u v p. (let e : k + 1 ≡ suc k = omega arith in y.on u v (repeat a.some_row ne c (subst (λ (j : ℕ). Runs time bound j (state a.t' false) u v) e p)));
      }

  pub ran_exception : {n : ℕ} → ¬ (m ≡ 0) → Cycled x b₁ b' f s₁ s' q m → n ≡ get_or s' 1 0 → ¬ (n ≡ 0) → k < bound → Ran x b b' f w s s' bound 3 (k + 1)
  ran_exception some_row cycled i z l g t flag time h =
      let y = going g t flag time h in
      let a = enacted some_row cycled y.holds in
      let on : a.flag' ≡ true = flag_on a.flag' (i ∙ a.holds.flagged) z in
      let c : EnactChanges (Changes y.t' time) y.t' y.flag' a.t' true = subst (EnactChanges (Changes y.t' time) y.t' y.flag' a.t') on a.enacts in
      let ne : ¬ (k ≡ bound) = λ v. omega arith in
      record {
        t' = a.t';
        flag' = true;
        published = ends exception (suc k);
        runs = y.on (state a.t' true) (ends exception (suc k)) (stop_exception a.some_row ne c);
        holds = subst (λ (v : Bool). Holds g x b' f w s' a.t' v time) on a.holds;
        its_ending = refl;
        its_cycles = (let e : k + 1 ≡ suc k = omega arith in e);
      }

  ran_quiet : m ≡ 0 → Ran x b b₁ f w s s₁ bound 1 k
  ran_quiet e g t flag time h =
      let y = going g t flag time h in
      let n = no_row y.holds (asks g y.t' y.flag' time y.holds) e in
      record { t' = y.t'; flag' = y.flag'; published = ends quiet k; runs = y.on (state y.t' y.flag') (ends quiet k) (stop_quiet n); holds = y.holds; its_ending = refl; its_cycles = refl }

  -- the bound is reached: the rows that are asked for are dropped
  ran_bounded : ¬ (m ≡ 0) → k ≡ bound → Ran x b b₁ f w s s₁ bound 2 k
  ran_bounded e l g t flag time h =
      let y = going g t flag time h in
      let n = a_row y.holds (asks g y.t' y.flag' time y.holds) e in
      record { t' = y.t'; flag' = y.flag'; published = ends bounded k; runs = y.on (state y.t' y.flag') (ends bounded k) (stop_bounded n l); holds = y.holds; its_ending = refl; its_cycles = refl }

-- what is decided after k cycles
module _ (bound lent : ℕ) (x b f : List ℕ) (w : List (List Bool)) (s b₁ s₁ : List ℕ) (k : ℕ) (a : Asked) (upto : k ≤ bound) (few : a.n ≤ 576) (asks : AskedNow x b₁ f w s₁ a.cells a.n) (going : Going x b b₁ f w s s₁ bound k) (moved : Elsewhere b s b₁ s₁) where
  stands : {u : Turn} (v : Turn) → u ≡ v → Turned bound lent x b f w s b₁ s₁ v → Turned bound lent x b f w s b₁ s₁ u
  stands v e h = subst (Turned bound lent x b f w s b₁ s₁) (sym e) h

  pub turned : {u : Turn} → Decided bound k lent a u → Turned bound lent x b f w s b₁ s₁ u
  turned (is_quiet e told) =
      stands (made false 1 k lent a) told (record { all_lent = refl; elsewhere = moved; goes = λ z. absurd (no_clash (cc)); ended = λ z. record { how = quiet; its = refl; ran = ran_quiet x b b₁ b₁ f w s s₁ s₁ bound k going a.cells a.n asks e } })
  turned (is_bounded e l told) =
      stands (made false 2 k lent a) told (record { all_lent = refl; elsewhere = moved; goes = λ z. absurd (no_clash (cc)); ended = λ z. record { how = bounded; its = refl; ran = ran_bounded x b b₁ b₁ f w s s₁ s₁ bound k going a.cells a.n asks e (omega arith) } })
  turned (goes_on e l told) =
      stands (made true 0 k lent a) told (record { all_lent = refl; elsewhere = moved; goes = λ z. record { few = few; some_row = e; below = l; asks = asks; on = going }; ended = λ z. absurd (no_clash (cc)) })

pub turned_first : (bound lent : ℕ) (x b f : List ℕ) (w : List (List Bool)) (s : List ℕ) (a : Asked) {u : Turn} → a.n ≤ 576 → AskedNow x b f w s a.cells a.n → Decided bound 0 lent a u → Turned bound lent x b f w s b s u
turned_first bound lent x b f w s a few asks d = turned bound lent x b f w s b s 0 a (omega arith) few asks (going_none x b f w s bound) (unmoved b s) d

-- ---- the next turn

module _ (bound lent : ℕ) (x f : List ℕ) (w : List (List Bool)) (b₁ s₁ q : List ℕ) (m k : ℕ) (b' s' : List ℕ) {n : ℕ} (cycled : Cycled x b₁ b' f s₁ s' q m) (moved : Elsewhere b₁ s₁ b' s') (flag : n ≡ get_or s' 1 0) where
  pub next_exception : (a : Asked) {u : Turn} → ¬ (n ≡ 0) → u ≡ made false 3 (k + 1) lent a → Nexts bound lent x f w b₁ s₁ q m k b' s' u
  next_exception a z told b s l some_row asks going before =
      subst (Turned bound lent x b f w s b' s') (sym told) (record { all_lent = refl; elsewhere = moved_on before moved; goes = λ e. absurd (no_clash (cc)); ended = λ e. record { how = exception; its = refl; ran = ran_exception x b b₁ b' f w s s₁ s' bound k going q m asks some_row cycled flag z l } })

  pub next_decided : (a : Asked) {u : Turn} → n ≡ 0 → a.n ≤ 576 → AskedNow x b' f w s' a.cells a.n → Decided bound (k + 1) lent a u → Nexts bound lent x f w b₁ s₁ q m k b' s' u
  next_decided a z few more d b s l some_row asks going before =
      turned bound lent x b f w s b' s' (k + 1) a (omega arith) few more (going_more x b b₁ b' f w s s₁ s' bound k going q m asks some_row cycled flag z l) (moved_on before moved) d

pub decided_cycles : {bound k lent : ℕ} {a : Asked} {u : Turn} → Decided bound k lent a u → u.cycles ≡ k
decided_cycles (is_quiet e told) = ap (λ (v : Turn). v.cycles) told
decided_cycles (is_bounded e l told) = ap (λ (v : Turn). v.cycles) told
decided_cycles (goes_on e l told) = ap (λ (v : Turn). v.cycles) told
