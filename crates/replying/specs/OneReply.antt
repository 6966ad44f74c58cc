-- Only one reply and one set of tables meet the contract of a call: a call leaves one state, and a state has one set of cells and bytes. By the regions of the tables.
use Rattle.std.specs.Prelude.{ℕ, zero, suc, ◌+◌, ◌*◌, ◌-◌, ◌/◌, ◌%◌, ◌<◌, ◌≤◌, ◌≡◌, refl, Bool, List, get_or, length}
use Rattle.std.proofs.Common.{arith, sym, subst, ◌∙◌, ext_get_or}
use Rattle.std.proofs.Math.Decide.{dec_lt}
use Rattle.std.proofs.Math.Option.{Option}
use Rattle.paper_guideline.specs.Structure.{TopLevel}
use Rattle.paper_rows.specs.Table.{Property, RowValue, Table}
use Rattle.paper_calls.specs.Calls as Calls
use Calls.{State, empty, loaded, Call, Calls, refuses}
use Rattle.paper_calls.proofs.Laws.CallLaws.{one_call}
use Rattle.paper_calls.proofs.Laws.TotalLaws.{NotLoad, is_run, is_time, is_confirm, is_add, is_trigger, is_read}
use Rattle.state.specs.Cell.{Cell}
use Rattle.state.specs.Layout.{TaskColumn, state_column, trigger_column, confirmed_column, count_column, cycles_column, start_column, in_progress_column, discarded_column, completed_column, procedure_column}
use Rattle.holding.specs.Holding.{Holds}
use Rattle.replying.specs.Replying.{Holding, holds_none, holds_loaded, Replies}

-- ---- a state has one set of cells

same_cell : {k x k' x' : ℕ} {o : Option RowValue} → Cell k x o → Cell k' x' o → (k ≡ k') × (x ≡ x')
same_cell h j = (h.its_tag ∙ sym j.its_tag, h.its_number ∙ sym j.its_number)

-- the j-th column of tasks
column : (j : ℕ) → j < 10 → (p : Property) × TaskColumn (8 + 64 * j) p
column zero l = (_, state_column)
column (suc zero) l = (_, trigger_column)
column (suc (suc zero)) l = (_, confirmed_column)
column (suc (suc (suc zero))) l = (_, count_column)
column (suc (suc (suc (suc zero)))) l = (_, cycles_column)
column (suc (suc (suc (suc (suc zero))))) l = (_, start_column)
column (suc (suc (suc (suc (suc (suc zero)))))) l = (_, in_progress_column)
column (suc (suc (suc (suc (suc (suc (suc zero))))))) l = (_, discarded_column)
column (suc (suc (suc (suc (suc (suc (suc (suc zero)))))))) l = (_, completed_column)
column (suc (suc (suc (suc (suc (suc (suc (suc (suc zero))))))))) l = (_, procedure_column)
column (suc (suc (suc (suc (suc (suc (suc (suc (suc (suc j)))))))))) l = absurd (let z : ⊥ = omega arith in z)

moved_to : (s u : List ℕ) {i k : ℕ} → i ≡ k → get_or s k 0 ≡ get_or u k 0 → get_or s i 0 ≡ get_or u i 0
moved_to s u e h = subst (λ (z : ℕ). get_or s z 0 ≡ get_or u z 0) (sym e) h

module _ {g : List TopLevel} {x b v f : List ℕ} {w : List (List Bool)} {s u : List ℕ} {t : Table} {flag : Bool} {time : ℕ} (h : Holds g x b f w s t flag time) (k : Holds g x v f w u t flag time) where
  header : (i : ℕ) → i < 8 → get_or s i 0 ≡ get_or u i 0
  header zero l = h.loaded ∙ sym k.loaded
  header (suc zero) l = h.flagged ∙ sym k.flagged
  header (suc (suc zero)) l = h.timed ∙ sym k.timed
  header (suc (suc (suc i))) l = h.spare (suc (suc (suc i))) (omega arith) l ∙ sym (k.spare (suc (suc (suc i))) (omega arith) l)

  task_tag : (j T : ℕ) → j < 10 → T < 32 → get_or s (8 + 64 * j + T) 0 ≡ get_or u (8 + 64 * j + T) 0
  task_tag j T l m = let c = (column j l).1 in (same_cell (h.rows.tasks c m) (k.rows.tasks c m)).0

  task_number : (j T : ℕ) → j < 10 → T < 32 → get_or s (8 + 64 * j + 32 + T) 0 ≡ get_or u (8 + 64 * j + 32 + T) 0
  task_number j T l m = let c = (column j l).1 in (same_cell (h.rows.tasks c m) (k.rows.tasks c m)).1

  task_cells : (j r : ℕ) → j < 10 → r < 64 → get_or s (8 + 64 * j + r) 0 ≡ get_or u (8 + 64 * j + r) 0
  task_cells j r l m = go (dec_lt r 32)
    where
      go : Dec (r < 32) → get_or s (8 + 64 * j + r) 0 ≡ get_or u (8 + 64 * j + r) 0
      go (yes n) = task_tag j r l n
      go (no n) = moved_to s u {k = 8 + 64 * j + 32 + (r - 32)} (omega arith) (task_number j (r - 32) l (omega arith))

  asked_cells : (r : ℕ) → r < 128 → get_or s (648 + r) 0 ≡ get_or u (648 + r) 0
  asked_cells r m = go (dec_lt r 64)
    where
      go : Dec (r < 64) → get_or s (648 + r) 0 ≡ get_or u (648 + r) 0
      go (yes n) = (same_cell (h.rows.asked n) (k.rows.asked n)).0
      go (no n) = let l : r - 64 < 64 = omega arith in moved_to s u {k = 712 + (r - 64)} (omega arith) (same_cell (h.rows.asked l) (k.rows.asked l)).1

  value_tags : (d j : ℕ) → d < 64 → j < 17 → get_or s (776 + 17 * d + j) 0 ≡ get_or u (776 + 17 * d + j) 0
  value_tags d zero l m = moved_to s u {k = 776 + 17 * d} (omega arith) ((h.values d l).shape ∙ sym (k.values d l).shape)
  value_tags d (suc j) l m = moved_to s u {k = 776 + 17 * d + 1 + j} (omega arith) ((h.values d l).tags j (omega arith) ∙ sym ((k.values d l).tags j (omega arith)))

  value_numbers : (d j : ℕ) → d < 64 → j < 17 → get_or s (1864 + 17 * d + j) 0 ≡ get_or u (1864 + 17 * d + j) 0
  value_numbers d zero l m = moved_to s u {k = 1864 + 17 * d} (omega arith) ((h.values d l).there ∙ sym (k.values d l).there)
  value_numbers d (suc j) l m = moved_to s u {k = 1864 + 17 * d + 1 + j} (omega arith) ((h.values d l).numbers j (omega arith) ∙ sym ((k.values d l).numbers j (omega arith)))

  -- every cell of the state
  pub same_cells : (i : ℕ) → i < 2952 → get_or s i 0 ≡ get_or u i 0
  same_cells i l = go (dec_lt i 8) (dec_lt i 648) (dec_lt i 776) (dec_lt i 1864)
    where
      go : Dec (i < 8) → Dec (i < 648) → Dec (i < 776) → Dec (i < 1864) → get_or s i 0 ≡ get_or u i 0
      go (yes a) b c d = header i a
      go (no a) (yes b) c d = moved_to s u {k = 8 + 64 * ((i - 8) / 64) + (i - 8) % 64} (omega arith) (task_cells ((i - 8) / 64) ((i - 8) % 64) (omega arith) (omega arith))
      go (no a) (no b) (yes c) d = moved_to s u {k = 648 + (i - 648)} (omega arith) (asked_cells (i - 648) (omega arith))
      go (no a) (no b) (no c) (yes d) = moved_to s u {k = 776 + 17 * ((i - 776) / 17) + (i - 776) % 17} (omega arith) (value_tags ((i - 776) / 17) ((i - 776) % 17) (omega arith) (omega arith))
      go (no a) (no b) (no c) (no d) = moved_to s u {k = 1864 + 17 * ((i - 1864) / 17) + (i - 1864) % 17} (omega arith) (value_numbers ((i - 1864) / 17) ((i - 1864) % 17) (omega arith) (omega arith))

  value_bytes : (d j m : ℕ) → d < 64 → j < 16 → m < 48 → get_or b (16384 + 768 * d + 48 * j + m) 0 ≡ get_or v (16384 + 768 * d + 48 * j + m) 0
  value_bytes d j m l n o = (h.values d l).bytes j m n o ∙ sym ((k.values d l).bytes j m n o)

  -- and every byte of the data items' values
  pub same_bytes : (i : ℕ) → 16384 ≤ i → i < 65536 → get_or b i 0 ≡ get_or v i 0
  same_bytes i l m =
      let d = (i - 16384) / 768 in
      let r = (i - 16384) % 768 in
      moved_to b v {k = 16384 + 768 * d + 48 * (r / 48) + r % 48} (omega arith) (value_bytes d (r / 48) (r % 48) (omega arith) (omega arith) (omega arith))

-- ---- a call that leaves the empty guideline is refused

emptied : {c : Call} {st : State} {r : Calls.Reply} → NotLoad c → Calls c st r empty → (n : ℕ) × (r ≡ refuses n 0 0)
emptied is_run (Calls.run_7 u) = (7, refl)
emptied is_time (Calls.time_7 u) = (7, refl)
emptied is_confirm (Calls.confirm_7 u) = (7, refl)
emptied is_add (Calls.add_7 u) = (7, refl)
emptied is_trigger (Calls.trigger_7 u) = (7, refl)
emptied is_read Calls.read_7 = (7, refl)

-- ---- the law

pub record SameOutcome (r : Calls.Reply) (b s : List ℕ) (q : Calls.Reply) (v u : List ℕ) : Type 0 where
  pub reply : r ≡ q
  pub bytes : b ≡ v
  pub cells : s ≡ u

module _ {c : Call} {x b f : List ℕ} {w : List (List Bool)} {s : List ℕ} {r q : Calls.Reply} {b' s' b'' s'' : List ℕ} (load : NotLoad c)
    (h : Replies c x b f w s b' s' r) (k : Replies c x b f w s b'' s'' q) where
  everywhere : {y z : List ℕ} (o : List ℕ) (n m : ℕ) → length y ≡ length o → length z ≡ length o → ((i : ℕ) → i < n → get_or y i 0 ≡ get_or o i 0) → ((i : ℕ) → i < n → get_or z i 0 ≡ get_or o i 0)
      → ((i : ℕ) → m ≤ i → get_or y i 0 ≡ get_or o i 0) → ((i : ℕ) → m ≤ i → get_or z i 0 ≡ get_or o i 0) → ((i : ℕ) → n ≤ i → i < m → get_or y i 0 ≡ get_or z i 0) → y ≡ z
  everywhere {y} {z} o n m e1 e2 a1 a2 p1 p2 mid = ext_get_or 0 y z (e1 ∙ sym e2) (λ i l. at i (dec_lt i n) (dec_lt i m))
    where
      at : (i : ℕ) → Dec (i < n) → Dec (i < m) → get_or y i 0 ≡ get_or z i 0
      at i (yes u) v = a1 i u ∙ sym (a2 i u)
      at i (no u) (yes v) = mid i (omega arith) v
      at i (no u) (no v) = p1 i (omega arith) ∙ sym (p2 i (omega arith))

  tables : {st after : State} → r ≡ q → Calls c st r after → Holding x b' f w s' after → Holding x b'' f w s'' after → (b' ≡ b'') × (s' ≡ s'')
  tables e z (holds_none a) (holds_none d) =
      let n = emptied load z in
      let i = h.refused n.1 in
      let j = k.refused (sym e ∙ n.1) in
      (i.0 ∙ sym j.0, i.1 ∙ sym j.1)
  tables e z (holds_loaded a) (holds_loaded d) =
      let i = h.elsewhere in
      let j = k.elsewhere in (
        everywhere b 16384 65536 i.bytes j.bytes i.own j.own i.past j.past (same_bytes a d),
        everywhere s 0 2952 i.cells j.cells (λ y l. absurd (let n : ⊥ = omega arith in n)) (λ y l. absurd (let n : ⊥ = omega arith in n)) i.behind j.behind (λ y l m. same_cells a d y m),
      )

  -- for tables that hold some state
  pub one_reply : {st : State} → Holding x b f w s st → SameOutcome r b' s' q b'' s''
  one_reply {st} held =
      let i = h.called st held in
      let j = k.called st held in
      let e = one_call i.calls j.calls in
      let z = tables e.replies i.calls i.holds (subst (Holding x b'' f w s'') (sym e.states) j.holds) in
      record { reply = e.replies; bytes = z.0; cells = z.1 }
