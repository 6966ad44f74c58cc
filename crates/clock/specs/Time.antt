-- 8.3.3: the contract of setting the engine time, and that the code's three cases meet it. By the one cell that is written.
use Rattle.std.specs.Prelude.{ℕ, ◌+◌, ◌*◌, ◌<◌, ◌≤◌, ◌≡◌, refl, Bool, true, false, List, get_or, set, length}
use Rattle.std.proofs.Common.{arith, sym, ap, ◌∙◌, length-set, get_or-set_same, get_or-set_other}
use Rattle.paper_calls.specs.Calls.{time_limit, set_engine_time, time_7, time_6, time_done, refuses, done}
use Rattle.replying.specs.declared.Reply.{Reply}
use Rattle.replying.specs.Replying.{published, holds_loaded, Elsewhere, Replies}
use Rattle.replying.specs.Ready.{ready_f, replies_7, replies_refused, replies_done}
use Rattle.replying.specs.Moved.{holds_moved, item_stays, rows_stay}

abbrev pub SetsTime : ℕ → List ℕ → List ℕ → Reply → Type 0
SetsTime time s s' r = (x b f : List ℕ) (w : List (List Bool)) → Replies (set_engine_time time) x b f w s b s' (published r)

pub time_unready : (time : ℕ) (s : List ℕ) {r : Bool} → r ≡ ready_f s → r ≡ false → (x b f : List ℕ) (w : List (List Bool)) → Replies (set_engine_time time) x b f w s b s (refuses 7 0 0)
time_unready time s e k x b f w = replies_7 (sym e ∙ k) (λ st u. time_7 u)

pub time_beyond : (time : ℕ) (s : List ℕ) {r : Bool} → r ≡ ready_f s → r ≡ true → time_limit < time → (x b f : List ℕ) (w : List (List Bool)) → Replies (set_engine_time time) x b f w s b s (refuses 6 0 0)
time_beyond time s e k l x b f w = replies_refused 6 (sym e ∙ k) (λ g h u. time_6 u l)

pub time_set : (time : ℕ) (s : List ℕ) {s' : List ℕ} {r : Bool} → r ≡ ready_f s → r ≡ true → time ≤ time_limit → s' ≡ set s 2 time → (x b f : List ℕ) (w : List (List Bool)) → Replies (set_engine_time time) x b f w s b s' done
time_set time s {s'} e k l q x b f w =
    replies_done (sym e ∙ k) elsewhere
    (λ g h u. record {
      after = _;
      calls = time_done u l;
      holds = holds_loaded (holds_moved h elsewhere h.good l
          (record { loaded = away 0 (λ z. omega arith); flagged = away 1 (λ z. omega arith); timed = (let n = h.cells in ap (λ (y : List ℕ). get_or y 2 0) q ∙ get_or-set_same s 2 time 0 (omega arith)); spare = λ i m n. away i (λ z. omega arith) })
          (rows_stay (λ i m n. away i (λ z. omega arith)) h.rows)
          (λ d m. item_stays d (λ j n. away (776 + 17 * d + j) (λ z. omega arith)) (λ j n. away (1864 + 17 * d + j) (λ z. omega arith)) (λ i n. refl) (h.values d m)));
    })
  where
    away : (i : ℕ) → ¬ (i ≡ 2) → get_or s' i 0 ≡ get_or s i 0
    away i n = ap (λ (y : List ℕ). get_or y i 0) q ∙ get_or-set_other s 2 i time 0 n

    elsewhere : Elsewhere b s b s'
    elsewhere = record { cells = ap length q ∙ length-set s 2 time; bytes = refl; behind = λ i m. away i (λ z. omega arith); own = λ i m. refl; past = λ i m. refl }
