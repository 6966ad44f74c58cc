-- The replies of calls as numbers, by document 01's numbers; and the contract of each call that other languages make: its own, of the reply that the numbers tell. By the code's answers.
use Rattle.std.specs.Prelude.{ℕ, ◌≡◌, Bool, List, ℤ, length}
use Rattle.std.proofs.Common.{sym, subst, ◌∙◌}
use Rattle.paper_calls.specs.Calls as Calls
use Calls.{Reply, done, ran, row, refuses, run, set_engine_time, confirm_task, add_data_value, send_trigger, Leaves}
use Rattle.paper_calls.specs.Numbers.{ending_number}
use Rattle.replying.specs.Replying.{Replies}
use Rattle.value_given.specs.Given.{given}
use Rattle.change_rows.specs.declared.Row.{Row}
use Rattle.change_rows.specs.Blank.{blank}
use Rattle.runs.specs.declared.Ran.{Ran}
use Rattle.runs.specs.Run as runs
use Rattle.exports.specs.declared.Outcome.{Outcome}

-- ---- definitions

abbrev pub number_of : Reply → ℕ
number_of done = 0
number_of (ran r) = 0
number_of (row s) = 0
number_of (refuses n p k) = n

abbrev pub place_of : Reply → ℕ
place_of done = 0
place_of (ran r) = 0
place_of (row s) = 0
place_of (refuses n p k) = p

abbrev pub ending_of : Reply → ℕ
ending_of done = 0
ending_of (ran r) = ending_number r.ending
ending_of (row s) = 0
ending_of (refuses n p k) = 0

abbrev pub count_of : Reply → ℕ
count_of done = 0
count_of (ran r) = r.cycles
count_of (row s) = 0
count_of (refuses n p k) = k

-- the numbers of a reply
pub record Tells (r : Reply) (a : Outcome) : Type 0 where
  pub number : a.number ≡ number_of r
  pub place : a.place ≡ place_of r
  pub ending : a.ending ≡ ending_of r
  pub count : a.count ≡ count_of r

-- the numbers of the one reply of which P holds
pub record Told (P : Reply → Type 0) (a : Outcome) : Type 0 where
  pub reply : Reply
  pub tells : Tells reply a
  pub holds : P reply

abbrev pub SetsTime : ℕ → List ℕ → List ℕ → Outcome → Type 0
SetsTime time s s' = Told (λ (r : Reply). (x b f : List ℕ) (w : List (List Bool)) → Replies (set_engine_time time) x b f w s b s' r)

abbrev pub Confirms : ℕ → List ℕ → List ℕ → List ℕ → Outcome → Type 0
Confirms T f s s' = Told (λ (r : Reply). (x b : List ℕ) (w : List (List Bool)) → Replies (confirm_task T) x b f w s b s' r)

-- D the data item; t the tags, n the numbers and v the bytes that are given
abbrev pub Adds : ℕ → List ℕ → List ℤ → List ℕ → List ℕ → List ℕ → List ℕ → List ℕ → List ℕ → Outcome → Type 0
Adds D t n v b f s b' s' = Told (λ (r : Reply). (x : List ℕ) (w : List (List Bool)) → Replies (add_data_value D (given t n v)) x b f w s b' s' r)

abbrev pub Triggers : List ℕ → List ℕ → List ℕ → List ℕ → List ℕ → Outcome → Type 0
Triggers u b f s s' = Told (λ (r : Reply). (x : List ℕ) (w : List (List Bool)) → Replies (send_trigger u) x b f w s b s' r)

-- o the lent rows before, o' after
abbrev pub Runs : ℕ → List ℕ → List ℕ → List ℕ → List (List Bool) → List ℕ → List ℕ → List ℕ → List Row → List Row → Outcome → Type 0
Runs bound x b f w s b' s' o o' = Told (λ (r : Reply). Replies (run bound (length o)) x b f w s b' s' r × Leaves blank r o o')

-- ---- what the code finds out

pub runs_told : (bound : ℕ) (x b f : List ℕ) (w v : List (List Bool)) (s b' s' : List ℕ) (o o' : List Row) (r : Ran) (a : Outcome) → w ≡ v → runs.Runs bound x b f w s b' s' o o' r → Tells (runs.published r) a → Runs bound x b f v s b' s' o o' a
runs_told bound x b f w v s b' s' o o' r a e h t =
    record { reply = runs.published r; tells = t; holds = (subst (λ (y : List (List Bool)). Replies (run bound (length o)) x b f y s b' s' (runs.published r)) e h.replies, h.leaves) }

-- ---- one outcome: the numbers of a reply are its own

abbrev made : ℕ → ℕ → ℕ → ℕ → Outcome
made n e k p = record { number = n; ending = e; count = k; place = p }

pub one_outcome : {r : Reply} (a c : Outcome) → Tells r a → Tells r c → a ≡ c
one_outcome a c h k =
    let i = h.number ∙ sym k.number in
    let j = h.ending ∙ sym k.ending in
    let m = h.count ∙ sym k.count in
    let n = h.place ∙ sym k.place in
    let z : made a.number a.ending a.count a.place ≡ made c.number c.ending c.count c.place = cc in
    z
