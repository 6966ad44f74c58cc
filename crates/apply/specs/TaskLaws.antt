-- Laws: the task that the code finds is the one that 9.6 resolves the text to.
use Rattle.std.specs.Prelude.{◌≡◌, refl, Bool, true, List, ℕ, zero, suc, ◌≤◌, ◌<◌, eqb, get_or, length}
use Rattle.std.proofs.Common.{sym, ap, ◌∙◌, not-suc-le-zero, arith, lt-ltb, le-ltb}
use Rattle.std.proofs.Math.Option.{none, some}
use Rattle.paper_expressions.specs.Bytes.{folded, Alike}
use Rattle.paper_expressions.specs.Clauses.{§9·6-1, §9·6-3}
use Rattle.paper_expressions.specs.View.{View, Task, At, Named, ResolveTask, resolve_task_1, resolve_task_3, Apart}
use Rattle.paper_expressions.proofs.Laws.Search.{no_clash, alikeb, alike_reflects, true_reflects, reflects_true}
use Rattle.parts.specs.ItemLaws.{at_index, index_of}
use Rattle.values.specs.declared.text.Handle.{Handle}
use Rattle.values.specs.declared.scalar.Scalar.TheVariants.{Unknown, Truth}
use Rattle.values.specs.Meaning.{bytes_of, handle_of}
use Rattle.apply.specs.Tasks.{name_of, Tasks, namedb, FoundTask, StateOf}

-- ---- what is found

-- a name that is alike, of the task i
abbrev Row : List ℕ → List ℕ → ℕ → List ℕ → Type 0
Row b names i a = (n : List ℕ) × (name_of b names i ≡ some n) × Alike n a

row : (b names : List ℕ) (h : Handle) (i : ℕ) → namedb b names h i ≡ true → Row b names i (bytes_of b h)
row b names h zero e = absurd (no_clash (cc))
row b names h (suc i) e = let n = bytes_of b (handle_of (get_or names (suc i) 0)) in (n, refl, true_reflects (alike_reflects n (bytes_of b h)) e)

row_named : (b names : List ℕ) (h : Handle) (i : ℕ) (n : List ℕ) → name_of b names i ≡ some n → Alike n (bytes_of b h) → namedb b names h i ≡ true
row_named b names h zero n e a = absurd (no_clash (cc))
row_named b names h (suc i) n e a =
    let m = bytes_of b (handle_of (get_or names (suc i) 0)) in
    let q : m ≡ n = cc in
    reflects_true (alike_reflects m (bytes_of b h)) (ap folded q ∙ a)

module _ {b names states : List ℕ} {v : View} {h : Handle} {r : ℕ} (T : ℕ) (held : Tasks b names states v) (f : FoundTask b names h r) where
  -- a task of the view that is named
  pub task_resolved : Apart v → r < length names → (x : Task) × At v.tasks r x × ResolveTask v T (bytes_of b h) §9·6-1 (some r)
  task_resolved apart l =
      let n = held.number in
      let x = at_index v.tasks r (omega arith) in
      let w = row b names h r (f.found l) in
      let e : x.0.name ≡ some w.0 = held.named x.1 ∙ w.1 in
      let named : Named v (bytes_of b h) r = record { task = x.0; name = w.0; at = x.1; row = e; alike = w.2 } in
      (x.0, x.1, resolve_task_1 (record { named = named; only = λ d m. apart.tasks m.at x.1 m.row e (m.alike ∙ sym w.2) }))

  not_named : length names ≤ r → (d : ℕ) → ¬ Named v (bytes_of b h) d
  not_named l d m =
      let n = held.number in
      let i = index_of m.at in
      f.before d (omega arith) (row_named b names h d m.name (sym (held.named m.at) ∙ m.row) m.alike)

  pub task_unresolved : length names ≤ r → ResolveTask v T (bytes_of b h) §9·6-3 none
  task_unresolved l = resolve_task_3 (λ d s. not_named l d s.named) (λ p c s. not_named l c s.below.named)

-- ---- what the code finds out

-- the code asks from task 1 on
pub asked_name : (b names : List ℕ) (h : Handle) (i : ℕ) {x : ℕ} {r : Bool} → 0 < i → x ≡ get_or names i 0 → r ≡ alikeb (bytes_of b (handle_of x)) (bytes_of b h) → r ≡ namedb b names h i
asked_name b names h zero l e y = absurd (not-suc-le-zero l)
asked_name b names h (suc i) l e y = y ∙ ap (λ (n : ℕ). alikeb (bytes_of b (handle_of n)) (bytes_of b h)) e

pub root_unnamed : (b names : List ℕ) (h : Handle) (k : ℕ) → k < 1 → ¬ (namedb b names h k ≡ true)
root_unnamed b names h zero l e = no_clash (cc)
root_unnamed b names h (suc k) l e = absurd (omega arith)

pub state_found : (b names states : List ℕ) (k : ℕ) (h : Handle) (i n : ℕ) → FoundTask b names h i → i < length names → n ≡ get_or states i 0 → StateOf b names states k h (Truth (eqb n k))
state_found b names states k h i n f l e = (i, f, ap (λ (m : ℕ). Truth (eqb m k)) e ∙ sym (rw (lt-ltb i (length names) l)))

pub state_missing : (b names states : List ℕ) (k : ℕ) (h : Handle) (i : ℕ) → FoundTask b names h i → length names ≤ i → StateOf b names states k h Unknown
state_missing b names states k h i f l = (i, f, sym (rw (le-ltb i (length names) l)))
