-- Three copies one behind the other join the tables: none touches what the ones before it wrote.
use Rattle.std.specs.Prelude.{◌≡◌, List, ℕ, ◌+◌, ◌≤◌, ◌<◌, get_or, length}
use Rattle.std.proofs.Common.{sym, ap, subst, ◌∙◌, inl, arith}
use Rattle.blocks.specs.Blocks.{Copied}
use Rattle.season.specs.Lines.{Joined, work}
use Rattle.season.specs.declared.records.Work.{Work}

module _ {parts plan state t u v w : List ℕ} (room : 8688 ≤ length t) (a : Copied parts 0 t 0 4096 u) (b : Copied plan 0 u 4096 1640 v) (c : Copied state 0 v 5736 2952 w) where
  from_front : (s : List ℕ) (x k : ℕ) → x ≡ get_or s (0 + k) 0 → x ≡ get_or s k 0
  from_front s x k e = subst (λ (j : ℕ). x ≡ get_or s j 0) (let z : 0 + k ≡ k = omega arith in z) e

  pub joined : Joined parts plan state w
  joined = record { of_parts = of_parts; of_plan = of_plan; of_state = of_state }
    where
      of_parts : (k : ℕ) → k < 4096 → get_or w k 0 ≡ get_or parts k 0
      of_parts k h =
          c.other k (inl (omega arith))
          ∙ b.other k (inl (omega arith))
          ∙ from_front parts (get_or u k 0) k (subst (λ (j : ℕ). get_or u j 0 ≡ get_or parts (0 + k) 0) (let z : 0 + k ≡ k = omega arith in z) (a.same k h (omega arith)))

      of_plan : (k : ℕ) → k < 1640 → get_or w (4096 + k) 0 ≡ get_or plan k 0
      of_plan k h = let size = a.size in c.other (4096 + k) (inl (omega arith)) ∙ from_front plan (get_or v (4096 + k) 0) k (b.same k h (omega arith))

      of_state : (k : ℕ) → k < 2952 → get_or w (5736 + k) 0 ≡ get_or state k 0
      of_state k h = let size = a.size in let more = b.size in from_front state (get_or w (5736 + k) 0) k (c.same k h (omega arith))

-- work is told by its own place
pub its_own : {r : Work} {lines o answered : ℕ} → r ≡ work lines o answered → r ≡ work lines r.o answered
its_own {r} {lines} {o} {answered} e = e ∙ ap (λ (p : ℕ). work lines p answered) (sym (ap (λ (x : Work). x.o) e))
