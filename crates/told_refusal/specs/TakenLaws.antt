-- Laws: what is seen of two pieces, one behind the other; and what is known then of the text that was taken. By where the pieces meet.
use Rattle.std.specs.Prelude.{ℕ, ◌≤◌, ◌≡◌, refl, List, [], ◌++◌, length, take}
use Rattle.std.proofs.Common.{arith, append_assoc, append-nil, length-append}
use Rattle.spot.specs.Seen.{Describes}
use Rattle.spot.specs.declared.seen.Seen.{Seen}
use Rattle.told_refusal.specs.Taken.{Sees, SeesOn, Takes}

pub nothing_more : {s : Seen} → SeesOn s s
nothing_more {s} = record { bytes = []; sees = λ t l d. rw append-nil d }

-- two pieces
joined : {u v : List ℕ} {s r q : Seen} → Sees u s r → Sees v r q → Sees (u ++ v) s q
joined {u} {v} {q = q} h k t l d =
    let e = length-append u v in
    let f = length-append t u in
    rw append_assoc at (k (t ++ u) (omega arith) (h t (omega arith) d))

pub sees_more : {s r q : Seen} → SeesOn s r → SeesOn r q → SeesOn s q
sees_more h k = record { bytes = h.bytes ++ k.bytes; sees = joined h.sees k.sees }

module _ {kept kept' : List ℕ} {n : ℕ} {o s : Seen} (size : length kept' ≡ length kept) (l : n ≤ length kept') (e : n ≡ length (take n kept')) (none : Describes [] o) (first : Sees (take n kept') o s) where
  -- all of it was kept
  pub all_kept : Takes kept kept' (record { kept = n; seen = s })
  all_kept = record { size = size; within = l; behind = []; whole = λ z. refl; seen = λ z. rw append-nil (first [] (omega arith) none) }

  -- the slice is full
  pub part_kept : {r : Seen} → length kept' ≤ n → SeesOn s r → Takes kept kept' (record { kept = n; seen = r })
  part_kept full more =
      record { size = size; within = l; behind = more.bytes; whole = λ z. absurd (omega arith); seen = λ z. more.sees (take n kept') (omega arith) (first [] (omega arith) none) }
