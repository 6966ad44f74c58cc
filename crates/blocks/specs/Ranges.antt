-- What `all` and `any` over a range say: of each number below n, or of one. By the list of the numbers of the range.
use Rattle.std.specs.Prelude.{ℕ, ◌<◌, ◌≡◌, refl, Bool, true, false, ◌↔◌, List, get_or, length, MatchBool}
use Rattle.std.proofs.Common.{arith, sym, subst}
use Rattle.std.specs.List.{range_with_len, AllWithin, HoldsAt}
use Rattle.std.proofs.lemmas.List.FromFn.{length-range_with_len, get_or-range_with_len}
use Rattle.paper_expressions.proofs.Laws.Tests.{contra}

-- the numbers below n
abbrev pub below : ℕ → List ℕ
below n = range_with_len 0 n

at_below : (n k : ℕ) → k < n → get_or (below n) k 0 ≡ k
at_below n k l = let e = get_or-range_with_len 0 n k 0 l in omega arith

pub all_below : (P : ℕ → Type 0) (r : Bool) (n : ℕ) → MatchBool r (AllWithin P (below n) 0 (length (below n))) ((k : ℕ) × (k < length (below n)) × HoldsAt (λ x. ¬ (P x)) (below n) k) → (r ≡ true) ↔ ((k : ℕ) → k < n → P k)
all_below P true n h = let e = length-range_with_len 0 n in (λ z k l. subst P (at_below n k l) (h k 0 (omega arith) (omega arith)), λ z. refl)
all_below P false n h =
    let e = length-range_with_len 0 n in
    let l : h.0 < n = let m = h.1 in omega arith in
    (λ z. contra z, λ f. absurd (h.2 0 (subst P (sym (at_below n h.0 l)) (f h.0 l))))

pub any_below : (P : ℕ → Type 0) (r : Bool) (n : ℕ) → MatchBool r ((k : ℕ) × (k < length (below n)) × HoldsAt P (below n) k) (AllWithin (λ x. ¬ (P x)) (below n) 0 (length (below n))) → (r ≡ true) ↔ ((k : ℕ) × (k < n) × P k)
any_below P true n h =
    let e = length-range_with_len 0 n in
    let l : h.0 < n = let m = h.1 in omega arith in
    (λ z. (h.0, l, subst P (at_below n h.0 l) (h.2 0)), λ z. refl)
any_below P false n h =
    let e = length-range_with_len 0 n in
    (λ z. contra z, λ f. absurd (h f.0 0 (omega arith) (let l = f.1 in omega arith) (subst P (sym (at_below n f.0 f.1)) f.2)))
