-- Each reserved string stands in a production of 3.2: by one computed test.
use Rattle.std.specs.Prelude.{ℕ, zero, suc, ◌+◌, ◌<◌, ◌≡◌, refl, Bool, true}
use Rattle.std.proofs.Common.{subst, arith, zero-add, add-zero}
use mathlib.Core.List.{Memᴰ}
use Rattle.paper_expressions.proofs.Laws.Tests.{from, and_l, and_r, every, some_one, some_at}
use Rattle.paper_tokens.specs.Tokens.{reserved_count}
use Rattle.paper_grammar.specs.Cfg.{Prod, ◌::=◌}
use Rattle.paper_grammar.specs.Grammar.{printed}
use Rattle.paper_grammar.proofs.Laws.Ll.{is_in}

abbrev pub holds : ℕ → Prod → Bool
holds k (A ::= α) = is_in k α

all_stand : every (λ k. some_one (holds k) printed) (from 0 reserved_count) ≡ true
unfolding printed
all_stand = refl

every_from : (f : ℕ → Bool) (k n : ℕ) → every f (from k n) ≡ true → (i : ℕ) → i < n → f (k + i) ≡ true
every_from f k zero h i l = absurd (omega arith)
every_from f k (suc n) h zero l = rw add-zero (and_l (f k) (every f (from (suc k) n)) h)
every_from f k (suc n) h (suc i) l =
    let e : suc k + i ≡ k + suc i = omega arith in
    subst (λ (j : ℕ). f j ≡ true) e (every_from f (suc k) n (and_r (f k) (every f (from (suc k) n)) h) i (omega arith))

pub stands : (k : ℕ) → k < reserved_count → (p : Prod) × Memᴰ p printed × (holds k p ≡ true)
stands k h = some_at (holds k) printed (subst (λ (j : ℕ). some_one (holds j) printed ≡ true) (zero-add k) (every_from (λ j. some_one (holds j) printed) 0 reserved_count all_stand k h))
