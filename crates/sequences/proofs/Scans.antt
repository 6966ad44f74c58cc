-- Scans: what a test passed or failed at each place says of all places, and of the first. By the definitions' own laws on such searches.
use mathlib.Core.Path.{◌≡◌, refl}
use mathlib.Core.Bool.{Bool, true, false}
use mathlib.Core.Option.{Option, none, some}
use Prim.Native.Nat.{ℕ, ◌<◌}
use Rattle.paper_expressions.proofs.Laws.Search.{no_clash, Reflects, of_yes, of_no, reflects_true, reflects_false, allb, all_reflects, firstb, FirstOf, first_is, no_first, first_of, first_same}

itself : (b : Bool) → Reflects (b ≡ true) b
itself true = of_yes refl
itself false = of_no (λ e. no_clash (cc))

module _ (f : ℕ → Bool) (n : ℕ) where
  all : Reflects ((k : ℕ) → k < n → f k ≡ true) (allb n f)
  all = all_reflects (λ (k : ℕ). f k ≡ true) f n (λ k. itself (f k))

  pub all_hold : ((k : ℕ) → k < n → f k ≡ true) → allb n f ≡ true
  all_hold h = reflects_true all h

  pub one_fails : (j : ℕ) → j < n → f j ≡ false → allb n f ≡ false
  one_fails j h e = reflects_false all (λ g. let t = g j h in no_clash (cc))

  pub first_found : (i : ℕ) → i < n → f i ≡ true → ((k : ℕ) → k < i → f k ≡ false) → firstb n f ≡ some i
  first_found i h e g =
      first_same (first_of (λ (k : ℕ). f k ≡ true) f (λ k. itself (f k)) n) h e (λ k l t. let u = g k l in no_clash (cc))

  pub none_found : ((k : ℕ) → k < n → f k ≡ false) → firstb n f ≡ none
  none_found g = go (firstb n f) (first_of (λ (k : ℕ). f k ≡ true) f (λ k. itself (f k)) n)
    where
      go : (o : Option ℕ) → FirstOf (λ k. f k ≡ true) n o → o ≡ none
      go o (first_is {i} h p q) = absurd (let u = g i h in no_clash (cc))
      go o (no_first q) = refl
