-- 8.6.4 as tests on the tables' cells; and the laws of the loop over the sources.
use Rattle.std.specs.Prelude.{ℕ, ◌+◌, ◌<◌, ◌≡◌, refl, Bool, true, false, not, ◌&&◌, ◌||◌, List, eqb, get_or}
use Rattle.std.proofs.Common.{sym, ap₂, ◌∙◌}
use Rattle.std.proofs.lemmas.Bool.Decides.{same_from_decides}
use Rattle.paper_expressions.proofs.Laws.Tests.{contra}
use Rattle.state.specs.Layout.{row_is_fn}
use Rattle.waits.specs.Booleans.{all_f, all_more, is_all, Tests}
use Rattle.waits.specs.Twins.{marked, timed_f, confirmatory_f, class_f, first_at, count_at_fn, item_at, mandatory_f}

abbrev pub still_f : List ℕ → ℕ → Bool
still_f s C = (row_is_fn s 8 C 5 4 || row_is_fn s 8 C 5 3) && (not (row_is_fn s 8 C 5 2) && not (timed_f s C))

abbrev pub idle_f : List Bool → List Bool → List Bool → ℕ → Bool
idle_f starts discards initialises C = not (marked starts C) && (not (marked discards C) && not (marked initialises C))

abbrev pub settled_f : List ℕ → List Bool → List Bool → List Bool → ℕ → Bool
settled_f s starts discards initialises C = still_f s C && idle_f starts discards initialises C

-- the row requested of the item d is false
abbrev pub told_f : List ℕ → ℕ → Bool
told_f s d = eqb (get_or s (648 + d) 0) 2 && eqb (get_or s (712 + d) 0) 0

abbrev pub answered_f : List ℕ → List ℕ → ℕ → Bool
answered_f s f k = not (mandatory_f f k) || told_f s (item_at f k)

abbrev pub sources_f : List ℕ → List ℕ → ℕ → Bool
sources_f s f T = all_f (λ i. answered_f s f (first_at f T + i)) (count_at_fn f T)

abbrev pub confirmed_case : List ℕ → List ℕ → ℕ → Bool
confirmed_case s f T = not (confirmatory_f f T) || row_is_fn s 136 T 2 1

abbrev pub complete_f : List ℕ → List ℕ → List Bool → ℕ → Bool
complete_f s f pending T = row_is_fn s 8 T 5 2 && (sources_f s f T && (confirmed_case s f T && (not (class_f f T 1) || not (marked pending T))))

-- ---- the loop

-- what holds of each number below n is the test of all of them
pub all_tested : (g : ℕ → Bool) (r : Bool) (n : ℕ) → Tests r ((k : ℕ) → k < n → g k ≡ true) → r ≡ all_f g n
all_tested g r n h = same_from_decides r (all_f g n) h (is_all g (λ k. g k ≡ true) n (λ k l. (λ z. z, λ z. z)))

pub all_on : (g : ℕ → Bool) (i : ℕ) {v : Bool} → v ≡ g i → v ≡ true → true ≡ all_f g i → true ≡ all_f g (i + 1)
all_on g i e f h = ap₂ ◌&&◌ h (sym f ∙ e) ∙ sym (all_more g i)

pub all_off : (g : ℕ → Bool) (i n : ℕ) {v : Bool} → i < n → v ≡ g i → v ≡ false → false ≡ all_f g n
all_off g i n {v} l e f = go (all_f g n) (is_all g (λ j. g j ≡ true) n (λ j k. (λ z. z, λ z. z)))
  where
    go : (b : Bool) → Tests b ((j : ℕ) → j < n → g j ≡ true) → false ≡ b
    go false h = refl
    go true h = contra (sym f ∙ e ∙ h.0 refl i l)

pub all_end : (g : ℕ → Bool) (i n : ℕ) → i ≡ n → true ≡ all_f g i → true ≡ all_f g n
all_end g i n e h = h ∙ (let z : all_f g i ≡ all_f g n = cc in z)

pub not_true : (v : Bool) → not v ≡ true → v ≡ false
not_true true e = contra e
not_true false e = refl

pub not_false : (v : Bool) → not v ≡ false → v ≡ true
not_false true e = refl
not_false false e = contra (sym e)

pub sources_are : (s f : List ℕ) (T x y : ℕ) {v : Bool} → x ≡ first_at f T → y ≡ count_at_fn f T → v ≡ all_f (λ i. answered_f s f (x + i)) y → v ≡ sources_f s f T
sources_are s f T x y e g h = h ∙ ap₂ (λ (a b : ℕ). all_f (λ i. answered_f s f (a + i)) b) e g
