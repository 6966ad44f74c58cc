-- 8.5.1: the rows that the review of a task adds, values by the numbers of their assignments. By the clause that fits.
use Rattle.std.specs.Prelude.{ℕ, ◌≡◌, Bool, true, false, List}
use Rattle.std.proofs.Common.{sym, ◌∙◌}
use Rattle.paper_expressions.proofs.Laws.Tests.{contra}
use Rattle.paper_rows.specs.Table.{Component, Property, RowValue, Table}
use Rattle.paper_engine.specs.Conditions.{StartConditions, InitialiseConditions, DiscardConditions, CompleteConditions}
use Rattle.paper_engine.specs.Operations.{§8·5·1-1, §8·5·1-2, §8·5·1-3, §8·5·1-4, Review, review_1, review_2, review_3, review_4, Initialise, Start, Discard}
use Rattle.waits.specs.Booleans.{Tests}
use Rattle.changes.specs.Row.{Appends, appends_none, appends_as}
use Rattle.starting.specs.StartRows.{Startable, StartRows}
use Rattle.operations.specs.Rows.{InitialiseRows, DiscardRows, CompleteS, CompleteRows, Targets, assign_at, assigns_at}

pub data AskedS (f : List ℕ) (t : Table) (now T : ℕ) (c : Component) (p : Property) (r : RowValue) : Type 0 where
  asked_1 : Review t now T §8·5·1-1 → Initialise t now T c p r → AskedS f t now T c p r
  asked_2 : Review t now T §8·5·1-2 → Start t now T c p r → AskedS f t now T c p r
  asked_3 : Review t now T §8·5·1-3 → Discard t now T c p r → AskedS f t now T c p r
  asked_4 : Review t now T §8·5·1-4 → CompleteS f now T c p r → AskedS f t now T c p r

-- what the tables have to show of the task T, whose four conditions i, s, d and e say
pub record Reviewed (s f : List ℕ) (t : Table) (now T : ℕ) (i b d e : Bool) : Type 0 where
  pub initialises : Tests i (InitialiseConditions t now T)
  pub starts : Tests b (StartConditions t now T)
  pub discards : Tests d (DiscardConditions t T)
  pub completes : Tests e (CompleteConditions t now T)
  pub startable : Startable s f T t
  pub targets : Targets f (assign_at f T) (assigns_at f T)

abbrev pub ReviewRows : List ℕ → List ℕ → ℕ → ℕ → Bool → Bool → Bool → Bool → List ℕ → ℕ → List ℕ → ℕ → Type 0
ReviewRows s f now T i b d e o n q m = (t : Table) → Reviewed s f t now T i b d e → Appends o n q m (AskedS f t now T)

untrue : {b : Bool} {P : Type 0} → b ≡ false → Tests b P → ¬ P
untrue e h p = contra (sym e ∙ h.1 p)

module _ (s f : List ℕ) (now T : ℕ) (i b d e : Bool) (o : List ℕ) (n : ℕ) (q : List ℕ) (m : ℕ) where
  pub rows_1 : i ≡ true → InitialiseRows f T o n q m → ReviewRows s f now T i b d e o n q m
  rows_1 x h t z = appends_as (λ c p r. (asked_1 (review_1 yes), back c p r)) (h t now z.startable.action)
    where
      yes : InitialiseConditions t now T
      yes = z.initialises.0 x

      back : (c : Component) (p : Property) (r : RowValue) → AskedS f t now T c p r → Initialise t now T c p r
      back c p r (asked_1 a k) = k
      back c p r (asked_2 (review_2 a g) k) = absurd (a yes)
      back c p r (asked_3 (review_3 a g w) k) = absurd (a yes)
      back c p r (asked_4 (review_4 a g w y) k) = absurd (a yes)

  pub rows_2 : i ≡ false → b ≡ true → StartRows s f now T o n q m → ReviewRows s f now T i b d e o n q m
  rows_2 x y h t z = appends_as (λ c p r. (asked_2 (review_2 no yes), back c p r)) (h t z.startable)
    where
      no : ¬ InitialiseConditions t now T
      no = untrue x z.initialises

      yes : StartConditions t now T
      yes = z.starts.0 y

      back : (c : Component) (p : Property) (r : RowValue) → AskedS f t now T c p r → Start t now T c p r
      back c p r (asked_1 (review_1 a) k) = absurd (no a)
      back c p r (asked_2 a k) = k
      back c p r (asked_3 (review_3 a g w) k) = absurd (g yes)
      back c p r (asked_4 (review_4 a g w v) k) = absurd (g yes)

  pub rows_3 : i ≡ false → b ≡ false → d ≡ true → DiscardRows now T o n q m → ReviewRows s f now T i b d e o n q m
  rows_3 x y u h t z = appends_as (λ c p r. (asked_3 (review_3 no neither yes), back c p r)) (h t)
    where
      no : ¬ InitialiseConditions t now T
      no = untrue x z.initialises

      neither : ¬ StartConditions t now T
      neither = untrue y z.starts

      yes : DiscardConditions t T
      yes = z.discards.0 u

      back : (c : Component) (p : Property) (r : RowValue) → AskedS f t now T c p r → Discard t now T c p r
      back c p r (asked_1 (review_1 a) k) = absurd (no a)
      back c p r (asked_2 (review_2 a g) k) = absurd (neither g)
      back c p r (asked_3 a k) = k
      back c p r (asked_4 (review_4 a g w v) k) = absurd (w yes)

  pub rows_4 : i ≡ false → b ≡ false → d ≡ false → e ≡ true → CompleteRows f now T o n q m → ReviewRows s f now T i b d e o n q m
  rows_4 x y u v h t z = appends_as (λ c p r. (asked_4 (review_4 no neither nor yes), back c p r)) (h z.targets)
    where
      no : ¬ InitialiseConditions t now T
      no = untrue x z.initialises

      neither : ¬ StartConditions t now T
      neither = untrue y z.starts

      nor : ¬ DiscardConditions t T
      nor = untrue u z.discards

      yes : CompleteConditions t now T
      yes = z.completes.0 v

      back : (c : Component) (p : Property) (r : RowValue) → AskedS f t now T c p r → CompleteS f now T c p r
      back c p r (asked_1 (review_1 a) k) = absurd (no a)
      back c p r (asked_2 (review_2 a g) k) = absurd (neither g)
      back c p r (asked_3 (review_3 a g w) k) = absurd (nor w)
      back c p r (asked_4 a k) = k

pub rows_5 : (s f : List ℕ) (now T : ℕ) (i b d e : Bool) (o : List ℕ) (n : ℕ) → i ≡ false → b ≡ false → d ≡ false → e ≡ false → ReviewRows s f now T i b d e o n o n
rows_5 s f now T i b d e o n x y u v t z = appends_as (λ c p r. (λ a. elim a [ ], λ a. absurd (back c p r a))) (appends_none o n)
  where
    back : (c : Component) (p : Property) (r : RowValue) → ¬ AskedS f t now T c p r
    back c p r (asked_1 (review_1 a) k) = untrue x z.initialises a
    back c p r (asked_2 (review_2 a g) k) = untrue y z.starts g
    back c p r (asked_3 (review_3 a g w) k) = untrue u z.discards w
    back c p r (asked_4 (review_4 a g w h) k) = untrue v z.completes h
