-- A line, once its values are added: runs until the guideline is quiet and nothing of the line makes it go on. docs/DECISIONS.md, "Last season's sheets":
-- "When values are added" and "--confirm". x are the parts, b the text bytes, f the plan, w who waits for whom, s the state. Definitions only.
use Rattle.std.specs.Prelude.{◌≡◌, Bool, true, false, not, ◌&&◌, ◌||◌, List, ℕ, ◌+◌, ◌<◌, eqb, get_or}
use Rattle.replying.specs.declared.Reply.{Reply}
use Rattle.runs.specs.declared.Ran.{Ran}
use Rattle.runs.specs.declared.Ran.TheVariants.{Quiet, Bounded, Exception, Refused}
use Rattle.runs.specs.Run.{RunsAlone}
use Rattle.confirming.specs.Confirm.{Confirms}
use Rattle.state.specs.Layout.{row_is_fn}
use Rattle.season.specs.Series.{AllAnswered}

-- ---- one run: how it ended (1 quiet, 2 bounded, 3 exception), and its cycles. One that is refused is told as an exception, and enacts none

abbrev pub ending_of : Ran → ℕ
ending_of (Quiet k) = 1
ending_of (Bounded k) = 2
ending_of (Exception k) = 3
ending_of (Refused n) = 3

abbrev pub cycles_of : Ran → ℕ
cycles_of (Quiet k) = k
cycles_of (Bounded k) = k
cycles_of (Exception k) = k
cycles_of (Refused n) = 0

abbrev pub RunsOnce : List ℕ → List ℕ → List (List Bool) → List ℕ → List ℕ → List ℕ → List ℕ → ℕ → ℕ → Type 0
RunsOnce x f w b s b' s' e k = (r : Ran) × RunsAlone 256 1024 x b f w s b' s' r × (e ≡ ending_of r) × (k ≡ cycles_of r)

-- ---- the actions that wait to be confirmed: class 2 in the plan, in progress, and not confirmed

abbrev pub is_waiting : List ℕ → List ℕ → ℕ → Bool
is_waiting f s t = eqb (get_or f (168 + t) 0) 2 && (not (row_is_fn s 136 t 2 1) && row_is_fn s 8 t 5 2)

-- the task t, if it is one: by a call of confirm, whatever it replies
pub data Confirmed (f : List ℕ) (t : ℕ) (s : List ℕ) : List ℕ → Bool → Type 0 where
  not_waiting : is_waiting f s t ≡ false → Confirmed f t s s false
  by_call : {s' : List ℕ} (r : Reply) → is_waiting f s t ≡ true → Confirms t f s s' r → Confirmed f t s s' true

-- the first n tasks, one after the other: whether one was
pub data AllConfirmed (f s : List ℕ) : ℕ → List ℕ → Bool → Type 0 where
  none_yet : AllConfirmed f s 0 s false
  one_more : {t : ℕ} {s' s'' : List ℕ} {p q : Bool} → AllConfirmed f s t s' p → Confirmed f t s' s'' q → AllConfirmed f s (t + 1) s'' (p || q)

-- ---- what a line has for its runs

pub record Line : Type 0 where
  pub columns : List ℕ
  pub many : ℕ
  pub kept : List ℕ
  pub ends : List ℕ
  pub confirms : Bool

abbrev pub line : List ℕ → ℕ → List ℕ → List ℕ → Bool → Line
line columns many kept ends confirms = record { columns = columns; many = many; kept = kept; ends = ends; confirms = confirms }

-- behind a run that ended as e: whether it goes on. Only a quiet one does, if a field answered an enquiry, or an action was confirmed where that is wanted
pub data GoesOn (f : List ℕ) (l : Line) (e : ℕ) (b s : List ℕ) : List ℕ → List ℕ → Bool → Type 0 where
  not_quiet : (e ≡ 1 → ⊥) → GoesOn f l e b s b s false
  answered : {b' s' : List ℕ} {p : Bool} → e ≡ 1 → l.confirms ≡ false → AllAnswered l.columns l.kept l.ends f b s l.many b' s' p → GoesOn f l e b s b' s' p
  and_confirmed : {b' s' s'' : List ℕ} {p q : Bool} → e ≡ 1 → l.confirms ≡ true → AllAnswered l.columns l.kept l.ends f b s l.many b' s' p → AllConfirmed f s' 32 s'' q
      → GoesOn f l e b s b' s'' (p || q)

-- n runs behind each of which it went on, with k cycles in all
pub data WentOn (x f : List ℕ) (w : List (List Bool)) (l : Line) (b s : List ℕ) : ℕ → List ℕ → List ℕ → ℕ → Type 0 where
  no_run : WentOn x f w l b s 0 b s 0
  a_run : {n k e j : ℕ} {b₁ s₁ b₂ s₂ b₃ s₃ : List ℕ} → WentOn x f w l b s n b₁ s₁ k → RunsOnce x f w b₁ s₁ b₂ s₂ e j → GoesOn f l e b₂ s₂ b₃ s₃ true → WentOn x f w l b s (n + 1) b₃ s₃ (k + j)

-- the whole series: the ending of its last run, and the cycles of all. Behind 256 runs it is told as bounded
pub data Series (x f : List ℕ) (w : List (List Bool)) (l : Line) (b s : List ℕ) : List ℕ → List ℕ → ℕ → ℕ → Type 0 where
  stops : {n k e j : ℕ} {b₁ s₁ b₂ s₂ b₃ s₃ : List ℕ} → n < 256 → WentOn x f w l b s n b₁ s₁ k → RunsOnce x f w b₁ s₁ b₂ s₂ e j → GoesOn f l e b₂ s₂ b₃ s₃ false → Series x f w l b s b₃ s₃ e (k + j)
  worn_out : {k : ℕ} {b' s' : List ℕ} → WentOn x f w l b s 256 b' s' k → Series x f w l b s b' s' 2 k
