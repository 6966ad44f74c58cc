-- The cases of the code of a series, by what it found out.
use Rattle.std.specs.Prelude.{◌≡◌, Bool, true, false, not, ◌&&◌, ◌||◌, List, ℕ, ◌+◌, ◌<◌, eqb, get_or}
use Rattle.std.proofs.Common.{sym, ap, subst, ◌∙◌, eq-eqb, ne_eqb}
use Rattle.paper_expressions.proofs.Laws.Search.{no_clash}
use Rattle.state.specs.Layout.{row_is_fn}
use Rattle.runs.specs.declared.Ran.{Ran}
use Rattle.runs.specs.Run.{RunsAlone}
use Rattle.season.specs.Series.{AllAnswered}
use Rattle.season.specs.UntilQuiet.{ending_of, cycles_of, RunsOnce, is_waiting, Confirmed, AllConfirmed, one_more, Line, GoesOn, and_confirmed, WentOn, a_run, Series, stops, worn_out}

-- ---- an action that waits to be confirmed

module _ (f s : List ℕ) (t : ℕ) {x : ℕ} (e : x ≡ get_or f (168 + t) 0) where
  by_class : (a b : Bool) → eqb (get_or f (168 + t) 0) 2 ≡ a → (a && b) ≡ (eqb (get_or f (168 + t) 0) 2 && b)
  by_class a b i = ap (λ (z : Bool). z && b) (sym i)

  pub no_action : (x ≡ 2 → ⊥) → false ≡ is_waiting f s t
  no_action n = by_class false (not (row_is_fn s 136 t 2 1) && row_is_fn s 8 t 5 2) (ne_eqb (get_or f (168 + t) 0) 2 (λ z. n (e ∙ z)))

  module _ (i : x ≡ 2) {c : Bool} (k : c ≡ row_is_fn s 136 t 2 1) where
    rest : (d : Bool) → c ≡ d → (not d && row_is_fn s 8 t 5 2) ≡ is_waiting f s t
    rest d h =
        ap (λ (z : Bool). not z && row_is_fn s 8 t 5 2) (sym h ∙ k)
        ∙ by_class true (not (row_is_fn s 136 t 2 1) && row_is_fn s 8 t 5 2) (eq-eqb (get_or f (168 + t) 0) 2 (sym e ∙ i))

    pub confirmed_already : c ≡ true → false ≡ is_waiting f s t
    confirmed_already h = rest true h

    pub by_state : {r : Bool} → c ≡ false → r ≡ row_is_fn s 8 t 5 2 → r ≡ is_waiting f s t
    by_state h g = g ∙ rest false h

pub more_confirmed : {f s : List ℕ} {t : ℕ} {s' s'' : List ℕ} {p q r : Bool} → AllConfirmed f s t s' p → Confirmed f t s' s'' q → r ≡ (p || q) → AllConfirmed f s (t + 1) s'' r
more_confirmed {f} {s} {t} {s'' = s''} a x e = subst (λ (z : Bool). AllConfirmed f s (t + 1) s'' z) (sym e) (one_more a x)

pub all_tasks : {f s : List ℕ} {t : ℕ} {s' : List ℕ} {p : Bool} → t ≡ 32 → AllConfirmed f s t s' p → AllConfirmed f s 32 s' p
all_tasks {f} {s} {s' = s'} {p = p} e a = subst (λ (n : ℕ). AllConfirmed f s n s' p) e a

-- ---- a run, by its reply

pub ran_as : {x f : List ℕ} {w : List (List Bool)} {b s b' s' : List ℕ} {e k : ℕ} {q r : Ran} → RunsAlone 256 1024 x b f w s b' s' r → r ≡ q → e ≡ ending_of q → k ≡ cycles_of q → RunsOnce x f w b s b' s' e k
ran_as {r} h i m n = (r, h, m ∙ sym (ap ending_of i), n ∙ sym (ap cycles_of i))

-- ---- whether it goes on

module _ {f : List ℕ} {l : Line} {e : ℕ} {b s b' s' : List ℕ} where
  pub confirmed_as : {s'' : List ℕ} {p q r : Bool} → e ≡ 1 → l.confirms ≡ true → AllAnswered l.columns l.kept l.ends f b s l.many b' s' p → AllConfirmed f s' 32 s'' q → r ≡ (p || q) → GoesOn f l e b s b' s'' r
  confirmed_as {s''} i c a d u = subst (λ (z : Bool). GoesOn f l e b s b' s'' z) (sym u) (and_confirmed i c a d)

-- ---- the loop

module _ {x f : List ℕ} {w : List (List Bool)} {l : Line} {b s : List ℕ} {n k e j : ℕ} {b₁ s₁ b₂ s₂ b₃ s₃ : List ℕ} (on : WentOn x f w l b s n b₁ s₁ k) (run : RunsOnce x f w b₁ s₁ b₂ s₂ e j) where
  pub more_runs : {t : Bool} → GoesOn f l e b₂ s₂ b₃ s₃ t → not t ≡ false → WentOn x f w l b s (n + 1) b₃ s₃ (k + j)
  more_runs {t = true} g h = a_run on run g
  more_runs {t = false} g h = absurd (no_clash (cc))

  pub stops_as : {t : Bool} → n < 256 → GoesOn f l e b₂ s₂ b₃ s₃ t → not t ≡ true → Series x f w l b s b₃ s₃ e (k + j)
  stops_as {t = true} m g h = absurd (no_clash (cc))
  stops_as {t = false} m g h = stops m on run g

pub worn_as : {x f : List ℕ} {w : List (List Bool)} {l : Line} {b s : List ℕ} {n k : ℕ} {b' s' : List ℕ} → n ≡ 256 → WentOn x f w l b s n b' s' k → Series x f w l b s b' s' 2 k
worn_as {x} {f} {w} {l} {b} {s} {k = k} {b' = b'} {s' = s'} e a = worn_out (subst (λ (m : ℕ). WentOn x f w l b s m b' s' k) e a)
