-- The cells that tell whether a call is refused with 7, and the ways in which a call meets its contract. By the states that tables hold.
use Rattle.std.specs.Prelude.{ℕ, ◌≡◌, refl, Bool, true, false, ◌&&◌, List, eqb, get_or}
use Rattle.std.proofs.Common.{arith, sym, ap, ◌∙◌, eq-eqb, eqb-true}
use Rattle.paper_expressions.proofs.Laws.Tests.{and_l, and_r}
use Rattle.paper_expressions.proofs.Laws.Search.{no_clash}
use Rattle.paper_calls.specs.Calls as Calls
use Calls.{Guideline, State, loaded, Call, Unready, nothing_loaded, flag_set, Calls, refuses, done}
use Rattle.state.specs.Cell.{bit}
use Rattle.paper_guideline.specs.Structure.{TopLevel}
use Rattle.paper_rows.specs.Table.{Table}
use Rattle.holding.specs.Holding.{Holds}
use Rattle.holding.specs.Elsewhere.{unmoved}
use Rattle.replying.specs.Replying.{Holding, holds_none, holds_loaded, Elsewhere, Called, Replies}

-- a guideline is loaded, and the Exception flag is not set
abbrev pub ready_f : List ℕ → Bool
ready_f s = eqb (get_or s 0 0) 1 && eqb (get_or s 1 0) 0

-- a guideline is loaded
abbrev pub loaded_f : List ℕ → Bool
loaded_f s = eqb (get_or s 0 0) 1

set_or_not : (b : Bool) → eqb (bit b) 0 ≡ false → b ≡ true
set_or_not true e = refl
set_or_not false e = absurd (no_clash (cc))

pub unready : {x b f : List ℕ} {w : List (List Bool)} {s : List ℕ} {st : State} → ready_f s ≡ false → Holding x b f w s st → Unready st
unready e (holds_none h) = nothing_loaded
unready {s} e (holds_loaded {g} h) = flag_set (set_or_not g.flag (ap (λ (z : ℕ). eqb z 0) (sym h.flagged) ∙ sym (ap (λ (z : Bool). z && eqb (get_or s 1 0) 0) (eq-eqb (get_or s 0 0) 1 h.loaded)) ∙ e))

pub is_ready : {g : List TopLevel} {x b f : List ℕ} {w : List (List Bool)} {s : List ℕ} {t : Table} {flag : Bool} {time : ℕ} → ready_f s ≡ true → Holds g x b f w s t flag time → flag ≡ false
is_ready {s} {flag} e h = go flag (sym h.flagged ∙ eqb-true (get_or s 1 0) 0 (and_r (eqb (get_or s 0 0) 1) (eqb (get_or s 1 0) 0) e))
  where
    go : (c : Bool) → bit c ≡ 0 → c ≡ false
    go true e = absurd (let z : ⊥ = omega arith in z)
    go false e = refl

pub not_unready : {g : Guideline} → g.flag ≡ false → ¬ Unready (loaded g)
not_unready e (flag_set f) = no_clash (cc)

pub not_empty : (s : List ℕ) {A : Type 0} → loaded_f s ≡ true → get_or s 0 0 ≡ 0 → A
not_empty s e h = absurd (let a = eqb-true (get_or s 0 0) 1 e in let z : ⊥ = omega arith in z)

pub ready_loaded : (s : List ℕ) → ready_f s ≡ true → loaded_f s ≡ true
ready_loaded s e = and_l (eqb (get_or s 0 0) 1) (eqb (get_or s 1 0) 0) e

-- what the code finds out
pub ready_told : (s : List ℕ) {a : ℕ} {r : Bool} → r ≡ loaded_f s → r ≡ true → a ≡ get_or s 1 0 → eqb a 0 ≡ ready_f s
ready_told s e f g = ap (λ (z : ℕ). eqb z 0) g ∙ ap (λ (z : Bool). z && eqb (get_or s 1 0) 0) (sym f ∙ e)

pub ready_missed : (s : List ℕ) {r : Bool} → r ≡ loaded_f s → r ≡ false → false ≡ ready_f s
ready_missed s e f = ap (λ (z : Bool). z && eqb (get_or s 1 0) 0) (sym f ∙ e)

-- ---- the ways

pub nothing_moves : {b s : List ℕ} → Elsewhere b s b s
nothing_moves {b} {s} = unmoved b s

module _ {c : Call} {x b f : List ℕ} {w : List (List Bool)} {s : List ℕ} where
  -- 7
  pub replies_7 : ready_f s ≡ false → ((st : State) → Unready st → Calls c st (refuses 7 0 0) st) → Replies c x b f w s b s (refuses 7 0 0)
  replies_7 e k =
      record {
        called = λ st h. record { after = st; calls = k st (unready e h); holds = h };
        elsewhere = nothing_moves;
        refused = λ r. (refl, refl);
      }

  -- 8, 9, 6
  pub replies_refused : (n : ℕ) → ready_f s ≡ true
      → ((g : Guideline) → Holds g.structure x b f w s g.table g.flag g.time → ¬ Unready (loaded g) → Calls c (loaded g) (refuses n 0 0) (loaded g)) → Replies c x b f w s b s (refuses n 0 0)
  replies_refused n e k = record { called = λ st h. called h; elsewhere = nothing_moves; refused = λ r. (refl, refl) }
    where
      called : {st : State} → Holding x b f w s st → Called c x b f w s (refuses n 0 0) st
      called (holds_none h) = not_empty s (ready_loaded s e) h
      called (holds_loaded {g} h) = record { after = loaded g; calls = k g h (not_unready (is_ready e h)); holds = holds_loaded h }

  pub replies_done : {b' s' : List ℕ} → ready_f s ≡ true → Elsewhere b s b' s'
      → ((g : Guideline) → Holds g.structure x b f w s g.table g.flag g.time → ¬ Unready (loaded g) → Called c x b' f w s' done (loaded g)) → Replies c x b f w s b' s' done
  replies_done {b'} {s'} e m k = record { called = λ st h. called h; elsewhere = m; refused = λ r. absurd (no_clash (cc)) }
    where
      called : {st : State} → Holding x b f w s st → Called c x b' f w s' done st
      called (holds_none h) = not_empty s (ready_loaded s e) h
      called (holds_loaded {g} h) = k g h (not_unready (is_ready e h))
