-- At most one answer of load fits a text: the first broken stage and its smallest place are one each.
use Rattle.std.specs.Prelude.{ℕ, ◌≤◌, ◌<◌, ◌≡◌, refl, ◌⊎◌, true, false, ltb, List, [], ◌∷◌, get_or}
use Rattle.std.proofs.Common.{arith, sym, ap, subst, ◌∙◌, inl, inr, ⊎_elim, ltb-true, ltb-false}
use Rattle.paper_expressions.proofs.Laws.Tests.{two}
use Rattle.paper_guideline.specs.Refusals
use Refusals.{Stage, text_stage, lexical_stage, count_stage, grammar_stage, left_out_stage, limit_stage, name_stage, type_stage, turn, number, Breach, Refused, Answer, loads, refused, Answers, is_loaded, is_refused}

abbrev pub by_turn : ℕ → Stage
by_turn i = get_or (text_stage ∷ lexical_stage ∷ count_stage ∷ grammar_stage ∷ left_out_stage ∷ limit_stage ∷ name_stage ∷ type_stage ∷ []) i text_stage

pub by_its_turn : (s : Stage) → by_turn (turn s) ≡ s
by_its_turn text_stage = refl
by_its_turn lexical_stage = refl
by_its_turn count_stage = refl
by_its_turn grammar_stage = refl
by_its_turn left_out_stage = refl
by_its_turn limit_stage = refl
by_its_turn name_stage = refl
by_its_turn type_stage = refl

pub le_or_gt : (n m : ℕ) → (n ≤ m) ⊎ (m < n)
le_or_gt n m = ⊎_elim (λ (e : ltb m n ≡ true). inr (ltb-true m n e)) (λ (e : ltb m n ≡ false). inl (ltb-false m n e)) (two (ltb m n))

module _ {Short : Type 0} {text : List ℕ} where
  not_earlier : {n p m q : ℕ} (h : Refused Short text n p) (k : Refused Short text m q) → turn h.stage ≤ turn k.stage
  not_earlier h k = ⊎_elim (λ l. l) (λ l. absurd (h.first l k.broken)) (le_or_gt (turn h.stage) (turn k.stage))

  one_stage : {n p m q : ℕ} (h : Refused Short text n p) (k : Refused Short text m q) → h.stage ≡ k.stage
  one_stage h k =
      let a = not_earlier h k in
      let b = not_earlier k h in
      let e : turn h.stage ≡ turn k.stage = omega arith in
      sym (by_its_turn h.stage) ∙ ap by_turn e ∙ by_its_turn k.stage

  one_number : {n p m q : ℕ} → Refused Short text n p → Refused Short text m q → n ≡ m
  one_number h k = sym h.numbered ∙ ap number (one_stage h k) ∙ k.numbered

  one_place : {n p m q : ℕ} → Refused Short text n p → Refused Short text m q → p ≡ q
  one_place {p} {q} h k =
      let a = h.smallest (subst (λ (s : Stage). Breach Short text s q) (sym (one_stage h k)) k.broken) in
      let b = k.smallest (subst (λ (s : Stage). Breach Short text s p) (one_stage h k) h.broken) in
      omega arith

  pub one_answer : {a b : Answer} → Answers Short text a → Answers Short text b → a ≡ b
  one_answer (is_loaded m h) (is_loaded n k) = refl
  one_answer (is_loaded m h) (is_refused k) = absurd (h k.stage _ k.broken)
  one_answer (is_refused h) (is_loaded n k) = absurd (k h.stage _ h.broken)
  one_answer (is_refused h) (is_refused k) = let e = one_number h k in let f = one_place h k in cc
