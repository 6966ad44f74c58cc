-- Law: what an operator calls counts too. In a typed expression comp finds exactly one clause for each pair that an operator asks for, and so does ResolveTaskReference for each task. By the types of the two values, which comp goes by.
use Rattle.std.specs.Prelude.{◌≡◌, List, [], ◌∷◌, ℕ}
use Rattle.std.proofs.Common.{subst}
use Rattle.paper_expressions.specs.Values.{Scalar, Value, one, sequence}
use Rattle.paper_expressions.specs.Types.{Ty, Text, Real, SetofText, SetofReal, promotion_1, Of, of_scalar, of_list, element_text, element_integer, element_real, each_more}
use Rattle.paper_expressions.specs.View.{View, ResolveTask, Apart, Sound}
use Rattle.paper_expressions.specs.Operators.{◌⇒◌, Comp, element, Comparison, Extreme, Op, compare, includes, oneof, extreme, allowed}
use Rattle.paper_expressions.specs.Expressions.{Exprs, Apply, Among, here, there, Applied, rule_10a, rule_10b, HasType, rule_10, HaveTypes}
use Rattle.paper_expressions.specs.Evaluation.{Values}
use Rattle.paper_expressions.specs.Called.{Asks, asks_compare, asks_includes, asks_oneof, asks_extreme, asks_heads, asks_tails, AsksTask, asks_task}
use Rattle.paper_expressions.proofs.Laws.Search.{ExactlyOne}
use Rattle.paper_expressions.proofs.Laws.Resolve.{task_one}
use Rattle.paper_expressions.proofs.Laws.Compare.{Compared, comp_only}
use Rattle.paper_expressions.proofs.Laws.Finds.{Fit, none_fit, one_fits, fit_reaches, promote, comp_reals, comp_words, comp_real_sets, comp_text_sets, element-of}
use Rattle.paper_expressions.proofs.Laws.Promise.{reached, come, evals_only}

-- two values that comp can compare: numbers, texts, lists of numbers, lists of texts, or unknown
data Comparing (u v : Value) : Type 0 where
  numbers : Of u Real → Of v Real → Comparing u v
  texts : Of u Text → Of v Text → Comparing u v
  number_lists : Of u SetofReal → Of v SetofReal → Comparing u v
  text_lists : Of u SetofText → Of v SetofText → Comparing u v

comparing_one : {u v : Value} → Comparing u v → ExactlyOne (Comp u v)
comparing_one {u} {v} h = from_compared (compared h)
  where
    compared : Comparing u v → Compared u v
    compared (numbers a b) = comp_reals a b
    compared (texts a b) = comp_words a b
    compared (number_lists a b) = comp_real_sets a b
    compared (text_lists a b) = comp_text_sets a b

    from_compared : Compared u v → ExactlyOne (Comp u v)
    from_compared c = record {
      clause = c.clause;
      value = c.sign;
      fits = c.fits;
      only = λ k. let e = comp_only c.fits in let f = comp_only k in record { clause = cc; value = cc };
    }

-- ---- heads and tails

no_real : {l : List Scalar} → ¬ Of (sequence l) Real
no_real (of_list e h) = elim e [ ]

no_text : {l : List Scalar} → ¬ Of (sequence l) Text
no_text (of_list e h) = elim e [ ]

heads : {a b : Scalar} {l m : List Scalar} → Comparing (sequence (a ∷ l)) (sequence (b ∷ m)) → Comparing (one a) (one b)
heads (numbers h k) = absurd (no_real h)
heads (texts h k) = absurd (no_text h)
heads (number_lists (of_list element_real (each_more h hs)) (of_list element_real (each_more k ks))) = numbers (of_scalar h) (of_scalar k)
heads (text_lists (of_list element_text (each_more h hs)) (of_list element_text (each_more k ks))) = texts (of_scalar h) (of_scalar k)

tails : {a b : Scalar} {l m : List Scalar} → Comparing (sequence (a ∷ l)) (sequence (b ∷ m)) → Comparing (sequence l) (sequence m)
tails (numbers h k) = absurd (no_real h)
tails (texts h k) = absurd (no_text h)
tails (number_lists (of_list element_real (each_more h hs)) (of_list element_real (each_more k ks))) = number_lists (of_list element_real hs) (of_list element_real ks)
tails (text_lists (of_list element_text (each_more h hs)) (of_list element_text (each_more k ks))) = text_lists (of_list element_text hs) (of_list element_text ks)

-- ---- by the operator's types

compare_asks : (c : Comparison) {us : List Ty} {t : Ty} {u v : Value} → Among (us ⇒ t) (allowed (compare c)) → Fit (u ∷ v ∷ []) us → Comparing u v
compare_asks c here (one_fits h (one_fits k none_fit)) = numbers h k
compare_asks c (there here) (one_fits h (one_fits k none_fit)) = texts h k
compare_asks c (there (there here)) (one_fits h (one_fits k none_fit)) = number_lists h k
compare_asks c (there (there (there here))) (one_fits h (one_fits k none_fit)) = text_lists h k
compare_asks c {us = us} {t = t} {u = u} {v = v} (there (there (there (there x36)))) _ = elim x36 [ ]

includes_asks : {us : List Ty} {t : Ty} {l : List Scalar} {v : Value} (j : ℕ) → Among (us ⇒ t) (allowed includes) → Fit (sequence l ∷ v ∷ []) us → Comparing (element l j) v
includes_asks j here (one_fits (of_list element_text h) (one_fits k none_fit)) = texts (element-of j h) k
includes_asks j (there here) (one_fits (of_list element_real h) (one_fits k none_fit)) = numbers (element-of j h) k
includes_asks {us = us} {t = t} {l = l} {v = v} j (there (there x18)) _ = elim x18 [ ]

oneof_asks : {us : List Ty} {t : Ty} {l : List Scalar} {v : Value} (j : ℕ) → Among (us ⇒ t) (allowed oneof) → Fit (v ∷ sequence l ∷ []) us → Comparing (element l j) v
oneof_asks j here (one_fits k (one_fits (of_list element_text h) none_fit)) = texts (element-of j h) k
oneof_asks j (there here) (one_fits k (one_fits (of_list element_real h) none_fit)) = numbers (element-of j h) k
oneof_asks {us = us} {t = t} {l = l} {v = v} j (there (there x18)) _ = elim x18 [ ]

extreme_asks : (e : Extreme) {us : List Ty} {t : Ty} {l : List Scalar} (i j : ℕ) → Among (us ⇒ t) (allowed (extreme e)) → Fit (sequence l ∷ []) us → Comparing (element l i) (element l j)
extreme_asks e i j here (one_fits (of_list element_integer h) none_fit) = numbers (promote promotion_1 (element-of i h)) (promote promotion_1 (element-of j h))
extreme_asks e i j (there here) (one_fits (of_list element_real h) none_fit) = numbers (element-of i h) (element-of j h)
extreme_asks e i j (there (there here)) (one_fits (of_list element_text h) none_fit) = texts (element-of i h) (element-of j h)
extreme_asks e {us = us} {t = t} {l = l} i j (there (there (there x27))) _ = elim x27 [ ]

asked : {o : Op} {us : List Ty} {t : Ty} {ws : List Value} {u v : Value} → Among (us ⇒ t) (allowed o) → Fit ws us → Asks o ws u v → Comparing u v
asked {us} {t} a f (asks_compare {c} e) = compare_asks c (subst (λ (p : Op). Among (us ⇒ t) (allowed p)) e a) f
asked {us} {t} a f (asks_includes {j} e b) = includes_asks j (subst (λ (p : Op). Among (us ⇒ t) (allowed p)) e a) f
asked {us} {t} a f (asks_oneof {j} e b) = oneof_asks j (subst (λ (p : Op). Among (us ⇒ t) (allowed p)) e a) f
asked {us} {t} a f (asks_extreme {e = x} {i} {j} e b c) = extreme_asks x i j (subst (λ (p : Op). Among (us ⇒ t) (allowed p)) e a) f
asked a f (asks_heads h) = heads (asked a f h)
asked a f (asks_tails h) = tails (asked a f h)

module _ (τ : View) (T : ℕ) where
  -- the types by which the operator is applied, and values of them
  pub operands_fit : {o : Op} {ts : List Ty} {t : Ty} {ws : List Value} → Applied o ts t → Fit ws ts → (us : List Ty) × Among (us ⇒ t) (allowed o) × Fit ws us
  operands_fit {ts} (rule_10a u) f = (ts, u.allows, f)
  operands_fit (rule_10b n k) f = let r = reached k in (r.args, r.allows, fit_reaches r.reaches f)

  pub values_fit : Sound τ → {es : Exprs} {ts : List Ty} {ws : List Value} → HaveTypes τ T es ts → Values τ T es ws → Fit ws ts
  values_fit sound {ts} {ws} hs vs =
      let k = come τ T sound hs in
      let e = evals_only τ T sound.apart k.fits in
      let f = evals_only τ T sound.apart vs in
      subst (λ (x : List Value). Fit x ts) (let q : k.values ≡ ws = cc in q) k.typed

  pub comp_called_once : Sound τ → {o : Op} {es : Exprs} {t : Ty} {ws : List Value} {u v : Value} → HasType τ T (Apply o es) t → Values τ T es ws → Asks o ws u v → ExactlyOne (Comp u v)
  comp_called_once sound (rule_10 hs a) vs q = let k = operands_fit a (values_fit sound hs vs) in comparing_one (asked k.1 k.2 q)

  pub task_called_once : Apart τ → {o : Op} {ws : List Value} {a : List ℕ} → AsksTask o ws a → ExactlyOne (ResolveTask τ T a)
  task_called_once apart (asks_task {a}) = task_one τ T a apart
