-- The type of a list, element by element, as the code makes it; and the law that it is rule 8's and 9's.
-- By what is known of the elements so far.
use Rattle.std.specs.Prelude.{cond, List, [], ◌∷◌, ℕ, eqb}
use Rattle.paper_expressions.specs.Types.{Ty, Text, Integer, Real, SetofText, SetofReal, SetofInteger, SetofAnything, TruthValue}
use Rattle.paper_expressions.specs.Expressions.{Each, all_none, all_more, TextType, text_type, IntegerType, integer_type, IntegerOrReal, integer_or, or_real, Listed, rule_8, rule_9a, rule_9b, rule_9c}
use Rattle.paper_expressions.proofs.Laws.Typing.{no_list}
use Rattle.resolution.specs.Letters.{letter, Outcome, is, none}

-- a list of type l gets a text, an integer, a real in front
abbrev pub texts_of : ℕ → ℕ
texts_of l = cond (eqb l 97) 116 (cond (eqb l 116) 116 0)

abbrev pub integers_of : ℕ → ℕ
integers_of l = cond (eqb l 97) 105 (cond (eqb l 105) 105 (cond (eqb l 114) 114 0))

abbrev pub reals_of : ℕ → ℕ
reals_of l = cond (eqb l 97) 114 (cond (eqb l 105) 114 (cond (eqb l 114) 114 0))

abbrev pub join_of : ℕ → ℕ → ℕ
join_of x l = cond (eqb x 84) (texts_of l) (cond (eqb x 73) (integers_of l) (cond (eqb x 82) (reals_of l) 0))

abbrev pub list_type : List Ty → ℕ
list_type [] = 97
list_type (t ∷ ts) = join_of (letter t) (list_type ts)

-- what a letter says of the elements
data Joined : List Ty → ℕ → Type 0 where
  of_nothing : Joined [] 97
  of_texts : {t : Ty} {ts : List Ty} → Each TextType (t ∷ ts) → Joined (t ∷ ts) 116
  of_integers : {t : Ty} {ts : List Ty} → Each IntegerType (t ∷ ts) → Joined (t ∷ ts) 105
  of_reals : {t : Ty} {ts : List Ty} → ¬ Each IntegerType (t ∷ ts) → Each IntegerOrReal (t ∷ ts) → Joined (t ∷ ts) 114
  of_others : {t : Ty} {ts : List Ty} → ¬ Each TextType (t ∷ ts) → ¬ Each IntegerOrReal (t ∷ ts) → Joined (t ∷ ts) 0

first_of : {P : Ty → Type 0} {t : Ty} {ts : List Ty} → Each P (t ∷ ts) → P t
first_of (all_more h k) = h

rest_of : {P : Ty → Type 0} {t : Ty} {ts : List Ty} → Each P (t ∷ ts) → Each P ts
rest_of (all_more h k) = k

numbers : {ts : List Ty} → Each IntegerType ts → Each IntegerOrReal ts
numbers all_none = all_none
numbers (all_more integer_type k) = all_more integer_or (numbers k)

no_text : {t : Ty} {ts : List Ty} → Each IntegerOrReal (t ∷ ts) → ¬ Each TextType (t ∷ ts)
no_text (all_more integer_or k) (all_more h j) = elim h [ ]
no_text (all_more or_real k) (all_more h j) = elim h [ ]

step : (x : Ty) {ts : List Ty} {r : ℕ} → Joined ts r → Joined (x ∷ ts) (join_of (letter x) r)
step Text of_nothing = of_texts (all_more text_type all_none)
step Text (of_texts h) = of_texts (all_more text_type h)
step Text (of_integers h) = of_others {t = Text} (λ k. no_text (numbers h) (rest_of k)) (λ k. elim (first_of k) [ ])
step Text (of_reals n h) = of_others {t = Text} (λ k. no_text h (rest_of k)) (λ k. elim (first_of k) [ ])
step Text (of_others n m) = of_others {t = Text} (λ k. n (rest_of k)) (λ k. elim (first_of k) [ ])
step Integer of_nothing = of_integers (all_more integer_type all_none)
step Integer (of_texts h) = of_others {t = Integer} (λ k. elim (first_of k) [ ]) (λ k. no_text (rest_of k) h)
step Integer (of_integers h) = of_integers (all_more integer_type h)
step Integer (of_reals n h) = of_reals {t = Integer} (λ k. n (rest_of k)) (all_more integer_or h)
step Integer (of_others n m) = of_others {t = Integer} (λ k. elim (first_of k) [ ]) (λ k. m (rest_of k))
step Real of_nothing = of_reals {t = Real} (λ k. elim (first_of k) [ ]) (all_more or_real all_none)
step Real (of_texts h) = of_others {t = Real} (λ k. elim (first_of k) [ ]) (λ k. no_text (rest_of k) h)
step Real (of_integers h) = of_reals {t = Real} (λ k. elim (first_of k) [ ]) (all_more or_real (numbers h))
step Real (of_reals n h) = of_reals {t = Real} (λ k. elim (first_of k) [ ]) (all_more or_real h)
step Real (of_others n m) = of_others {t = Real} (λ k. elim (first_of k) [ ]) (λ k. m (rest_of k))
step SetofText j = of_others {t = SetofText} (λ k. elim (first_of k) [ ]) (λ k. elim (first_of k) [ ])
step SetofReal j = of_others {t = SetofReal} (λ k. elim (first_of k) [ ]) (λ k. elim (first_of k) [ ])
step SetofInteger j = of_others {t = SetofInteger} (λ k. elim (first_of k) [ ]) (λ k. elim (first_of k) [ ])
step SetofAnything j = of_others {t = SetofAnything} (λ k. elim (first_of k) [ ]) (λ k. elim (first_of k) [ ])
step TruthValue j = of_others {t = TruthValue} (λ k. elim (first_of k) [ ]) (λ k. elim (first_of k) [ ])

joined : (ts : List Ty) → Joined ts (list_type ts)
joined [] = of_nothing
joined (t ∷ ts) = step t (joined ts)

by_rule : {ts : List Ty} {r : ℕ} → Joined ts r → Outcome (Listed ts) r
by_rule of_nothing = is rule_8
by_rule (of_texts h) = is (rule_9a h)
by_rule (of_integers h) = is (rule_9b (no_text (numbers h)) h)
by_rule (of_reals n h) = is (rule_9c (no_text h) n h)
by_rule (of_others n m) = none (no_list n (λ k. m (numbers k)) m)

pub list_typed : (ts : List Ty) → Outcome (Listed ts) (list_type ts)
list_typed ts = by_rule (joined ts)
