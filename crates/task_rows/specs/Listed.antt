-- The properties of tasks that have rows, by their numbers: a row of a task is of one of them. By the clauses of load and the rows that move.
use Rattle.std.specs.Prelude.{ℕ, suc, ◌+◌, ◌≡◌, refl, Bool, true, ◌&&◌, List, [], ◌∷◌, eqb}
use Rattle.std.proofs.Common.{arith, sym, ap, subst, ◌∙◌, eqb-true}
use Rattle.std.proofs.Math.Option.{Option, none, some}
use Rattle.paper_expressions.proofs.Laws.Search.{at_f, at_only}
use Rattle.paper_expressions.specs.View.{At, at_first, at_later}
use Rattle.paper_guideline.specs.Structure.{TopLevel}
use Rattle.paper_rows.specs.Table.{task, ◌№◌, Property, properties, RowValue, Table}
use Rattle.paper_rows.specs.Load as Load
use Load.{Adds}
use Rattle.paper_rows.proofs.Laws.Ranks.{property_rank, property_ranked}
use Rattle.paper_rows.proofs.Laws.Seen.{same_some}
use Rattle.paper_engine.proofs.Laws.Kept as Kept
use Kept.{Moving, Kept}
use Rattle.waits.specs.Booleans.{is_and}

-- ---- a property and its number

pub is_property : (x : Property) {p : ℕ} {q : Property} → p ≡ property_rank x → At properties p q → q ≡ x
is_property x e h = same_some (sym (at_only h) ∙ ap (λ (y : ℕ). at_f properties y) e ∙ property_ranked x)

abbrev rankedb : ℕ → List Property → Bool
rankedb n [] = true
rankedb n (x ∷ l) = eqb (property_rank x) n && rankedb (suc n) l

all_ranked : rankedb 0 properties ≡ true
unfolding properties
all_ranked = refl

ranked_at : (n : ℕ) {l : List Property} {i : ℕ} {q : Property} → rankedb n l ≡ true → At l i q → property_rank q ≡ n + i
ranked_at n {l = x ∷ l} e at_first = eqb-true (property_rank x) n ((is_and {a = eqb (property_rank x) n} {b = rankedb (suc n) l} (λ z. z, λ z. z) (λ z. z, λ z. z)).0 e).0 ∙ (let z : n ≡ n + 0 = omega arith in z)
ranked_at n {l = x ∷ l} {i = suc i} e (at_later h) = ranked_at (suc n) ((is_and {a = eqb (property_rank x) n} {b = rankedb (suc n) l} (λ z. z, λ z. z) (λ z. z, λ z. z)).0 e).1 h ∙ (let z : suc n + i ≡ n + suc i = omega arith in z)
ranked_at n {l = []} {i = y} e x7 = elim x7 [ ]

pub place_of : {p : ℕ} {q : Property} → At properties p q → property_rank q ≡ p
place_of {p} h = ranked_at 0 all_ranked h ∙ (let z : 0 + p ≡ p = omega arith in z)

-- ---- the numbers

pub data Listed : ℕ → Type 0 where
  is_0 : Listed 0
  is_1 : Listed 1
  is_6 : Listed 6
  is_7 : Listed 7
  is_9 : Listed 9
  is_10 : Listed 10
  is_11 : Listed 11
  is_12 : Listed 12
  is_13 : Listed 13
  is_15 : Listed 15
  is_16 : Listed 16
  is_17 : Listed 17
  is_18 : Listed 18
  is_19 : Listed 19
  is_24 : Listed 24
  is_26 : Listed 26
  is_29 : Listed 29
  is_30 : Listed 30
  is_31 : Listed 31
  is_32 : Listed 32
  is_35 : Listed 35
  is_40 : Listed 40

moving_listed : {T : ℕ} {q : Property} → Moving (task № T) q → Listed (property_rank q)
moving_listed Kept.state_moves = is_6
moving_listed Kept.trigger_moves = is_12
moving_listed Kept.confirmed_moves = is_17
moving_listed Kept.count_moves = is_18
moving_listed Kept.cycles_move = is_19
moving_listed Kept.start_moves = is_24
moving_listed Kept.in_progress_moves = is_29
moving_listed Kept.discarded_moves = is_30
moving_listed Kept.completed_moves = is_31
moving_listed Kept.procedure_moves = is_40

adds_listed : {g : List TopLevel} {T : ℕ} {q : Property} {r : RowValue} → Adds g (task № T) q r → Listed (property_rank q)
adds_listed (Load.task_2 h) = is_0
adds_listed (Load.task_3 h) = is_6
adds_listed (Load.component_3a h k) = is_16
adds_listed (Load.component_3b h k) = is_16
adds_listed (Load.component_attribute_1 h k) = is_7
adds_listed (Load.component_attribute_5 h) = is_26
adds_listed (Load.attribute_1b h) = is_1
adds_listed (Load.attribute_1c h) = is_15
adds_listed (Load.attribute_5_precondition h) = is_9
adds_listed (Load.attribute_5_wait_condition h) = is_10
adds_listed (Load.attribute_5_trigger h) = is_11
adds_listed (Load.attribute_5_postcondition h) = is_13
adds_listed (Load.attribute_5_terminate h) = is_32
adds_listed (Load.source_5 h k) = is_35

-- none of them
pub not_listed : {p : ℕ} → ¬ (p ≡ 0) → ¬ (p ≡ 1) → ¬ (p ≡ 6) → ¬ (p ≡ 7) → ¬ (p ≡ 9) → ¬ (p ≡ 10) → ¬ (p ≡ 11) → ¬ (p ≡ 12) → ¬ (p ≡ 13) → ¬ (p ≡ 15) → ¬ (p ≡ 16) → ¬ (p ≡ 17) → ¬ (p ≡ 18) → ¬ (p ≡ 19) → ¬ (p ≡ 24) → ¬ (p ≡ 26) → ¬ (p ≡ 29) → ¬ (p ≡ 30) → ¬ (p ≡ 31) → ¬ (p ≡ 32) → ¬ (p ≡ 35) → ¬ (p ≡ 40) → ¬ Listed p
not_listed n0 n1 n6 n7 n9 n10 n11 n12 n13 n15 n16 n17 n18 n19 n24 n26 n29 n30 n31 n32 n35 n40 is_0 = n0 refl
not_listed n0 n1 n6 n7 n9 n10 n11 n12 n13 n15 n16 n17 n18 n19 n24 n26 n29 n30 n31 n32 n35 n40 is_1 = n1 refl
not_listed n0 n1 n6 n7 n9 n10 n11 n12 n13 n15 n16 n17 n18 n19 n24 n26 n29 n30 n31 n32 n35 n40 is_6 = n6 refl
not_listed n0 n1 n6 n7 n9 n10 n11 n12 n13 n15 n16 n17 n18 n19 n24 n26 n29 n30 n31 n32 n35 n40 is_7 = n7 refl
not_listed n0 n1 n6 n7 n9 n10 n11 n12 n13 n15 n16 n17 n18 n19 n24 n26 n29 n30 n31 n32 n35 n40 is_9 = n9 refl
not_listed n0 n1 n6 n7 n9 n10 n11 n12 n13 n15 n16 n17 n18 n19 n24 n26 n29 n30 n31 n32 n35 n40 is_10 = n10 refl
not_listed n0 n1 n6 n7 n9 n10 n11 n12 n13 n15 n16 n17 n18 n19 n24 n26 n29 n30 n31 n32 n35 n40 is_11 = n11 refl
not_listed n0 n1 n6 n7 n9 n10 n11 n12 n13 n15 n16 n17 n18 n19 n24 n26 n29 n30 n31 n32 n35 n40 is_12 = n12 refl
not_listed n0 n1 n6 n7 n9 n10 n11 n12 n13 n15 n16 n17 n18 n19 n24 n26 n29 n30 n31 n32 n35 n40 is_13 = n13 refl
not_listed n0 n1 n6 n7 n9 n10 n11 n12 n13 n15 n16 n17 n18 n19 n24 n26 n29 n30 n31 n32 n35 n40 is_15 = n15 refl
not_listed n0 n1 n6 n7 n9 n10 n11 n12 n13 n15 n16 n17 n18 n19 n24 n26 n29 n30 n31 n32 n35 n40 is_16 = n16 refl
not_listed n0 n1 n6 n7 n9 n10 n11 n12 n13 n15 n16 n17 n18 n19 n24 n26 n29 n30 n31 n32 n35 n40 is_17 = n17 refl
not_listed n0 n1 n6 n7 n9 n10 n11 n12 n13 n15 n16 n17 n18 n19 n24 n26 n29 n30 n31 n32 n35 n40 is_18 = n18 refl
not_listed n0 n1 n6 n7 n9 n10 n11 n12 n13 n15 n16 n17 n18 n19 n24 n26 n29 n30 n31 n32 n35 n40 is_19 = n19 refl
not_listed n0 n1 n6 n7 n9 n10 n11 n12 n13 n15 n16 n17 n18 n19 n24 n26 n29 n30 n31 n32 n35 n40 is_24 = n24 refl
not_listed n0 n1 n6 n7 n9 n10 n11 n12 n13 n15 n16 n17 n18 n19 n24 n26 n29 n30 n31 n32 n35 n40 is_26 = n26 refl
not_listed n0 n1 n6 n7 n9 n10 n11 n12 n13 n15 n16 n17 n18 n19 n24 n26 n29 n30 n31 n32 n35 n40 is_29 = n29 refl
not_listed n0 n1 n6 n7 n9 n10 n11 n12 n13 n15 n16 n17 n18 n19 n24 n26 n29 n30 n31 n32 n35 n40 is_30 = n30 refl
not_listed n0 n1 n6 n7 n9 n10 n11 n12 n13 n15 n16 n17 n18 n19 n24 n26 n29 n30 n31 n32 n35 n40 is_31 = n31 refl
not_listed n0 n1 n6 n7 n9 n10 n11 n12 n13 n15 n16 n17 n18 n19 n24 n26 n29 n30 n31 n32 n35 n40 is_32 = n32 refl
not_listed n0 n1 n6 n7 n9 n10 n11 n12 n13 n15 n16 n17 n18 n19 n24 n26 n29 n30 n31 n32 n35 n40 is_35 = n35 refl
not_listed n0 n1 n6 n7 n9 n10 n11 n12 n13 n15 n16 n17 n18 n19 n24 n26 n29 n30 n31 n32 n35 n40 is_40 = n40 refl

-- of what is not listed, a task has no row
pub unlisted : {g : List TopLevel} {t : Table} {T p : ℕ} {q : Property} → Kept g t → At properties p q → ¬ Listed p → t (task № T) q ≡ none
unlisted {g} {t} {T} {p} {q} k h n = go (t (task № T) q) refl
  where
    fixed : ¬ Moving (task № T) q
    fixed m = n (subst Listed (place_of h) (moving_listed m))

    go : (o : Option RowValue) → t (task № T) q ≡ o → t (task № T) q ≡ none
    go none e = e
    go (some r) e = absurd (n (subst Listed (place_of h) (adds_listed ((k.fixed fixed).0 e))))
