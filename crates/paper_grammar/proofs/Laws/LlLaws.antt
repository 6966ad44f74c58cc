-- The machine of a lawful grammar accepts exactly its sentences, and a refusal stands at the first token that no sentence can have there: what the stack can take is among what may follow, and every stack has an ending.
use Rattle.std.specs.Prelude.{ℕ, zero, suc, ◌≤◌, ◌<◌, ◌+◌, ◌-◌, ◌≡◌, refl, Bool, true, false, cond, ◌&&◌, ◌||◌, not, ◌⊎◌, eqb, length, drop}
use Rattle.std.proofs.Common.{sym, subst, ◌∙◌, inl, inr, ⊎_elim, arith, add-one, eq-eqb, eqb-true, length-append, length-drop, take_at, take-suc, drop_at, drop-cons}
use Rattle.std.proofs.Math.Path.{ap}
use Rattle.std.proofs.Math.Option.{Option, none, some}
use mathlib.Core.List.Memᴰ
use mathlib.Core.List.{List, [], ◌∷◌, ◌++◌, append_assoc, Memᴰ}
use Rattle.std.proofs.Math.ListN.{take, get_or}
use Rattle.paper_expressions.proofs.Laws.Tests.{contra, two, and_l, and_r, or_cases, or_not, not_both, from, every}
use Rattle.paper_grammar.proofs.Laws.Ll.{Sym, T, N, Alt, ◌⇒◌, Grammar, Out, accept, refuse, Next, stop, go, find, choose, after, Der, end, tok, alt, skip, adv, blank, run, is_in, subset as subset-of, has, distinct, firsts_in, apart, within, good_seq, good_alts, lawful}

-- tests
in_subset : (k : ℕ) (ks F : List ℕ) → subset-of ks F ≡ true → is_in k ks ≡ true → is_in k F ≡ true
in_subset k [] F s h = contra h
in_subset k (j ∷ ks) F s h = ⊎_elim
    (λ (e : eqb k j ≡ true). subst (λ (i : ℕ). is_in i F ≡ true) (sym (eqb-true k j e)) (and_l (is_in j F) (subset-of ks F) s))
    (λ (e : is_in k ks ≡ true). in_subset k ks F (and_r (is_in j F) (subset-of ks F) s) e)
    (or_cases (eqb k j) (is_in k ks) h)

never : {A : Type 0} {x : List ℕ} → refuse x ≡ accept → A
never e = absurd (let z : ◌≡◌ {A = ℕ} 0 1 = cc in omega arith)

module _ {Nt : Type 0} where
  stop_go : {A : Type 0} {q : List (Sym Nt)} → ◌≡◌ {A = Next Nt} stop (go q) → A
  stop_go e = absurd (let z : ◌≡◌ {A = ℕ} 0 1 = cc in omega arith)

  go_same : {p q : List (Sym Nt)} → ◌≡◌ {A = Next Nt} (go p) (go q) → p ≡ q
  go_same e = cc

  has_first : (k : ℕ) (bs : List (Alt Nt)) (F : List ℕ) → firsts_in bs F ≡ true → has k bs ≡ true → is_in k F ≡ true
  has_first k [] F s h = contra h
  has_first k ((j ⇒ β) ∷ bs) F s h = ⊎_elim
      (λ (e : eqb k j ≡ true). subst (λ (i : ℕ). is_in i F ≡ true) (sym (eqb-true k j e)) (and_l (is_in j F) (firsts_in bs F) s))
      (λ (e : has k bs ≡ true). has_first k bs F (and_r (is_in j F) (firsts_in bs F) s) e)
      (or_cases (eqb k j) (has k bs) h)

  has_apart : {A : Type 0} (k : ℕ) (bs : List (Alt Nt)) (F : List ℕ) → apart bs F ≡ true → has k bs ≡ true → is_in k F ≡ true → A
  has_apart k [] F s h i = contra h
  has_apart k ((j ⇒ β) ∷ bs) F s h i = ⊎_elim
      (λ (e : eqb k j ≡ true). not_both (is_in j F) (and_l (not (is_in j F)) (apart bs F) s) (subst (λ (i : ℕ). is_in i F ≡ true) (eqb-true k j e) i))
      (λ (e : has k bs ≡ true). has_apart k bs F (and_r (not (is_in j F)) (apart bs F) s) e i)
      (or_cases (eqb k j) (has k bs) h)

  -- the alternatives by their first tokens
  find_none : (k : ℕ) (bs : List (Alt Nt)) → has k bs ≡ false → find k bs ≡ none
  find_none k [] h = refl
  find_none k ((j ⇒ β) ∷ bs) h = ⊎_elim
      (λ (e : eqb k j ≡ true). contra (sym h ∙ ap (λ (b : Bool). b || has k bs) e))
      (λ (e : eqb k j ≡ false). ap (λ (b : Bool). cond b (some β) (find k bs)) e ∙ find_none k bs (sym (ap (λ (b : Bool). b || has k bs) e) ∙ h))
      (two (eqb k j))

  mem_has : (k : ℕ) (β : List (Sym Nt)) (bs : List (Alt Nt)) → Memᴰ (k ⇒ β) bs → has k bs ≡ true
  mem_has k β [] m = absurd (Memᴰ.not-nil m)
  mem_has k β ((j ⇒ γ) ∷ bs) m = ⊎_elim
      (λ (e : (k ⇒ β) ≡ (j ⇒ γ)). let f : k ≡ j = cc in ap (λ (b : Bool). b || has k bs) (eq-eqb k j f))
      (λ (n : Memᴰ (k ⇒ β) bs). ⊎_elim
      (λ (e : eqb k j ≡ true). ap (λ (b : Bool). b || has k bs) e)
      (λ (e : eqb k j ≡ false). ap (λ (b : Bool). b || has k bs) e ∙ mem_has k β bs n)
      (two (eqb k j)))
      (Memᴰ.cases_cons m)

  find_mem : (k : ℕ) (β : List (Sym Nt)) (bs : List (Alt Nt)) → distinct bs ≡ true → Memᴰ (k ⇒ β) bs → find k bs ≡ some β
  find_mem k β [] d m = absurd (Memᴰ.not-nil m)
  find_mem k β ((j ⇒ γ) ∷ bs) d m = ⊎_elim
      (λ (e : (k ⇒ β) ≡ (j ⇒ γ)). let f : k ≡ j = cc in let g : γ ≡ β = cc in ap (λ (b : Bool). cond b (some γ) (find k bs)) (eq-eqb k j f) ∙ ap some g)
      (λ (n : Memᴰ (k ⇒ β) bs). ⊎_elim
      (λ (e : eqb k j ≡ true). not_both (has j bs) (and_l (not (has j bs)) (distinct bs) d) (subst (λ (i : ℕ). has i bs ≡ true) (eqb-true k j e) (mem_has k β bs n)))
      (λ (e : eqb k j ≡ false). ap (λ (b : Bool). cond b (some γ) (find k bs)) e ∙ find_mem k β bs (and_r (not (has j bs)) (distinct bs) d) n)
      (two (eqb k j)))
      (Memᴰ.cases_cons m)

  pub found_mem : (k : ℕ) (β : List (Sym Nt)) (bs : List (Alt Nt)) → find k bs ≡ some β → Memᴰ (k ⇒ β) bs
  found_mem k β [] e = absurd (let z : ◌≡◌ {A = ℕ} 0 1 = cc in omega arith)
  found_mem k β ((j ⇒ γ) ∷ bs) e = ⊎_elim
      (λ (h : eqb k j ≡ true). let f : some γ ≡ some β = sym (ap (λ (b : Bool). cond b (some γ) (find k bs)) h) ∙ e in let g : k ≡ j = eqb-true k j h in Memᴰ.head (cc))
      (λ (h : eqb k j ≡ false). Memᴰ.tail (found_mem k β bs (sym (ap (λ (b : Bool). cond b (some γ) (find k bs)) h) ∙ e)))
      (two (eqb k j))

module _ {Nt : Type 0} (G : Grammar Nt) where
  -- 1. Sound.
  abbrev Found : Option (List (Sym Nt)) → Nt → ℕ → List (Sym Nt) → List (Sym Nt) → List ℕ → Type 0
  Found o X k st q r = find k (G.alts X) ≡ o → choose o st (cond (G.empty X) (adv G st k) stop) ≡ go q → Der G (N X ∷ st) (k ∷ r)

  adv_der : (st : List (Sym Nt)) (k : ℕ) (q : List (Sym Nt)) (r : List ℕ) → adv G st k ≡ go q → Der G q r → Der G st (k ∷ r)
  adv_der [] k q r e d = stop_go e
  adv_der (T j ∷ st) k q r e d = ⊎_elim
      (λ (h : eqb k j ≡ true). let f : st ≡ q = go_same (sym (ap (λ (b : Bool). cond b (go st) stop) h) ∙ e) in
      subst (λ (i : ℕ). Der G (T i ∷ st) (k ∷ r)) (eqb-true k j h) (tok (subst (λ (x : List (Sym Nt)). Der G x r) (sym f) d)))
      (λ (h : eqb k j ≡ false). stop_go (sym (ap (λ (b : Bool). cond b (go st) stop) h) ∙ e))
      (two (eqb k j))
  adv_der (N X ∷ st) k q r e d =
      let by : (o : Option (List (Sym Nt))) → Found o X k st q r = elim [
        | some β ↦ λ f h. alt (found_mem k β (G.alts X) f) (subst (λ (x : List (Sym Nt)). Der G x r) (sym (go_same h)) d)
        | none ↦ λ f h. ⊎_elim
            (λ (m : G.empty X ≡ true). skip m (adv_der st k q r (sym (ap (λ (b : Bool). cond b (adv G st k) stop) m) ∙ h) d))
            (λ (m : G.empty X ≡ false). stop_go (sym (ap (λ (b : Bool). cond b (adv G st k) stop) m) ∙ h))
            (two (G.empty X))
      ] in
      by (find k (G.alts X)) refl e

  blank_der : (st : List (Sym Nt)) → blank G st ≡ true → Der G st []
  blank_der [] e = end
  blank_der (T k ∷ st) e = contra e
  blank_der (N X ∷ st) e = skip (and_l (G.empty X) (blank G st) e) (blank_der st (and_r (G.empty X) (blank G st) e))

  pub sound : (w : List ℕ) (st : List (Sym Nt)) → run G st w ≡ accept → Der G st w
  sound [] st e = ⊎_elim
      (λ (h : blank G st ≡ true). blank_der st h)
      (λ (h : blank G st ≡ false). never (sym (ap (λ (b : Bool). cond b accept (refuse [])) h) ∙ e))
      (two (blank G st))
  sound (k ∷ r) st e =
      let by : (n : Next Nt) → adv G st k ≡ n → after n (refuse (k ∷ r)) (λ q. run G q r) ≡ accept → Der G st (k ∷ r) = elim [
        | stop ↦ λ f h. never h
        | go q ↦ λ f h. adv_der st k q r f (sound r q h)
      ] in
      by (adv G st k) refl e

  pub der_append : {α : List (Sym Nt)} {w : List ℕ} → Der G α w → (β : List (Sym Nt)) (v : List ℕ) → Der G β v → Der G (α ++ β) (w ++ v)
  der_append end β v e = e
  der_append (tok d) β v e = tok (der_append d β v e)
  der_append (alt {α = α} {β = γ} m d) β v e = alt m (rw append_assoc at (der_append d β v e))
  der_append (skip m d) β v e = skip m (der_append d β v e)

  -- 2. Complete, for a lawful grammar.
  abbrev can : List (Sym Nt) → ℕ → Bool
  can [] k = false
  can (T j ∷ st) k = eqb k j
  can (N X ∷ st) k = has k (G.alts X) || (G.empty X && can st k)

  cannot : (st : List (Sym Nt)) (k : ℕ) → can st k ≡ false → adv G st k ≡ stop
  cannot [] k h = refl
  cannot (T j ∷ st) k h = ap (λ (b : Bool). cond b (go st) stop) h
  cannot (N X ∷ st) k h = ⊎_elim
      (λ (e : has k (G.alts X) ≡ true). contra (sym h ∙ ap (λ (b : Bool). b || (G.empty X && can st k)) e))
      (λ (e : has k (G.alts X) ≡ false).
      let f : G.empty X && can st k ≡ false = sym (ap (λ (b : Bool). b || (G.empty X && can st k)) e) ∙ h in
      ap (λ (o : Option (List (Sym Nt))). choose o st (cond (G.empty X) (adv G st k) stop)) (find_none k (G.alts X) e) ∙
      ⊎_elim
      (λ (m : G.empty X ≡ true). ap (λ (b : Bool). cond b (adv G st k) stop) m ∙ cannot st k (sym (ap (λ (b : Bool). b && can st k) m) ∙ f))
      (λ (m : G.empty X ≡ false). ap (λ (b : Bool). cond b (adv G st k) stop) m)
      (two (G.empty X)))
      (two (has k (G.alts X)))

  module _ (follow : Nt → List ℕ) (law : (X : Nt) → lawful G follow X ≡ true) where
    -- what the stack can take is among what may follow
    abbrev Below : List (Sym Nt) → List ℕ → Type 0
    Below st f = (k : ℕ) → can st k ≡ true → is_in k f ≡ true

    abbrev Fits : List (Sym Nt) → Type 0
    Fits [] = Unit {0}
    Fits (T k ∷ st) = Fits st
    Fits (N X ∷ st) = Below st (follow X) × Fits st

    law_distinct : (X : Nt) → distinct (G.alts X) ≡ true
    law_distinct X = and_l (distinct (G.alts X)) _ (law X)

    law_alts : (X : Nt) → good_alts G follow (G.alts X) (follow X) ≡ true
    law_alts X = and_l (good_alts G follow (G.alts X) (follow X)) _ (and_r (distinct (G.alts X)) _ (law X))

    law_empty : (X : Nt) → G.empty X ≡ true → apart (G.alts X) (follow X) ≡ true
    law_empty X = or_not (G.empty X) _ (and_r (good_alts G follow (G.alts X) (follow X)) _ (and_r (distinct (G.alts X)) _ (law X)))

    below : (F : List ℕ) (β : List (Sym Nt)) (f : List ℕ) (st : List (Sym Nt)) → within G follow F β f ≡ true → Below st f → Below (β ++ st) F
    below F [] f st h b k c = in_subset k f F h (b k c)
    below F (T j ∷ β) f st h b k c = subst (λ (i : ℕ). is_in i F ≡ true) (sym (eqb-true k j c)) h
    below F (N Z ∷ β) f st h b k c = ⊎_elim
        (λ (e : has k (G.alts Z) ≡ true). has_first k (G.alts Z) F (and_l (firsts_in (G.alts Z) F) _ h) e)
        (λ (e : G.empty Z && can (β ++ st) k ≡ true).
        below F β f st (or_not (G.empty Z) _ (and_r (firsts_in (G.alts Z) F) _ h) (and_l (G.empty Z) _ e)) b k (and_r (G.empty Z) _ e))
        (or_cases (has k (G.alts Z)) (G.empty Z && can (β ++ st) k) c)

    fits_seq : (β : List (Sym Nt)) (f : List ℕ) (st : List (Sym Nt)) → good_seq G follow β f ≡ true → Below st f → Fits st → Fits (β ++ st)
    fits_seq [] f st h b s = s
    fits_seq (T k ∷ β) f st h b s = fits_seq β f st h b s
    fits_seq (N Y ∷ β) f st h b s = (below (follow Y) β f st (and_l (within G follow (follow Y) β f) _ h) b, fits_seq β f st (and_r (within G follow (follow Y) β f) _ h) b s)

    mem_good : (k : ℕ) (β : List (Sym Nt)) (bs : List (Alt Nt)) (f : List ℕ) → good_alts G follow bs f ≡ true → Memᴰ (k ⇒ β) bs → good_seq G follow β f ≡ true
    mem_good k β [] f h m = absurd (Memᴰ.not-nil m)
    mem_good k β ((j ⇒ γ) ∷ bs) f h m = ⊎_elim
        (λ (e : (k ⇒ β) ≡ (j ⇒ γ)). let g : γ ≡ β = cc in subst (λ (x : List (Sym Nt)). good_seq G follow x f ≡ true) g (and_l (good_seq G follow γ f) _ h))
        (λ (n : Memᴰ (k ⇒ β) bs). mem_good k β bs f (and_r (good_seq G follow γ f) _ h) n)
        (Memᴰ.cases_cons m)

    skip_run : (X : Nt) (st : List (Sym Nt)) (w : List ℕ) → G.empty X ≡ true → Fits (N X ∷ st) → run G st w ≡ accept → run G (N X ∷ st) w ≡ accept
    skip_run X st [] m s e = ap (λ (b : Bool). cond (b && blank G st) accept (refuse [])) m ∙ e
    skip_run X st (k ∷ r) m s e = ⊎_elim
        (λ (c : can st k ≡ true). ⊎_elim
        (λ (h : has k (G.alts X) ≡ true). has_apart k (G.alts X) (follow X) (law_empty X m) h (s.0 k c))
        (λ (h : has k (G.alts X) ≡ false).
        ap (λ (o : Option (List (Sym Nt))). after (choose o st (cond (G.empty X) (adv G st k) stop)) (refuse (k ∷ r)) (λ q. run G q r)) (find_none k (G.alts X) h)
        ∙ ap (λ (b : Bool). after (cond b (adv G st k) stop) (refuse (k ∷ r)) (λ q. run G q r)) m
        ∙ e)
        (two (has k (G.alts X))))
        (λ (c : can st k ≡ false). never (sym (ap (λ (n : Next Nt). after n (refuse (k ∷ r)) (λ q. run G q r)) (cannot st k c)) ∙ e))
        (two (can st k))

    pub complete : {st : List (Sym Nt)} {w : List ℕ} → Der G st w → Fits st → run G st w ≡ accept
    complete end s = refl
    complete (tok {k} {α} {w} d) s = ap (λ (b : Bool). after (cond b (go α) stop) (refuse (k ∷ w)) (λ q. run G q w)) (eq-eqb k k refl) ∙ complete d s
    complete (alt {X} {k} {α} {β} {w} m d) s =
        ap (λ (o : Option (List (Sym Nt))). after (choose o α (cond (G.empty X) (adv G α k) stop)) (refuse (k ∷ w)) (λ q. run G q w)) (find_mem k β (G.alts X) (law_distinct X) m)
        ∙ complete d (fits_seq β (follow X) α (mem_good k β (G.alts X) (follow X) (law_alts X) m) s.0 s.1)
    complete (skip {X} {α} {w} m d) s = skip_run X α w m s (complete d s.1)

    start_fits : (X : Nt) → Fits (N X ∷ [])
    start_fits X = ((λ k c. contra c), tt)

same : {a b : List ℕ} → refuse a ≡ refuse b → a ≡ b
same e = cc

heads : {k j : ℕ} {q r : List ℕ} → ◌≡◌ {A = List ℕ} (k ∷ q) (j ∷ r) → k ≡ j
heads e = cc

nil_cons : {A : Type 0} {k : ℕ} {q : List ℕ} → ◌≡◌ {A = List ℕ} [] (k ∷ q) → A
nil_cons e = absurd (let z : ◌≡◌ {A = ℕ} 0 1 = cc in omega arith)

clash : {x : List ℕ} {o : Out} → o ≡ accept → o ≡ refuse x → ⊥
clash a b = let z : ◌≡◌ {A = ℕ} 0 1 = cc in omega arith

-- 3. The place of a refusal.
module _ {Nt : Type 0} (G : Grammar Nt) where
  unfoldable pub Sentence : Nt → List ℕ → Type 0
  Sentence X w = Der G (N X ∷ []) w

  unfoldable pub Viable : Nt → List ℕ → Type 0
  Viable X u = (v : List ℕ) × Der G (N X ∷ []) (u ++ v)

  -- what was read leaves a stack from which any end will do, and with the next token there is none
  abbrev Place : List (Sym Nt) → List ℕ → List ℕ → Type 0
  Place st w r =
      (u : List ℕ) ×
      (w ≡ u ++ r) ×
      ((q : List (Sym Nt)) × ((v : List ℕ) → Der G q v → Der G st (u ++ v))) ×
      ((k : ℕ) (t : List ℕ) → r ≡ k ∷ t → (x : List ℕ) → run G st (u ++ k ∷ x) ≡ refuse (k ∷ x))

  place : (w : List ℕ) (st : List (Sym Nt)) (r : List ℕ) → run G st w ≡ refuse r → Place st w r
  place [] st r e = ⊎_elim
      (λ (h : blank G st ≡ true). absurd (clash refl (sym (ap (λ (b : Bool). cond b accept (refuse [])) h) ∙ e)))
      (λ (h : blank G st ≡ false). let z : [] ≡ r = same (sym (ap (λ (b : Bool). cond b accept (refuse [])) h) ∙ e) in
      ([], z, (st, λ v d. d), λ k t g. nil_cons (z ∙ g)))
      (two (blank G st))
  place (k ∷ w) st r e =
      let by : (n : Next Nt) → adv G st k ≡ n → after n (refuse (k ∷ w)) (λ q. run G q w) ≡ refuse r → Place st (k ∷ w) r = elim [
        | stop ↦ λ f h.
            let z : k ∷ w ≡ r = same h in
            ([], z, (st, λ v d. d), λ j t g x. subst (λ (i : ℕ). run G st (i ∷ x) ≡ refuse (i ∷ x)) (heads (z ∙ g)) (ap (λ (n : Next Nt). after n (refuse (k ∷ x)) (λ q. run G q x)) f))
        | go q ↦ λ f h.
            let p = place w q r h in (
              k ∷ p.0,
              ap (λ (x : List ℕ). k ∷ x) p.1,
              (p.2.0, λ v d. adv_der G st k q (p.0 ++ v) f (p.2.1 v d)),
              λ j t g x. ap (λ (n : Next Nt). after n (refuse (k ∷ (p.0 ++ j ∷ x))) (λ q. run G q (p.0 ++ j ∷ x))) f ∙ p.3 j t g x,
            )
      ] in
      by (adv G st k) refl e

  -- what is left is the tokens from some place on
  pub left_at : (w : List ℕ) (st : List (Sym Nt)) (r : List ℕ) → run G st w ≡ refuse r → (i : ℕ) × (i ≤ length w) × (r ≡ drop i w)
  left_at w st r e =
      let p = place w st r e in
      let n : length w ≡ length p.0 + length r = rw length-append at (ap length p.1) in
      (length p.0, omega arith, sym (ap (drop (length p.0)) p.1 ∙ drop_at p.0 r (length p.0) refl))

-- What a refusal at i says of the tokens w.
pub record Refusal {Nt : Type 0} (G : Grammar Nt) (X : Nt) (w : List ℕ) (i : ℕ) : Type 0 where
  pub within_it : i ≤ length w
  pub viable : Viable G X (take i w)
  pub first_bad : i < length w → ¬ Viable G X (take (i + 1) w)
  pub no_sentence : ¬ Sentence G X w

module _ {Nt : Type 0} (G : Grammar Nt) (follow : Nt → List ℕ) (law : (X : Nt) → lawful G follow X ≡ true) (word : Nt → List ℕ) (ends : (X : Nt) → run G (N X ∷ []) (word X) ≡ accept) where
  pub accepted : (X : Nt) (w : List ℕ) → run G (N X ∷ []) w ≡ accept → Sentence G X w
  unfolding Sentence
  accepted X w e = sound G w (N X ∷ []) e

  pub all_accepted : (X : Nt) (w : List ℕ) → Sentence G X w → run G (N X ∷ []) w ≡ accept
  unfolding Sentence
  all_accepted X w d = complete G follow law d (start_fits G follow law X)

  ending : (q : List (Sym Nt)) → (v : List ℕ) × Der G q v
  ending [] = ([], end)
  ending (T k ∷ q) = let e = ending q in (k ∷ e.0, tok e.1)
  ending (N X ∷ q) = let e = ending q in (word X ++ e.0, der_append G (sound G (word X) (N X ∷ []) (ends X)) q e.0 e.1)

  module _ (X : Nt) (w : List ℕ) (i : ℕ) (h : i ≤ length w) (e : run G (N X ∷ []) w ≡ refuse (drop i w)) where
    read_is : take i w ≡ (place G w (N X ∷ []) (drop i w) e).0
    read_is =
        let p = place G w (N X ∷ []) (drop i w) e in
        let n : length w ≡ length p.0 + (length w - i) = rw length-drop at (rw length-append at (ap length p.1)) in
        let m : length p.0 ≡ i = omega arith in
        ap (take i) p.1 ∙ take_at p.0 (drop i w) i m

    pub refused : Refusal G X w i
    unfolding Sentence Viable
    refused =
        let p = place G w (N X ∷ []) (drop i w) e in
        let z = ending p.2.0 in
        record {
          within_it = h;
          viable = (z.0, rw read_is (p.2.1 z.0 z.1));
          first_bad = λ lt v.
              let k = get_or w i 0 in
              let t : take (i + 1) w ++ v.0 ≡ p.0 ++ k ∷ v.0 = ap (λ (n : ℕ). take n w ++ v.0) (add-one i) ∙ ap (λ (l : List ℕ). l ++ v.0) (take-suc w i 0 lt) ∙ append_assoc (take i w) (k ∷ []) v.0 ∙ ap (λ (l : List ℕ). l ++ k ∷ v.0) read_is in
              clash (complete G follow law v.1 (start_fits G follow law X)) (ap (run G (N X ∷ [])) t ∙ p.3 k (drop (suc i) w) (drop-cons w i 0 lt) v.0);
          no_sentence = λ d. clash (complete G follow law d (start_fits G follow law X)) e;
        }
