-- A test, computed, that what a printed grammar derives is derived by one in the machine's form.
-- Each printed nonterminal A stands for some sequences of the form's symbols, `image A`. The test: where A ⟶ β is printed, every image of β is covered by an image of A.
use Rattle.std.specs.Prelude.{ℕ, zero, suc, ◌≡◌, refl, Bool, true, false, cond, ◌&&◌, ◌||◌, not, ◌⊎◌, eqb}
use Rattle.std.proofs.Common.{sym, ap, subst, ◌∙◌, inl, inr, ⊎_elim, arith, eq-eqb, eqb-true}
use Rattle.std.proofs.Math.Option.{Option, none, some}
use mathlib.Core.List.Memᴰ
use mathlib.Core.List.{List, [], ◌∷◌, ◌++◌, append_assoc, append-nil, Memᴰ}
use Rattle.paper_expressions.proofs.Laws.Tests.{contra, and_l, and_r, or_cases, or_not, not_both, two, every, every_at, some_one, some_at}
use Rattle.paper_grammar.proofs.Laws.Ll.{Sym, T, N, Alt, ◌⇒◌, Grammar, find, Der, end, tok, alt, skip, blank}
use Rattle.paper_grammar.proofs.Laws.LlLaws.{found_mem, der_append}
use Rattle.paper_grammar.proofs.Laws.Tagged.{Rule, ◌⟶◌, Yields, y_done, y_token, y_rule}

abbrev if_some : Option (List (Sym ℕ)) → (List (Sym ℕ) → Bool) → Bool → Bool
if_some (some β) f b = f β
if_some none f b = b

module _ (G : Grammar ℕ) where
  -- 1. A derivation of two parts is two derivations.
  abbrev Split : List (Sym ℕ) → List (Sym ℕ) → List ℕ → Type 0
  Split α γ w = (u : List ℕ) × (v : List ℕ) × (w ≡ u ++ v) × Der G α u × Der G γ v

  at_once : {st : List (Sym ℕ)} {w : List ℕ} (γ : List (Sym ℕ)) → Der G st w → st ≡ γ → Split [] γ w
  at_once {st} {w} γ d e = ([], w, refl, end, subst (λ (x : List (Sym ℕ)). Der G x w) e d)

  onward : (β st α γ : List (Sym ℕ)) → st ≡ α ++ γ → β ++ st ≡ (β ++ α) ++ γ
  onward β st α γ t = ap (λ (x : List (Sym ℕ)). β ++ x) t ∙ sym (append_assoc β α γ)

  split : {st : List (Sym ℕ)} {w : List ℕ} → Der G st w → (α γ : List (Sym ℕ)) → st ≡ α ++ γ → Split α γ w
  split end [] γ e = at_once γ end e
  split end (s ∷ α) γ e = absurd (let z : ◌≡◌ {A = ℕ} 0 1 = cc in omega arith)
  split (tok d) [] γ e = at_once γ (tok d) e
  split (tok {k = k} {α = st} {w = w} d) (s ∷ α) γ e =
      let h : T k ≡ s = cc in
      let t : st ≡ α ++ γ = cc in
      let r = split d α γ t in
      (k ∷ r.0, r.1, ap (λ (x : List ℕ). k ∷ x) r.2, subst (λ (y : Sym ℕ). Der G (y ∷ α) (k ∷ r.0)) h (tok r.3), r.4)
  split (alt m d) [] γ e = at_once γ (alt m d) e
  split (alt {X = X} {k = k} {α = st} {β = β} {w = w} m d) (s ∷ α) γ e =
      let h : N X ≡ s = cc in
      let t : st ≡ α ++ γ = cc in
      let r = split d (β ++ α) γ (onward β st α γ t) in
      (k ∷ r.0, r.1, ap (λ (x : List ℕ). k ∷ x) r.2, subst (λ (y : Sym ℕ). Der G (y ∷ α) (k ∷ r.0)) h (alt m r.3), r.4)
  split (skip b d) [] γ e = at_once γ (skip b d) e
  split (skip {X = X} {α = st} {w = w} b d) (s ∷ α) γ e =
      let h : N X ≡ s = cc in
      let t : st ≡ α ++ γ = cc in
      let r = split d α γ t in
      (r.0, r.1, r.2, subst (λ (y : Sym ℕ). Der G (y ∷ α) r.0) h (skip b r.3), r.4)

  un_tok : {k : ℕ} {α : List (Sym ℕ)} {w : List ℕ} → Der G (T k ∷ α) w → (v : List ℕ) × (w ≡ k ∷ v) × Der G α v
  un_tok (tok {w = v} d) = (v, refl, d)

  abbrev Opened : ℕ → List (Sym ℕ) → List ℕ → Type 0
  Opened X α w = ((k : ℕ) × (β : List (Sym ℕ)) × Memᴰ (k ⇒ β) (G.alts X) × Der G (T k ∷ (β ++ α)) w) ⊎ ((G.empty X ≡ true) × Der G α w)

  un_nt : {X : ℕ} {α : List (Sym ℕ)} {w : List ℕ} → Der G (N X ∷ α) w → Opened X α w
  un_nt (alt {k = k} {β = β} m d) = inl (k, β, m, tok d)
  un_nt (skip b d) = inr (b, d)

  un_nil : {w : List ℕ} → Der G [] w → w ≡ []
  un_nil end = refl

  -- 2. Every sentence of γ is one of δ, as far as n steps can tell.
  abbrev opened : Alt ℕ → List (Sym ℕ) → List (Sym ℕ)
  opened (k ⇒ β) γ = T k ∷ (β ++ γ)

  abbrev pub sub : ℕ → List (Sym ℕ) → List (Sym ℕ) → Bool
  sub zero γ δ = false
  sub (suc n) [] δ = blank G δ
  sub (suc n) (T k ∷ γ) [] = false
  sub (suc n) (T k ∷ γ) (T j ∷ δ) = eqb k j && sub n γ δ
  sub (suc n) (T k ∷ γ) (N X ∷ δ) = if_some (find k (G.alts X)) (λ β. sub n γ (β ++ δ)) (G.empty X && sub n (T k ∷ γ) δ)
  sub (suc n) (N Y ∷ γ) [] = false
  sub (suc n) (N Y ∷ γ) (T j ∷ δ) = false
  sub (suc n) (N Y ∷ γ) (N X ∷ δ) = cond (eqb Y X) (sub n γ δ) (every (λ a. sub n (opened a γ) (N X ∷ δ)) (G.alts Y) && (not (G.empty Y) || sub n γ (N X ∷ δ)))

  blank_all : (δ st : List (Sym ℕ)) (w : List ℕ) → blank G δ ≡ true → Der G st w → Der G (δ ++ st) w
  blank_all [] st w e d = d
  blank_all (T k ∷ δ) st w e d = contra e
  blank_all (N X ∷ δ) st w e d = skip (and_l (G.empty X) (blank G δ) e) (blank_all δ st w (and_r (G.empty X) (blank G δ) e) d)

  abbrev Covers : List (Sym ℕ) → List (Sym ℕ) → Type 0
  Covers γ δ = (st : List (Sym ℕ)) (w : List ℕ) → Der G (γ ++ st) w → Der G (δ ++ st) w

  behind : (Y : ℕ) (γ δ : List (Sym ℕ)) → Covers γ δ → Covers (N Y ∷ γ) (N Y ∷ δ)
  behind Y γ δ c st w d =
      let r = split d (N Y ∷ []) (γ ++ st) refl in
      subst (λ (x : List ℕ). Der G (N Y ∷ (δ ++ st)) x) (sym r.2) (der_append G r.3 (δ ++ st) r.1 (c st r.1 r.4))

  sub_covers : (n : ℕ) (γ δ : List (Sym ℕ)) → sub n γ δ ≡ true → Covers γ δ
  sub_covers zero γ δ e st w d = contra e
  sub_covers (suc n) [] δ e st w d = blank_all δ st w e d
  sub_covers (suc n) (T k ∷ γ) [] e st w d = contra e
  sub_covers (suc n) (T k ∷ γ) (T j ∷ δ) e st w d =
      let r = un_tok d in
      let h : k ≡ j = eqb-true k j (and_l (eqb k j) (sub n γ δ) e) in
      subst (λ (x : List ℕ). Der G (T j ∷ (δ ++ st)) x) (sym r.1) (subst (λ (i : ℕ). Der G (T i ∷ (δ ++ st)) (k ∷ r.0)) h (tok (sub_covers n γ δ (and_r (eqb k j) (sub n γ δ) e) st r.0 r.2)))
  sub_covers (suc n) (T k ∷ γ) (N X ∷ δ) e st w d =
      let by : (o : Option (List (Sym ℕ))) → find k (G.alts X) ≡ o → if_some o (λ β. sub n γ (β ++ δ)) (G.empty X && sub n (T k ∷ γ) δ) ≡ true → Der G (N X ∷ (δ ++ st)) w = elim [
        | some β ↦ λ f h.
            let r = un_tok d in
            subst (λ (x : List ℕ). Der G (N X ∷ (δ ++ st)) x) (sym r.1) (alt (found_mem k β (G.alts X) f) (rw append_assoc at (sub_covers n γ (β ++ δ) h st r.0 r.2)))
        | none ↦ λ f h. skip (and_l (G.empty X) (sub n (T k ∷ γ) δ) h) (sub_covers n (T k ∷ γ) δ (and_r (G.empty X) (sub n (T k ∷ γ) δ) h) st w d)
      ] in
      by (find k (G.alts X)) refl e
  sub_covers (suc n) (N Y ∷ γ) [] e st w d = contra e
  sub_covers (suc n) (N Y ∷ γ) (T j ∷ δ) e st w d = contra e
  sub_covers (suc n) (N Y ∷ γ) (N X ∷ δ) e st w d =
      let more : Bool = every (λ a. sub n (opened a γ) (N X ∷ δ)) (G.alts Y) && (not (G.empty Y) || sub n γ (N X ∷ δ)) in
      ⊎_elim
      (λ (h : eqb Y X ≡ true).
      let f : sub n γ δ ≡ true = sym (ap (λ (b : Bool). cond b (sub n γ δ) more) h) ∙ e in
      subst (λ (i : ℕ). Der G (N i ∷ (δ ++ st)) w) (eqb-true Y X h) (behind Y γ δ (sub_covers n γ δ f) st w d))
      (λ (h : eqb Y X ≡ false).
      let f : more ≡ true = sym (ap (λ (b : Bool). cond b (sub n γ δ) more) h) ∙ e in
      ⊎_elim
      (λ (o : (k : ℕ) × (β : List (Sym ℕ)) × Memᴰ (k ⇒ β) (G.alts Y) × Der G (T k ∷ (β ++ (γ ++ st))) w).
      let g : sub n (T o.0 ∷ (o.1 ++ γ)) (N X ∷ δ) ≡ true = every_at (λ a. sub n (opened a γ) (N X ∷ δ)) (G.alts Y) (and_l _ _ f) (o.0 ⇒ o.1) o.2 in
      sub_covers n (T o.0 ∷ (o.1 ++ γ)) (N X ∷ δ) g st w (subst (λ (x : List (Sym ℕ)). Der G (T o.0 ∷ x) w) (sym (append_assoc o.1 γ st)) o.3))
      (λ (o : (G.empty Y ≡ true) × Der G (γ ++ st) w).
      sub_covers n γ (N X ∷ δ) (or_not (G.empty Y) (sub n γ (N X ∷ δ)) (and_r (every (λ a. sub n (opened a γ) (N X ∷ δ)) (G.alts Y)) _ f) o.0) st w o.1)
      (un_nt d))
      (two (eqb Y X))

  -- 3. A symbol that ends in itself or its tail, where the tail may be empty or take η: with η behind it, it is the same symbol.
  abbrev last : (ℕ → Bool) → Bool → List (Sym ℕ) → Bool
  last c b [] = b
  last c b (T k ∷ l) = last c false l
  last c b (N X ∷ l) = last c (c X) l

  last_app : (c : ℕ → Bool) (b : Bool) (β α : List (Sym ℕ)) → last c b (β ++ α) ≡ last c (last c b β) α
  last_app c b [] α = refl
  last_app c b (T k ∷ β) α = last_app c false β α
  last_app c b (N X ∷ β) α = last_app c (c X) β α

  last_up : (c : ℕ → Bool) (a b : Bool) (α : List (Sym ℕ)) → (a ≡ true → b ≡ true) → last c a α ≡ true → last c b α ≡ true
  last_up c a b [] h e = h e
  last_up c a b (T k ∷ α) h e = e
  last_up c a b (N X ∷ α) h e = e

  last_cases : (c : ℕ → Bool) (b : Bool) (α : List (Sym ℕ)) → last c b α ≡ true → ((b ≡ true) × (α ≡ [])) ⊎ (last c false α ≡ true)
  last_cases c b [] e = inl (e, refl)
  last_cases c b (T k ∷ α) e = inr e
  last_cases c b (N X ∷ α) e = inr e

  module _ (c : ℕ → Bool) (η : List (Sym ℕ))
      (closed : (X : ℕ) → c X ≡ true → (k : ℕ) (β : List (Sym ℕ)) → Memᴰ (k ⇒ β) (G.alts X) → last c false β ≡ true)
      (ext : (X : ℕ) → c X ≡ true → G.empty X ≡ true → (v : List ℕ) → Der G η v → Der G (N X ∷ []) v) where
    grow : {st : List (Sym ℕ)} {u : List ℕ} → Der G st u → last c false st ≡ true → (v : List ℕ) → Der G η v → Der G st (u ++ v)
    grow end e v x = contra e
    grow (tok d) e v x = tok (grow d e v x)
    grow (alt {X} {k} {α} {β} {w} m d) e v x = alt m (grow d (last_app c false β α ∙ last_up c (c X) (last c false β) α (λ h. closed X h k β m) e) v x)
    grow (skip {X} {α} {w} b d) e v x = ⊎_elim
        (λ (h : (c X ≡ true) × (α ≡ [])).
        let z : w ≡ [] = un_nil (subst (λ (l : List (Sym ℕ)). Der G l w) h.1 d) in
        subst (λ (l : List (Sym ℕ)). Der G (N X ∷ l) (w ++ v)) (sym h.1) (subst (λ (q : List ℕ). Der G (N X ∷ []) (q ++ v)) (sym z) (ext X h.0 b v x)))
        (λ (h : last c false α ≡ true). skip b (grow d h v x))
        (last_cases c (c X) α e)

  module _ (fuel : ℕ) (tail : ℕ → ℕ) where
    abbrev either : ℕ → ℕ → Bool
    either A X = eqb X A || eqb X (tail A)

    abbrev ends_in : (ℕ → Bool) → Alt ℕ → Bool
    ends_in c (k ⇒ β) = last c false β

    abbrev grows_by : ℕ → List (Sym ℕ) → Bool
    grows_by A η = every (ends_in (either A)) (G.alts A) && (every (ends_in (either A)) (G.alts (tail A)) && (not (G.empty A) && sub fuel η (N (tail A) ∷ [])))

    abbrev pub grows : List (Sym ℕ) → List (Sym ℕ) → Bool
    grows (N A ∷ η) (N B ∷ []) = eqb A B && grows_by A η
    grows (N A ∷ η) (N B ∷ s ∷ δ) = false
    grows (N A ∷ η) (T k ∷ δ) = false
    grows (N A ∷ η) [] = false
    grows (T k ∷ η) δ = false
    grows [] δ = false

    grown : (A : ℕ) (η : List (Sym ℕ)) → grows_by A η ≡ true → Covers (N A ∷ η) (N A ∷ [])
    grown A η e st w d =
        let e₁ = and_l (every (ends_in (either A)) (G.alts A)) _ e in
        let f = and_r (every (ends_in (either A)) (G.alts A)) _ e in
        let e₂ = and_l (every (ends_in (either A)) (G.alts (tail A))) _ f in
        let g = and_r (every (ends_in (either A)) (G.alts (tail A))) _ f in
        let e₃ = and_l (not (G.empty A)) _ g in
        let e₄ = and_r (not (G.empty A)) _ g in
        let closed : (X : ℕ) → either A X ≡ true → (k : ℕ) (β : List (Sym ℕ)) → Memᴰ (k ⇒ β) (G.alts X) → last (either A) false β ≡ true = λ X h k β m. ⊎_elim
        (λ (i : eqb X A ≡ true). every_at (ends_in (either A)) (G.alts A) e₁ (k ⇒ β) (subst (λ (j : ℕ). Memᴰ (k ⇒ β) (G.alts j)) (eqb-true X A i) m))
        (λ (i : eqb X (tail A) ≡ true). every_at (ends_in (either A)) (G.alts (tail A)) e₂ (k ⇒ β) (subst (λ (j : ℕ). Memᴰ (k ⇒ β) (G.alts j)) (eqb-true X (tail A) i) m))
        (or_cases (eqb X A) (eqb X (tail A)) h) in
        let ext : (X : ℕ) → either A X ≡ true → G.empty X ≡ true → (v : List ℕ) → Der G η v → Der G (N X ∷ []) v = λ X h b v x. ⊎_elim
        (λ (i : eqb X A ≡ true). not_both (G.empty A) e₃ (subst (λ (j : ℕ). G.empty j ≡ true) (eqb-true X A i) b))
        (λ (i : eqb X (tail A) ≡ true). subst (λ (j : ℕ). Der G (N j ∷ []) v) (sym (eqb-true X (tail A) i)) (sub_covers fuel η (N (tail A) ∷ []) e₄ [] v (subst (λ (l : List (Sym ℕ)). Der G l v) (sym (append-nil η)) x)))
        (or_cases (eqb X A) (eqb X (tail A)) h) in
        let r = split d (N A ∷ []) (η ++ st) refl in
        let q = split r.4 η st refl in
        let at_A : either A A ≡ true = ap (λ (b : Bool). b || eqb A (tail A)) (eq-eqb A A refl) in
        let y : Der G (N A ∷ []) (r.0 ++ q.0) = grow (either A) η closed ext r.3 at_A q.0 q.3 in
        let z : w ≡ (r.0 ++ q.0) ++ q.1 = r.2 ∙ ap (λ (x : List ℕ). r.0 ++ x) q.2 ∙ sym (append_assoc r.0 q.0 q.1) in
        subst (λ (x : List ℕ). Der G (N A ∷ st) x) (sym z) (der_append G y st q.1 q.4)

    grows_covers : (γ δ : List (Sym ℕ)) → grows γ δ ≡ true → Covers γ δ
    grows_covers (N A ∷ η) (N B ∷ []) e st w d = subst (λ (j : ℕ). Der G (N j ∷ st) w) (eqb-true A B (and_l (eqb A B) _ e)) (grown A η (and_r (eqb A B) _ e) st w d)
    grows_covers (N A ∷ η) (N B ∷ s ∷ δ) e st w d = contra e
    grows_covers (N A ∷ η) (T k ∷ δ) e st w d = contra e
    grows_covers (N A ∷ η) [] e st w d = contra e
    grows_covers (T k ∷ η) δ e st w d = contra e
    grows_covers [] δ e st w d = contra e

    -- 4. The test, and what it shows.
    module _ (P : List Rule) (image : ℕ → List (List (Sym ℕ))) where
      abbrev pub each : List (Sym ℕ) → (List (Sym ℕ) → Bool) → Bool
      each [] f = f []
      each (T k ∷ α) f = each α (λ γ. f (T k ∷ γ))
      each (N A ∷ α) f = every (λ δ. each α (λ γ. f (δ ++ γ))) (image A)

      abbrev pub covered : ℕ → List (Sym ℕ) → Bool
      covered A γ = some_one (λ δ. sub fuel γ δ || grows γ δ) (image A)

      abbrev pub admits : Rule → Bool
      admits (A ⟶ β) = each β (covered A)

      data Image : List (Sym ℕ) → List (Sym ℕ) → Type 0 where
        i_end : Image [] []
        i_tok : {k : ℕ} {α γ : List (Sym ℕ)} → Image α γ → Image (T k ∷ α) (T k ∷ γ)
        i_nt : {A : ℕ} {α δ γ : List (Sym ℕ)} → Memᴰ δ (image A) → Image α γ → Image (N A ∷ α) (δ ++ γ)

      each_at : {β γ : List (Sym ℕ)} → Image β γ → (f : List (Sym ℕ) → Bool) → each β f ≡ true → f γ ≡ true
      each_at i_end f e = e
      each_at (i_tok {k} i) f e = each_at i (λ γ. f (T k ∷ γ)) e
      each_at (i_nt {A} {α} {δ} {γ} m i) f e = each_at i (λ γ. f (δ ++ γ)) (every_at (λ δ. each α (λ γ. f (δ ++ γ))) (image A) e δ m)

      abbrev Parts : List (Sym ℕ) → List (Sym ℕ) → List (Sym ℕ) → Type 0
      Parts β α γ = (x : List (Sym ℕ)) × (y : List (Sym ℕ)) × (γ ≡ x ++ y) × Image β x × Image α y

      un_i_tok : {k : ℕ} {α γ : List (Sym ℕ)} → Image (T k ∷ α) γ → (y : List (Sym ℕ)) × (γ ≡ T k ∷ y) × Image α y
      un_i_tok (i_tok {γ = y} i) = (y, refl, i)

      un_i_nt : {A : ℕ} {α γ : List (Sym ℕ)} → Image (N A ∷ α) γ → (δ : List (Sym ℕ)) × (y : List (Sym ℕ)) × (γ ≡ δ ++ y) × Memᴰ δ (image A) × Image α y
      un_i_nt (i_nt {δ = δ} {γ = y} m i) = (δ, y, refl, m, i)

      un_i_end : {γ : List (Sym ℕ)} → Image [] γ → γ ≡ []
      un_i_end i_end = refl

      only : {δ η : List (Sym ℕ)} → Memᴰ δ (η ∷ []) → δ ≡ η
      only {δ} {η} m = ⊎_elim (λ (h : δ ≡ η). h) (λ (n : Memᴰ δ []). absurd (Memᴰ.not-nil n)) (Memᴰ.cases_cons m)

      parts : (β α γ : List (Sym ℕ)) → Image (β ++ α) γ → Parts β α γ
      parts [] α γ i = ([], γ, refl, i_end, i)
      parts (T k ∷ β) α γ i =
          let u = un_i_tok i in
          let r = parts β α u.0 u.2 in
          (T k ∷ r.0, r.1, u.1 ∙ ap (λ (x : List (Sym ℕ)). T k ∷ x) r.2, i_tok r.3, r.4)
      parts (N A ∷ β) α γ i =
          let u = un_i_nt i in
          let r = parts β α u.1 u.4 in
          (u.0 ++ r.0, r.1, u.2 ∙ ap (λ (x : List (Sym ℕ)). u.0 ++ x) r.2 ∙ sym (append_assoc u.0 r.0 r.1), i_nt u.3 r.3, r.4)

      covered_at : (A : ℕ) (γ : List (Sym ℕ)) → covered A γ ≡ true → (δ : List (Sym ℕ)) × Memᴰ δ (image A) × Covers γ δ
      covered_at A γ e =
          let r = some_at (λ δ. sub fuel γ δ || grows γ δ) (image A) e in (
            r.0,
            r.1,
            λ st w d. ⊎_elim
                (λ (h : sub fuel γ r.0 ≡ true). sub_covers fuel γ r.0 h st w d)
                (λ (h : grows γ r.0 ≡ true). grows_covers γ r.0 h st w d)
                (or_cases (sub fuel γ r.0) (grows γ r.0) r.2),
          )

      module _ (all_admitted : every admits P ≡ true) where
        forth : {α : List (Sym ℕ)} {w : List ℕ} → Yields P α w → (γ : List (Sym ℕ)) × Image α γ × Der G γ w
        forth y_done = ([], i_end, end)
        forth (y_token {k} d) = let r = forth d in (T k ∷ r.0, i_tok r.1, tok r.2)
        forth (y_rule {A} {α} {β} {w} m d) =
            let r = forth d in
            let p = parts β α r.0 r.1 in
            let c = covered_at A p.0 (each_at p.3 (covered A) (every_at admits P all_admitted (A ⟶ β) m)) in
            (c.0 ++ p.1, i_nt c.1 p.4, c.2 p.1 w (subst (λ (x : List (Sym ℕ)). Der G x w) p.2 r.2))

        pub forward : (A X : ℕ) → image A ≡ (N X ∷ []) ∷ [] → {w : List ℕ} → Yields P (N A ∷ []) w → Der G (N X ∷ []) w
        forward A X e {w} d =
            let r = forth d in
            let u = un_i_nt r.1 in
            let z : u.1 ≡ [] = un_i_end u.4 in
            let m : u.0 ≡ N X ∷ [] = only (subst (λ (l : List (List (Sym ℕ))). Memᴰ u.0 l) e u.3) in
            subst (λ (x : List (Sym ℕ)). Der G x w) (u.2 ∙ ap (λ (x : List (Sym ℕ)). u.0 ++ x) z ∙ append-nil u.0 ∙ m) r.2
