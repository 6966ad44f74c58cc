-- A test, computed, that what a grammar in the machine's form derives is derived by a printed one.
-- Each symbol X of the form has a meaning in print: with `before X` read, X makes `beyond X` of it (both written from the last symbol to the first).
-- The test: from each alternative of X, with `before X` read, one comes to `beyond X` by reading its symbols and by gathering up the last of what was read by printed productions. It is found by search, which reads on where it can.
use Rattle.std.specs.Prelude.{ℕ, zero, suc, ◌≡◌, refl, Bool, true, false, cond, ◌&&◌, ◌||◌, not, eqb}
use Rattle.std.proofs.Common.{sym, ap, subst, ◌∙◌, ⊎_elim, arith, eqb-true}
use Rattle.std.proofs.Math.Option.{Option, none, some}
use mathlib.Core.List.{List, [], ◌∷◌, ◌++◌, append-nil, Memᴰ}
use Rattle.paper_expressions.proofs.Laws.Tests.{contra, and_l, and_r, or_cases, or_not, two, every, every_at, some_one, some_at}
use Rattle.paper_grammar.proofs.Laws.Ll.{Sym, T, N, Alt, ◌⇒◌, Grammar, Der, end, tok, alt, skip}
use Rattle.paper_grammar.proofs.Laws.Tagged.{Rule, ◌⟶◌, Yields, y_done, y_token, y_rule}

abbrev Seq : Type 0
Seq = List (Sym ℕ)

none_some : {A B : Type 0} {x : B} → ◌≡◌ {A = Option B} none (some x) → A
none_some e = absurd (let z : ◌≡◌ {A = ℕ} 0 1 = cc in omega arith)

some_same : {B : Type 0} {x y : B} → ◌≡◌ {A = Option B} (some x) (some y) → x ≡ y
some_same e = cc

abbrev bind : {A B : Type 0} → Option A → (A → Option B) → Option B
bind none f = none
bind (some x) f = f x

bound : {A B : Type 0} (o : Option A) (f : A → Option B) (y : B) → bind o f ≡ some y → (x : A) × (o ≡ some x) × (f x ≡ some y)
bound none f y e = none_some e
bound (some x) f y e = (x, refl, e)

-- sameness of symbols
abbrev same : Sym ℕ → Sym ℕ → Bool
same (T k) (T j) = eqb k j
same (T k) (N Y) = false
same (N X) (T j) = false
same (N X) (N Y) = eqb X Y

same_is : (s t : Sym ℕ) → same s t ≡ true → s ≡ t
same_is (T k) (T j) e = ap T (eqb-true k j e)
same_is (T k) (N Y) e = contra e
same_is (N X) (T j) e = contra e
same_is (N X) (N Y) e = ap N (eqb-true X Y e)

abbrev strip : Seq → Seq → Option Seq
strip [] c = some c
strip (s ∷ l) [] = none
strip (s ∷ l) (t ∷ c) = cond (same s t) (strip l c) none

strip_is : (l c γ : Seq) → strip l c ≡ some γ → c ≡ l ++ γ
strip_is [] c γ e = some_same e
strip_is (s ∷ l) [] γ e = none_some e
strip_is (s ∷ l) (t ∷ c) γ e = ⊎_elim
    (λ (h : same s t ≡ true).
    let a : s ≡ t = same_is s t h in
    let b : c ≡ l ++ γ = strip_is l c γ (sym (ap (λ (b : Bool). cond b (strip l c) none) h) ∙ e) in
    ap (λ (x : Sym ℕ). x ∷ c) (sym a) ∙ ap (λ (x : Seq). s ∷ x) b)
    (λ (h : same s t ≡ false). none_some (sym (ap (λ (b : Bool). cond b (strip l c) none) h) ∙ e))
    (two (same s t))

abbrev back : Seq → Seq → Seq
back [] δ = δ
back (s ∷ l) δ = back l (s ∷ δ)

back_back : (α δ ε : Seq) → back (back α δ) ε ≡ back δ (α ++ ε)
back_back [] δ ε = refl
back_back (s ∷ α) δ ε = back_back α (s ∷ δ) ε

module _ (P : List Rule) where
  -- these symbols can be read off the front of the first list, and the second is left
  data Off : Seq → List ℕ → List ℕ → Type 0 where
    o_end : {w : List ℕ} → Off [] w w
    o_tok : {k : ℕ} {α : Seq} {w r : List ℕ} → Off α w r → Off (T k ∷ α) (k ∷ w) r
    o_rule : {A : ℕ} {α β : Seq} {w v r : List ℕ} → Memᴰ (A ⟶ β) P → Off β w v → Off α v r → Off (N A ∷ α) w r

  off_derives : {γ : Seq} {w r : List ℕ} → Off γ w r → (st : Seq) → Yields P st r → Yields P (γ ++ st) w
  off_derives o_end st d = d
  off_derives (o_tok o) st d = y_token (off_derives o st d)
  off_derives (o_rule {α = α} m a b) st d = y_rule m (off_derives a (α ++ st) (off_derives b st d))

  off_app : {α : Seq} {w v : List ℕ} → Off α w v → {δ : Seq} {r : List ℕ} → Off δ v r → Off (α ++ δ) w r
  off_app o_end x = x
  off_app (o_tok o) x = o_tok (off_app o x)
  off_app (o_rule m a b) x = o_rule m a (off_app b x)

  -- the same, with the last symbol first
  abbrev Past : Seq → List ℕ → List ℕ → Type 0
  Past [] p r = p ≡ r
  Past (s ∷ γ) p r = (q : List ℕ) × Past γ p q × Off (s ∷ []) q r

  past_app : (ρ γ : Seq) (p q r : List ℕ) → Past γ p q → Past ρ q r → Past (ρ ++ γ) p r
  past_app [] γ p q r a b = subst (λ (x : List ℕ). Past γ p x) b a
  past_app (s ∷ ρ) γ p q r a b = (b.0, past_app ρ γ p q b.0 a b.1, b.2)

  past_split : (ρ γ : Seq) (p r : List ℕ) → Past (ρ ++ γ) p r → (q : List ℕ) × Past γ p q × Past ρ q r
  past_split [] γ p r a = (r, a, refl)
  past_split (s ∷ ρ) γ p r a = let x = past_split ρ γ p a.0 a.1 in (x.0, x.1, (a.0, x.2, a.2))

  past_off : (l δ : Seq) (p q r : List ℕ) → Past l p q → Off δ q r → Off (back l δ) p r
  past_off [] δ p q r a o = subst (λ (x : List ℕ). Off δ x r) (sym a) o
  past_off (s ∷ l) δ p q r a o = past_off l (s ∷ δ) p a.0 r a.1 (off_app a.2 o)

  -- gathering up by productions
  abbrev gather : Rule → Seq → Option Seq
  gather (A ⟶ ρ) c = bind (strip ρ c) (λ γ. some (N A ∷ γ))

  -- the productions with the last symbol first
  abbrev pub turn : Rule → Rule
  turn (A ⟶ α) = A ⟶ back α []

  abbrev Turned : Rule → Type 0
  Turned (A ⟶ ρ) = Memᴰ (A ⟶ back ρ []) P

  turn_mem : (p : Rule) → Memᴰ p P → Turned (turn p)
  turn_mem (A ⟶ α) m = subst (λ (l : Seq). Memᴰ (A ⟶ l) P) (sym (back_back α [] [] ∙ append-nil α)) m

  -- by their last symbols
  abbrev ends_with : Sym ℕ → Rule → Bool
  ends_with s (A ⟶ []) = false
  ends_with s (A ⟶ t ∷ ρ) = same s t

  abbrev blank_rule : Rule → Bool
  blank_rule (A ⟶ []) = true
  blank_rule (A ⟶ t ∷ ρ) = false

  abbrev turned : (Rule → Bool) → List Rule → List Rule
  turned f [] = []
  turned f (p ∷ l) = cond (f (turn p)) (turn p ∷ turned f l) (turned f l)

  abbrev table : (ℕ → Sym ℕ) → ℕ → ℕ → List (List Rule)
  table s zero i = []
  table s (suc n) i = turned (ends_with (s i)) P ∷ table s n (suc i)

  abbrev at : List (List Rule) → ℕ → List Rule
  at [] i = []
  at (l ∷ t) zero = l
  at (l ∷ t) (suc i) = at t i

  abbrev pub choose_by : List Rule → List (List Rule) → List (List Rule) → Seq → List Rule
  choose_by e ts ns [] = e
  choose_by e ts ns (T k ∷ c) = at ts k
  choose_by e ts ns (N A ∷ c) = at ns A

  -- tokens and nonterminals below n
  abbrev pub candidates : ℕ → Seq → List Rule
  candidates n = choose_by (turned blank_rule P) (table (λ k. T k) n 0) (table (λ A. N A) n 0)

  turned_in : (f : Rule → Bool) (l : List Rule) → ((p : Rule) → Memᴰ p l → Memᴰ p P) → (q : Rule) → Memᴰ q (turned f l) → Turned q
  turned_in f [] h q m = absurd (mathlib.Core.List.Memᴰ.not-nil m)
  turned_in f (p ∷ l) h q m =
      let rest : Memᴰ q (turned f l) → Turned q = turned_in f l (λ x k. h x (mathlib.Core.List.Memᴰ.tail k)) q in
      ⊎_elim
      (λ (t : f (turn p) ≡ true). ⊎_elim
      (λ (e : q ≡ turn p). subst Turned (sym e) (turn_mem p (h p (mathlib.Core.List.Memᴰ.head refl))))
      rest
      (mathlib.Core.List.Memᴰ.cases_cons (subst (λ (b : Bool). Memᴰ q (cond b (turn p ∷ turned f l) (turned f l))) t m)))
      (λ (t : f (turn p) ≡ false). rest (subst (λ (b : Bool). Memᴰ q (cond b (turn p ∷ turned f l) (turned f l))) t m))
      (two (f (turn p)))

  table_in : (s : ℕ → Sym ℕ) (n i j : ℕ) (q : Rule) → Memᴰ q (at (table s n i) j) → Turned q
  table_in s zero i j q m = absurd (mathlib.Core.List.Memᴰ.not-nil m)
  table_in s (suc n) i zero q m = turned_in (ends_with (s i)) P (λ p k. k) q m
  table_in s (suc n) i (suc j) q m = table_in s n (suc i) j q m

  pub candidates_in : (n : ℕ) (c : Seq) (q : Rule) → Memᴰ q (candidates n c) → Turned q
  candidates_in n [] q m = turned_in blank_rule P (λ p k. k) q m
  candidates_in n (T k ∷ c) q m = table_in (λ k. T k) n 0 k q m
  candidates_in n (N A ∷ c) q m = table_in (λ A. N A) n 0 A q m

  gathered : (p : Rule) (c f : Seq) → Turned p → gather p c ≡ some f → (q r : List ℕ) → Past c q r → Past f q r
  gathered (A ⟶ ρ) c f m e q r a =
      let x = bound (strip ρ c) (λ γ. some (N A ∷ γ)) f e in
      let s = past_split ρ x.0 q r (subst (λ (y : Seq). Past y q r) (strip_is ρ c x.0 x.1) a) in
      subst (λ (y : Seq). Past y q r) (some_same x.2) (s.0, s.1, o_rule m (past_off ρ [] s.0 r r s.2 o_end) o_end)

  module _ (G : Grammar ℕ) (before beyond : ℕ → Seq) where
    abbrev push : Sym ℕ → Seq → Option Seq
    push (T k) c = some (T k ∷ c)
    push (N Y) c = bind (strip (before Y) c) (λ γ. some (beyond Y ++ γ))

    abbrev Den : ℕ → List ℕ → List ℕ → Type 0
    Den X w v = (p : List ℕ) → Past (before X) p w → Past (beyond X) p v

    abbrev Reads : Seq → List ℕ → Type 0
    Reads [] w = w ≡ []
    Reads (T k ∷ st) w = (v : List ℕ) × (w ≡ k ∷ v) × Reads st v
    Reads (N X ∷ st) w = (v : List ℕ) × Den X w v × Reads st v

    -- to read β makes f of c
    abbrev Makes : Seq → Seq → Seq → Type 0
    Makes c β f = (st : Seq) (w : List ℕ) → Reads (β ++ st) w → (v : List ℕ) × ((p : List ℕ) → Past c p w → Past f p v) × Reads st v

    makes_after : (c d β f : Seq) → ((q r : List ℕ) → Past c q r → Past d q r) → Makes d β f → Makes c β f
    makes_after c d β f h m st w r = let i = m st w r in (i.0, (λ p a. i.1 p (h p w a)), i.2)

    pushed : (s : Sym ℕ) (β c d f : Seq) → push s c ≡ some d → Makes d β f → Makes c (s ∷ β) f
    pushed (T k) β c d f e m st w r =
        let i = m st r.0 r.2 in
        (i.0, (λ p a. i.1 p (subst (λ (l : Seq). Past l p r.0) (some_same e) (w, a, subst (λ (y : List ℕ). Off (T k ∷ []) y r.0) (sym r.1) (o_tok o_end)))), i.2)
    pushed (N Y) β c d f e m st w r =
        let z = bound (strip (before Y) c) (λ γ. some (beyond Y ++ γ)) d e in
        let i = m st r.0 r.2 in (
          i.0,
          (λ p a.
              let b : Past (before Y ++ z.0) p w = subst (λ (l : Seq). Past l p w) (strip_is (before Y) c z.0 z.1) a in
              let s = past_split (before Y) z.0 p w b in
              i.1 p (subst (λ (l : Seq). Past l p r.0) (some_same z.2) (past_app (beyond Y) z.0 p s.0 r.0 s.1 (r.1 s.0 s.2)))),
          i.2,
        )

    -- the search
    abbrev equal : Seq → Seq → Bool
    equal [] [] = true
    equal [] (t ∷ f) = false
    equal (s ∷ c) [] = false
    equal (s ∷ c) (t ∷ f) = same s t && equal c f

    equal_is : (c f : Seq) → equal c f ≡ true → c ≡ f
    equal_is [] [] e = refl
    equal_is [] (t ∷ f) e = contra e
    equal_is (s ∷ c) [] e = contra e
    equal_is (s ∷ c) (t ∷ f) e = ap (λ (x : Sym ℕ). x ∷ c) (same_is s t (and_l (same s t) (equal c f) e)) ∙ ap (λ (x : Seq). t ∷ x) (equal_is c f (and_r (same s t) (equal c f) e))

    abbrev when : Option Seq → (Seq → Bool) → Bool
    when none f = false
    when (some d) f = f d

    when_is : (o : Option Seq) (f : Seq → Bool) → when o f ≡ true → (d : Seq) × (o ≡ some d) × (f d ≡ true)
    when_is none f e = contra e
    when_is (some d) f e = (d, refl, e)

    -- (R c: productions, last symbol first, that may gather up the end of c)
    abbrev pub reach : (Seq → List Rule) → ℕ → Seq → Seq → Seq → Bool
    reach R zero c β f = false
    reach R (suc n) c [] f = equal c f || some_one (λ p. when (gather p c) (λ d. reach R n d [] f)) (R c)
    reach R (suc n) c (s ∷ β) f = when (push s c) (λ d. reach R n d β f) || some_one (λ p. when (gather p c) (λ d. reach R n d (s ∷ β) f)) (R c)

    -- what is empty in print may stand first
    abbrev pub from_start : (Seq → List Rule) → ℕ → Seq → Seq → Seq → Bool
    from_start R n c β f = reach R n c β f || some_one (λ p. when (gather p c) (λ d. reach R n d β f)) (R [])

    -- the test at a symbol: its alternatives, and that it may be empty
    abbrev pub alt_meant : (Seq → List Rule) → ℕ → ℕ → Alt ℕ → Bool
    alt_meant R n X (k ⇒ β) = from_start R n (before X) (T k ∷ β) (beyond X)

    abbrev pub meant : (Seq → List Rule) → ℕ → ℕ → Bool
    meant R n X = every (alt_meant R n X) (G.alts X) && (not (G.empty X) || from_start R n (before X) [] (beyond X))

    module _ (R : Seq → List Rule) (R-is : (c : Seq) (q : Rule) → Memᴰ q (R c) → Turned q) where
      gathers : (n : ℕ) (c β f : Seq) → ((d : Seq) → reach R n d β f ≡ true → Makes d β f) → some_one (λ p. when (gather p c) (λ d. reach R n d β f)) (R c) ≡ true → Makes c β f
      gathers n c β f h e =
          let x = some_at (λ p. when (gather p c) (λ d. reach R n d β f)) (R c) e in
          let y = when_is (gather x.0 c) (λ d. reach R n d β f) x.2 in
          makes_after c y.0 β f (gathered x.0 c y.0 (R-is c x.0 x.1) y.1) (h y.0 y.2)

      reached : (n : ℕ) (c β f : Seq) → reach R n c β f ≡ true → Makes c β f
      reached zero c β f e = contra e
      reached (suc n) c [] f e = ⊎_elim
          (λ (h : equal c f ≡ true) (st : Seq) (w : List ℕ) (r : Reads st w). (w, (λ p a. subst (λ (l : Seq). Past l p w) (equal_is c f h) a), r))
          (λ h. gathers n c [] f (λ d g. reached n d [] f g) h)
          (or_cases (equal c f) _ e)
      reached (suc n) c (s ∷ β) f e = ⊎_elim
          (λ (h : when (push s c) (λ d. reach R n d β f) ≡ true). let y = when_is (push s c) (λ d. reach R n d β f) h in pushed s β c y.0 f y.1 (reached n y.0 β f y.2))
          (λ h. gathers n c (s ∷ β) f (λ d g. reached n d (s ∷ β) f g) h)
          (or_cases (when (push s c) (λ d. reach R n d β f)) _ e)

      from_start_makes : (n : ℕ) (c β f : Seq) → from_start R n c β f ≡ true → Makes c β f
      from_start_makes n c β f e = ⊎_elim
          (λ (h : reach R n c β f ≡ true). reached n c β f h)
          (λ (h : some_one (λ p. when (gather p c) (λ d. reach R n d β f)) (R []) ≡ true).
          let x = some_at (λ p. when (gather p c) (λ d. reach R n d β f)) (R []) h in
          let y = when_is (gather x.0 c) (λ d. reach R n d β f) x.2 in
          makes_after c y.0 β f (gathered x.0 c y.0 (R-is [] x.0 x.1) y.1) (reached n y.0 β f y.2))
          (or_cases (reach R n c β f) _ e)

      module _ (n : ℕ) (all_meant : (X : ℕ) → meant R n X ≡ true) where
        reads : {st : Seq} {w : List ℕ} → Der G st w → Reads st w
        reads end = refl
        reads (tok {w = w} d) = (w, refl, reads d)
        reads (alt {X} {k} {α} {β} {w} m d) =
            from_start_makes n (before X) (T k ∷ β) (beyond X) (every_at (alt_meant R n X) (G.alts X) (and_l _ _ (all_meant X)) (k ⇒ β) m) α (k ∷ w) (w, refl, reads d)
        reads (skip {X} {α} {w} b d) =
            from_start_makes n (before X) [] (beyond X) (or_not (G.empty X) _ (and_r (every (alt_meant R n X) (G.alts X)) _ (all_meant X)) b) α w (reads d)

        pub backward : (A X : ℕ) → before X ≡ [] → beyond X ≡ N A ∷ [] → {w : List ℕ} → Der G (N X ∷ []) w → Yields P (N A ∷ []) w
        backward A X e f {w} d =
            let r = reads d in
            let a : Past (before X) w w = subst (λ (l : Seq). Past l w w) (sym e) refl in
            let b : Past (N A ∷ []) w r.0 = subst (λ (l : Seq). Past l w r.0) f (r.1 w a) in
            let o : Off (N A ∷ []) w r.0 = subst (λ (x : List ℕ). Off (N A ∷ []) x r.0) (sym b.1) b.2 in
            off_derives o [] (subst (λ (x : List ℕ). Yields P [] x) (sym r.2) y_done)
