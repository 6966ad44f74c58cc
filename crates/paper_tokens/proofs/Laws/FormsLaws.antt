-- Whether a form matches can be computed: by what it still asks for after each byte (its derivative), one law for every form.
use Rattle.std.specs.Prelude.{ℕ, ◌≡◌, refl, Bool, true, false, cond, ◌&&◌, ◌||◌, not, ◌⊎◌, List, [], ◌∷◌, ◌++◌}
use Rattle.std.proofs.Common.{sym, ap, subst, ◌∙◌, inl, inr, ⊎_elim, arith}
use Rattle.paper_expressions.proofs.Laws.Tests.{Iff, contra, two, and_l, and_r, both, or_cases, or_l, or_r, not_both, every}
use Rattle.paper_tokens.specs.Kinds.{kind_of}
use Rattle.paper_tokens.specs.Forms.{Form, never, empty, any, one, ◌then◌, ◌or◌, many, no, Then, Many, stop, more, One, Match, is_in}

-- the empty part matches
unfoldable pub nul : Form → Bool
nul never = false
nul empty = true
nul any = true
nul (one ks) = false
nul (x then y) = nul x && nul y
nul (x or y) = nul x || nul y
nul (many x) = true
nul (no x) = not (nul x)

abbrev pub sthen : Form → Form → Form
sthen never y = never
sthen empty y = y
sthen any y = any then y
sthen (one ks) y = (one ks) then y
sthen (a then b) y = (a then b) then y
sthen (a or b) y = (a or b) then y
sthen (many a) y = (many a) then y
sthen (no a) y = (no a) then y

abbrev pub ror : Form → Form → Form
ror x never = x
ror x empty = x or empty
ror x any = any
ror x (one ks) = x or (one ks)
ror x (a then b) = x or (a then b)
ror x (a or b) = x or (a or b)
ror x (many a) = x or (many a)
ror x (no a) = x or (no a)

abbrev pub sor : Form → Form → Form
sor never y = y
sor empty y = ror empty y
sor any y = any
sor (one ks) y = ror (one ks) y
sor (a then b) y = ror (a then b) y
sor (a or b) y = ror (a or b) y
sor (many a) y = ror (many a) y
sor (no a) y = ror (no a) y

abbrev pub sno : Form → Form
sno never = no never
sno empty = no empty
sno any = never
sno (one ks) = no (one ks)
sno (a then b) = no (a then b)
sno (a or b) = no (a or b)
sno (many a) = no (many a)
sno (no a) = no (no a)

unfoldable pub deriv : ℕ → Form → Form
unfolding nul
deriv k never = never
deriv k empty = never
deriv k any = any
deriv k (one ks) = cond (is_in k ks) empty never
deriv k (x then y) = cond (nul x) (sor (sthen (deriv k x) y) (deriv k y)) (sthen (deriv k x) y)
deriv k (x or y) = sor (deriv k x) (deriv k y)
deriv k (many x) = sthen (deriv k x) (many x)
deriv k (no x) = sno (deriv k x)

pub no_nil : {A : Type 0} {b : ℕ} {w : List ℕ} → [] ≡ b ∷ w → A
no_nil e = absurd (let z : ◌≡◌ {A = ℕ} 0 1 = cc in omega arith)

nil_left : (u v : List ℕ) → [] ≡ u ++ v → u ≡ []
nil_left [] v e = refl
nil_left (c ∷ u) v e = no_nil e

nil_right : (u v : List ℕ) → [] ≡ u ++ v → v ≡ []
nil_right [] v e = sym e
nil_right (c ∷ u) v e = no_nil e

module _ (P Q : List ℕ → Type 0) where
  cut_at : {b : ℕ} {w : List ℕ} (u v : List ℕ) → b ∷ w ≡ u ++ v → P u → Q v → (P [] × Q (b ∷ w)) ⊎ Then (λ (u : List ℕ). P (b ∷ u)) Q w
  cut_at [] v e p q = inl (p, subst Q (sym e) q)
  cut_at {b} {w} (c ∷ u) v e p q =
      let f : c ≡ b = cc in
      let g : w ≡ u ++ v = cc in
      inr (record { first = u; rest = v; is = g; is_first = subst (λ (x : ℕ). P (x ∷ u)) f p; is_rest = q })

  cut : {b : ℕ} {w : List ℕ} → Then P Q (b ∷ w) → (P [] × Q (b ∷ w)) ⊎ Then (λ (u : List ℕ). P (b ∷ u)) Q w
  cut m = cut_at m.first m.rest m.is m.is_first m.is_rest

module _ {P Q : List ℕ → Type 0} where
  glue_l : {w : List ℕ} → P [] → Q w → Then P Q w
  glue_l {w} p q = record { first = []; rest = w; is = refl; is_first = p; is_rest = q }

  glue_r : {b : ℕ} {w : List ℕ} → Then (λ (u : List ℕ). P (b ∷ u)) Q w → Then P Q (b ∷ w)
  glue_r {b} {w} m = record { first = b ∷ m.first; rest = m.rest; is = ap (λ (x : List ℕ). b ∷ x) m.is; is_first = m.is_first; is_rest = m.is_rest }

map_then : {P P' Q : List ℕ → Type 0} {w : List ℕ} → ((u : List ℕ) → P u → P' u) → Then P Q w → Then P' Q w
map_then f m = record { first = m.first; rest = m.rest; is = m.is; is_first = f m.first m.is_first; is_rest = m.is_rest }

cut_many : {P : List ℕ → Type 0} {b : ℕ} {w s : List ℕ} → Many P s → s ≡ b ∷ w → Then (λ (u : List ℕ). P (b ∷ u)) (Many P) w
cut_many stop h = no_nil h
cut_many (more [] v e p m) h = cut_many m (sym e ∙ h)
cut_many {P} {b} {w} (more (c ∷ u) v e p m) h =
    let f : c ≡ b = cc in
    let g : w ≡ u ++ v = cc in
    record { first = u; rest = v; is = g; is_first = subst (λ (x : ℕ). P (x ∷ u)) f p; is_rest = m }

glue_many : {P : List ℕ → Type 0} {b : ℕ} {w : List ℕ} → Then (λ (u : List ℕ). P (b ∷ u)) (Many P) w → Many P (b ∷ w)
glue_many {P} {b} m = more (b ∷ m.first) m.rest (ap (λ (x : List ℕ). b ∷ x) m.is) m.is_first m.is_rest

-- the short forms match alike
sthen_law : (x y : Form) (w : List ℕ) → Iff (Match (x then y) w) (Match (sthen x y) w)
unfolding Match
sthen_law never y w = (λ m. m.is_first, λ m. absurd m)
sthen_law empty y w =
    (λ m. subst (λ (v : List ℕ). Match y v) (sym (m.is ∙ ap (λ (u : List ℕ). u ++ m.rest) m.is_first)) m.is_rest, λ m. glue_l refl m)
sthen_law any y w = (λ m. m, λ m. m)
sthen_law (one ks) y w = (λ m. m, λ m. m)
sthen_law (a then b) y w = (λ m. m, λ m. m)
sthen_law (a or b) y w = (λ m. m, λ m. m)
sthen_law (many a) y w = (λ m. m, λ m. m)
sthen_law (no a) y w = (λ m. m, λ m. m)

ror_law : (x y : Form) (w : List ℕ) → Iff (Match x w ⊎ Match y w) (Match (ror x y) w)
unfolding Match
ror_law x never w = (⊎_elim (λ m. m) (λ m. absurd m), λ m. inl m)
ror_law x empty w = (λ m. m, λ m. m)
ror_law x any w = (λ m. tt, λ m. inr tt)
ror_law x (one ks) w = (λ m. m, λ m. m)
ror_law x (a then b) w = (λ m. m, λ m. m)
ror_law x (a or b) w = (λ m. m, λ m. m)
ror_law x (many a) w = (λ m. m, λ m. m)
ror_law x (no a) w = (λ m. m, λ m. m)

sor_law : (x y : Form) (w : List ℕ) → Iff (Match x w ⊎ Match y w) (Match (sor x y) w)
unfolding Match
sor_law never y w = (⊎_elim (λ m. absurd m) (λ m. m), λ m. inr m)
sor_law empty y w = ror_law empty y w
sor_law any y w = (λ m. tt, λ m. inl tt)
sor_law (one ks) y w = ror_law (one ks) y w
sor_law (a then b) y w = ror_law (a then b) y w
sor_law (a or b) y w = ror_law (a or b) y w
sor_law (many a) y w = ror_law (many a) y w
sor_law (no a) y w = ror_law (no a) y w

sno_law : (x : Form) (w : List ℕ) → Iff (Match x w → ⊥) (Match (sno x) w)
unfolding Match
sno_law never w = (λ m. m, λ m. m)
sno_law empty w = (λ m. m, λ m. m)
sno_law any w = (λ m. m tt, λ m. absurd m)
sno_law (one ks) w = (λ m. m, λ m. m)
sno_law (a then b) w = (λ m. m, λ m. m)
sno_law (a or b) w = (λ m. m, λ m. m)
sno_law (many a) w = (λ m. m, λ m. m)
sno_law (no a) w = (λ m. m, λ m. m)

pub nul_law : (x : Form) → Iff (Match x []) (nul x ≡ true)
unfolding Match nul
nul_law never = (λ m. absurd m, λ e. contra e)
nul_law empty = (λ m. refl, λ e. refl)
nul_law any = (λ m. refl, λ e. tt)
nul_law (one ks) = (λ m. no_nil m.is, λ e. contra e)
nul_law (x then y) = (
  λ m. both (nul x) (nul y)
      ((nul_law x).0 (subst (λ (u : List ℕ). Match x u) (nil_left m.first m.rest m.is) m.is_first))
      ((nul_law y).0 (subst (λ (u : List ℕ). Match y u) (nil_right m.first m.rest m.is) m.is_rest)),
  λ e. glue_l ((nul_law x).1 (and_l (nul x) (nul y) e)) ((nul_law y).1 (and_r (nul x) (nul y) e)),
)
nul_law (x or y) = (
  ⊎_elim (λ m. or_l (nul x) (nul y) ((nul_law x).0 m)) (λ m. or_r (nul x) (nul y) ((nul_law y).0 m)),
  λ e. ⊎_elim (λ f. inl ((nul_law x).1 f)) (λ f. inr ((nul_law y).1 f)) (or_cases (nul x) (nul y) e),
)
nul_law (many x) = (λ m. refl, λ e. stop)
nul_law (no x) = (
  λ m. ⊎_elim (λ e. absurd (m ((nul_law x).1 e))) (λ e. ap not e) (two (nul x)),
  λ e m. not_both (nul x) e ((nul_law x).0 m),
)

one_step : (ks : List ℕ) (b : ℕ) (w : List ℕ) (t : Bool) → is_in (kind_of b) ks ≡ t → Iff (One ks (b ∷ w)) (Match (cond t empty never) w)
unfolding Match
one_step ks b w true h =
    (λ m. let e = m.is in let f : w ≡ [] = cc in f, λ e. record { byte = b; is = ap (λ (x : List ℕ). b ∷ x) e; of_kind = h })
one_step ks b w false h =
    (λ m. let e = m.is in let f : m.byte ≡ b = cc in contra (sym h ∙ ap (λ (x : ℕ). is_in (kind_of x) ks) (sym f) ∙ m.of_kind), λ m. absurd m)

then_step : (x y : Form) (b : ℕ) (w : List ℕ) (t : Bool) → nul x ≡ t
    → ((u : List ℕ) → Iff (Match x (b ∷ u)) (Match (deriv (kind_of b) x) u)) → Iff (Match y (b ∷ w)) (Match (deriv (kind_of b) y) w)
    → Iff (Then (Match x) (Match y) (b ∷ w)) (Match (cond t (sor (sthen (deriv (kind_of b) x) y) (deriv (kind_of b) y)) (sthen (deriv (kind_of b) x) y)) w)
unfolding Match
then_step x y b w true h dx dy = (
  λ m. (sor_law (sthen (deriv (kind_of b) x) y) (deriv (kind_of b) y) w).0
      (⊎_elim (λ c. inr (dy.0 c.1))
      (λ c. inl ((sthen_law (deriv (kind_of b) x) y w).0 (map_then (λ u. (dx u).0) c))) (cut (Match x) (Match y) m)),
  λ m. ⊎_elim
      (λ c. glue_r (map_then (λ u. (dx u).1) ((sthen_law (deriv (kind_of b) x) y w).1 c)))
      (λ c. glue_l ((nul_law x).1 h) (dy.1 c))
      ((sor_law (sthen (deriv (kind_of b) x) y) (deriv (kind_of b) y) w).1 m),
)
then_step x y b w false h dx dy = (
  λ m. ⊎_elim (λ c. contra (sym h ∙ (nul_law x).0 c.0))
      (λ c. (sthen_law (deriv (kind_of b) x) y w).0 (map_then (λ u. (dx u).0) c)) (cut (Match x) (Match y) m),
  λ m. glue_r (map_then (λ u. (dx u).1) ((sthen_law (deriv (kind_of b) x) y w).1 m)),
)

pub deriv_law : (x : Form) (b : ℕ) (w : List ℕ) → Iff (Match x (b ∷ w)) (Match (deriv (kind_of b) x) w)
unfolding Match deriv
deriv_law never b w = (λ m. m, λ m. m)
deriv_law empty b w = (λ m. no_nil (sym m), λ m. absurd m)
deriv_law any b w = (λ m. m, λ m. m)
deriv_law (one ks) b w = one_step ks b w (is_in (kind_of b) ks) refl
deriv_law (x then y) b w = then_step x y b w (nul x) refl (λ u. deriv_law x b u) (deriv_law y b w)
deriv_law (x or y) b w = (
  λ m. (sor_law (deriv (kind_of b) x) (deriv (kind_of b) y) w).0 (⊎_elim (λ c. inl ((deriv_law x b w).0 c)) (λ c. inr ((deriv_law y b w).0 c)) m),
  λ m. ⊎_elim (λ c. inl ((deriv_law x b w).1 c)) (λ c. inr ((deriv_law y b w).1 c)) ((sor_law (deriv (kind_of b) x) (deriv (kind_of b) y) w).1 m),
)
deriv_law (many x) b w = (
  λ m. (sthen_law (deriv (kind_of b) x) (many x) w).0 (map_then (λ u. (deriv_law x b u).0) (cut_many m refl)),
  λ m. glue_many (map_then (λ u. (deriv_law x b u).1) ((sthen_law (deriv (kind_of b) x) (many x) w).1 m)),
)
deriv_law (no x) b w = (
  λ m. (sno_law (deriv (kind_of b) x) w).0 (λ c. m ((deriv_law x b w).1 c)),
  λ m c. (sno_law (deriv (kind_of b) x) w).1 m ((deriv_law x b w).0 c),
)

-- ---- the twin of Match

abbrev pub after : Form → List ℕ → Form
after x [] = x
after x (b ∷ w) = after (deriv (kind_of b) x) w

after_law : (x : Form) (w : List ℕ) → Iff (Match x w) (Match (after x w) [])
after_law x [] = (λ m. m, λ m. m)
after_law x (b ∷ w) =
    let d = deriv_law x b w in
    let r = after_law (deriv (kind_of b) x) w in
    (λ m. r.0 (d.0 m), λ m. d.1 (r.1 m))

abbrev pub match_f : Form → List ℕ → Bool
match_f x w = nul (after x w)

pub match_law : (x : Form) (w : List ℕ) → Iff (Match x w) (match_f x w ≡ true)
match_law x w =
    let a = after_law x w in
    let n = nul_law (after x w) in
    (λ m. n.0 (a.0 m), λ e. a.1 (n.1 e))
