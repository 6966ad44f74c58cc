-- Lists that are made of a piece for each element: where each piece begins, and which element an item belongs to. By induction on the list.
use Rattle.std.specs.Prelude.{ℕ, zero, suc, ◌+◌, ◌≤◌, ◌<◌, ◌≡◌, refl, ◌⊎◌, List, [], ◌∷◌, ◌++◌, map, length}
use Rattle.std.proofs.Common.{sym, ap, subst, ◌∙◌, inl, inr, ⊎_elim, arith, length-append}
use Rattle.paper_expressions.specs.View.{At, at_first, at_later}

-- ---- the parts of a list

pub at_front : {A : Type 0} {xs : List A} (ys : List A) {i : ℕ} {x : A} → At xs i x → At (xs ++ ys) i x
at_front ys at_first = at_first
at_front ys (at_later h) = at_later (at_front ys h)

pub at_behind : {A : Type 0} (xs : List A) {ys : List A} {m : ℕ} {x : A} → At ys m x → (i : ℕ) → i ≡ length xs + m → At (xs ++ ys) i x
at_behind [] {ys} {x = x} h i e = subst (λ (k : ℕ). At ys k x) (let z : _ ≡ i = omega arith in z) h
at_behind (y ∷ xs) h zero e = absurd (omega arith)
at_behind (y ∷ xs) h (suc i) e = at_later (at_behind xs h i (omega arith))

pub record Behind {A : Type 0} (xs ys : List A) (i : ℕ) (x : A) : Type 0 where
  pub m : ℕ
  pub at : At ys m x
  pub index : i ≡ length xs + m

pub at_either : {A : Type 0} (xs : List A) {ys : List A} {i : ℕ} {x : A} → At (xs ++ ys) i x → At xs i x ⊎ Behind xs ys i x
at_either [] {i = i} h = inr (record { m = i; at = h; index = omega arith })
at_either (y ∷ xs) at_first = inl at_first
at_either (y ∷ xs) (at_later h) = ⊎_elim (λ k. inl (at_later k)) (λ b. inr (record { m = b.m; at = b.at; index = let e = b.index in omega arith })) (at_either xs h)

-- of a list that is mapped
pub at_map : {A B : Type 0} (f : A → B) {l : List A} {i : ℕ} {x : A} → At l i x → At (map f l) i (f x)
at_map f at_first = at_first
at_map f (at_later h) = at_later (at_map f h)

pub record Mapped {A B : Type 0} (f : A → B) (l : List A) (i : ℕ) (y : B) : Type 0 where
  pub from : A
  pub at : At l i from
  pub is : y ≡ f from

pub map_at : {A B : Type 0} (f : A → B) (l : List A) {i : ℕ} {y : B} → At (map f l) i y → Mapped f l i y
map_at f [] h = elim h [ ]
map_at f (x ∷ l) at_first = record { from = x; at = at_first; is = refl }
map_at f (x ∷ l) (at_later h) = let r = map_at f l h in record { from = r.from; at = at_later r.at; is = r.is }

-- ---- a piece for each element

abbrev pub each : {A B : Type 0} → (A → List B) → List A → List B
each f [] = []
each f (a ∷ l) = f a ++ each f l

-- the k-th element of the list is a, and its piece begins at o
pub data Piece {A B : Type 0} (f : A → List B) : List A → ℕ → ℕ → A → Type 0 where
  piece_first : {a : A} {l : List A} → Piece f (a ∷ l) zero zero a
  piece_later : {a b : A} {l : List A} {k o : ℕ} → Piece f l k o a → Piece f (b ∷ l) (suc k) (length (f b) + o) a

pub piece_at : {A B : Type 0} {f : A → List B} {l : List A} {k o : ℕ} {a : A} → Piece f l k o a → At l k a
piece_at piece_first = at_first
piece_at (piece_later p) = at_later (piece_at p)

pub at_piece : {A B : Type 0} (f : A → List B) {l : List A} {k : ℕ} {a : A} → At l k a → (o : ℕ) × Piece f l k o a
at_piece f at_first = (zero, piece_first)
at_piece f (at_later {y = b} h) = let r = at_piece f h in (length (f b) + r.0, piece_later r.1)

-- an item of a piece, in the whole
pub in_whole : {A B : Type 0} {f : A → List B} {l : List A} {k o m : ℕ} {a : A} {x : B} → Piece f l k o a → At (f a) m x → (i : ℕ) → i ≡ o + m → At (each f l) i x
in_whole {f = f} {m = m} {x = x} (piece_first {a} {l}) h i e = at_front (each f l) (subst (λ (n : ℕ). At (f a) n x) (let z : m ≡ i = omega arith in z) h)
in_whole {f = f} {m = m} (piece_later {b = b} {o = o} p) h i e = at_behind (f b) (in_whole p h (o + m) refl) i (omega arith)

-- and the piece of an item
pub record Located {A B : Type 0} (f : A → List B) (l : List A) (i : ℕ) (x : B) : Type 0 where
  pub k : ℕ
  pub o : ℕ
  pub m : ℕ
  pub element : A
  pub piece : Piece f l k o element
  pub at : At (f element) m x
  pub index : i ≡ o + m

located_behind : {A B : Type 0} (f : A → List B) {a : A} {l : List A} {i : ℕ} {x : B} → (b : Behind (f a) (each f l) i x) → Located f l b.m x → Located f (a ∷ l) i x
located_behind f {a} b r =
    let e = b.index in
    let q = r.index in
    record { k = suc r.k; o = length (f a) + r.o; m = r.m; element = r.element; piece = piece_later r.piece; at = r.at; index = omega arith }

pub locate : {A B : Type 0} (f : A → List B) (l : List A) (i : ℕ) {x : B} → At (each f l) i x → Located f l i x
locate f [] i h = elim h [ ]
locate f (a ∷ l) i h = ⊎_elim
    (λ k. record { k = zero; o = zero; m = i; element = a; piece = piece_first; at = k; index = omega arith })
    (λ b. located_behind f b (locate f l b.m b.at))
    (at_either (f a) h)

-- pieces stand in order
pub in_order : {A B : Type 0} {f : A → List B} {l : List A} {k m o q : ℕ} {a b : A} → Piece f l k o a → Piece f l m q b → k < m → o + length (f a) ≤ q
in_order piece_first piece_first h = absurd (omega arith)
in_order piece_first (piece_later p) h = omega arith
in_order (piece_later p) piece_first h = absurd (omega arith)
in_order (piece_later p) (piece_later q) h = let z = in_order p q (omega arith) in omega arith

-- the whole ends behind each
pub within : {A B : Type 0} {f : A → List B} {l : List A} {k o : ℕ} {a : A} → Piece f l k o a → o + length (f a) ≤ length (each f l)
within {f = f} (piece_first {a} {l}) = let n = length-append (f a) (each f l) in omega arith
within {f = f} (piece_later {b = b} {l = l} p) =
    let n = length-append (f b) (each f l) in
    let z = within p in
    omega arith

pub one_piece : {A B : Type 0} {f : A → List B} {l : List A} {k o q : ℕ} {a b : A} → Piece f l k o a → Piece f l k q b → (o ≡ q) × (a ≡ b)
one_piece piece_first piece_first = (refl, refl)
one_piece {f = f} (piece_later {b = b} p) (piece_later q) = let r = one_piece p q in (ap (λ (z : ℕ). length (f b) + z) r.0, r.1)
