-- Law: every expression without parentheses whose texts and literals are within the limits has a table. Parts that stand in a table hold their
-- expression, and they stand there exactly if their cells do. By induction on the expression and on the list of its parts.
use Rattle.std.specs.Prelude.{◌≡◌, refl, List, [], ◌∷◌, ◌++◌, ℕ, suc, ◌+◌, ◌*◌, ◌≤◌, ◌<◌, get_or, length}
use Rattle.std.proofs.Common.{sym, ap, subst, ◌∙◌, arith, length-append}
use Rattle.paper_expressions.specs.Limits.{text_limit}
use Rattle.paper_expressions.specs.Operators.{Op, arithmetic, divide, compare, and, or, includes, oneof, if, negate, isknown, not, count, sum, extreme, nth, is-in, no_such}
use Rattle.paper_expressions.specs.Expressions.{Expr, Exprs, Atom, IntegerLit, FloatLit, StringLit, Paren, Listing, Apply, ε, ◌▸◌}
use Rattle.parts.specs.Codes.{code}
use Rattle.parts.specs.Texts.{cells, handle, text_at_fn, text_of, literal, literal_moved}
use Rattle.parts.specs.Part.{Table, table, size, sizes, number_of, OpLoad, Holds, HoldsAll}
use Rattle.parts.specs.Encode.{Part, part, flat, name, name_load, spelling, spellings, encode, encodes, Fits, AllFit, Stands, Spelt, Is, Laid}

-- ---- what stands from a place on

module _ {A : Type 0} (P : ℕ → A → Type 0) where
  pub join : (xs ys : List A) (a : ℕ) → Stands P a xs → Stands P (a + length xs) ys → Stands P a (xs ++ ys)
  join [] ys a h k = subst (λ (b : ℕ). Stands P b ys) (omega arith) k
  join (x ∷ xs) ys a h k = (h.0, join xs ys (suc a) h.1 (subst (λ (b : ℕ). Stands P b ys) (omega arith) k))

  pub split : (xs ys : List A) (a : ℕ) → Stands P a (xs ++ ys) → Stands P a xs × Stands P (a + length xs) ys
  split [] ys a h = (tt, subst (λ (b : ℕ). Stands P b ys) (omega arith) h)
  split (x ∷ xs) ys a h = let g = split xs ys (suc a) h.1 in ((h.0, g.0), subst (λ (b : ℕ). Stands P b ys) (omega arith) g.1)

  by_cells : (d : A) (xs : List A) (a : ℕ) → ((i : ℕ) → i < length xs → P (a + i) (get_or xs i d)) → Stands P a xs
  by_cells d [] a h = tt
  by_cells d (x ∷ xs) a h = (
    subst (λ (b : ℕ). P b x) (omega arith) (h 0 (omega arith)),
    by_cells d xs (suc a) (λ i l. subst (λ (b : ℕ). P b (get_or xs i d)) (omega arith) (h (suc i) (omega arith))),
  )

pub spelt_cells : (b s : List ℕ) (o : ℕ) → Spelt b o s → cells b o (length s) ≡ s
spelt_cells b [] o h = refl
spelt_cells b (c ∷ s) o h = let x = h.0 in let y = spelt_cells b s (suc o) h.1 in cc

spelt_text : (b s : List ℕ) (o : ℕ) → length s ≤ text_limit → Spelt b o s → text_at_fn b (handle o (length s)) ≡ s
spelt_text b s o l h = text_of b o (length s) (omega arith) ∙ spelt_cells b s o h

mutual
  pub long : (o : ℕ) (e : Expr) → Fits e → length (encode o e) ≡ size e
  long o (Atom a) f = refl
  long o (IntegerLit n) f = refl
  long o (FloatLit n) f = refl
  long o (StringLit s) f = refl
  long o (Paren e) f = absurd f
  long o (Listing es) f = let l = longs o es f in simp length-append (omega arith)
  long o (Apply p es) f = let l = longs o es f.1 in simp length-append (omega arith)

  pub longs : (o : ℕ) (es : Exprs) → AllFit es → length (encodes o es) ≡ sizes es
  longs o ε f = refl
  longs o (e ▸ es) f = let x = long o e f.0 in let y = longs (o + length (spelling e)) es f.1 in simp length-append (omega arith)

-- ---- parts that stand in a table hold their expression

op_load : (b : List ℕ) (p : Op) (o : ℕ) → length (name p) ≤ text_limit → Spelt b o (name p) → OpLoad b p (name_load o p)
op_load b (arithmetic k) o l h = refl
op_load b divide o l h = refl
op_load b (compare k) o l h = refl
op_load b and o l h = refl
op_load b or o l h = refl
op_load b includes o l h = refl
op_load b oneof o l h = refl
op_load b if o l h = refl
op_load b negate o l h = refl
op_load b isknown o l h = refl
op_load b not o l h = refl
op_load b count o l h = refl
op_load b sum o l h = refl
op_load b (extreme e) o l h = refl
op_load b nth o l h = refl
op_load b (is-in s) o l h = refl
op_load b (no_such n) o l h = spelt_text b n o l h

module _ (t : Table) where
  mutual
    pub laid_held : (e : Expr) (a o : ℕ) → Fits e → Spelt t.bytes o (spelling e) → Laid t a (encode o e) → Holds t a e
    laid_held (Atom n) a o f s h =
        record { kinds = h.0.0; counts = h.0.1; sizes = h.0.2; loads = ap (text_at_fn t.bytes) h.0.3 ∙ spelt_text t.bytes n o f s }
    laid_held (IntegerLit n) a o f s h =
        record { kinds = h.0.0; counts = h.0.1; sizes = h.0.2; loads = ap literal h.0.3 ∙ literal_moved n (omega arith) }
    laid_held (FloatLit n) a o f s h =
        record { kinds = h.0.0; counts = h.0.1; sizes = h.0.2; loads = ap literal h.0.3 ∙ literal_moved n f }
    laid_held (StringLit n) a o f s h =
        record { kinds = h.0.0; counts = h.0.1; sizes = h.0.2; loads = ap (text_at_fn t.bytes) h.0.3 ∙ spelt_text t.bytes n o f s }
    laid_held (Paren e) a o f s h = f
    laid_held (Listing es) a o f s h =
        let g = split (Is t) (encodes o es) (part 5 (number_of es) (suc (sizes es)) 0 ∷ []) a h in
        let r = subst (λ (m : ℕ). Is t (a + m) (part 5 (number_of es) (suc (sizes es)) 0)) (longs o es f) g.1.0 in
        (laid_all es a o f s g.0, record { kinds = r.0; counts = r.1; sizes = r.2; loads = r.3 })
    laid_held (Apply p es) a o f s h =
        let n = name_load (o + length (spellings es)) p in
        let u = split (λ i c. get_or t.bytes i 0 ≡ c) (spellings es) (name p) o s in
        let g = split (Is t) (encodes o es) (part (code p) (number_of es) (suc (sizes es)) n ∷ []) a h in
        let r = subst (λ (m : ℕ). Is t (a + m) (part (code p) (number_of es) (suc (sizes es)) n)) (longs o es f.1) g.1.0 in (
          laid_all es a o f.1 u.0 g.0,
          record { kinds = r.0; counts = r.1; sizes = r.2; loads = subst (OpLoad t.bytes p) (sym r.3) (op_load t.bytes p (o + length (spellings es)) f.0 u.1) },
        )

    pub laid_all : (es : Exprs) (a o : ℕ) → AllFit es → Spelt t.bytes o (spellings es) → Laid t a (encodes o es) → HoldsAll t a es
    laid_all ε a o f s h = tt
    laid_all (e ▸ es) a o f s h =
        let m = o + length (spelling e) in
        let u = split (λ i c. get_or t.bytes i 0 ≡ c) (spelling e) (spellings es) o s in
        let g = split (Is t) (encode o e) (encodes m es) a h in (
          laid_held e a o f.0 u.0 g.0,
          laid_all es (a + size e) m f.1 u.1 (subst (λ (k : ℕ). Laid t (a + k) (encodes m es)) (long o e f.0) g.1),
        )

-- ---- parts as cells

cell_at : (x : List ℕ) {i j v : ℕ} → i ≡ j → get_or x j 0 ≡ v → get_or x i 0 ≡ v
cell_at x e h = ap (λ (k : ℕ). get_or x k 0) e ∙ h

-- they stand in the table exactly if their cells do
pub laid_spelt : (x b : List ℕ) (rs : List Part) (a : ℕ) → Laid (table x b) a rs → Spelt x (a * 4) (flat rs)
laid_spelt x b [] a h = tt
laid_spelt x b (r ∷ rs) a h = (
  h.0.0,
  (
    cell_at x (omega arith) h.0.1,
    (
      cell_at x (omega arith) h.0.2,
      (
        cell_at x (omega arith) h.0.3,
        subst (λ (i : ℕ). Spelt x i (flat rs)) {x = suc a * 4} {y = suc (suc (suc (suc (a * 4))))} (omega arith) (laid_spelt x b rs (suc a) h.1),
      ),
    ),
  ),
)

pub spelt_laid : (x b : List ℕ) (rs : List Part) (a : ℕ) → Spelt x (a * 4) (flat rs) → Laid (table x b) a rs
spelt_laid x b [] a h = tt
spelt_laid x b (r ∷ rs) a h = (
  (
    h.0,
    cell_at x {j = suc (a * 4)} (omega arith) h.1.0,
    cell_at x {j = suc (suc (a * 4))} (omega arith) h.1.1.0,
    cell_at x {j = suc (suc (suc (a * 4)))} (omega arith) h.1.1.1.0,
  ),
  spelt_laid x b rs (suc a) (subst (λ (i : ℕ). Spelt x i (flat rs)) {x = suc (suc (suc (suc (a * 4))))} {y = suc a * 4} (omega arith) h.1.1.1.1),
)

pub flat_length : (rs : List Part) → length (flat rs) ≡ length rs * 4
flat_length [] = refl
flat_length (r ∷ rs) = omega (arith, flat_length rs)

pub flat_append : (rs ss : List Part) → flat (rs ++ ss) ≡ flat rs ++ flat ss
flat_append [] ss = refl
flat_append (r ∷ rs) ss = ap (λ (l : List ℕ). r.kind ∷ r.count ∷ r.size ∷ r.load ∷ l) (flat_append rs ss)

-- ---- every expression has its table

pub has_table : (e : Expr) → Fits e → Holds (table (flat (encode 0 e)) (spelling e)) 0 e
has_table e f =
    let x = flat (encode 0 e) in
    let b = spelling e in
    laid_held (table x b) e 0 0 f (itself b) (spelt_laid x b (encode 0 e) 0 (itself x))
  where
    itself : (b : List ℕ) → Spelt b 0 b
    itself b = by_cells (λ i c. get_or b i 0 ≡ c) 0 b 0 λ i l. subst (λ (k : ℕ). get_or b k 0 ≡ get_or b i 0) {x = i} {y = 0 + i} (omega arith) refl
