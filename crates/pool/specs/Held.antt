-- Laws: what the parts come to, where they hold an expression. By induction on the expression.
use Rattle.std.specs.Prelude.{◌≡◌, refl, true, List, [], ◌∷◌, ◌++◌, ℕ, zero, suc, ◌+◌, ◌*◌, ◌-◌, ◌%◌, ◌≤◌, ◌<◌, pos, nat_abs, get_or, length}
use Rattle.std.proofs.Common.{sym, ap, ap₂, subst, ◌∙◌, inl, inr, append-nil, arith, length-append}
use Rattle.std.proofs.Math.Decide.{dec_lt}
use Rattle.std.proofs.Math.IntN
use Rattle.paper_expressions.specs.Limits.{real_limit}
use Rattle.paper_expressions.specs.Values.{dormant, in_progress, discarded, completed}
use Rattle.paper_expressions.specs.Operators.{plus, minus, times, is>, is<, is>=, is<=, is=, is!=, max, min}
use Rattle.paper_expressions.specs.Operators.{Op, arithmetic, divide, compare, and, or, includes, oneof, if, negate, isknown, not, count, sum, extreme, nth, is-in, no_such}
use Rattle.paper_expressions.specs.Expressions.{Expr, Exprs, Atom, IntegerLit, FloatLit, StringLit, Paren, Listing, Apply, ε, ◌▸◌}
use Rattle.parts.specs.Codes.{code, kind}
use Rattle.parts.specs.Texts.{cells, handle, text_at_fn, text_of, literal, moved}
use Rattle.parts.specs.Part.{table, size, sizes, number_of, operands, OpLoad, Load, Root, Holds, HoldsAll}
use Rattle.parts.specs.Encode as parts
use Rattle.parts.specs.Encode.{part, flat, name, name_load, spelling, spellings, encode, encodes, Spelt, Is, Laid}
use Rattle.parts.specs.EncodeLaws.{spelt_cells, split, spelt_laid}
use Rattle.parts.specs.Kept.{HasText}
use Rattle.pool.specs.Written.{Written}
use Rattle.pool.specs.WrittenLaws.{spelt_split}
use Rattle.pool.specs.Pooled.{Fits, Below, Pooled, Gathers}
use Rattle.pool.specs.Columns.{texted, word, load, word_at, part_at, said, marks, Moved, part_same, text_length, marks_length, said_both, marks_both, load_some, word_some}

-- ---- one part

moved_literal : (x : ℕ) → moved (literal x) ≡ x
moved_literal x = ap nat_abs (IntN.-ℤ-+ℤ_cancel (pos x) (pos real_limit))

-- a text that stands from q on has its handle
spelt_text : (text b : List ℕ) (x q : ℕ) → Spelt b q (text_at_fn text x) → text_at_fn b (handle q (x % 64)) ≡ text_at_fn text x
spelt_text text b x q s = text_of b q (x % 64) (omega arith) ∙ ap (cells b q) (sym (text_length text x)) ∙ spelt_cells b (text_at_fn text x) q s

-- a part that is e's last and loads x: its text, its new load, and what that loads
record Part (text b : List ℕ) (e : Expr) (s : List ℕ) (y : ℕ → ℕ) (x : ℕ) : Type 0 where
  pub spells : word text (kind e) x ≡ s
  pub loads : (q : ℕ) → load q (kind e) x ≡ y q
  pub held : (q : ℕ) → Spelt b q (word text (kind e) x) → Load b e (load q (kind e) x)

operator : (text b : List ℕ) (p : Op) (es : Exprs) (x : ℕ) → OpLoad text p x → Part text b (Apply p es) (name p) (λ q. name_load q p) x
operator text b (arithmetic plus) es x h = record { spells = refl; loads = λ q. h; held = λ q s. h }
operator text b (arithmetic minus) es x h = record { spells = refl; loads = λ q. h; held = λ q s. h }
operator text b (arithmetic times) es x h = record { spells = refl; loads = λ q. h; held = λ q s. h }
operator text b divide es x h = record { spells = refl; loads = λ q. h; held = λ q s. h }
operator text b (compare is>) es x h = record { spells = refl; loads = λ q. h; held = λ q s. h }
operator text b (compare is<) es x h = record { spells = refl; loads = λ q. h; held = λ q s. h }
operator text b (compare is>=) es x h = record { spells = refl; loads = λ q. h; held = λ q s. h }
operator text b (compare is<=) es x h = record { spells = refl; loads = λ q. h; held = λ q s. h }
operator text b (compare is=) es x h = record { spells = refl; loads = λ q. h; held = λ q s. h }
operator text b (compare is!=) es x h = record { spells = refl; loads = λ q. h; held = λ q s. h }
operator text b and es x h = record { spells = refl; loads = λ q. h; held = λ q s. h }
operator text b or es x h = record { spells = refl; loads = λ q. h; held = λ q s. h }
operator text b includes es x h = record { spells = refl; loads = λ q. h; held = λ q s. h }
operator text b oneof es x h = record { spells = refl; loads = λ q. h; held = λ q s. h }
operator text b if es x h = record { spells = refl; loads = λ q. h; held = λ q s. h }
operator text b negate es x h = record { spells = refl; loads = λ q. h; held = λ q s. h }
operator text b isknown es x h = record { spells = refl; loads = λ q. h; held = λ q s. h }
operator text b not es x h = record { spells = refl; loads = λ q. h; held = λ q s. h }
operator text b count es x h = record { spells = refl; loads = λ q. h; held = λ q s. h }
operator text b sum es x h = record { spells = refl; loads = λ q. h; held = λ q s. h }
operator text b (extreme max) es x h = record { spells = refl; loads = λ q. h; held = λ q s. h }
operator text b (extreme min) es x h = record { spells = refl; loads = λ q. h; held = λ q s. h }
operator text b nth es x h = record { spells = refl; loads = λ q. h; held = λ q s. h }
operator text b (is-in dormant) es x h = record { spells = refl; loads = λ q. h; held = λ q s. h }
operator text b (is-in in_progress) es x h = record { spells = refl; loads = λ q. h; held = λ q s. h }
operator text b (is-in discarded) es x h = record { spells = refl; loads = λ q. h; held = λ q s. h }
operator text b (is-in completed) es x h = record { spells = refl; loads = λ q. h; held = λ q s. h }
operator text b (no_such n) es x h = record { spells = h; loads = λ q. ap (handle q) (sym (text_length text x) ∙ ap length h); held = λ q s. spelt_text text b x q s ∙ h }

-- the text and the load of an expression's last part
abbrev own : Expr → List ℕ
own (Atom a) = a
own (IntegerLit n) = []
own (FloatLit n) = []
own (StringLit s) = s
own (Paren e) = []
own (Listing es) = []
own (Apply p es) = name p

abbrev own_load : Expr → ℕ → ℕ
own_load (Atom a) q = handle q (length a)
own_load (IntegerLit n) q = moved n
own_load (FloatLit n) q = moved n
own_load (StringLit s) q = handle q (length s)
own_load (Paren e) q = 0
own_load (Listing es) q = 0
own_load (Apply p es) q = name_load q p

last : (text b : List ℕ) (e : Expr) (x : ℕ) → Load text e x → Part text b e (own e) (own_load e) x
last text b (Atom a) x h = record { spells = h; loads = λ q. ap (handle q) (sym (text_length text x) ∙ ap length h); held = λ q s. spelt_text text b x q s ∙ h }
last text b (IntegerLit n) x h = record { spells = refl; loads = λ q. sym (moved_literal x) ∙ ap moved h; held = λ q s. h }
last text b (FloatLit n) x h = record { spells = refl; loads = λ q. sym (moved_literal x) ∙ ap moved h; held = λ q s. h }
last text b (StringLit a) x h = record { spells = h; loads = λ q. ap (handle q) (sym (text_length text x) ∙ ap length h); held = λ q s. spelt_text text b x q s ∙ h }
last text b (Paren e) x h = absurd h
last text b (Listing es) x h = record { spells = refl; loads = λ q. h; held = λ q s. h }
last text b (Apply p es) x h = operator text b p es x h

-- ---- the parts of an expression

module _ (text x : List ℕ) where
  root_word : (e : Expr) (p : ℕ) → Root (table x text) p e → word_at text x p ≡ own e
  root_word e p h = ap (λ (k : ℕ). word text k (get_or x (p * 4 + 3) 0)) h.kinds ∙ (last text [] e (get_or x (p * 4 + 3) 0) h.loads).spells

  root_part : (e : Expr) (p q : ℕ) → Root (table x text) p e → part_at q x p ≡ part (kind e) (number_of (operands e)) (suc (sizes (operands e))) (own_load e q)
  root_part e p q h =
      part_same h.kinds h.counts h.sizes (ap (λ (k : ℕ). load q k (get_or x (p * 4 + 3) 0)) h.kinds ∙ (last text [] e (get_or x (p * 4 + 3) 0) h.loads).loads q)

  one_said : (e : Expr) (a : ℕ) → Root (table x text) a e → said text x a 1 ≡ own e
  one_said e a h = ap (word_at text x) {x = a + 0} {y = a} (omega arith) ∙ root_word e a h

  one_mark : (e : Expr) (o a : ℕ) → Root (table x text) a e → marks text x o a 1 ≡ part (kind e) (number_of (operands e)) (suc (sizes (operands e))) (own_load e o) ∷ []
  one_mark e o a h =
      let z : o + 0 ≡ o = omega arith in
      let w : a + 0 ≡ a = omega arith in
      ap (λ (q : ℕ). part_at q x (a + 0) ∷ []) z ∙ ap (λ (p : ℕ). part_at o x p ∷ []) w ∙ ap (λ (r : parts.Part). r ∷ []) (root_part e a o h)

  mutual
    spells : (e : Expr) (a : ℕ) → Holds (table x text) a e → said text x a (size e) ≡ spelling e
    spells (Atom n) a h = one_said (Atom n) a h
    spells (IntegerLit n) a h = one_said (IntegerLit n) a h
    spells (FloatLit n) a h = one_said (FloatLit n) a h
    spells (StringLit n) a h = one_said (StringLit n) a h
    spells (Paren e) a h = absurd h
    spells (Listing es) a h = rw (all_spell es a h.0, root_word (Listing es) (a + sizes es) h.1, append-nil)
    spells (Apply p es) a h = rw (all_spell es a h.0, root_word (Apply p es) (a + sizes es) h.1)

    all_spell : (es : Exprs) (a : ℕ) → HoldsAll (table x text) a es → said text x a (sizes es) ≡ spellings es
    all_spell ε a h = refl
    all_spell (e ▸ es) a h = said_both text x a (size e) (sizes es) ∙ rw (spells e a h.0, all_spell es (a + size e) h.1)

  mutual
    mark : (e : Expr) (o a : ℕ) → Holds (table x text) a e → marks text x o a (size e) ≡ encode o e
    mark (Atom n) o a h = one_mark (Atom n) o a h
    mark (IntegerLit n) o a h = one_mark (IntegerLit n) o a h
    mark (FloatLit n) o a h = one_mark (FloatLit n) o a h
    mark (StringLit n) o a h = one_mark (StringLit n) o a h
    mark (Paren e) o a h = absurd h
    mark (Listing es) o a h = ap₂ (λ (l : List parts.Part) (r : parts.Part). l ++ (r ∷ [])) (all_mark es o a h.0) (root_part (Listing es) (a + sizes es) _ h.1)
    mark (Apply p es) o a h =
        let q = o + length (said text x a (sizes es)) in
        ap₂ (λ (l : List parts.Part) (r : parts.Part). l ++ (r ∷ [])) (all_mark es o a h.0) (root_part (Apply p es) (a + sizes es) q h.1
        ∙ ap (λ (w : List ℕ). part (code p) (number_of es) (suc (sizes es)) (name_load (o + length w) p)) (all_spell es a h.0))

    all_mark : (es : Exprs) (o a : ℕ) → HoldsAll (table x text) a es → marks text x o a (sizes es) ≡ encodes o es
    all_mark ε o a h = refl
    all_mark (e ▸ es) o a h =
        marks_both text x o a (size e) (sizes es)
        ∙ rw (mark e o a h.0, spells e a h.0, all_mark es (o + length (spelling e)) (a + size e) h.1)

-- ---- what the moved parts hold

-- the part p is moved: its text stands from q on, and ends at most at z
record At (text x x' b : List ℕ) (z p : ℕ) : Type 0 where
  pub place : ℕ
  pub code : get_or x' (p * 4) 0 ≡ get_or x (p * 4) 0
  pub count : get_or x' (p * 4 + 1) 0 ≡ get_or x (p * 4 + 1) 0
  pub size : get_or x' (p * 4 + 2) 0 ≡ get_or x (p * 4 + 2) 0
  pub load : get_or x' (p * 4 + 3) 0 ≡ load place (get_or x (p * 4) 0) (get_or x (p * 4 + 3) 0)
  pub bytes : Spelt b place (word_at text x p)
  pub ends : place + length (word_at text x p) ≤ z

module _ (text x x' b : List ℕ) (o a : ℕ) where
  -- the last of n + 1 parts
  newest : (n : ℕ) → Laid (table x' b) a (marks text x o a (suc n)) → Spelt b o (said text x a (suc n)) → At text x x' b (o + length (said text x a (suc n))) (a + n)
  newest n hl hb =
      let w = word_at text x (a + n) in
      let q = o + length (said text x a n) in
      let lw = length-append (said text x a n) w in
      let g = subst (λ (i : ℕ). Is (table x' b) (a + i) (part_at q x (a + n))) (marks_length text x o a n) (split (Is (table x' b)) (marks text x o a n) (part_at q x (a + n) ∷ []) a hl).1.0 in
      record { place = q; code = g.0; count = g.1; size = g.2; load = g.3; bytes = (spelt_split b (said text x a n) w o hb).1; ends = omega arith }

  older : (n : ℕ) (p : ℕ) → At text x x' b (o + length (said text x a n)) p → At text x x' b (o + length (said text x a (suc n))) p
  older n p y =
      let lw = length-append (said text x a n) (word_at text x (a + n)) in
      let e = y.ends in
      record { place = y.place; code = y.code; count = y.count; size = y.size; load = y.load; bytes = y.bytes; ends = omega arith }

  each : (n : ℕ) → Laid (table x' b) a (marks text x o a n) → Spelt b o (said text x a n) → (p : ℕ) → a ≤ p → p < a + n → At text x x' b (o + length (said text x a n)) p
  each zero hl hb p l g = absurd (omega arith)
  each (suc n) hl hb p l g =
      let y = part_at (o + length (said text x a n)) x (a + n) in
      go (dec_lt p (a + n)) (λ h. each n (split (Is (table x' b)) (marks text x o a n) (y ∷ []) a hl).0 (spelt_split b (said text x a n) (word_at text x (a + n)) o hb).0 p l h)
    where
      go : Dec (p < a + n) → (p < a + n → At text x x' b (o + length (said text x a n)) p) → At text x x' b (o + length (said text x a (suc n))) p
      go (yes h) f = older n p (f h)
      go (no h) f = subst (At text x x' b (o + length (said text x a (suc n)))) {x = a + n} {y = p} (omega arith) (newest n hl hb)

module _ (text x x' b : List ℕ) {u v z : ℕ} (at : (p : ℕ) → u ≤ p → p < v → At text x x' b z p) where
  root_moved : (e : Expr) (p : ℕ) → u ≤ p → p < v → Root (table x text) p e → Root (table x' b) p e
  root_moved e p l g h =
      let y = at p l g in
      let m = get_or x (p * 4 + 3) 0 in
      let s = subst (λ (k : ℕ). Spelt b y.place (word text k m)) h.kinds y.bytes in
      record {
        kinds = y.code ∙ h.kinds;
        counts = y.count ∙ h.counts;
        sizes = y.size ∙ h.sizes;
        loads = subst (Load b e) (sym (y.load ∙ ap (λ (k : ℕ). load y.place k m) h.kinds)) ((last text b e m h.loads).held y.place s);
      }

  mutual
    holds_moved : (e : Expr) (a : ℕ) → u ≤ a → a + size e ≤ v → Holds (table x text) a e → Holds (table x' b) a e
    holds_moved (Atom n) a l g h = root_moved (Atom n) a l (omega arith) h
    holds_moved (IntegerLit n) a l g h = root_moved (IntegerLit n) a l (omega arith) h
    holds_moved (FloatLit n) a l g h = root_moved (FloatLit n) a l (omega arith) h
    holds_moved (StringLit n) a l g h = root_moved (StringLit n) a l (omega arith) h
    holds_moved (Paren e) a l g h = h
    holds_moved (Listing es) a l g h = (all_moved es a l (omega arith) h.0, root_moved (Listing es) (a + sizes es) (omega arith) (omega arith) h.1)
    holds_moved (Apply p es) a l g h = (all_moved es a l (omega arith) h.0, root_moved (Apply p es) (a + sizes es) (omega arith) (omega arith) h.1)

    all_moved : (es : Exprs) (a : ℕ) → u ≤ a → a + sizes es ≤ v → HoldsAll (table x text) a es → HoldsAll (table x' b) a es
    all_moved ε a l g h = h
    all_moved (e ▸ es) a l g h = (holds_moved e a l (omega arith) h.0, all_moved es (a + size e) (omega arith) (omega arith) h.1)

-- ---- where texts end

has_text : {k : ℕ} → HasText k → texted k ≡ true
has_text (inl e) = ap texted e
has_text (inr (inl e)) = ap texted e
has_text (inr (inr e)) = ap texted e

handle_below : (z q n y : ℕ) → y ≡ handle q n → n < 64 → q + n ≤ z → Below z y
handle_below z q n y e l h = omega arith

at_below : {text x x' b : List ℕ} {z p : ℕ} → At text x x' b z p → HasText (get_or x' (p * 4) 0) → Below z (get_or x' (p * 4 + 3) 0)
at_below {text} {x} {x'} {b} {z} {p} y t =
    let k = get_or x (p * 4) 0 in
    let m = get_or x (p * 4 + 3) 0 in
    let e = has_text (subst HasText y.code t) in
    let n = ap length (word_some text k m e) ∙ text_length text m in
    let l = y.ends in
    handle_below z y.place (m % 64) (get_or x' (p * 4 + 3) 0) (y.load ∙ load_some y.place k m e) (omega arith) (omega arith)

-- ---- the whole

module _ {text x x' b b' : List ℕ} {a n o r : ℕ} (m : Moved text x x' b b' a n o r) (e : Expr) (h : Holds (table x text) a e) (s : n ≡ size e) (l : (a + n) * 4 ≤ length x) where
  said_all : said text x a n ≡ spelling e
  said_all = ap (said text x a) s ∙ spells text x e a h

  marks_all : marks text x o a n ≡ encode o e
  marks_all = ap (marks text x o a) s ∙ mark text x e o a h

  pooled_ends : Fits b (o + length (spelling e)) → r ≡ o + length (spelling e)
  pooled_ends f = subst (λ (w : List ℕ). Fits b (o + length w) → r ≡ o + length w) said_all (m.room l) f

  pooled : Fits b r → Pooled x x' b b' a o r e
  pooled f =
      let at = each text x x' b' o a n (spelt_laid x' b' (marks text x o a n) a (m.cells l f).inside) (m.bytes l f).inside in
      let k = m.ends l f in
      let g = (m.bytes l f).long in
      let fb = f.bytes in
      record {
        fits = record { bytes = omega arith; places = f.places };
        ends = k ∙ ap (λ (w : List ℕ). o + length w) said_all;
        cells = subst (λ (rs : List parts.Part). Written x x' (a * 4) (flat rs)) marks_all (m.cells l f);
        bytes = subst (Written b b' o) said_all (m.bytes l f);
        held = holds_moved text x x' b' at e a (omega arith) (omega arith) h;
        below = λ p y z t. subst (λ (w : ℕ). Below w (get_or x' (p * 4 + 3) 0)) (sym k) (at_below (at p y (omega arith)) t);
      }

pub gathered : {text x x' b b' : List ℕ} {a i z o r : ℕ} → Moved text x x' b b' a (i - a) o r → (a ≤ z → i ≤ z) → z ≤ i → Gathers text x x' b b' a z o r
gathered m f g = record {
  room = λ e h s l. let j = f (omega arith) in pooled_ends m e h (omega arith) (omega arith);
  done = λ e h s l. let j = f (omega arith) in pooled m e h (omega arith) (omega arith);
}

-- with room for its texts, an expression is gathered
pub gathered_in : {text x x' b b' : List ℕ} {a z o r : ℕ} → Gathers text x x' b b' a z o r → (e : Expr) → Holds (table x text) a e → z ≡ a + size e → z * 4 ≤ length x
    → Fits b (o + length (spelling e)) → Pooled x x' b b' a o r e
gathered_in {text} {x} {x'} {b} g e h s l f = g.done e h s l (subst (Fits b) (sym (g.room e h s l f)) f)
