-- The name of a token as the code makes it; and what a search of a list says of it.
use Rattle.std.specs.Prelude.{ℕ, zero, suc, ◌+◌, ◌≤◌, ◌<◌, ◌≡◌, refl, Bool, true, false, cond, not, ◌||◌, List, [], ◌∷◌, ◌++◌, Option, Some, None, eqb, leb, length, get_or, take, drop}
use Rattle.std.proofs.Common.{arith, sym, ap, ◌∙◌, length-append, length-drop, length-take, take_all, take_at, le-leb, eq-eqb, ne_eqb}
use Rattle.std.specs.Option.{is_some}
use Rattle.std.proofs.Math.Decide.{dec_lt}
use Rattle.std.proofs.Math.Seq.{take-length}
use Rattle.std.proofs.lemmas.Bool.{lt-leb}
use Rattle.paper_expressions.specs.Bytes.{folded}
use Rattle.paper_expressions.specs.Limits.{text_limit}
use Rattle.paper_tokens.specs.Lexical.{inner}
use Rattle.parts.specs.Texts.{cells}
use Rattle.sentences.specs.Alike.{fitting, name_at, Folded, like, first_like}
use Rattle.sentences.specs.SlipsLaws.{name_long, folded_long, cells_long, like_front}
use Rattle.explain_rows.specs.Firsts.{First, FirstOf}
use Rattle.bare_tokens.specs.declared.Counts.{Counts}
use Rattle.bare_names.specs.Told.{spelling, token_name, Named, among, met_at, is_new, told_by}

-- ---- the name of a token

take_less : (b : List ℕ) (p k m : ℕ) → k ≤ m → take k (cells b p m) ≡ cells b p k
take_less b p zero m h = refl
take_less b p (suc k) zero h = absurd (omega arith)
take_less b p (suc k) (suc m) h = ap (λ (w : List ℕ). get_or b p 0 ∷ w) (take_less b (suc p) k m (omega arith))

-- bytes that are in the text, as many as a name may have
name_within : (text : List ℕ) (p m : ℕ) → p + m ≤ length text → name_at text p m ≡ folded (take text_limit (cells text p m))
name_within text p m h = go (dec_lt text_limit m)
  where
    go : Dec (text_limit < m) → name_at text p m ≡ folded (take text_limit (cells text p m))
    go (yes l) =
        let e : fitting text p m ≡ text_limit = omega arith in
        ap (λ (k : ℕ). folded (cells text p k)) e ∙ ap folded (sym (take_less text p text_limit m (omega arith)))
    go (no l) =
        let e : fitting text p m ≡ m = omega arith in
        let d = cells_long text p m in
        ap (λ (k : ℕ). folded (cells text p k)) e ∙ ap folded (sym (take_all text_limit (cells text p m) (omega arith)))

spelling_long : (text : List ℕ) (at n : ℕ) → length (spelling text at n) ≤ text_limit
spelling_long text at n = go (leb (at + n) (length text))
  where
    go : (b : Bool) → length (cond b (folded (take text_limit (inner (cells text at n)))) []) ≤ text_limit
    go true =
        let a = folded_long (take text_limit (inner (cells text at n))) in
        let b = length-take text_limit (inner (cells text at n)) in
        omega arith
    go false = omega arith

module _ (text places lengths : List ℕ) (i : ℕ) {at n : ℕ} (ea : at ≡ get_or places i 0) (en : n ≡ get_or lengths i 0) where
  name_of : token_name text places lengths i ≡ spelling text at n
  name_of = sym (ap (λ (p : ℕ). spelling text p n) ea ∙ ap (spelling text (get_or places i 0)) en)

  pub named_none : {out : List ℕ} → ¬ (at + n ≤ length text) → Named text places lengths i out out 0
  named_none {out} h =
      let l : length text < at + n = omega arith in
      let e : token_name text places lengths i ≡ [] = name_of ∙ rw (lt-leb (at + n) (length text) l) in
      record { count = sym (ap length e); cells = sym (ap (λ (w : List ℕ). w ++ out) e) }

  pub named_some : {p m : ℕ} {out out' : List ℕ} {r : ℕ} → at + n ≤ length text → cells text p m ≡ inner (cells text at n) → p + m ≤ length text → Folded text p m out out' r
      → Named text places lengths i out out' r
  named_some {p} {m} {out} {out'} {r} h e l w =
      let d : name_at text p m ≡ token_name text places lengths i = name_within text p m l ∙ ap (λ (s : List ℕ). folded (take text_limit s)) e ∙ sym (name_of ∙ rw (le-leb (at + n) (length text) h)) in
      record { count = w.count ∙ sym (name_long text p (fitting text p m)) ∙ ap length d; cells = w.cells ∙ ap (λ (s : List ℕ). s ++ drop r out) d }

module _ {text places lengths : List ℕ} {i : ℕ} {out out' : List ℕ} {r : ℕ} (e : length out ≡ text_limit) (w : Named text places lengths i out out' r) where
  named_few : r ≤ text_limit
  named_few = let a = w.count in let b = spelling_long text (get_or places i 0) (get_or lengths i 0) in omega arith

  pub named_cells : length out' ≡ text_limit
  named_cells =
      let a = w.count in
      let b = ap length w.cells ∙ length-append (token_name text places lengths i) (drop r out) in
      let d = length-drop r out in
      let f = named_few in
      omega arith

  pub named_room : r ≤ length out'
  named_room = let a = named_few in let b = named_cells in omega arith

  pub named_front : take r out' ≡ token_name text places lengths i
  named_front = ap (take r) w.cells ∙ take_at (token_name text places lengths i) (drop r out) r (sym w.count)

  pub like_token : (slip : Bool) (s : List ℕ) → like slip s (token_name text places lengths i) ≡ first_like slip s (length s) out' r
  like_token slip s =
      let a = named_cells in
      let b = named_few in
      ap (λ (v : List ℕ). like slip v (token_name text places lengths i)) (sym (take-length s)) ∙ ap (like slip (take (length s) s)) (sym named_front) ∙ like_front slip s (length s) out' r (omega arith) (omega arith)

pub met_is : (text places lengths : List ℕ) (slip : Bool) (w list : List ℕ) (j : ℕ) {k : ℕ} {r : Bool} → k ≡ get_or list j 0 → r ≡ like slip w (token_name text places lengths k)
    → met_at text places lengths slip w list j ≡ r
met_is text places lengths slip w list j e h = sym (h ∙ ap (λ (k : ℕ). like slip w (token_name text places lengths k)) e)

-- ---- a search

none_among : (f : ℕ → Bool) (n : ℕ) → ((m : ℕ) → m < n → f m ≡ false) → among f n ≡ false
none_among f zero h = refl
none_among f (suc n) h = rw (h n (omega arith)) (none_among f n (λ m l. h m (omega arith)))

one_among : (f : ℕ → Bool) (n i : ℕ) → i < n → f i ≡ true → among f n ≡ true
one_among f zero i h e = absurd (omega arith)
one_among f (suc n) i h e = go (dec_lt i n) (λ l. one_among f n i l e)
  where
    either : (a b : Bool) → b ≡ true → (a || b) ≡ true
    either true b q = refl
    either false b q = q

    go : Dec (i < n) → (i < n → among f n ≡ true) → (f n || among f n) ≡ true
    go (yes l) g = either (f n) (among f n) (g l)
    go (no l) g = let z : i ≡ n = omega arith in rw (sym (ap f z) ∙ e)

module _ {f : ℕ → Bool} {to r : ℕ} (w : First f to r) where
  pub among_yes : r < to → among f to ≡ true
  among_yes l = one_among f to r l (w.passes l)

  pub among_no : to ≤ r → among f to ≡ false
  among_no l = none_among f to (λ m k. w.earlier m (omega arith))

  pub among_end : eqb r to ≡ not (among f to)
  among_end = go (dec_lt r to)
    where
      go : Dec (r < to) → eqb r to ≡ not (among f to)
      go (yes l) = ne_eqb r to (λ e. omega arith) ∙ sym (ap not (among_yes l))
      go (no l) = let h = w.within in eq-eqb r to (omega arith) ∙ sym (ap not (among_no (omega arith)))

pub among_found : (f : ℕ → Bool) (to : ℕ) (r : Option ℕ) → FirstOf f to r → among f to ≡ is_some r
among_found f to None w = among_no w (omega arith)
among_found f to (Some i) w = among_yes w.1 w.0

-- ---- one name

pub old_name : (told : Bool) {b r : Bool} → r ≡ b → r ≡ false → told ≡ (told || b)
old_name true e f = refl
old_name false e f = sym f ∙ e

pub new_name : (told : Bool) {b r : Bool} → r ≡ b → r ≡ true → true ≡ (told || b)
new_name true e f = refl
new_name false e f = sym f ∙ e

pub told_as : (text places lengths items names : List ℕ) (c : Counts) (k : ℕ) (told : Bool) {j : ℕ} {w : List ℕ} {r : Bool} → j ≡ get_or names k 0 → w ≡ token_name text places lengths j
    → r ≡ (told || is_new text places lengths items names c k w) → r ≡ told_by text places lengths items names c k told
told_as text places lengths items names c k told ej ew e =
    e ∙ ap (λ (w : List ℕ). told || is_new text places lengths items names c k w) (ew ∙ ap (token_name text places lengths) ej)
