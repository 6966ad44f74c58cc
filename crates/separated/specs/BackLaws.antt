-- What is written of a record is read back: its fields, byte for byte, and nothing is wrong. By induction on the bytes of a field and on the fields.
use Rattle.std.specs.Prelude.{◌≡◌, Bool, ltb, T, get_or, take, drop, set}
use Rattle.std.proofs.Math.Path.{refl, ap}
use Rattle.std.proofs.Common.{sym, ap₂, subst, ◌∙◌, add-one, length-take, length-drop, ext_get_or, get_or-set_same, get_or-set_other, get_or-take, get_or-drop, drop_at, length-take-le, below_more, eqb-true, eq-eqb, ne_eqb, lt-ltb, le-ltb}
use Rattle.std.proofs.Math.Bool.{true, false}
use mathlib.Core.List.{List, [], ◌∷◌, ◌++◌, append_assoc}
use Prim.Native.Nat.{ℕ, zero, suc, ◌+◌, ◌-◌, ◌≤◌, ◌<◌}
use native.Mathlib.Omega.{arith}
use Rattle.std.proofs.Math.Dec.{eqb}
use Rattle.std.proofs.Math.ListN.{length, length-set, length-append, get_or-append}
use Rattle.std.proofs.lemmas.List.Edits.{sets, sets-eq}
use Rattle.std.proofs.Math.Seq.{length-sets, get_or-append_seam, take-append_seam}
use Rattle.std.proofs.lemmas.Bool.{eqb-false}
use Rattle.separated.specs.declared.machine.Kind.TheVariants.{Quote, Newline, Return, Separator, Other}
use Rattle.separated.specs.declared.machine.Mode.{Mode}
use Rattle.separated.specs.declared.machine.Mode.TheVariants.{Before, Bare, Quoted, Closed}
use Rattle.separated.specs.declared.machine.Act.TheVariants.{Keep, Pass, End, Last}
use Rattle.separated.specs.declared.machine.Move.{Move}
use Rattle.separated.specs.declared.records.Scan.{Scan}
use Rattle.separated.specs.Machine as Machine
use Machine.{kind_of, move, step_of}
use Rattle.separated.specs.Quotes.{or_else, special, specials, once_or_twice, doubled, between, if_then, as_written, row_written}
use Rattle.separated.specs.QuotesLaws.{quote_kind, steps}
use Rattle.separated.specs.Records.{begins, unless, between_places, field_of, begun, pick, with_fields, done_with, spoilt_by}
use Rattle.separated.specs.Reading.{Read, read, lines_with, moved_to, with_bytes, moved_by, read_byte, Reached, reached, stop_or, read_from}

-- the lines behind bytes
abbrev lines_over : ℕ → List ℕ → ℕ
lines_over l [] = l
lines_over l (b ∷ w) = lines_over (lines_with l b) w

-- a scan inside a field
abbrev inside : Mode → ℕ → ℕ → Scan → Scan
inside m n l s = record { mode = m; n = n; fields = s.fields; began = true; done = false; fault = s.fault; wrong = s.wrong; lines = l }

-- where a field may end
data Stops : Mode → Type 0 where
  before_stops : Stops Before
  bare_stops : Stops Bare
  closed_stops : Stops Closed

stops_field : {m : Mode} → Stops m → step_of m Separator ≡ move End Before
stops_field before_stops = refl
stops_field bare_stops = refl
stops_field closed_stops = refl

stops_record : {m : Mode} → Stops m → step_of m Newline ≡ move Last Before
stops_record before_stops = refl
stops_record bare_stops = refl
stops_record closed_stops = refl

-- the field that ends, and the last one
abbrev next_field : Scan → Scan
next_field s = with_fields (s.fields + 1) s

abbrev last_field : Scan → Scan
last_field s = done_with (next_field s)

-- x behind the field w and the byte t that ends it
abbrev behind_field : (Scan → Scan) → ℕ → Read → List ℕ → Read
behind_field f t x w =
    read (f (moved_to Before t (inside Before (x.scan.n + length w) (lines_over x.scan.lines w) x.scan))) (sets x.kept x.scan.n w) (set x.ends x.scan.fields (x.scan.n + length w))

record Spelt (separator t : ℕ) (f : Scan → Scan) (v : List ℕ) (at : ℕ) (x : Read) (w rest : List ℕ) : Type 0 where
  behind : Read
  came : read_from separator at x (v ++ (t ∷ rest)) ≡ read_from separator (at + length v) behind (t ∷ rest)
  ended : read_byte separator behind t ≡ behind_field f t x w

-- the bytes of all fields
abbrev pub total : List (List ℕ) → ℕ
total [] = 0
total (w ∷ ws) = length w + total ws

abbrev row_read : ℕ → Read → List ℕ → List (List ℕ) → Read
row_read separator x w [] = behind_field last_field 10 x w
row_read separator x w (v ∷ vs) = row_read separator (behind_field next_field separator x w) v vs

no_bool : {A : Type 0} → ◌≡◌ {A = Bool} true false → A
no_bool e = absurd (subst T e tt)

module _ (separator : ℕ) (q : separator ≡ 34 → ⊥) (l : separator ≡ 10 → ⊥) where
  -- ---- kinds

  newline_kind : kind_of 10 separator ≡ Newline
  newline_kind = simp (ne_eqb 10 separator (λ e. l (sym e)))

  own_kind : kind_of separator separator ≡ Separator
  own_kind = simp (eq-eqb separator separator refl)

  other_kind : (b : ℕ) → special separator b ≡ false → kind_of b separator ≡ Other
  other_kind b = by (eqb b separator) (eqb b 34) (eqb b 10) (eqb b 13)
    where
      by : (s q n r : Bool) → or_else s (or_else q (or_else n r)) ≡ false → Machine.pick s Separator (Machine.pick q Quote (Machine.pick n Newline (Machine.pick r Return Other))) ≡ Other
      by true q n r e = no_bool e
      by false true n r e = no_bool e
      by false false true r e = no_bool e
      by false false false true e = no_bool e
      by false false false false e = refl

  -- ---- one byte

  step_on : (at : ℕ) (x : Read) (b : ℕ) (w : List ℕ) {y : Read} → read_byte separator x b ≡ y → y.scan.done ≡ false → read_from separator at x (b ∷ w) ≡ read_from separator (at + 1) y w
  unfolding read_from
  step_on at x b w {y} e f =
      ap (λ (z : Read). stop_or z.scan.done (reached (at + 1) z) (read_from separator (at + 1) z w)) e
      ∙ ap (λ (t : Bool). stop_or t (reached (at + 1) y) (read_from separator (at + 1) y w)) f

  keeps : (x : Read) (b : ℕ) (m : Mode) → step_of x.scan.mode (kind_of b separator) ≡ move Keep m → x.scan.n < length x.kept
      → read_byte separator x b ≡ read (inside m (x.scan.n + 1) (lines_with x.scan.lines b) x.scan) (set x.kept x.scan.n b) x.ends
  unfolding read_byte
  keeps x b m e h =
      let s = moved_to m b x.scan in
      ap (λ (v : Move). moved_by v b x) e
      ∙ ap (λ (t : Bool). read (pick t (with_bytes (x.scan.n + 1) s) (spoilt_by 5 s)) (set x.kept x.scan.n b) x.ends) (lt-ltb x.scan.n (length x.kept) h)

  passes : (x : Read) (b : ℕ) (m : Mode) → step_of x.scan.mode (kind_of b separator) ≡ move Pass m
      → read_byte separator x b ≡ read (inside m x.scan.n (lines_with x.scan.lines b) x.scan) x.kept x.ends
  unfolding read_byte
  passes x b m e = ap (λ (v : Move). moved_by v b x) e

  ends_field : (x : Read) (b : ℕ) (m : Mode) → step_of x.scan.mode (kind_of b separator) ≡ move End m → x.scan.fields < length x.ends
      → read_byte separator x b ≡ read (with_fields (x.scan.fields + 1) (moved_to m b x.scan)) x.kept (set x.ends x.scan.fields x.scan.n)
  unfolding read_byte
  ends_field x b m e h =
      let s = moved_to m b x.scan in
      ap (λ (v : Move). moved_by v b x) e
      ∙ ap (λ (t : Bool). read (pick t (with_fields (x.scan.fields + 1) s) (spoilt_by 6 s)) x.kept (set x.ends x.scan.fields x.scan.n)) (lt-ltb x.scan.fields (length x.ends) h)

  ends_record : (x : Read) (b : ℕ) (m : Mode) → step_of x.scan.mode (kind_of b separator) ≡ move Last m → x.scan.fields < length x.ends
      → read_byte separator x b ≡ read (done_with (with_fields (x.scan.fields + 1) (moved_to m b x.scan))) x.kept (set x.ends x.scan.fields x.scan.n)
  unfolding read_byte
  ends_record x b m e h =
      let s = moved_to m b x.scan in
      ap (λ (v : Move). moved_by v b x) e
      ∙ ap (λ (t : Bool). read (done_with (pick t (with_fields (x.scan.fields + 1) s) (spoilt_by 6 s))) x.kept (set x.ends x.scan.fields x.scan.n)) (lt-ltb x.scan.fields (length x.ends) h)

  -- ---- the bytes of a field, between quotes and without them

  said : (m : Mode) (lines : ℕ) (s : Scan) (kept w ends rest : List ℕ) {a a' n n' p p' : ℕ} → a ≡ a' → n ≡ n' → p ≡ p'
      → read_from separator a (read (inside m n lines s) (sets kept p w) ends) rest ≡ read_from separator a' (read (inside m n' lines s) (sets kept p' w) ends) rest
  said m lines s kept w ends rest {a} {a'} {n} {n'} {p} {p'} e f g =
      ap (λ (k : ℕ). read_from separator k (read (inside m n lines s) (sets kept p w) ends) rest) e
      ∙ ap (λ (k : ℕ). read_from separator a' (read (inside m k lines s) (sets kept p w) ends) rest) f
      ∙ ap (λ (k : ℕ). read_from separator a' (read (inside m n' lines s) (sets kept k w) ends) rest) g

  quoted : (w : List ℕ) (at n lines : ℕ) (s : Scan) (kept ends rest : List ℕ) → n + length w ≤ length kept
      → read_from separator at (read (inside Quoted n lines s) kept ends) (doubled w ++ rest)
      ≡ read_from separator (at + length (doubled w)) (read (inside Quoted (n + length w) (lines_over lines w) s) (sets kept n w) ends) rest
  unfolding doubled
  quoted [] at n lines s kept ends rest h = said Quoted lines s kept [] ends rest {p = n} (omega arith) (omega arith) refl
  quoted (b ∷ w) at n lines s kept ends rest h =
      by (eqb b 34) refl (λ (a : ℕ). quoted w a (n + 1) (lines_with lines b) s (set kept n b) ends rest (simp length-set (omega arith)))
    where
      by : (t : Bool) → eqb b 34 ≡ t
          → ((a : ℕ) → read_from separator a (read (inside Quoted (n + 1) (lines_with lines b) s) (set kept n b) ends) (doubled w ++ rest)
          ≡ read_from separator (a + length (doubled w)) (read (inside Quoted (n + 1 + length w) (lines_over (lines_with lines b) w) s) (sets (set kept n b) (n + 1) w) ends) rest)
          → read_from separator at (read (inside Quoted n lines s) kept ends) ((once_or_twice t b ++ doubled w) ++ rest)
          ≡ read_from separator (at + length (once_or_twice t b ++ doubled w)) (read (inside Quoted (n + suc (length w)) (lines_over (lines_with lines b) w) s) (sets (set kept n b) (suc n) w) ends) rest
      by true e more =
          step_on at (read (inside Quoted n lines s) kept ends) 34 (34 ∷ doubled w ++ rest) (passes (read (inside Quoted n lines s) kept ends) 34 Closed (ap (step_of Quoted) (quote_kind separator q))) refl
          ∙ step_on (at + 1) (read (inside Closed n lines s) kept ends) 34 (doubled w ++ rest)
          (keeps (read (inside Closed n lines s) kept ends) 34 Quoted (ap (step_of Closed) (quote_kind separator q)) (omega arith)
          ∙ ap (λ (c : ℕ). read (inside Quoted (n + 1) (lines_with lines c) s) (set kept n c) ends) (sym (eqb-true b 34 e))) refl
          ∙ more (at + 1 + 1)
          ∙ said Quoted (lines_over (lines_with lines b) w) s (set kept n b) w ends rest (omega arith) (omega arith) (omega arith)
      by false e more =
          step_on at (read (inside Quoted n lines s) kept ends) b (doubled w ++ rest) (keeps (read (inside Quoted n lines s) kept ends) b Quoted (steps separator q b (eqb-false b 34 e)) (omega arith)) refl
          ∙ more (at + 1)
          ∙ said Quoted (lines_over (lines_with lines b) w) s (set kept n b) w ends rest (omega arith) (omega arith) (omega arith)

  neither : (a b : Bool) → or_else a b ≡ false → (a ≡ false) × (b ≡ false)
  neither true b e = no_bool e
  neither false b e = (refl, e)

  bare : (w : List ℕ) (at n lines : ℕ) (s : Scan) (kept ends rest : List ℕ) → specials separator w ≡ false → n + length w ≤ length kept
      → read_from separator at (read (inside Bare n lines s) kept ends) (w ++ rest)
      ≡ read_from separator (at + length w) (read (inside Bare (n + length w) (lines_over lines w) s) (sets kept n w) ends) rest
  unfolding specials
  bare [] at n lines s kept ends rest e h = said Bare lines s kept [] ends rest {p = n} (omega arith) (omega arith) refl
  bare (b ∷ w) at n lines s kept ends rest e h =
      let (f, g) = neither (special separator b) (specials separator w) e in
      step_on at (read (inside Bare n lines s) kept ends) b (w ++ rest) (keeps (read (inside Bare n lines s) kept ends) b Bare (ap (step_of Bare) (other_kind b f)) (omega arith)) refl
      ∙ bare w (at + 1) (n + 1) (lines_with lines b) s (set kept n b) ends rest g (simp length-set (omega arith))
      ∙ said Bare (lines_over (lines_with lines b) w) s (set kept n b) w ends rest (omega arith) (omega arith) (omega arith)

  -- ---- a whole field, and the byte behind it

  module _ (t : ℕ) (f : Scan → Scan)
      (ending : (y : Read) → Stops y.scan.mode → y.scan.fields < length y.ends → read_byte separator y t ≡ read (f (moved_to Before t y.scan)) y.kept (set y.ends y.scan.fields y.scan.n)) where
    quoted_field : (at : ℕ) (x : Read) (w rest : List ℕ) → x.scan.mode ≡ Before → x.scan.n + length w ≤ length x.kept → x.scan.fields < length x.ends → Spelt separator t f (between w) at x w rest
    unfolding between
    quoted_field at x w rest m h k =
        let z = length-append (doubled w) (34 ∷ []) in
        let first = read (inside Quoted x.scan.n x.scan.lines x.scan) x.kept x.ends in
        let all = read (inside Quoted (x.scan.n + length w) (lines_over x.scan.lines w) x.scan) (sets x.kept x.scan.n w) x.ends in
        let shut = read (inside Closed (x.scan.n + length w) (lines_over x.scan.lines w) x.scan) (sets x.kept x.scan.n w) x.ends in
        record {
          behind = shut;
          came =
              step_on at x 34 ((doubled w ++ (34 ∷ [])) ++ (t ∷ rest)) (passes x 34 Quoted (ap (λ (u : Mode). step_of u (kind_of 34 separator)) m ∙ ap (step_of Before) (quote_kind separator q))) refl
              ∙ ap (read_from separator (at + 1) first) (append_assoc (doubled w) (34 ∷ []) (t ∷ rest))
              ∙ quoted w (at + 1) x.scan.n x.scan.lines x.scan x.kept x.ends (34 ∷ t ∷ rest) h
              ∙ step_on (at + 1 + length (doubled w)) all 34 (t ∷ rest) (passes all 34 Closed (ap (step_of Quoted) (quote_kind separator q))) refl
              ∙ ap (λ (i : ℕ). read_from separator i shut (t ∷ rest)) (let e : at + 1 + length (doubled w) + 1 ≡ at + suc (length (doubled w ++ (34 ∷ []))) = omega arith in e);
          ended = ending shut closed_stops k;
        }

    bare_field : (at : ℕ) (x : Read) (w rest : List ℕ) → specials separator w ≡ false → x.scan.mode ≡ Before → x.scan.n + length w ≤ length x.kept → x.scan.fields < length x.ends → Spelt separator t f w at x w rest
    unfolding specials
    bare_field at x [] rest e m h k =
        record {
          behind = x;
          came = ap (λ (i : ℕ). read_from separator i x (t ∷ rest)) (let z : at ≡ at + 0 = omega arith in z);
          ended =
              ending x (subst Stops (sym m) before_stops) k
              ∙ ap (λ (n : ℕ). read (f (moved_to Before t (inside Before n x.scan.lines x.scan))) x.kept (set x.ends x.scan.fields n)) (let z : x.scan.n ≡ x.scan.n + 0 = omega arith in z);
        }
    bare_field at x (b ∷ w) rest e m h k =
        let (g, i) = neither (special separator b) (specials separator w) e in
        let all = read (inside Bare (x.scan.n + suc (length w)) (lines_over (lines_with x.scan.lines b) w) x.scan) (sets (set x.kept x.scan.n b) (suc x.scan.n) w) x.ends in
        record {
          behind = all;
          came =
              step_on at x b (w ++ (t ∷ rest)) (keeps x b Bare (ap (λ (u : Mode). step_of u (kind_of b separator)) m ∙ ap (step_of Before) (other_kind b g)) (omega arith)) refl
              ∙ bare w (at + 1) (x.scan.n + 1) (lines_with x.scan.lines b) x.scan (set x.kept x.scan.n b) x.ends (t ∷ rest) i (simp length-set (omega arith))
              ∙ said Bare (lines_over (lines_with x.scan.lines b) w) x.scan (set x.kept x.scan.n b) w x.ends (t ∷ rest) (omega arith) (omega arith) (omega arith);
          ended = ending all bare_stops k;
        }

    spelt : (at : ℕ) (x : Read) (w rest : List ℕ) → x.scan.mode ≡ Before → x.scan.n + length w ≤ length x.kept → x.scan.fields < length x.ends → Spelt separator t f (as_written separator w) at x w rest
    spelt at x w rest m h k = by (specials separator w) refl
      where
        by : (u : Bool) → specials separator w ≡ u → Spelt separator t f (if_then u (between w) w) at x w rest
        by true e = quoted_field at x w rest m h k
        by false e = bare_field at x w rest e m h k

  -- ---- a record

  next_ends : (y : Read) → Stops y.scan.mode → y.scan.fields < length y.ends → read_byte separator y separator ≡ read (next_field (moved_to Before separator y.scan)) y.kept (set y.ends y.scan.fields y.scan.n)
  next_ends y s k = ends_field y separator Before (ap (step_of y.scan.mode) own_kind ∙ stops_field s) k

  last_ends : (y : Read) → Stops y.scan.mode → y.scan.fields < length y.ends → read_byte separator y 10 ≡ read (last_field (moved_to Before 10 y.scan)) y.kept (set y.ends y.scan.fields y.scan.n)
  last_ends y s k = ends_record y 10 Before (ap (step_of y.scan.mode) newline_kind ∙ stops_record s) k

  stop_at : (at : ℕ) (x : Read) (b : ℕ) (w : List ℕ) {y : Read} → read_byte separator x b ≡ y → y.scan.done ≡ true → read_from separator at x (b ∷ w) ≡ reached (at + 1) y
  unfolding read_from
  stop_at at x b w {y} e g =
      ap (λ (z : Read). stop_or z.scan.done (reached (at + 1) z) (read_from separator (at + 1) z w)) e
      ∙ ap (λ (t : Bool). stop_or t (reached (at + 1) y) (read_from separator (at + 1) y w)) g

  row_on : (w : List ℕ) (ws : List (List ℕ)) (at : ℕ) (x : Read) (rest : List ℕ) → x.scan.mode ≡ Before → x.scan.n + total (w ∷ ws) ≤ length x.kept → x.scan.fields + suc (length ws) ≤ length x.ends
      → read_from separator at x (row_written separator w ws ++ rest) ≡ reached (at + length (row_written separator w ws)) (row_read separator x w ws)
  unfolding row_written
  row_on w [] at x rest m h k =
      let a = as_written separator w in
      let s = spelt 10 last_field last_ends at x w rest m (omega arith) (omega arith) in
      let n = length-append a (10 ∷ []) in
      ap (read_from separator at x) (append_assoc a (10 ∷ []) rest)
      ∙ s.came ∙ stop_at (at + length a) s.behind 10 rest s.ended refl
      ∙ ap (λ (i : ℕ). reached i (behind_field last_field 10 x w)) (let e : at + length a + 1 ≡ at + length (a ++ (10 ∷ [])) = omega arith in e)
  row_on w (v ∷ vs) at x rest m h k =
      let a = as_written separator w in
      let more = row_written separator v vs in
      let s = spelt separator next_field next_ends at x w (more ++ rest) m (omega arith) (omega arith) in
      let y = behind_field next_field separator x w in
      let n = length-append a (separator ∷ more) in
      let p = length-sets x.kept x.scan.n w in
      let r = length-set x.ends x.scan.fields (x.scan.n + length w) in
      ap (read_from separator at x) (append_assoc a (separator ∷ more) rest)
      ∙ s.came ∙ step_on (at + length a) s.behind separator (more ++ rest) s.ended refl
      ∙ row_on v vs (at + length a + 1) y rest refl (omega arith) (omega arith)
      ∙ ap (λ (i : ℕ). reached i (row_read separator y v vs)) (let e : at + length a + 1 + length more ≡ at + length (a ++ (separator ∷ more)) = omega arith in e)

-- ---- the fields that stand among the bytes that are kept

before_sets : (w kept : List ℕ) (n j : ℕ) → j < n → get_or (sets kept n w) j 0 ≡ get_or kept j 0
before_sets [] kept n j h = refl
before_sets (b ∷ w) kept n j h = before_sets w (set kept n b) (suc n) j (omega arith) ∙ get_or-set_other kept n j b 0 (λ e. omega arith)

module _ (kept ends : List ℕ) (n f : ℕ) (w : List ℕ) (room : n + length w ≤ length kept) (place : f < length ends) where
  own_end : get_or (set ends f (n + length w)) f 0 ≡ n + length w
  own_end = get_or-set_same ends f (n + length w) 0 place

  same_end : (i : ℕ) → i < f → get_or (set ends f (n + length w)) i 0 ≡ get_or ends i 0
  same_end i h = get_or-set_other ends f i (n + length w) 0 (λ e. omega arith)

  same_begin : (i : ℕ) → i ≤ f → begins (set ends f (n + length w)) i ≡ begins ends i
  same_begin zero h = refl
  same_begin (suc i) h = same_end i (omega arith)

  same_bytes : (p e : ℕ) → e ≤ n → take (e - p) (drop p (sets kept n w)) ≡ take (e - p) (drop p kept)
  same_bytes p e h =
      ext_get_or 0 (take (e - p) (drop p (sets kept n w))) (take (e - p) (drop p kept)) (simp (length-take, length-drop, length-sets))
      (λ i l. (
      let z = length-take (e - p) (drop p (sets kept n w)) in
      let b : i < e - p = omega arith in
      get_or-take (e - p) (drop p (sets kept n w)) i 0 b ∙ get_or-drop p (sets kept n w) i 0 ∙ before_sets w kept n (p + i) (omega arith)
      ∙ sym (get_or-take (e - p) (drop p kept) i 0 b ∙ get_or-drop p kept i 0)
      ))

  field_same : (i : ℕ) → i < f → get_or ends i 0 ≤ n → field_of (sets kept n w) (set ends f (n + length w)) i ≡ field_of kept ends i
  field_same i h k =
      ap₂ (between_places (sets kept n w)) (same_begin i (omega arith)) (same_end i h)
      ∙ ap₂ (λ (z : ℕ) (v : List ℕ). unless (ltb z (get_or ends i 0)) v) (length-sets kept n w) (same_bytes (begins ends i) (get_or ends i 0) k)

  field_own : begins ends f ≡ n → field_of (sets kept n w) (set ends f (n + length w)) f ≡ w
  field_own e =
      let z = length-sets kept n w in
      ap₂ (between_places (sets kept n w)) (same_begin f (omega arith) ∙ e) own_end
      ∙ ap₂ (λ (t : Bool) (k : ℕ). unless t (take k (drop n (sets kept n w)))) (le-ltb (length (sets kept n w)) (n + length w) (omega arith)) (let i : n + length w - n ≡ length w = omega arith in i)
      ∙ ap (take (length w)) (ap (drop n) (sets-eq w kept n room ∙ append_assoc (take n kept) w (drop (n + length w) kept)) ∙ drop_at (take n kept) (w ++ drop (n + length w) kept) n (length-take-le n kept (omega arith)))
      ∙ take-append_seam w (drop (n + length w) kept)

-- n bytes are kept, and the f fields that ended are us
record Stands (n f : ℕ) (kept ends : List ℕ) (us : List (List ℕ)) : Type 0 where
  count : f ≡ length us
  last : begins ends f ≡ n
  inner : (i : ℕ) → i < f → get_or ends i 0 ≤ n
  fields : (i : ℕ) → i < f → field_of kept ends i ≡ get_or us i []

stands_more : {n f : ℕ} {kept ends : List ℕ} {us : List (List ℕ)} → Stands n f kept ends us → (w : List ℕ) → n + length w ≤ length kept → f < length ends
    → Stands (n + length w) (f + 1) (sets kept n w) (set ends f (n + length w)) (us ++ (w ∷ []))
stands_more {n} {f} {kept} {ends} {us} s w room place =
    let m = s.count in
    let own = own_end kept ends n f w room place in
    record {
      count = simp length-append (omega arith);
      last = subst (λ (k : ℕ). begins (set ends f (n + length w)) k ≡ n + length w) (sym (add-one f)) own;
      inner = below_more (λ (i : ℕ). get_or (set ends f (n + length w)) i 0 ≤ n + length w) f (λ i h. (let e = same_end kept ends n f w room place i h in let k = s.inner i h in omega arith)) (omega arith);
      fields =
          below_more (λ (i : ℕ). field_of (sets kept n w) (set ends f (n + length w)) i ≡ get_or (us ++ (w ∷ [])) i []) f
          (λ i h. field_same kept ends n f w room place i h (s.inner i h) ∙ s.fields i h ∙ sym (get_or-append us (w ∷ []) [] i (omega arith)))
          (field_own kept ends n f w room place s.last ∙ sym (ap (λ (k : ℕ). get_or (us ++ (w ∷ [])) k []) m ∙ get_or-append_seam us w [] []));
    }

abbrev Holding : Read → List (List ℕ) → Type 0
Holding x us = Stands x.scan.n x.scan.fields x.kept x.ends us

row_stands : (separator : ℕ) (w : List ℕ) (ws : List (List ℕ)) (x : Read) (us : List (List ℕ)) → Holding x us → x.scan.n + total (w ∷ ws) ≤ length x.kept → x.scan.fields + suc (length ws) ≤ length x.ends
    → Holding (row_read separator x w ws) (us ++ (w ∷ ws))
row_stands separator w [] x us s h k = stands_more s w (omega arith) (omega arith)
row_stands separator w (v ∷ vs) x us s h k =
    let p = length-sets x.kept x.scan.n w in
    let r = length-set x.ends x.scan.fields (x.scan.n + length w) in
    subst (Holding (row_read separator (behind_field next_field separator x w) v vs)) (append_assoc us (w ∷ []) (v ∷ vs))
    (row_stands separator v vs (behind_field next_field separator x w) (us ++ (w ∷ [])) (stands_more s w (omega arith) (omega arith)) (omega arith) (omega arith))

row_well : (separator : ℕ) (w : List ℕ) (ws : List (List ℕ)) (x : Read) → ((row_read separator x w ws).scan.done ≡ true) × ((row_read separator x w ws).scan.fault ≡ x.scan.fault)
row_well separator w [] x = (refl, refl)
row_well separator w (v ∷ vs) x = row_well separator v vs (behind_field next_field separator x w)

-- ---- the law

-- the record ends behind its newline, nothing is wrong, and its fields are those that were written
pub record ReadBack (at : ℕ) (written : List ℕ) (ws : List (List ℕ)) (z : Reached) : Type 0 where
  pub place : z.at ≡ at + length written
  pub done : z.so_far.scan.done ≡ true
  pub well : z.so_far.scan.fault ≡ 0
  pub many : z.so_far.scan.fields ≡ length ws
  pub fields : (i : ℕ) → i < length ws → field_of z.so_far.kept z.so_far.ends i ≡ get_or ws i []

pub read_back : (separator : ℕ) → (separator ≡ 34 → ⊥) → (separator ≡ 10 → ⊥) → (w : List ℕ) (ws : List (List ℕ)) (at lines : ℕ) (kept ends rest : List ℕ)
    → total (w ∷ ws) ≤ length kept → length (w ∷ ws) ≤ length ends
    → ReadBack at (row_written separator w ws) (w ∷ ws) (read_from separator at (read (begun lines) kept ends) (row_written separator w ws ++ rest))
read_back separator q l w ws at lines kept ends rest h k =
    let x = read (begun lines) kept ends in
    let s = row_stands separator w ws x [] (record { count = refl; last = refl; inner = λ i n. absurd (omega arith); fields = λ i n. absurd (omega arith) }) (omega arith) (omega arith) in
    let m = s.count in
    subst (ReadBack at (row_written separator w ws) (w ∷ ws)) (sym (row_on separator q l w ws at x rest refl (omega arith) (omega arith)))
    (record {
      place = refl;
      done = (row_well separator w ws x).0;
      well = (row_well separator w ws x).1;
      many = m;
      fields = λ i n. s.fields i (omega arith);
    })
