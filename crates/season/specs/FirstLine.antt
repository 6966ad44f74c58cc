-- The first line of a sheet. Definitions, and the cases of the code.
use Rattle.std.specs.Prelude.{◌≡◌, refl, Bool, true, false, cond, ◌&&◌, List, ℕ, ◌≤◌, ◌<◌, eqb, get_or, length, drop, set}
use Rattle.std.proofs.Common.{sym, ap, ap₂, subst, ◌∙◌, arith, eq-eqb, ne_eqb}
use Rattle.std.proofs.Math.ListN.{get_or-eq_default}
use Rattle.separated.specs.declared.records.Scan.{Scan}
use Rattle.separated.specs.Records.{begun, finished}
use Rattle.separated.specs.Reading.{read, Reached, reached, read_from, read_end}
use Rattle.season_answer.specs.Columns.{item_count, of_field, all_may}
use Rattle.season_answer.specs.Fields.{heading_written}
use Rattle.digits.specs.Appends.{Appends}

-- behind a byte order mark (239, 187, 191), if the sheet begins with one
abbrev pub behind_mark : List ℕ → ℕ
behind_mark w = cond (eqb (get_or w 0 0) 239) (cond (eqb (get_or w 1 0) 187) (cond (eqb (get_or w 2 0) 191) 3 0) 0) 0

-- a record that did not end is ended by the end of the input
abbrev pub or_ended : Bool → Reached → Reached
or_ended true z = z
or_ended false z = reached z.at (read_end z.so_far)

abbrev pub whole : Reached → Reached
whole z = or_ended z.so_far.scan.done z

-- the record that the first chunk begins with, read into the lent cells
abbrev pub first_line : ℕ → List ℕ → List ℕ → List ℕ → Reached
first_line separator chunk kept ends = whole (read_from separator (behind_mark chunk) (read (begun 0) kept ends) (drop (behind_mark chunk) chunk))

-- whether it is a record
abbrev pub is_line : Scan → Bool
is_line s = s.began && eqb s.fault 0

-- whether it names the columns of a sheet for the guideline
abbrev pub well_line : Scan → List ℕ → List ℕ → List ℕ → List ℕ → List ℕ → Bool
well_line s plan texts kept ends columns = is_line s && all_may (of_field plan texts kept ends) columns 0 s.fields

-- the first line of the answer, if all is well
abbrev pub Headed : Bool → List ℕ → List ℕ → List ℕ → ℕ → List ℕ → List ℕ → ℕ → List ℕ → List ℕ → ℕ → Type 0
Headed true plan texts columns many kept ends separator out out' r = Appends out out' 0 r (heading_written plan texts (item_count plan) columns many kept ends separator)
Headed false plan texts columns many kept ends separator out out' r = r ≡ 0

pub none_began : {a : Bool} (c : Bool) → a ≡ false → false ≡ (a && c)
none_began c e = ap (λ (t : Bool). t && c) (sym e)

pub spoilt : {a : Bool} {f : ℕ} → (f ≡ 0 → ⊥) → a ≡ true → false ≡ (a && eqb f 0)
spoilt {a} {f} ne e = sym (ap (λ (t : Bool). t && eqb f 0) e ∙ ne_eqb f 0 ne)

pub a_line : {a : Bool} {f : ℕ} → f ≡ 0 → a ≡ true → true ≡ (a && eqb f 0)
a_line {a} {f} z e = sym (ap (λ (t : Bool). t && eqb f 0) e ∙ eq-eqb f 0 z)

pub both : {a b x y r : Bool} → a ≡ x → a ≡ true → b ≡ y → b ≡ r → r ≡ (x && y)
both {a} {b} {x} {y} e f g h = sym h ∙ g ∙ ap (λ (t : Bool). t && y) (sym f ∙ e)

pub no_line : {a x : Bool} (y : Bool) → a ≡ x → a ≡ false → false ≡ (x && y)
no_line y e f = ap (λ (t : Bool). t && y) (sym f ∙ e)

pub headed : (plan texts columns : List ℕ) (many : ℕ) (kept ends : List ℕ) (separator : ℕ) {out out' : List ℕ} {r : ℕ} {t : Bool} → t ≡ true
    → Appends out out' 0 r (heading_written plan texts (item_count plan) columns many kept ends separator) → Headed t plan texts columns many kept ends separator out out' r
headed plan texts columns many kept ends separator {out} {out'} {r} e h =
    subst (λ (t : Bool). Headed t plan texts columns many kept ends separator out out' r) (sym e) h

-- ---- the byte order mark

module _ (w : List ℕ) where
  pub mark : {a b c : Bool} → eqb (get_or w 0 0) 239 ≡ a → eqb (get_or w 1 0) 187 ≡ b → eqb (get_or w 2 0) 191 ≡ c → cond a (cond b (cond c 3 0) 0) 0 ≡ behind_mark w
  mark {a} {b} {c} e f g =
      sym (ap (λ (t : Bool). cond t (cond (eqb (get_or w 1 0) 187) (cond (eqb (get_or w 2 0) 191) 3 0) 0) 0) e
      ∙ ap (λ (t : Bool). cond a (cond t (cond (eqb (get_or w 2 0) 191) 3 0) 0) 0) f
      ∙ ap (λ (t : Bool). cond a (cond b (cond t 3 0) 0) 0) g)

  pub too_short : length w < 3 → 0 ≡ behind_mark w
  too_short h =
      none (eqb (get_or w 0 0) 239) (eqb (get_or w 1 0) 187)
      ∙ mark refl refl (ne_eqb (get_or w 2 0) 191 (λ e. (let z = get_or-eq_default w 0 (let k : length w ≤ 2 = omega arith in k) in omega arith)))
    where
      none : (a b : Bool) → ◌≡◌ {A = ℕ} 0 (cond a (cond b 0 0) 0)
      none true true = refl
      none true false = refl
      none false b = refl

-- ---- the record

module _ (separator : ℕ) (chunk kept ends : List ℕ) {m : ℕ} {b : Scan} {z : Reached} (e : m ≡ behind_mark chunk) (f : b ≡ begun 0) (g : z ≡ read_from separator m (read b kept ends) (drop m chunk)) where
  as_taken : z ≡ read_from separator (behind_mark chunk) (read (begun 0) kept ends) (drop (behind_mark chunk) chunk)
  as_taken = g ∙ ap₂ (λ (n : ℕ) (s : Scan). read_from separator n (read s kept ends) (drop n chunk)) e f

  pub line_whole : z.so_far.scan.done ≡ true → z ≡ first_line separator chunk kept ends
  line_whole d = sym (ap (λ (t : Bool). or_ended t z) d) ∙ ap whole as_taken

  pub line_cut : {s : Scan} {u : List ℕ} → z.so_far.scan.done ≡ false → s ≡ finished (length z.so_far.ends) z.so_far.scan → u ≡ set z.so_far.ends z.so_far.scan.fields z.so_far.scan.n
      → reached z.at (read s z.so_far.kept u) ≡ first_line separator chunk kept ends
  line_cut d h k = ap₂ (λ (x : Scan) (y : List ℕ). reached z.at (read x z.so_far.kept y)) h k ∙ sym (ap (λ (t : Bool). or_ended t z) d) ∙ ap whole as_taken

-- however it was read, it is done
pub first_done : (separator : ℕ) (chunk kept ends : List ℕ) → (first_line separator chunk kept ends).so_far.scan.done ≡ true
first_done separator chunk kept ends = by (read_from separator (behind_mark chunk) (read (begun 0) kept ends) (drop (behind_mark chunk) chunk))
  where
    by : (z : Reached) → (whole z).so_far.scan.done ≡ true
    by z = go z.so_far.scan.done refl
      where
        go : (t : Bool) → z.so_far.scan.done ≡ t → (or_ended t z).so_far.scan.done ≡ true
        go true d = d
        go false d = refl
