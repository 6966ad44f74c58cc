-- Laws of the fields of a record, of its end and of the separator, as the code finds them: by the tests that it makes.
use Rattle.std.specs.Prelude.{◌≡◌, refl, Bool, true, false, List, [], ℕ, zero, suc, ◌+◌, ◌-◌, ◌≤◌, ◌<◌, eqb, get_or, set, length, take, drop}
use Rattle.std.proofs.Common.{sym, ap, subst, ◌∙◌, add-one, arith, lt-ltb, le-ltb, eq-eqb, ne_eqb}
use Rattle.std.proofs.Math.Seq.{drop-cons}
use Rattle.separated.specs.declared.machine.Mode.{Mode}
use Rattle.separated.specs.declared.machine.Mode.TheVariants.{Before, Bare, Quoted, Closed, Returned, Lost}
use Rattle.separated.specs.declared.records.Scan.{Scan}
use Rattle.separated.specs.Records.{begins, field_of, pick, with_fault, cut_off, turned, told, or_later, told_from}

-- ---- fields

pub begins_behind : (ends : List ℕ) (i : ℕ) → (i ≡ 0 → ⊥) → get_or ends (i - 1) 0 ≡ begins ends i
begins_behind ends zero ne = absurd (ne refl)
begins_behind ends (suc i) ne = ap (λ (j : ℕ). get_or ends j 0) (let e : suc i - 1 ≡ i = omega arith in e)

module _ (kept ends : List ℕ) (i : ℕ) {to : ℕ} (e : to ≡ get_or ends i 0) where
  pub field_past : length kept < to → [] ≡ field_of kept ends i
  field_past h = let l : length kept < get_or ends i 0 = omega arith in simp (lt-ltb (length kept) (get_or ends i 0) l)

  pub field_turned : {from : ℕ} → from ≡ begins ends i → to ≤ length kept → to < from → [] ≡ field_of kept ends i
  field_turned f h k =
      let l : get_or ends i 0 ≤ length kept = omega arith in
      let z : get_or ends i 0 - begins ends i ≡ 0 = omega arith in
      simp (le-ltb (length kept) (get_or ends i 0) l, z)

  pub field_is : {from : ℕ} → from ≡ begins ends i → to ≤ length kept → take (to - from) (drop from kept) ≡ field_of kept ends i
  field_is {from} f h =
      let l : get_or ends i 0 ≤ length kept = omega arith in
      ap (λ (t : ℕ). take (t - from) (drop from kept)) e
      ∙ ap (λ (x : ℕ). take (get_or ends i 0 - x) (drop x kept)) f
      ∙ simp (le-ltb (length kept) (get_or ends i 0) l)

-- ---- the end of the input leaves the fields that were read

pick_fields : (b : Bool) (f k : ℕ) (s : Scan) → ((pick b (with_fault f k s) s).fields ≡ s.fields) × ((pick b (with_fault f k s) s).n ≡ s.n)
pick_fields true f k s = (refl, refl)
pick_fields false f k s = (refl, refl)

cut_fields : (m : Mode) (s : Scan) → ((cut_off m s).fields ≡ s.fields) × ((cut_off m s).n ≡ s.n)
cut_fields Before s = (refl, refl)
cut_fields Bare s = (refl, refl)
cut_fields Quoted s = pick_fields (eqb s.fault 0) 4 s.fields s
cut_fields Closed s = (refl, refl)
cut_fields Returned s = pick_fields (eqb s.fault 0) 3 s.fields s
cut_fields Lost s = (refl, refl)

pub cut_ends : (m : Mode) (s : Scan) (ends : List ℕ) → set ends (cut_off m s).fields (cut_off m s).n ≡ set ends s.fields s.n
cut_ends m s ends =
    let (f, n) = cut_fields m s in
    ap (λ (k : ℕ). set ends k (cut_off m s).n) f ∙ ap (λ (k : ℕ). set ends s.fields k) n

-- ---- the separator

pub told_outside : {inside : Bool} (b : ℕ) {r : ℕ} → inside ≡ false → r ≡ told false b → r ≡ told inside b
told_outside {inside} b {r} e h = subst (λ (t : Bool). r ≡ told t b) (sym e) h

pub turned_quote : (inside : Bool) {now : Bool} {b : ℕ} → b ≡ 34 → now ≡ turned true inside → now ≡ turned (eqb b 34) inside
turned_quote inside {now} {b} e h = simp (eq-eqb b 34 e) h

module _ (inside : Bool) (w : List ℕ) (i : ℕ) (more : i < length w) where
  told_next : told_from inside (drop i w) ≡ or_later (told (turned (eqb (get_or w i 0) 34) inside) (get_or w i 0)) (told_from (turned (eqb (get_or w i 0) 34) inside) (drop (i + 1) w))
  unfolding told_from
  told_next = rw (add-one, drop-cons w i 0)

  module _ {now : Bool} {t : ℕ} (e : now ≡ turned (eqb (get_or w i 0) 34) inside) (f : t ≡ told now (get_or w i 0)) where
    told_as : told_from inside (drop i w) ≡ or_later t (told_from now (drop (i + 1) w))
    told_as =
        told_next
        ∙ ap (λ (n : Bool). or_later (told n (get_or w i 0)) (told_from n (drop (i + 1) w))) (sym e)
        ∙ ap (λ (x : ℕ). or_later x (told_from now (drop (i + 1) w))) (sym f)

    pub told_passed : t ≡ 0 → told_from inside (drop i w) ≡ told_from now (drop (i + 1) w)
    told_passed z = told_as ∙ ap (λ (x : ℕ). or_later x (told_from now (drop (i + 1) w))) z

    pub told_here : (t ≡ 0 → ⊥) → told_from inside (drop i w) ≡ t
    told_here ne = told_as ∙ simp (ne_eqb t 0 ne)

pub told_never : (inside : Bool) → told_from inside [] ≡ 44
unfolding told_from
told_never inside = refl
