-- The cases of the code, by the cells that it read.
use Rattle.std.specs.Prelude.{◌≡◌, refl, Bool, true, false, ◌||◌, List, ℕ, ◌+◌, ◌<◌, ◌≤◌, ℤ, eqb, length}
use Rattle.std.proofs.Common.{sym, subst, ◌∙◌, arith}
use Rattle.separated.specs.Records.{field_of}
use Rattle.paper_expressions.specs.Values.{Value}
use Rattle.adding.specs.Add.{Adds}
use Rattle.typed_value.specs.Elements.{Found}
use Rattle.typed_value.specs.Cells.{numbers_with, texts_with}
use Rattle.typed_value.specs.declared.steps.Slip.{Slip}
use Rattle.typed_value.specs.declared.steps.Slip.TheVariants.{Fine, Missing, Bare, Unclosed, Digits, Decimals, Separator, Nested, Many, Behind}
use Rattle.field_values.specs.Reading.{real_type, list-type, limit_if, refusal_by, field_as, FieldRead, field_value, field_wrong}
use Rattle.asked.specs.Asked.{asked}
use Rattle.season.specs.Series.{item_of, CellsAdded, ValueAdded, not_read, called, FieldAdded, Answered, of_label, not_asked, empty, given, AllAnswered, one_more}

limit_some : (t : Bool) → limit_if t ≡ 0 → ⊥
limit_some true e = omega arith
limit_some false e = omega arith

refusal_some : (k : Slip) (d : ℕ) → refusal_by k d ≡ 0 → ⊥
refusal_some Fine d e = omega arith
refusal_some Missing d e = omega arith
refusal_some Bare d e = omega arith
refusal_some Unclosed d e = omega arith
refusal_some Digits d e = omega arith
refusal_some Decimals d e = limit_some (real_type d) e
refusal_some Separator d e = omega arith
refusal_some Nested d e = omega arith
refusal_some Many d e = limit_some (list-type d) e
refusal_some Behind d e = omega arith

module _ (item : ℕ) {d : ℕ} {t : List ℕ} {n : List ℤ} {v : List ℕ} (b f s : List ℕ) where
  -- refused as it is read
  pub refused_as : {t' : List ℕ} {n' : List ℤ} {v' : List ℕ} {z : ℕ} {o : Found Value} → FieldRead d t n v t' n' v' z o → (z ≡ 0 → ⊥) → ValueAdded item d t n v b f s o b s z
  refused_as (field_value x y w) ne = absurd (ne refl)
  refused_as field_wrong ne = not_read

  -- or given
  pub called_as : {t' : List ℕ} {n' : List ℤ} {v' : List ℕ} {z : ℕ} {o : Found Value} (b' s' : List ℕ) (r : ℕ) → FieldRead d t n v t' n' v' z o → z ≡ 0 → CellsAdded item t' n' v' b f s b' s' r → ValueAdded item d t n v b f s o b' s' r
  called_as b' s' r (field_wrong {k = k}) e a = absurd (refusal_some k d e)
  called_as {t'} {n'} {v'} b' s' r (field_value {v = w} x y z) e a =
      called (
        a.0,
        subst (λ (c : List ℕ). Adds item c (numbers_with w n) (texts_with w v) b f s b' s' a.0) x
            (subst (λ (c : List ℤ). Adds item t' c (texts_with w v) b f s b' s' a.0) y
            (subst (λ (c : List ℕ). Adds item t' n' c b f s b' s' a.0) z a.1)),
        a.2,
      )

  -- by the type that was read from the plan
  pub typed_as : (field : List ℕ) {e : ℕ} {b' s' : List ℕ} {r : ℕ} → d ≡ e → ValueAdded item d t n v b f s (field_as d field) b' s' r → ValueAdded item e t n v b f s (field_as e field) b' s' r
  typed_as field {e} {b'} {s'} {r} g h = subst (λ (x : ℕ). ValueAdded item x t n v b f s (field_as x field) b' s' r) g h

module _ (columns kept ends f : List ℕ) (i : ℕ) (b s : List ℕ) {d : ℕ} (e : d ≡ item_of columns i) where
  pub label_as : 64 ≤ d → Answered columns kept ends f i b s b s false
  label_as l = of_label (subst (λ (m : ℕ). 64 ≤ m) e l)

  pub unasked_as : {a : Bool} → d < 64 → a ≡ asked f s d → a ≡ false → Answered columns kept ends f i b s b s false
  unasked_as l g h = not_asked (subst (λ (m : ℕ). m < 64) e l) (subst (λ (m : ℕ). asked f s m ≡ false) e (sym g ∙ h))

  pub empty_as : {a : Bool} {w : List ℕ} → d < 64 → a ≡ asked f s d → a ≡ true → w ≡ field_of kept ends i → length w ≡ 0 → Answered columns kept ends f i b s b s false
  empty_as l g h k z = empty (subst (λ (m : ℕ). m < 64) e l) (subst (λ (m : ℕ). asked f s m ≡ true) e (sym g ∙ h)) (subst (λ (v : List ℕ). length v ≡ 0) k z)

  pub given_as : {a u : Bool} {w b' s' : List ℕ} {r : ℕ} → d < 64 → a ≡ asked f s d → a ≡ true → w ≡ field_of kept ends i → (length w ≡ 0 → ⊥) → FieldAdded d w b f s b' s' r → u ≡ eqb r 0
      → Answered columns kept ends f i b s b' s' u
  given_as {a} {u} {w} {b'} {s'} {r} l g h k ne x y =
      subst (λ (t : Bool). Answered columns kept ends f i b s b' s' t) (sym y)
      (given (subst (λ (m : ℕ). m < 64) e l) (subst (λ (m : ℕ). asked f s m ≡ true) e (sym g ∙ h)) (subst (λ (v : List ℕ). length v ≡ 0 → ⊥) k ne)
      (subst (λ (v : List ℕ). FieldAdded (item_of columns i) v b f s b' s' r) k (subst (λ (m : ℕ). FieldAdded m w b f s b' s' r) e x)))

pub more_as : {columns kept ends f b s : List ℕ} {i : ℕ} {b' s' b'' s'' : List ℕ} {t u v : Bool} → AllAnswered columns kept ends f b s i b' s' t → Answered columns kept ends f i b' s' b'' s'' u → v ≡ (t || u)
    → AllAnswered columns kept ends f b s (i + 1) b'' s'' v
more_as {columns} {kept} {ends} {f} {b} {s} {i} {b'' = b''} {s'' = s''} a x e = subst (λ (t : Bool). AllAnswered columns kept ends f b s (i + 1) b'' s'' t) (sym e) (one_more a x)

pub all_many : {columns kept ends f b s : List ℕ} {i many : ℕ} {b' s' : List ℕ} {t : Bool} → i ≡ many → AllAnswered columns kept ends f b s i b' s' t → AllAnswered columns kept ends f b s many b' s' t
all_many {columns} {kept} {ends} {f} {b} {s} {b' = b'} {s' = s'} {t = t} e a = subst (λ (n : ℕ). AllAnswered columns kept ends f b s n b' s' t) e a
