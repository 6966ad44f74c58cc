-- Laws of a field as it is written: what the loops of the code go by, and what the machine does with a byte between quotes.
use Rattle.std.specs.Prelude.{◌≡◌, refl, Bool, true, false, List, [], ◌∷◌, ◌++◌, ℕ, zero, suc, ◌<◌, eqb, T, length, take, get_or}
use Rattle.std.proofs.Common.{sym, ap, subst, ◌∙◌, append_assoc, append-nil, arith, ne_eqb}
use Rattle.separated.specs.declared.machine.Kind.TheVariants.{Quote, Newline, Return, Separator, Other}
use Rattle.separated.specs.declared.machine.Act.TheVariants.{Keep}
use Rattle.separated.specs.declared.machine.Mode.TheVariants.{Quoted}
use Rattle.separated.specs.Machine.{kind_of, step_of, pick}
use Rattle.separated.specs.Quotes.{or_else, special, specials, escaped, doubled}

-- ---- what the loops of the code go by

pub doubled_more : (w : List ℕ) (b : ℕ) → doubled (w ++ (b ∷ [])) ≡ doubled w ++ escaped b
unfolding doubled
doubled_more [] b = append-nil (escaped b)
doubled_more (a ∷ w) b = ap (λ (l : List ℕ). escaped a ++ l) (doubled_more w b) ∙ sym (append_assoc (escaped a) (doubled w) (escaped b))

pub doubled_none : (w : List ℕ) → doubled (take 0 w) ≡ []
unfolding doubled
doubled_none [] = refl
doubled_none (b ∷ w) = refl

or_false : (a : Bool) → or_else a false ≡ a
or_false true = refl
or_false false = refl

or_assoc : (a b c : Bool) → or_else a (or_else b c) ≡ or_else (or_else a b) c
or_assoc true b c = refl
or_assoc false b c = refl

pub specials_more : (separator : ℕ) (w : List ℕ) (b : ℕ) → specials separator (w ++ (b ∷ [])) ≡ or_else (specials separator w) (special separator b)
unfolding specials
specials_more separator [] b = or_false (special separator b)
specials_more separator (a ∷ w) b = ap (or_else (special separator a)) (specials_more separator w b) ∙ or_assoc (special separator a) (specials separator w) (special separator b)

or_none : (a b : Bool) → a ≡ false → b ≡ false → or_else a b ≡ false
or_none true b e f = e
or_none false b e f = f

pub none_yet : (separator : ℕ) (w : List ℕ) → specials separator (take 0 w) ≡ false
unfolding specials
none_yet separator [] = refl
none_yet separator (b ∷ w) = refl

pub none_more : (separator : ℕ) (w : List ℕ) (b : ℕ) → specials separator w ≡ false → special separator b ≡ false → specials separator (w ++ (b ∷ [])) ≡ false
none_more separator w b e f = specials_more separator w b ∙ or_none (specials separator w) (special separator b) e f

or_left : (a b : Bool) → a ≡ true → or_else a b ≡ true
or_left true b e = refl
or_left false b e = absurd (subst T (sym e) tt)

or_second : (a b : Bool) → b ≡ true → or_else a b ≡ true
or_second true b e = refl
or_second false b e = e

-- one special byte is enough
pub special_at : (separator : ℕ) (w : List ℕ) (i : ℕ) → i < length w → special separator (get_or w i 0) ≡ true → specials separator w ≡ true
unfolding specials
special_at separator [] i h e = absurd (omega arith)
special_at separator (a ∷ w) zero h e = or_left (special separator a) (specials separator w) e
special_at separator (a ∷ w) (suc i) h e = or_second (special separator a) (specials separator w) (special_at separator w i (omega arith) e)

-- ---- the machine between quotes

-- between quotes every byte but a quote is kept
stays : (s n r : Bool) → step_of Quoted (pick s Separator (pick n Newline (pick r Return Other))) ≡ record { act = Keep; mode = Quoted }
stays true n r = refl
stays false true r = refl
stays false false true = refl
stays false false false = refl

module _ (separator : ℕ) (other : separator ≡ 34 → ⊥) where
  pub quote_kind : kind_of 34 separator ≡ Quote
  quote_kind = simp (ne_eqb 34 separator (λ e. other (sym e)))

  pub steps : (b : ℕ) → (b ≡ 34 → ⊥) → step_of Quoted (kind_of b separator) ≡ record { act = Keep; mode = Quoted }
  steps b ne = simp (ne_eqb b 34 ne) (stays (eqb b separator) (eqb b 10) (eqb b 13))
