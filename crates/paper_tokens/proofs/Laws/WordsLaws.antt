-- The reserved strings stand in the order of their terminals, no two are alike, none is empty, and yes, no and the data types are none of them: each by one computed test.
use Rattle.std.specs.Prelude.{ℕ, zero, suc, ◌+◌, ◌<◌, ◌≡◌, refl, Bool, true, false, ◌&&◌, ◌||◌, not, eqb, get_or}
use Prim.Native.String.{String}
use Rattle.std.proofs.Common.{ap, subst, ◌∙◌, ⊎_elim, arith, zero-add, eq-eqb, eqb-true}
use mathlib.Core.List.{List, [], ◌∷◌, ◌++◌, map, Memᴰ}
use Rattle.paper_expressions.proofs.Laws.Tests.{from, or_cases, not_both, every, every_at}
use Rattle.paper_expressions.specs.Bytes.{bytes}
use Rattle.paper_tokens.specs.Tokens.{reserved_count}
use Rattle.paper_tokens.specs.Words.{reserved, data_types, yes_or_no}

-- 1. The i-th has terminal i.
pub in_order : map (λ (e : ℕ × String). e.0) reserved ≡ from 0 reserved_count
unfolding reserved
in_order = refl

from_at : (k n i : ℕ) → i < n → get_or (from k n) i 0 ≡ k + i
from_at k zero i h = absurd (omega arith)
from_at k (suc n) zero h = omega arith
from_at k (suc n) (suc i) h = let r = from_at (suc k) n i (omega arith) in omega arith

pub terminal_at : (i : ℕ) → i < reserved_count → get_or (map (λ (e : ℕ × String). e.0) reserved) i 0 ≡ i
terminal_at i h = ap (λ (l : List ℕ). get_or l i 0) in_order ∙ from_at 0 reserved_count i h ∙ zero-add i

-- 2. No two are alike.
abbrev alike : List ℕ → List ℕ → Bool
alike [] [] = true
alike [] (y ∷ v) = false
alike (x ∷ u) [] = false
alike (x ∷ u) (y ∷ v) = eqb x y && alike u v

alike_self : (u : List ℕ) → alike u u ≡ true
alike_self [] = refl
alike_self (x ∷ u) = ap (λ (b : Bool). b && alike u u) (eq-eqb x x refl) ∙ alike_self u

alike_of : (u v : List ℕ) → u ≡ v → alike u v ≡ true
alike_of u v e = subst (λ (x : List ℕ). alike u x ≡ true) e (alike_self u)

abbrev Entry : Type 0
Entry = ℕ × String

abbrev unlike : String → String → Bool
unlike s t = not (alike (bytes s) (bytes t))

unlike_not : (s t : String) → unlike s t ≡ true → ¬ (bytes s ≡ bytes t)
unlike_not s t h e = not_both (alike (bytes s) (bytes t)) h (alike_of (bytes s) (bytes t) e)

-- every pair of a list and another passes a test
abbrev pairs : {A B : Type 0} → (A → B → Bool) → List A → List B → Bool
pairs f l m = every (λ x. every (f x) m) l

pairs_at : {A B : Type 0} (f : A → B → Bool) (l : List A) (m : List B) → pairs f l m ≡ true → (x : A) (y : B) → Memᴰ x l → Memᴰ y m → f x y ≡ true
pairs_at f l m h x y i j = every_at (f x) m (every_at (λ x. every (f x) m) l h x i) y j

abbrev apart : Entry → Entry → Bool
apart e f = eqb e.0 f.0 || unlike e.1 f.1

all_apart : pairs apart reserved reserved ≡ true
unfolding reserved
all_apart = refl

pub one_terminal : (e f : Entry) → Memᴰ e reserved → Memᴰ f reserved → bytes e.1 ≡ bytes f.1 → e.0 ≡ f.0
one_terminal e f m n h = ⊎_elim
    (λ (t : eqb e.0 f.0 ≡ true). eqb-true e.0 f.0 t)
    (λ (t : unlike e.1 f.1 ≡ true). absurd (unlike_not e.1 f.1 t h))
    (or_cases (eqb e.0 f.0) (unlike e.1 f.1) (pairs_at apart reserved reserved all_apart e f m n))

-- 3. None is empty.
some_byte : every (λ (e : Entry). unlike e.1 "") reserved ≡ true
unfolding reserved
some_byte = refl

pub not_empty : (e : Entry) → Memᴰ e reserved → ¬ (bytes e.1 ≡ [])
not_empty e m = unlike_not e.1 "" (every_at (λ (e : Entry). unlike e.1 "") reserved some_byte e m)

-- 4. Yes, no and the data types are not reserved, and no data type is yes or no.
free : pairs (λ (s : String) (e : Entry). unlike s e.1) (yes_or_no ++ data_types) reserved ≡ true
unfolding reserved data_types yes_or_no
free = refl

pub not_reserved : (s : String) (e : Entry) → Memᴰ s (yes_or_no ++ data_types) → Memᴰ e reserved → ¬ (bytes s ≡ bytes e.1)
not_reserved s e m n = unlike_not s e.1 (pairs_at (λ (s : String) (e : Entry). unlike s e.1) (yes_or_no ++ data_types) reserved free s e m n)

kinds_apart : pairs unlike yes_or_no data_types ≡ true
unfolding data_types yes_or_no
kinds_apart = refl

pub one_kind : (s t : String) → Memᴰ s yes_or_no → Memᴰ t data_types → ¬ (bytes s ≡ bytes t)
one_kind s t m n = unlike_not s t (pairs_at unlike yes_or_no data_types kinds_apart s t m n)
