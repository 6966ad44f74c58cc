-- The table, read string by string: what stands at the start of a string, and where the next one starts.
use Prim.Native.Nat.{ℕ, suc, ◌+◌, ◌-◌, ◌≤◌, ◌<◌}
use native.Mathlib.Omega.{arith}
use native.Mathlib.Numerals.{add-one}
use mathlib.Core.Path.{◌≡◌, refl, sym, ap, subst, ◌∙◌}
use mathlib.Core.List.{List, [], ◌∷◌, ◌++◌}
use lib.ListN.{length, take, drop, get_or, length-drop, length-append}
use lib.Seq.{length-take-le, get_or-take, get_or-drop, drop-cons, drop-drop, take-append_seam, drop-append_seam}
use Rattle.paper_tokens.specs.Words.{reserved, yes_or_no, data_types}
use Rattle.paper_tokens.specs.Lexical.{part}
use Rattle.words.specs.Entries.{strings, packed, table}

pub part_at : (t : List ℕ) (at n i : ℕ) → i < n → get_or (part t at n) i 0 ≡ get_or t (at + i) 0
part_at t at n i h = get_or-take n (drop at t) i 0 h ∙ get_or-drop at t i 0

pub part_length : (t : List ℕ) (at n : ℕ) → at + n ≤ length t → length (part t at n) ≡ n
part_length t at n h = length-take-le n (drop at t) (simp length-drop (omega arith))

table_length : length table ≡ 806
unfolding table packed strings reserved yes_or_no data_types
table_length = refl

pub strings_length : length strings ≡ 107
unfolding strings reserved yes_or_no data_types
strings_length = refl

-- the strings from the i-th on stand from p on
abbrev pub From : ℕ → ℕ → Type 0
From p i = drop p table ≡ packed (drop i strings)

pub from_start : From 0 0
unfolding table
from_start = refl

module _ (p i : ℕ) (h : i < 107) (from : From p i) where
  string : List ℕ
  string = get_or strings i []

  rest : drop p table ≡ length string ∷ (string ++ packed (drop (i + 1) strings))
  unfolding string packed
  rest =
      let s = strings_length in
      let l : i < length strings = omega arith in
      from ∙ ap packed (drop-cons strings i [] l)
      ∙ ap (λ (k : ℕ). length (get_or strings i []) ∷ (get_or strings i [] ++ packed (drop k strings))) (sym (add-one i))

  sizes : length table - p ≡ suc (length string + length (packed (drop (i + 1) strings)))
  sizes = sym (length-drop p table) ∙ ap length rest ∙ ap suc (length-append string (packed (drop (i + 1) strings)))

  fits : p + 1 + length (get_or strings i []) ≤ length table
  unfolding string
  fits = let s = sizes in omega arith

  size_is : get_or table p 0 ≡ length (get_or strings i [])
  unfolding string
  size_is =
      ap (λ (k : ℕ). get_or table k 0) (let z : p ≡ p + 0 = omega arith in z) ∙ sym (get_or-drop p table 0 0)
      ∙ ap (λ (l : List ℕ). get_or l 0 0) rest

  after : drop (p + 1) table ≡ string ++ packed (drop (i + 1) strings)
  after = sym (drop-drop 1 p table) ∙ ap (λ (l : List ℕ). drop 1 l) rest

  string_is : part table (p + 1) (length (get_or strings i [])) ≡ get_or strings i []
  unfolding string
  string_is = ap (λ (l : List ℕ). take (length string) l) after ∙ take-append_seam string _

  from_next : From (p + (length (get_or strings i []) + 1)) (i + 1)
  unfolding string
  from_next =
      ap (λ (k : ℕ). drop k table) (let z : p + (length string + 1) ≡ p + 1 + length string = omega arith in z)
      ∙ sym (drop-drop (length string) (p + 1) table) ∙ ap (λ (l : List ℕ). drop (length string) l) after ∙ drop-append_seam string _

-- the i-th string, which stands in t at p behind its size
pub record Entry (t : List ℕ) (p i size : ℕ) : Type 0 where
  pub ends : p + 1 + size ≤ length t
  pub bytes : length t ≡ 806
  pub is : part t (p + 1) size ≡ get_or strings i []
  pub next : From (p + (size + 1)) (i + 1)

pub first : (t : List ℕ) (p i : ℕ) → t ≡ table → i < 107 → From p i → p < 806
first t p i e h f = let a = fits p i h f in omega (arith, table_length)

pub entry : (t : List ℕ) (p i size : ℕ) → t ≡ table → size ≡ get_or t p 0 → i < 107 → From p i → Entry t p i size
entry t p i size e s h f =
    let a = fits p i h f in
    let l = ap length e in
    let z : size ≡ length (get_or strings i []) = s ∙ ap (λ (u : List ℕ). get_or u p 0) e ∙ size_is p i h f in
    record {
      ends = omega arith;
      bytes = omega (arith, table_length);
      is = ap (λ (u : List ℕ). part u (p + 1) size) e ∙ ap (λ (m : ℕ). part table (p + 1) m) z ∙ string_is p i h f;
      next = subst (λ (m : ℕ). From (p + (m + 1)) (i + 1)) (sym z) (from_next p i h f);
    }
