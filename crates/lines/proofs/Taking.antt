-- One byte more is kept, and one step of `take`: a newline ends the line, another byte goes behind those that are kept.
use Prim.Native.Nat.{ℕ, suc, ◌+◌, ◌≤◌, ◌<◌}
use native.Mathlib.Omega.{arith}
use native.Mathlib.Numerals.{add-one}
use mathlib.Core.Path.{◌≡◌, refl, sym, ap, subst, ◌∙◌}
use mathlib.Core.Bool.{Bool, true, false, cond}
use mathlib.Core.List.{List, [], ◌∷◌, ◌++◌, append_assoc, append-nil}
use lib.Dec.{eqb}
use lib.ListN.{length, get_or, take, drop, set, length-set, length-append, drop_of_length-le}
use lib.Seq.{take_all, take-append-le, take-suc-set, drop-cons}
use borrow.Author.Tests.{eq-eqb, ne_eqb, le-leb, lt-leb}
use Rattle.lines.specs.Kept.{kept_limit, Begun, no_more, cells_after, count_after, Keeps, before_newline, has_newline, Takes}
use Rattle.lines.specs.declared.Taken.{Taken}

pub full : {kept : List ℕ} {n : ℕ} (b : ℕ) → kept_limit ≤ n → Keeps kept n b kept n
full {kept} {n} b l = record {
  cells = rw (le-leb kept_limit n l);
  count = rw (le-leb kept_limit n l);
  more = λ begun h.
      let e = h.count in
      let a = length-append begun (b ∷ []) in
      record {
        room = h.room;
        count = omega arith;
        same = h.same ∙ sym (take-append-le kept_limit begun (b ∷ []) (omega arith));
      };
}

pub no_room : {kept : List ℕ} {n : ℕ} (b : ℕ) → n < kept_limit → length kept ≤ n → Keeps kept n b kept n
no_room {kept} {n} b l s = record {
  cells = rw (lt-leb kept_limit n l, le-leb (length kept) n s);
  count = rw (lt-leb kept_limit n l, le-leb (length kept) n s);
  more = λ begun h. let r = h.room in absurd (omega arith);
}

pub behind : {kept : List ℕ} {n : ℕ} (b : ℕ) → n < kept_limit → n < length kept → Keeps kept n b (set kept n b) (n + 1)
behind {kept} {n} b l s = record {
  cells = rw (lt-leb kept_limit n l, lt-leb (length kept) n s);
  count = rw (lt-leb kept_limit n l, lt-leb (length kept) n s);
  more = λ begun h.
      let e = h.count in
      let r = h.room in
      let a = length-append begun (b ∷ []) in
      let s = length-set kept n b in
      record {
        room = omega arith;
        count = omega arith;
        same = ap (λ (i : ℕ). take i (set kept n b)) (add-one n)
            ∙ take-suc-set kept n b (omega arith)
            ∙ ap (λ (x : List ℕ). x ++ (b ∷ [])) (h.same ∙ take_all kept_limit begun (omega arith))
            ∙ sym (take_all kept_limit (begun ++ (b ∷ [])) (omega arith));
      };
}

-- one byte, and then the others
cells_then : (kept : List ℕ) (n b : ℕ) (w : List ℕ) → cells_after (cells_after kept n (b ∷ [])) (count_after kept n (b ∷ [])) w ≡ cells_after kept n (b ∷ w)
cells_then kept n b w = by (no_more kept n)
  where
    by : (t : Bool) → cells_after (cond t kept (set kept n b)) (cond t n (n + 1)) w ≡ cond t (cells_after kept n w) (cells_after (set kept n b) (n + 1) w)
    by true = refl
    by false = refl

count_then : (kept : List ℕ) (n b : ℕ) (w : List ℕ) → count_after (cells_after kept n (b ∷ [])) (count_after kept n (b ∷ [])) w ≡ count_after kept n (b ∷ w)
count_then kept n b w = by (no_more kept n)
  where
    by : (t : Bool) → count_after (cond t kept (set kept n b)) (cond t n (n + 1)) w ≡ cond t (count_after kept n w) (count_after (set kept n b) (n + 1) w)
    by true = refl
    by false = refl

-- ---- the steps of `take`

nothing_more : {begun kept : List ℕ} {n : ℕ} → Begun begun kept n → Begun (begun ++ []) kept n
nothing_more {begun} {kept} {n} h = subst (λ (w : List ℕ). Begun w kept n) (sym (append-nil begun)) h

-- none of the chunk is left
pub at_end : {chunk kept : List ℕ} {from n : ℕ} → length chunk ≤ from → Takes chunk from kept n kept (record { at = from; n = n; ended = false })
at_end {chunk} {kept} {from} {n} l =
    let e = drop_of_length-le chunk l in
    let s = ap (λ (w : List ℕ). length (before_newline w)) e in
    record {
      cells = ap (λ (w : List ℕ). cells_after kept n (before_newline w)) (sym e);
      count = ap (λ (w : List ℕ). count_after kept n (before_newline w)) (sym e);
      more = λ begun h. subst (λ (w : List ℕ). Begun (begun ++ before_newline w) kept n) (sym e) (nothing_more h);
      ended = ap (λ (w : List ℕ). has_newline w) (sym e);
      on = omega arith;
    }

module _ (chunk : List ℕ) (from : ℕ) (l : from < length chunk) where
  before : {t : Bool} → eqb (get_or chunk from 0) 10 ≡ t
      → before_newline (drop from chunk) ≡ cond t [] (get_or chunk from 0 ∷ before_newline (drop (suc from) chunk))
  before e = ap (λ (w : List ℕ). before_newline w) (drop-cons chunk from 0 l)
      ∙ ap (λ (t : Bool). cond t [] (get_or chunk from 0 ∷ before_newline (drop (suc from) chunk))) e

  has : {t : Bool} → eqb (get_or chunk from 0) 10 ≡ t → has_newline (drop from chunk) ≡ cond t true (has_newline (drop (suc from) chunk))
  has e = ap (λ (w : List ℕ). has_newline w) (drop-cons chunk from 0 l)
      ∙ ap (λ (t : Bool). cond t true (has_newline (drop (suc from) chunk))) e

  pub at_newline : {kept : List ℕ} {n : ℕ} → get_or chunk from 0 ≡ 10 → Takes chunk from kept n kept (record { at = from + 1; n = n; ended = true })
  at_newline {kept} {n} e =
      let t = eq-eqb (get_or chunk from 0) 10 e in
      let p = before t in
      let s = ap (λ (w : List ℕ). length w) p in
      record {
        cells = ap (λ (w : List ℕ). cells_after kept n w) (sym p);
        count = ap (λ (w : List ℕ). count_after kept n w) (sym p);
        more = λ begun h. subst (λ (w : List ℕ). Begun (begun ++ w) kept n) (sym p) (nothing_more h);
        ended = sym (has t);
        on = omega arith;
      }

  pub at_byte : {kept kept' kept'' : List ℕ} {n m : ℕ} {r : Taken} → (get_or chunk from 0 ≡ 10 → ⊥)
      → Keeps kept n (get_or chunk from 0) kept' m → Takes chunk (from + 1) kept' m kept'' r → Takes chunk from kept n kept'' r
  at_byte {kept} {kept'} {kept''} {n} {m} {r} e k t =
      let f = ne_eqb (get_or chunk from 0) 10 e in
      let b = get_or chunk from 0 in
      let w = drop (from + 1) chunk in
      let q = ap (λ (i : ℕ). drop i chunk) (add-one from) in
      let p : before_newline (drop from chunk) ≡ b ∷ before_newline w = before f ∙ ap (λ (v : List ℕ). b ∷ before_newline v) (sym q) in
      let s = ap (λ (v : List ℕ). length v) p in
      let o = t.on in
      let rest = before_newline w in
      record {
        cells = t.cells ∙ ap (λ (x : List ℕ). cells_after x m rest) k.cells ∙ ap (λ (i : ℕ). cells_after (cells_after kept n (b ∷ [])) i rest) k.count
            ∙ cells_then kept n b rest ∙ ap (λ (v : List ℕ). cells_after kept n v) (sym p);
        count = t.count ∙ ap (λ (x : List ℕ). count_after x m rest) k.cells ∙ ap (λ (i : ℕ). count_after (cells_after kept n (b ∷ [])) i rest) k.count
            ∙ count_then kept n b rest ∙ ap (λ (v : List ℕ). count_after kept n v) (sym p);
        more = λ begun h. subst (λ (v : List ℕ). Begun v kept'' r.n) (append_assoc begun (b ∷ []) (before_newline w) ∙ ap (λ (v : List ℕ). begun ++ v) (sym p))
            (t.more (begun ++ (b ∷ [])) (k.more begun h));
        ended = t.ended ∙ ap (λ (v : List ℕ). has_newline v) q ∙ sym (has f);
        on = omega arith;
      }
