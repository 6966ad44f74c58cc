-- Laws: how far bytes pass a test, place by place, and a word letter by letter.
use Rattle.std.specs.Prelude.{ℕ, suc, ◌+◌, ◌-◌, ◌≤◌, ◌<◌, ◌≡◌, refl, Bool, true, false, List, length, get_or, drop}
use Rattle.std.proofs.Common.{arith, add-one, sym, ap, ◌∙◌, drop_of_length-le, drop-cons, ext_get_or, le-leb}
use Rattle.std.proofs.lemmas.Bool.{lt-leb}
use Rattle.paper_expressions.proofs.Laws.Search.{sameb, same_reflects, reflects_true, reflects_false}
use Rattle.parts.specs.Texts.{cells}
use Rattle.blocks.specs.Blocks.{cells_long, cells_at}
use Rattle.typed_value.specs.Lexemes.{run, past, word_at}

module _ (p : ℕ → Bool) (s : List ℕ) (i : ℕ) where
  pub past_end : length s ≤ i → past p s i ≡ i
  past_end h = let e : i + 0 ≡ i = omega arith in rw (drop_of_length-le s h) e

  pub past_stop : i < length s → p (get_or s i 0) ≡ false → past p s i ≡ i
  past_stop h n = let e : i + 0 ≡ i = omega arith in rw (drop-cons s i 0 h, n) e

  pub past_on : i < length s → p (get_or s i 0) ≡ true → past p s i ≡ past p s (i + 1)
  past_on h n =
      let e : i + suc (run p (drop (suc i) s)) ≡ (i + 1) + run p (drop (suc i) s) = omega arith in
      rw (drop-cons s i 0 h, n, add-one i) (e ∙ rw (add-one i) refl)

module _ (s : List ℕ) (from to : ℕ) (w : List ℕ) where
  pub word_not_on : to < from → false ≡ word_at s from to w
  word_not_on h = rw (lt-leb from to h)

  module _ (h : from ≤ to) where
    as_same : (b : Bool) → sameb (cells s from (to - from)) w ≡ b → word_at s from to w ≡ b
    as_same b e = rw (le-leb from to h, e)

    pub word_long : ¬ (to - from ≡ length w) → false ≡ word_at s from to w
    word_long n = sym (as_same false (reflects_false (same_reflects (cells s from (to - from)) w) (λ e. n (sym (cells_long s from (to - from)) ∙ ap length e))))

    module _ (n : to - from ≡ length w) where
      pub word_not : (i : ℕ) → i < length w → ¬ (get_or s (from + i) 0 ≡ get_or w i 0) → false ≡ word_at s from to w
      word_not i l m = sym (as_same false (reflects_false (same_reflects (cells s from (to - from)) w) (λ e. m (sym (cells_at s from (to - from) i (omega arith)) ∙ ap (λ (y : List ℕ). get_or y i 0) e))))

      pub word_is : (i : ℕ) → length w ≤ i → ((k : ℕ) → k < i → get_or s (from + k) 0 ≡ get_or w k 0) → true ≡ word_at s from to w
      word_is i l m = sym (as_same true (reflects_true (same_reflects (cells s from (to - from)) w)
          (ext_get_or 0 (cells s from (to - from)) w (cells_long s from (to - from) ∙ n)
          (λ k q. let z = cells_long s from (to - from) in cells_at s from (to - from) k (omega arith) ∙ m k (omega arith)))))
