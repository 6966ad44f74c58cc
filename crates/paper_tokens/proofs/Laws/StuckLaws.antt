-- The reader goes one way: a text that has tokens is stuck nowhere, and one that is stuck is so at one place. By following the way to each place that the reader comes to.
use Rattle.std.specs.Prelude.{ℕ, ◌+◌, ◌≡◌, refl, List}
use Rattle.std.proofs.Common.{arith, subst}
use Rattle.paper_tokens.specs.Lexical.{Rule, Longest, Token, Tokens, at_end, skip, take_token, Comes, starts, goes_on, Stuck}
use Rattle.paper_tokens.proofs.Laws.LexicalLaws.{one_length}

-- from a place on, the way to where the reader is stuck
data Way (text : List ℕ) (p : ℕ) : ℕ → Type 0 where
  there : Stuck text p → Way text p p
  on : {at n : ℕ} {r : Rule} → Longest text at r n → Way text p (at + n) → Way text p at

module _ {text : List ℕ} where
  -- from a place on, the tokens of a text that has tokens
  tokens_from : {ts : List Token} {q : ℕ} → Tokens text 0 ts → Comes text q → (us : List Token) × Tokens text q us
  tokens_from {ts} t starts = (ts, t)
  tokens_from t (goes_on {at} {n} c h) = let x = tokens_from t c in on x.1 h
    where
      on : {at n : ℕ} {r : Rule} {us : List Token} → Tokens text at us → Longest text at r n → (vs : List Token) × Tokens text (at + n) vs
      on (at_end e) h = let a = h.fits.inside in let b = h.fits.some_bytes in absurd (omega arith)
      on {at} (skip {ts = vs} k s u) h = (vs, subst (λ (m : ℕ). Tokens text (at + m) vs) (one_length k h) u)
      on {at} (take_token {ts = vs} k s u) h = (vs, subst (λ (m : ℕ). Tokens text (at + m) vs) (one_length k h) u)

  stuck_nowhere : {q : ℕ} {us : List Token} → Tokens text q us → ¬ Stuck text q
  stuck_nowhere (at_end e) s = let l = s.inside in omega arith
  stuck_nowhere (skip {n} {r} k q u) s = s.nothing r n k.fits
  stuck_nowhere (take_token {n} {r} k q u) s = s.nothing r n k.fits

  pub not_stuck : {ts : List Token} {q : ℕ} → Tokens text 0 ts → ¬ Stuck text q
  not_stuck t s = stuck_nowhere (tokens_from t s.comes).1 s

  from_start : {p at : ℕ} → Comes text at → Way text p at → Way text p 0
  from_start starts w = w
  from_start (goes_on c h) w = from_start c (on h w)

  way_on : {p at n : ℕ} {r : Rule} → Way text p at → Longest text at r n → Way text p (at + n)
  way_on {n} {r} (there s) h = absurd (s.nothing r n h.fits)
  way_on {p} {at} (on k w) h = subst (λ (m : ℕ). Way text p (at + m)) (one_length k h) w

  way_from : {p q : ℕ} → Way text p 0 → Comes text q → Way text p q
  way_from w starts = w
  way_from w (goes_on c h) = way_on (way_from w c) h

  way_ends : {p q : ℕ} → Way text p q → Stuck text q → p ≡ q
  way_ends (there s) t = refl
  way_ends (on {n} {r} k w) t = absurd (t.nothing r n k.fits)

  pub one_stuck : {p q : ℕ} → Stuck text p → Stuck text q → p ≡ q
  one_stuck s t = way_ends (way_from (from_start s.comes (there s)) t.comes) t
