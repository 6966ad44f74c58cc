-- Law: where no token of a text passes its limit, no cells of its columns stand for one that does. The cells say all of a token: its rule by its terminal.
use Rattle.std.specs.Prelude.{ℕ, suc, ◌≤◌, ◌≡◌, true, false, cond, List, [], eqb, ltb}
use Rattle.std.proofs.Common.{arith, sym, ap, subst, ◌∙◌, ⊎_elim, lt-ltb, ltb-true, ltb-false}
use Rattle.paper_expressions.proofs.Laws.Tests.{two}
use Rattle.paper_expressions.specs.View.{At, at_first, at_later}
use Rattle.paper_tokens.specs.Lexical.{Rule, reserved_word, atom, integer, float, double_quoted_string, Token}
use Rattle.paper_tokens.specs.Tokens.{‘integer’, ‘float’, ‘double-quoted-string’, reserved_count}
use Rattle.paper_tokens.specs.Terminals.{Terminal, a_reserved_word, yes_no, a_data_type, another_atom, an_integer, a_float, a_string}
use Rattle.paper_tokens.proofs.Laws.TerminalLaws.{reserved_below}
use Rattle.paper_guideline.specs.Refusals.{TokenBreach}
use Rattle.leaves.specs.Source
use Source.{Source, Here, Stand, at_end, at_token, Clean}

-- the rule of a terminal's token
abbrev rule_of : ℕ → Rule
rule_of k =
    cond (ltb k reserved_count) reserved_word
    (cond (eqb k ‘integer’) integer
    (cond (eqb k ‘float’) float
    (cond (eqb k ‘double-quoted-string’) double_quoted_string
    atom)))

rule_is : {t : Token} {k : ℕ} → Terminal t k → t.rule ≡ rule_of k
rule_is (a_reserved_word {k} e r) = e ∙ sym (rw (lt-ltb k reserved_count (reserved_below r)))
rule_is (yes_no e o) = e
rule_is (a_data_type e o) = e
rule_is (another_atom e n m) = e
rule_is (an_integer e) = e
rule_is (a_float e) = e
rule_is (a_string e) = e

module _ {c : Source} where
  one_here : {i : ℕ} {t u : Token} → Here c i t → Here c i u → t ≡ u
  one_here {t} {u} h k =
      let r : t.rule ≡ u.rule = rule_is h.terminal ∙ sym (rule_is k.terminal) in
      let p : t.place ≡ u.place = h.place ∙ sym k.place in
      let b : t.bytes ≡ u.bytes = h.bytes ∙ sym k.bytes in
      ap (λ (q : Rule). record { rule = q; place = t.place; bytes = t.bytes }) r
      ∙ ap (λ (q : ℕ). record { rule = u.rule; place = q; bytes = t.bytes }) p
      ∙ ap (λ (q : List ℕ). record { rule = u.rule; place = u.place; bytes = q }) b

  -- no breach among these tokens, and none at their cells
  clean_from : {i : ℕ} {ts : List Token} → Stand c i ts → ((j : ℕ) (t : Token) → At ts j t → ¬ TokenBreach t)
      → (j : ℕ) (t : Token) → Here c j t → i ≤ j → ¬ TokenBreach t
  clean_from {i} (at_end e) f j t h l b = let k = h.inside in omega arith
  clean_from {i} (at_token {t = u} g gs) f j t h l b = ⊎_elim
      (λ (k : ltb i j ≡ true). clean_from gs (λ m v a. f (suc m) v (at_later a)) j t h (ltb-true i j k) b)
      (λ (k : ltb i j ≡ false).
      let m = ltb-false i j k in
      let e : j ≡ i = omega arith in
      f 0 u at_first (subst TokenBreach (one_here (subst (λ (n : ℕ). Here c n t) e h) g) b))
      (two (ltb i j))

  pub clean : {ts : List Token} → Stand c 0 ts → ((j : ℕ) (t : Token) → At ts j t → ¬ TokenBreach t) → Clean c []
  clean s f i t h l = clean_from s f i t h (omega arith)
