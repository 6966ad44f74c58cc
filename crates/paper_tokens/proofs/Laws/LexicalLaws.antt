-- At each place at most one token, and a text has at most one list of tokens: the longest match settles the length, the order of the rules the rest.
use Rattle.std.specs.Prelude.{ℕ, ◌+◌, ◌≤◌, ◌<◌, ◌≡◌, refl, List, [], ◌∷◌, length, get_or}
use Rattle.std.proofs.Common.{arith, sym, ap, subst, ◌∙◌}
use Rattle.paper_tokens.specs.Lexical.{Rule, reserved_word, atom, integer, float, double_quoted_string, white_space, comment, order, Fits, Longest, Skipped, Token, token, Tokens, at_end, skip, take_token}

abbrev pub by_order : ℕ → Rule
by_order i = get_or (reserved_word ∷ atom ∷ integer ∷ float ∷ double_quoted_string ∷ white_space ∷ comment ∷ []) i comment

pub by_its_order : (r : Rule) → by_order (order r) ≡ r
by_its_order reserved_word = refl
by_its_order atom = refl
by_its_order integer = refl
by_its_order float = refl
by_its_order double_quoted_string = refl
by_its_order white_space = refl
by_its_order comment = refl

pub same_order : {r s : Rule} → order r ≡ order s → r ≡ s
same_order {r} {s} e = sym (by_its_order r) ∙ ap by_order e ∙ by_its_order s

module _ {text : List ℕ} {at : ℕ} where
  pub one_length : {r s : Rule} {n m : ℕ} → Longest text at r n → Longest text at s m → n ≡ m
  one_length h k = let a = h.longest k.fits in let b = k.longest h.fits in omega arith

  pub one_rule : {r s : Rule} {n m : ℕ} → Longest text at r n → Longest text at s m → r ≡ s
  one_rule {r} {s} {n} {m} h k =
      let e = one_length h k in
      let a = h.first (subst (Fits text at s) (sym e) k.fits) in
      let b = k.first (subst (Fits text at r) e h.fits) in
      same_order (let o : order r ≡ order s = omega arith in o)

not_at_end : {text : List ℕ} {at n : ℕ} {r : Rule} → at ≡ length text → ¬ Longest text at r n
not_at_end e h = let a = h.fits.inside in let b = h.fits.some_bytes in omega arith

pub one_list : {text : List ℕ} {at : ℕ} {ts us : List Token} → Tokens text at ts → Tokens text at us → ts ≡ us
one_list (at_end e) (at_end f) = refl
one_list (at_end e) (skip h q k) = absurd (not_at_end e h)
one_list (at_end e) (take_token h q k) = absurd (not_at_end e h)
one_list (skip h q k) (at_end e) = absurd (not_at_end e h)
one_list {text} {at} (skip {ts} h q k) (skip h' q' k') =
    one_list (subst (λ (n : ℕ). Tokens text (at + n) ts) (one_length h h') k) k'
one_list (skip h q k) (take_token h' q' k') = absurd (q' (subst Skipped (one_rule h h') q))
one_list (take_token h q k) (at_end e) = absurd (not_at_end e h)
one_list (take_token h q k) (skip h' q' k') = absurd (q (subst Skipped (sym (one_rule h h')) q'))
one_list {text} {at} (take_token {ts} h q k) (take_token h' q' k') =
    let l = one_length h h' in
    let r = one_rule h h' in
    let rest = one_list (subst (λ (n : ℕ). Tokens text (at + n) ts) l k) k' in
    cc
