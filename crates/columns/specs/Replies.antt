-- What the reply of tokens::tokens says where its columns have a cell for each token that a text may have.
use Rattle.std.specs.Prelude.{ℕ, ◌-◌, ◌≤◌, ◌<◌, ◌≡◌, List, length, take, replicate}
use Rattle.std.proofs.Common.{arith, sym, ap, subst, ◌∙◌, ⊎_elim, length-append, length-take-le}
use Rattle.paper_guideline.specs.Limits.{token_limit}
use Rattle.tokens.specs.declared.Read.{Read}
use Rattle.tokens.specs.declared.Read.TheVariants.{Tokens, Refused, Short}
use Rattle.tokens.specs.Reply.{Turned, Reads}
use Rattle.columns.specs.Columns.{Lexed, as_many, lexed}

module _ (text kinds places lengths : List ℕ) {v : Read} (reads : Reads text token_limit token_limit token_limit kinds places lengths v) where
  pub not_short : v ≡ Short → ⊥
  not_short e =
      let h = subst (Reads text token_limit token_limit token_limit kinds places lengths) e reads in
      ⊎_elim (λ (l : token_limit < token_limit). omega arith) (λ m. ⊎_elim (λ (l : token_limit < token_limit). omega arith) (λ (l : token_limit < token_limit). omega arith) m) h.short

  pub turned : {n p : ℕ} → v ≡ Refused n p → Turned text n p token_limit token_limit token_limit kinds places lengths
  turned e = (subst (Reads text token_limit token_limit token_limit kinds places lengths) e reads).1

  pub read : {n : ℕ} → v ≡ Tokens n → Lexed text (take n kinds) places lengths
  read e = lexed (subst (Reads text token_limit token_limit token_limit kinds places lengths) e reads).1

  pub few : {n : ℕ} → v ≡ Tokens n → n ≤ length kinds
  few e =
      let h = (subst (Reads text token_limit token_limit token_limit kinds places lengths) e reads).1 in
      let c = h.count in
      let m = as_many h.are in
      let l = ap length h.kinds_are ∙ length-append h.terminals (replicate (token_limit - length h.terminals) 0) in
      omega arith

  pub cut : {n : ℕ} → v ≡ Tokens n → n ≡ length (take n kinds)
  cut {n} e = sym (length-take-le n kinds (few e))
