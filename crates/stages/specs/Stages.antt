-- From what the test of each stage finds to the refusal of load: a lemma for each stage, in the order of the tests. A stage is passed by the stages before it and one breach that cannot be.
use Rattle.std.specs.Prelude.{ℕ, suc, ◌≤◌, ◌<◌, ◌≡◌, refl, ◌⊎◌, true, false, List, leb, length}
use Rattle.std.proofs.Common.{arith, sym, ap, subst, ◌∙◌, inl, inr, ⊎_elim, leb-true, leb-false}
use Rattle.paper_expressions.proofs.Laws.Tests.{two}
use Rattle.paper_expressions.specs.View.{At, at_first, at_later}
use Rattle.paper_grammar.specs.Nonterminals.{⟨process⟩}
use Rattle.paper_grammar.specs.Sentence.{SentenceOf, FirstBad}
use Rattle.paper_tokens.specs.Lexical.{Token, Tokens}
use Rattle.paper_tokens.specs.Terminals.{Terminals}
use Rattle.paper_guideline.specs.LeftOut.{LeftOut}
use Rattle.paper_tokens.proofs.Laws.LexicalLaws as LexicalLaws
use Rattle.paper_tokens.proofs.Laws.TerminalLaws as TerminalLaws
use Rattle.paper_grammar.proofs.Laws.Same.{first_bad_one}
use Rattle.paper_guideline.specs.Refusals
use Refusals.{Stage, grammar_stage, left_out_stage, limit_stage, turn, Breach, Refused}
use Refusals.{high_byte, long, no_rule, many_tokens, many_open, bad_token, bad_end, uses_left_out, token_breach, too_deep, long_list}
use Refusals.{many_tasks, many_data_items, many_parts, many_assignments, many_sources, short_table, name_breach, no_type}
use Rattle.paper_guideline.proofs.Laws.RefusalLaws.{by_turn, by_its_turn}

-- where the i-th token stands; behind the last, the text's length
pub data PlaceOf (text : List ℕ) (ts : List Token) (i : ℕ) : ℕ → Type 0 where
  of_token : {t : Token} → At ts i t → PlaceOf text ts i t.place
  of_end : i ≡ length ts → PlaceOf text ts i (length text)

at_below : {A : Type 0} {l : List A} {i : ℕ} {x : A} → At l i x → i < length l
at_below at_first = omega arith
at_below (at_later h) = let k = at_below h in omega arith

at_one : {A : Type 0} {l : List A} {i : ℕ} {x y : A} → At l i x → At l i y → x ≡ y
at_one at_first at_first = refl
at_one (at_later h) (at_later k) = at_one h k

one_place : {text : List ℕ} {ts : List Token} {i p q : ℕ} → PlaceOf text ts i p → PlaceOf text ts i q → p ≡ q
one_place (of_token a) (of_token b) = ap (λ (t : Token). t.place) (at_one a b)
one_place (of_token a) (of_end e) = let k = at_below a in absurd (omega arith)
one_place (of_end e) (of_token a) = let k = at_below a in absurd (omega arith)
one_place (of_end e) (of_end f) = refl

here_or_before : (n k : ℕ) → n ≤ suc k → (n ≤ k) ⊎ (n ≡ suc k)
here_or_before n k h = ⊎_elim (λ (e : leb n k ≡ true). inl (leb-true n k e)) (λ (e : leb n k ≡ false). let l = leb-false n k e in inr (omega arith)) (two (leb n k))

-- a short table matters at the limits alone
pub over : {A B : Type 0} {text : List ℕ} {s : Stage} {q : ℕ} → (s ≡ limit_stage → A → B) → Breach A text s q → Breach B text s q
over f (high_byte a b) = high_byte a b
over f (long a) = long a
over f (no_rule a) = no_rule a
over f (many_tokens a b) = many_tokens a b
over f (many_open a b) = many_open a b
over f (bad_token a b c d) = bad_token a b c d
over f (bad_end a b c) = bad_end a b c
over f (uses_left_out a b) = uses_left_out a b
over f (token_breach a b c) = token_breach a b c
over f (too_deep a b c) = too_deep a b c
over f (long_list a b c) = long_list a b c
over f (many_tasks a b) = many_tasks a b
over f (many_data_items a b) = many_data_items a b
over f (many_parts a b) = many_parts a b
over f (many_assignments a b) = many_assignments a b
over f (many_sources a b) = many_sources a b
over f (short_table a) = short_table (f refl a)
over f (name_breach a b) = name_breach a b
over f (no_type a b c) = no_type a b c

module _ {Short : Type 0} {text : List ℕ} where
  pub up : {s : Stage} {q : ℕ} → Breach ⊥ text s q → Breach Short text s q
  up = over (λ e z. absurd z)

  pub down : {s : Stage} {q : ℕ} → turn s < turn limit_stage → Breach Short text s q → Breach ⊥ text s q
  down l = over (λ e z. (let k : turn limit_stage < turn limit_stage = subst (λ (r : Stage). turn r < turn limit_stage) e l in absurd (omega arith)))

-- the same tokens have the same first bad one
same_bad : {text : List ℕ} {ts us : List Token} {ks js : List ℕ} {i : ℕ} → Tokens text 0 ts → Terminals ts ks → Tokens text 0 us → Terminals us js → FirstBad ⟨process⟩ js i → FirstBad ⟨process⟩ ks i
same_bad {ks} {js} {i} its are a b f =
    let e = LexicalLaws.one_list a its in
    let g = TerminalLaws.one_list (subst (λ (v : List Token). Terminals v js) e b) are in
    subst (λ (v : List ℕ). FirstBad ⟨process⟩ v i) g f

-- the published refusal, by a stage up to the limits
pub record Turned (Short : Type 0) (text : List ℕ) (n p : ℕ) : Type 0 where
  pub refused : Refused Short text n p
  pub stage : turn refused.stage ≤ turn limit_stage

module _ (Short : Type 0) (text : List ℕ) where
  -- ---- the stages up to the k-th are passed

  abbrev pub Passed : ℕ → Type 0
  Passed k = (s : Stage) (q : ℕ) → turn s ≤ k → ¬ Breach Short text s q

  pub passed_next : (k : ℕ) → Passed k → ((q : ℕ) → ¬ Breach Short text (by_turn (suc k)) q) → Passed (suc k)
  passed_next k h n s q l b = ⊎_elim
      (λ (m : turn s ≤ k). h s q m b)
      (λ (e : turn s ≡ suc k). n q (subst (λ (r : Stage). Breach Short text r q) (sym (by_its_turn s) ∙ ap by_turn e) b))
      (here_or_before (turn s) k l)

  -- ---- 1, 2 and 6 for tokens and brackets

  pub early_refused : {n p : ℕ} (r : Refused ⊥ text n p) → turn r.stage ≤ 2 → Turned Short text n p
  early_refused r l = record {
    refused = record {
      stage = r.stage;
      broken = up r.broken;
      numbered = r.numbered;
      smallest = λ b. r.smallest (down (omega arith) b);
      first = λ m b. r.first m (down (omega arith) b);
    };
    stage = omega arith;
  }

  pub early_passed : ((s : Stage) (q : ℕ) → turn s ≤ 2 → ¬ Breach ⊥ text s q) → Passed 2
  early_passed h s q l b = h s q l (down (omega arith) b)

  module _ {ts : List Token} {ks : List ℕ} (its : Tokens text 0 ts) (are : Terminals ts ks) where
    -- ---- 3

    bad_at : {q : ℕ} → Breach Short text grammar_stage q → (i : ℕ) × FirstBad ⟨process⟩ ks i × PlaceOf text ts i q
    bad_at (bad_token {ts = us} {i} {t} a b f h) = (i, same_bad its are a b f, of_token (subst (λ (v : List Token). At v i t) (LexicalLaws.one_list a its) h))
    bad_at (bad_end {ts = us} a b f) =
        let e = LexicalLaws.one_list a its in
        (length us, same_bad its are a b f, of_end (ap length e))

    bad_here : {i p : ℕ} → FirstBad ⟨process⟩ ks i → PlaceOf text ts i p → Breach Short text grammar_stage p
    bad_here f (of_token h) = bad_token its are f h
    bad_here f (of_end e) = bad_end its are (subst (λ (n : ℕ). FirstBad ⟨process⟩ ks n) e f)

    pub grammar_refused : {i p : ℕ} → Passed 2 → FirstBad ⟨process⟩ ks i → PlaceOf text ts i p → Turned Short text 3 p
    grammar_refused {i} {p} h f w = record {
      refused = record {
        stage = grammar_stage;
        broken = bad_here f w;
        numbered = refl;
        smallest = λ {q} b.
            let o = bad_at b in
            let e = first_bad_one f o.1 in
            let z = one_place w (subst (λ (n : ℕ). PlaceOf text ts n q) (sym e) o.2) in
            omega arith;
        first = λ {s} {q} l b. h s q (omega arith) b;
      };
      stage = omega arith;
    }

    pub grammar_passed : Passed 2 → SentenceOf ⟨process⟩ ks → Passed 3
    grammar_passed h d = passed_next 2 h (λ q b. (bad_at b).1.no_sentence d)

    -- ---- 10

    left_out_here : {q : ℕ} → Breach Short text left_out_stage q → LeftOut ts q
    left_out_here {q} (uses_left_out a b) = subst (λ (v : List Token). LeftOut v q) (LexicalLaws.one_list a its) b

    pub left_out_refused : {p : ℕ} → Passed 3 → LeftOut ts p → ((q : ℕ) → LeftOut ts q → p ≤ q) → Turned Short text 10 p
    left_out_refused {p} h o m = record {
      refused = record {
        stage = left_out_stage;
        broken = uses_left_out its o;
        numbered = refl;
        smallest = λ {q} b. m q (left_out_here b);
        first = λ {s} {q} l b. h s q (omega arith) b;
      };
      stage = omega arith;
    }

    pub left_out_passed : Passed 3 → ((q : ℕ) → ¬ LeftOut ts q) → Passed 4
    left_out_passed h n = passed_next 3 h (λ q b. n q (left_out_here b))
