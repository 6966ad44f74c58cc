-- What the tests find is what the next step asks for, or the refusal: the grammar, what is left out, the limits.
use Rattle.std.specs.Prelude.{Result, Ok, Err, Option, Some, None, ℕ, ◌≤◌, ◌<◌, ◌≡◌, refl, List, [], length}
use Rattle.std.proofs.Common.{arith, subst}
use Rattle.paper_expressions.specs.Limits.{list_limit}
use Rattle.paper_expressions.specs.View as View
use Rattle.paper_grammar.specs.Nonterminals.{⟨expression⟩}
use Rattle.paper_grammar.specs.Sentence.{SentenceOf}
use Rattle.paper_guideline.proofs.Laws.CompleteLaws.{some_expression}
use Rattle.paper_tokens.specs.Lexical.{Token}
use Rattle.paper_guideline.specs.LeftOut.{LeftOut}
use Rattle.paper_guideline.specs.Tree.{anywhere}
use Rattle.paper_guideline.proofs.Laws.TreeLaws as Tree
use Rattle.paper_guideline.specs.Limits.{token_limit, part_limit, depth_limit, parts, depth, longest_list}
use Rattle.paper_guideline.specs.Refusals.{TokenBreach}
use Rattle.paper_guideline.specs.Line.{refused, LineAnswers}
use Rattle.grammar.specs.declared.Start.TheVariants.{Expression}
use Rattle.grammar.specs.declared.Answer as Grammar
use Rattle.grammar.specs.Reply as Read
use Rattle.leaves.specs.Source.{source}
use Rattle.token_tests.specs.Reply.{OverLimit, First}
use Rattle.expression_steps.specs.declared.Built.{Built}
use Rattle.expression_reader.specs.Reads.{Whole, Reads, parts_size, within_depth}
use Rattle.parts.specs.Part.{table}
use Rattle.line_answer.specs.declared.tests.Refused.{Refused}
use Rattle.line_answer.specs.Steps.{Lexed, Parsed, Fitting, Held, Parses, Fitted, Fits}
use Rattle.line_answer.specs.Stages.{few_tokens, few_open, no_sentence, sentence, uses, nothing_left_out, over_limit, deep, long_lists, too_many_parts, within_limits}
use Rattle.columns.specs.Columns.{as_many}
use Rattle.columns.specs.Clean.{clean}
use Rattle.line_answer.specs.Modest.{modest}

pub nothing_behind : Tree.Ends anywhere []
nothing_behind = record { no_operator = refl; no_call = refl }

module _ {line kinds places lengths : List ℕ} where
  -- ---- the grammar

  module _ (l : Lexed line kinds places lengths) {r : Grammar.Answer} (reply : Read.Verdict Expression kinds r) where
    pub not_read : {i : ℕ} → r ≡ Grammar.TheVariants.Refused i → LineAnswers line (refused 3)
    not_read e = no_sentence l.its l.are l.before (subst (Read.Verdict Expression kinds) e reply).1.no_sentence

    -- there are never too many tokens to look at
    pub not_unread : r ≡ Grammar.TheVariants.Unread → LineAnswers line (refused 3)
    not_unread e =
        let h : token_limit < length kinds = subst (Read.Verdict Expression kinds) e reply in
        let m = as_many l.are in
        let k : token_limit < length l.tokens = omega arith in
        absurd (few_tokens l.its l.before k)

    pub is_read : r ≡ Grammar.TheVariants.Accepted → SentenceOf ⟨expression⟩ kinds
    is_read e = (subst (Read.Verdict Expression kinds) e reply).1

  -- .. so all but an acceptance is a refusal
  pub not_accepted : Lexed line kinds places lengths → (r : Grammar.Answer) → Read.Verdict Expression kinds r → ¬ (r ≡ Grammar.TheVariants.Accepted) → LineAnswers line (refused 3)
  not_accepted l (Grammar.TheVariants.Accepted) reply n = absurd (n refl)
  not_accepted l (Grammar.TheVariants.Refused i) reply n = not_read l reply refl
  not_accepted l (Grammar.TheVariants.Unread) reply n = not_unread l reply refl

  -- ---- what is left out

  module _ (l : Lexed line kinds places lengths) (d : SentenceOf ⟨expression⟩ kinds) {r : Option ℕ} (first : First LeftOut (source line kinds places lengths) r) where
    pub left_out : {p : ℕ} → r ≡ Some p → LineAnswers line (refused 10)
    left_out e =
        uses l.its (sentence l.its l.are l.before d) (subst (First LeftOut (source line kinds places lengths)) e first l.tokens l.its l.stand).0

    pub parsed : r ≡ None → Parsed line kinds places lengths
    parsed e =
        let n = subst (First LeftOut (source line kinds places lengths)) e first l.tokens l.its l.stand in
        let x = some_expression l.are d n in
        record {
          tokens = l.tokens;
          its = l.its;
          stand = l.stand;
          expression = x.0;
          tree = x.1;
          before = nothing_left_out l.its (sentence l.its l.are l.before d) n;
        }

  -- ---- the limits

  module _ (p : Parsed line kinds places lengths) where
    module _ {r : Option ℕ} (first : First OverLimit (source line kinds places lengths) r) where
      pub over : {q : ℕ} → r ≡ Some q → LineAnswers line (refused 6)
      over e =
          let h = (subst (First OverLimit (source line kinds places lengths)) e first p.tokens p.its p.stand).0 in
          over_limit p.its p.before h.there h.breach

      pub none_over : r ≡ None → (i : ℕ) (t : Token) → View.At p.tokens i t → ¬ TokenBreach t
      none_over e i t a b =
          subst (First OverLimit (source line kinds places lengths)) e first p.tokens p.its p.stand t.place (record { index = i; token = t; there = a; breach = b; place = refl })

    module _ {x y : List ℕ} {m : Built} (reads : Reads anywhere (source line kinds places lengths) x y 0 0 m) where
      pub read : Whole (source line kinds places lengths) x y 0 [] p.expression m
      read = reads.done 0 p.tokens [] p.expression p.stand p.tree nothing_behind (few_open p.its (let z : 2 < 5 = omega arith in z) p.before)

      pub too_deep : depth_limit < m.depth → LineAnswers line (refused 6)
      too_deep h = let e = read.depth in deep p.its p.tree p.before (omega arith)

      pub too_long : list_limit < m.longest → LineAnswers line (refused 6)
      too_long h = let e = read.longest in long_lists p.its p.tree p.before (omega arith)

      pub too_many : part_limit < m.used → LineAnswers line (refused 6)
      too_many h = let e = read.used in too_many_parts p.its p.tree p.before (omega arith)

      pub fitting : ((i : ℕ) (t : Token) → View.At p.tokens i t → ¬ TokenBreach t) → m.depth ≤ depth_limit → m.longest ≤ list_limit → m.used ≤ part_limit
          → Fitting line kinds places lengths
      fitting f d l n =
          let a = read.used in
          let b = read.depth in
          let c = read.longest in
          let e = p.expression in
          let dd : depth e ≤ depth_limit = omega arith in
          let ll : longest_list e ≤ list_limit = omega arith in
          let nn : parts e ≤ part_limit = omega arith in
          record {
            parsed = p;
            before = within_limits p.its p.tree p.before f dd ll nn;
            clean = clean p.stand f;
            small = let s = parts_size e in omega arith;
            deep = within_depth depth_limit e dd;
            modest = modest p.tree f ll;
          }

-- ---- what a verdict says

module _ (line kinds places lengths : List ℕ) {v : Result Unit Refused} where
  pub no_parse : {r : Refused} → Parses line kinds places lengths v → v ≡ Err r → LineAnswers line (refused r.0)
  no_parse h e = subst (Parses line kinds places lengths) e h

  pub a_parse : {u : Unit} → Parses line kinds places lengths v → v ≡ Ok u → Parsed line kinds places lengths
  a_parse h e = subst (Parses line kinds places lengths) e h

module _ {line cells : List ℕ} {v : Result ℕ Refused} (h : Fits line cells v) where
  pub no_fit : {r : Refused} → v ≡ Err r → LineAnswers line (refused r.0)
  no_fit e = subst (Fitted line cells) e h.fitted

  pub a_fit : {end : ℕ} → v ≡ Ok end → Held line (table cells line) end
  a_fit e = subst (Fitted line cells) e h.fitted
