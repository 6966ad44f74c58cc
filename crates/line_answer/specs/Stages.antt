-- The stages of a line, one by one: a broken stage with none before it is the refusal, and the tests of the first three stages are those of load.
-- By cases on what breaks a stage.
use Rattle.std.specs.Prelude.{ℕ, ◌≤◌, ◌<◌, ◌≡◌, List, [], length}
use Rattle.std.proofs.Common.{arith, sym, ap, subst, ◌∙◌, ⊎_elim}
use Rattle.paper_expressions.specs.Limits.{list_limit}
use Rattle.paper_expressions.specs.Values.{Value}
use Rattle.paper_expressions.specs.Types.{Ty}
use Rattle.paper_expressions.specs.Clauses.{Clause}
use Rattle.paper_expressions.specs.View.{At}
use Rattle.paper_expressions.specs.Expressions.{Expr, HasType}
use Rattle.paper_expressions.specs.Evaluation.{Evaluates}
use Rattle.paper_grammar.specs.Nonterminals.{⟨expression⟩}
use Rattle.paper_grammar.specs.Sentence.{SentenceOf}
use Rattle.paper_tokens.specs.Lexical.{Token, Tokens}
use Rattle.paper_tokens.proofs.Laws.LexicalLaws as Lexical
use Rattle.paper_tokens.specs.Terminals.{Terminals}
use Rattle.paper_tokens.proofs.Laws.TerminalLaws as Terms
use Rattle.paper_guideline.specs.Tree.{anywhere, Tree}
use Rattle.paper_guideline.specs.LeftOut.{LeftOut}
use Rattle.paper_guideline.specs.Limits.{depth_limit, part_limit, token_limit, parts, depth, longest_list}
use Rattle.paper_guideline.specs.Refusals
use Refusals.{Stage, text_stage, lexical_stage, count_stage, grammar_stage, left_out_stage, limit_stage, name_stage, type_stage, turn, TooManyOpen, TokenBreach, Breach}
use Refusals.{high_byte, long, no_rule, many_tokens, many_open, bad_token, bad_end, uses_left_out, token_breach, too_deep, long_list, many_tasks, many_data_items, many_parts, many_assignments, many_sources, short_table, name_breach, no_type}
use Rattle.paper_guideline.specs.Line
use Line.{no_items, LineTree, LineBreach, refused, gives, LineAnswers, line_refused, line_gives}
use Line.{line_high_byte, line_long, line_no_rule, line_many_tokens, line_many_open, line_no_expression, line_left_out, line_token, line_deep, line_long_list, line_many_parts, line_no_type}
use Rattle.paper_guideline.proofs.Laws.LineLaws.{one_line_tree}
use Rattle.line_answer.specs.Steps.{Before}
use Rattle.paper_guideline.proofs.Laws.RefusalLaws.{by_turn, by_its_turn, le_or_gt}

-- ---- the first three stages, as load tests them

pub as_line : {line : List ℕ} {s : Stage} {p : ℕ} → turn s ≤ 2 → Breach ⊥ line s p → LineBreach line s
as_line l (high_byte a h) = line_high_byte a h
as_line l (long h) = line_long h
as_line l (no_rule h) = line_no_rule h
as_line l (many_tokens t h) = line_many_tokens t h
as_line l (many_open t h) = line_many_open t h
as_line l (bad_token t k b a) = absurd (omega arith)
as_line l (bad_end t k b) = absurd (omega arith)
as_line l (uses_left_out t h) = absurd (omega arith)
as_line l (token_breach t a h) = absurd (omega arith)
as_line l (too_deep r a h) = absurd (omega arith)
as_line l (long_list r a h) = absurd (omega arith)
as_line l (many_tasks r h) = absurd (omega arith)
as_line l (many_data_items r h) = absurd (omega arith)
as_line l (many_parts r h) = absurd (omega arith)
as_line l (many_assignments r h) = absurd (omega arith)
as_line l (many_sources r h) = absurd (omega arith)
as_line l (short_table h) = absurd h
as_line l (name_breach r h) = absurd (omega arith)
as_line l (no_type r a h) = absurd (omega arith)

pub as_load : {line : List ℕ} {s : Stage} → turn s ≤ 2 → LineBreach line s → (p : ℕ) × Breach ⊥ line s p
as_load l (line_high_byte {p} a h) = (p, high_byte a h)
as_load {line} l (line_long h) = (length line, long h)
as_load l (line_no_rule {p} h) = (p, no_rule h)
as_load {line} l (line_many_tokens t h) = (length line, many_tokens t h)
as_load l (line_many_open {p} t h) = (p, many_open t h)
as_load l (line_no_expression t k h) = absurd (omega arith)
as_load l (line_left_out t h) = absurd (omega arith)
as_load l (line_token t a h) = absurd (omega arith)
as_load l (line_deep t h) = absurd (omega arith)
as_load l (line_long_list t h) = absurd (omega arith)
as_load l (line_many_parts t h) = absurd (omega arith)
as_load l (line_no_type t h) = absurd (omega arith)

pub early_refusal : {line : List ℕ} {n p : ℕ} (h : Refusals.Refused ⊥ line n p) → turn h.stage ≤ 2 → LineAnswers line (refused n)
early_refusal {line} h l =
    subst (λ (m : ℕ). LineAnswers line (refused m)) h.numbered (line_refused (as_line l h.broken) (λ r b k. h.first b (as_load (omega arith) k).1))

pub early_sound : {line : List ℕ} → ((s : Stage) (q : ℕ) → turn s ≤ 2 → ¬ Breach ⊥ line s q) → Before line 3
early_sound f s l k = let m : turn s ≤ 2 = omega arith in let x = as_load m k in f s x.0 m x.1

-- ---- one stage more

pub after : {line : List ℕ} (s : Stage) → Before line (turn s) → ¬ LineBreach line s → (r : Stage) → turn r ≤ turn s → ¬ LineBreach line r
after {line} s f h r l k = ⊎_elim
    (λ (g : turn s ≤ turn r). let e : turn r ≡ turn s = omega arith in h (subst (LineBreach line) (sym (by_its_turn r) ∙ ap by_turn e ∙ by_its_turn s) k))
    (λ (g : turn r < turn s). f r g k)
    (le_or_gt (turn s) (turn r))

-- no test of a line fails on names: there are none
no_names : {line : List ℕ} → ¬ LineBreach line name_stage
no_names h = elim h [ ]

module _ {line : List ℕ} {ts : List Token} (its : Tokens line 0 ts) where
  -- ---- the count of tokens and of open brackets

  pub few_tokens : Before line 3 → ¬ (token_limit < length ts)
  few_tokens f h = f count_stage (omega arith) (line_many_tokens its h)

  pub few_open : {n : ℕ} → 2 < n → Before line n → (p : ℕ) → ¬ TooManyOpen 0 ts p
  few_open l f p h = f count_stage l (line_many_open its h)

  -- ---- the grammar

  module _ {ks : List ℕ} (are : Terminals ts ks) where
    pub no_sentence : Before line 3 → ¬ SentenceOf ⟨expression⟩ ks → LineAnswers line (refused 3)
    no_sentence f h = line_refused (line_no_expression its are h) f

    a_sentence : SentenceOf ⟨expression⟩ ks → ¬ LineBreach line grammar_stage
    a_sentence d (line_no_expression {ts = us} {ks = js} t k h) =
        h (subst (SentenceOf ⟨expression⟩) (sym (Terms.one_list (subst (λ (xs : List Token). Terminals xs js) (Lexical.one_list t its) k) are)) d)

    pub sentence : Before line 3 → SentenceOf ⟨expression⟩ ks → Before line 4
    sentence f d s l = after grammar_stage f (a_sentence d) s (omega arith)

  -- ---- what is left out

  pub uses : {p : ℕ} → Before line 4 → LeftOut ts p → LineAnswers line (refused 10)
  uses f h = line_refused (line_left_out its h) f

  uses_none : ((p : ℕ) → ¬ LeftOut ts p) → ¬ LineBreach line left_out_stage
  uses_none d (line_left_out {p} t h) = d p (subst (λ (xs : List Token). LeftOut xs p) (Lexical.one_list t its) h)

  pub nothing_left_out : Before line 4 → ((p : ℕ) → ¬ LeftOut ts p) → Before line 5
  nothing_left_out f d s l = after left_out_stage f (uses_none d) s (omega arith)

  -- ---- the limits

  pub over_limit : {i : ℕ} {t : Token} → Before line 5 → At ts i t → TokenBreach t → LineAnswers line (refused 6)
  over_limit f a h = line_refused (line_token its a h) f

  module _ {e : Expr} (tree : Tree anywhere 1 ts [] e) where
    pub line_tree : LineTree line e
    line_tree = record { tokens = ts; its = its; tree = tree }

    pub deep : Before line 5 → depth_limit < depth e → LineAnswers line (refused 6)
    deep f h = line_refused (line_deep line_tree h) f

    pub long_lists : Before line 5 → list_limit < longest_list e → LineAnswers line (refused 6)
    long_lists f h = line_refused (line_long_list line_tree h) f

    pub too_many_parts : Before line 5 → part_limit < parts e → LineAnswers line (refused 6)
    too_many_parts f h = line_refused (line_many_parts line_tree h) f

    fits : ((i : ℕ) (t : Token) → At ts i t → ¬ TokenBreach t) → depth e ≤ depth_limit → longest_list e ≤ list_limit → parts e ≤ part_limit → ¬ LineBreach line limit_stage
    fits d a b c (line_token {i} {t} u x h) = d i t (subst (λ (xs : List Token). At xs i t) (Lexical.one_list u its) x) h
    fits d a b c (line_deep u h) = let z = ap depth (one_line_tree u line_tree) in omega arith
    fits d a b c (line_long_list u h) = let z = ap longest_list (one_line_tree u line_tree) in omega arith
    fits d a b c (line_many_parts u h) = let z = ap parts (one_line_tree u line_tree) in omega arith

    pub within_limits : Before line 5 → ((i : ℕ) (t : Token) → At ts i t → ¬ TokenBreach t) → depth e ≤ depth_limit → longest_list e ≤ list_limit → parts e ≤ part_limit → Before line 7
    within_limits f d a b c s l = after name_stage (λ r k. after limit_stage f (fits d a b c) r (omega arith)) no_names s (omega arith)

    -- ---- the types

    pub untyped : Before line 7 → ((t : Ty) → ¬ HasType no_items 0 e t) → LineAnswers line (refused 5)
    untyped f h = line_refused (line_no_type line_tree h) f

    types : {t : Ty} → HasType no_items 0 e t → ¬ LineBreach line type_stage
    types {t} d (line_no_type u h) = h t (subst (λ (x : Expr). HasType no_items 0 x t) (sym (one_line_tree u line_tree)) d)

    pub given : {t : Ty} {cs : List Clause} {v : Value} → Before line 7 → HasType no_items 0 e t → Evaluates no_items 0 e cs v → LineAnswers line (gives t v)
    given f h k = line_gives (λ s. after type_stage f (types h) s (last s)) line_tree h k
      where
        last : (s : Stage) → turn s ≤ 7
        last text_stage = omega arith
        last lexical_stage = omega arith
        last count_stage = omega arith
        last grammar_stage = omega arith
        last left_out_stage = omega arith
        last limit_stage = omega arith
        last name_stage = omega arith
        last type_stage = omega arith
