-- From what each test finds to the outcome of all: the smallest of the three places of the limits, and the stages in their order.
use Rattle.std.specs.Prelude.{ℕ, zero, suc, ◌+◌, ◌*◌, ◌≤◌, ◌<◌, ◌≡◌, refl, Bool, true, false, ◌||◌, List, [], ◌∷◌, leb, ltb, length, get_or, replicate, Option, Some, None, Result, Ok, Err}
use Rattle.std.proofs.Common.{arith, sym, ap, subst, ◌∙◌, ⊎_elim, leb-true, leb-false, le-leb, ltb-true, ltb-false, lt-ltb}
use Rattle.std.proofs.lemmas.Bool.{lt-leb}
use Rattle.paper_expressions.proofs.Laws.Tests.{two}
use Rattle.paper_expressions.specs.View as View
use Rattle.paper_guideline.specs.Limits.{guideline_limit, token_limit, task_limit, data_item_limit, part_limit, assignment_limit, source_limit}
use Rattle.paper_tokens.specs.Lexical.{Token, Tokens}
use Rattle.paper_guideline.specs.LeftOut.{LeftOut}
use Rattle.paper_grammar.specs.Sentence.{SentenceOf}
use Rattle.paper_grammar.specs.Nonterminals.{⟨process⟩}
use Rattle.paper_guideline.specs.Structure.{TopLevel, Structure}
use Rattle.paper_guideline.proofs.Laws.CompleteLaws.{some_structure}
use Rattle.paper_guideline.specs.Refusals as Refusals
use Refusals.{TooManyOpen, long, many_tokens, many_open, text_stage, count_stage, limit_stage, token_breach, many_parts, total_parts}
use Rattle.leaves.specs.Source.{Source, source, Stand, at_end, at_token}
use Rattle.expression_steps.specs.Levels.{stand_length}
use Rattle.limits.specs.Limits.{row_cells}
use Rattle.parts.specs.Part.{Table, table}
use Rattle.blank.specs.Zeros.{zero_at}
use Rattle.guideline_rows.specs.Rows.{flatten}
use Rattle.guideline_rows.specs.FlatLaws.{structure_flat, few_rows}
use Rattle.guideline_rows.specs.Room.{room_enough}
use Rattle.guideline_rows.specs.TallyLaws.{TooLarge}
use Rattle.guideline_walk.specs.declared.Totals.{Totals}
use Rattle.guideline_walk.specs.Made.{Given, Walks, Walked, Roomy}
use Rattle.guideline_walk.specs.Encodes.{laid_encoded}
use Rattle.guideline_walk.specs.Surveyed.{Surveyed, surveyed, all_parts}
use Rattle.token_tests.specs.Reply.{First, OverLimit}
use Rattle.stages.specs.declared.Refused.{Refused}
use Rattle.stages.specs.Least.{Least, least, Either, least_either}
use Rattle.stages.specs.Stages.{Passed, PlaceOf, of_token, of_end, early_passed, grammar_refused, grammar_passed, left_out_refused, left_out_passed}
use Rattle.stages.specs.Limits.{CountOver, tasks_over, data_items_over, parts_over, assignments_over, sources_over, short_over, WholeOver, Over, limit_refused, limit_passed}
use Rattle.columns.specs.Columns.{Lexed}
use Rattle.stages.specs.Judged.{spot, Places, Sentences, Large, SomeOver, tasks, items, parts, assignments, sources, tables, NoneOver, AnyOver, Whole, OverLimits, is_short, Short, Empty, refusal, Limited, Judges}
use Rattle.columns.specs.Clean.{clean}
use Rattle.paper_guideline.specs.Parts.{expressions}

contra : {A : Type 0} → true ≡ false → A
contra e = absurd (let z : ◌≡◌ {A = ℕ} 0 1 = cc in omega arith)

-- ---- the limits

large_least : (g : List TopLevel) (t : Totals) (r : Option ℕ) → Surveyed g t → Large t r → Least (TooLarge g) (spot r)
large_least g t (Some p) s l =
    (subst (TooLarge g) (sym l.1) (s.large l.0), λ q h. let m = (s.least q h).1 in let e = l.1 in omega arith)
large_least g t None s l = λ q h. contra (sym (s.least q h).0 ∙ l)

some_count : (g : List TopLevel) (t : Totals) (short : Bool) → Surveyed g t → SomeOver t short → CountOver (short ≡ true) g
some_count g t short s (tasks h) = tasks_over (let e = s.tasks in omega arith)
some_count g t short s (items h) = data_items_over (let e = s.items in omega arith)
some_count g t short s (parts h) = parts_over (let e = s.parts in omega arith)
some_count g t short s (assignments h) = assignments_over (let e = s.assignments in omega arith)
some_count g t short s (sources h) = sources_over (let e = s.sources in omega arith)
some_count g t short s (tables h) = short_over h

none_count : (g : List TopLevel) (t : Totals) (short : Bool) → Surveyed g t → NoneOver t short → CountOver (short ≡ true) g → ⊥
none_count g t short s n (tasks_over h) = let e = s.tasks in let l = n.tasks in omega arith
none_count g t short s n (data_items_over h) = let e = s.items in let l = n.items in omega arith
none_count g t short s n (parts_over h) = let e = s.parts in let l = n.parts in omega arith
none_count g t short s n (assignments_over h) = let e = s.assignments in let l = n.assignments in omega arith
none_count g t short s n (sources_over h) = let e = s.sources in let l = n.sources in omega arith
none_count g t short s n (short_over h) = contra (sym h ∙ n.tables)

whole_least : (text : List ℕ) (g : List TopLevel) (t : Totals) (short : Bool) (r : Option ℕ) → Surveyed g t → Whole text t short r → Least (WholeOver (short ≡ true) text g) (spot r)
whole_least text g t short (Some p) s w =
    (record { over = some_count g t short s w.0; place = w.1 }, λ q h. let e = w.1 in let f = h.place in omega arith)
whole_least text g t short None s w = λ q h. none_count g t short s w h.over

first_least : (P : List Token → ℕ → Type 0) (c : Source) (ts : List Token) (r : Option ℕ) → Tokens c.text 0 ts → Stand c 0 ts → First P c r → Least (P ts) (spot r)
first_least P c ts (Some p) its st f = f ts its st
first_least P c ts None its st f = f ts its st

pub over_least : (text kinds places lengths : List ℕ) (t : Totals) (short : Bool) (a b d e r : Option ℕ)
    → First OverLimit (source text kinds places lengths) a → Large t b → Whole text t short d
    → spot e ≡ least (spot b) (spot d) → spot r ≡ least (spot a) (spot e) → OverLimits text kinds places lengths t short r
over_least text kinds places lengths t short a b d e r f l w x y ts g its st s u =
    let inner = least_either (TooLarge g) (WholeOver (short ≡ true) text g) (spot b) (spot d) (large_least g t b u l) (whole_least text g t short d u w) in
    let whole = least_either (OverLimit ts) (Either (TooLarge g) (WholeOver (short ≡ true) text g)) (spot a) (spot e)
    (first_least OverLimit (source text kinds places lengths) ts a its st f)
    (subst (Least (Either (TooLarge g) (WholeOver (short ≡ true) text g))) (sym x) inner) in
    subst (Least (Over (short ≡ true) text its s)) (sym y) whole

-- of the two places
pub both_up : (a b : Option ℕ) (p q : ℕ) → a ≡ Some p → b ≡ Some q → p ≤ q → spot (Some p) ≡ least (spot a) (spot b)
both_up a b p q e f h = rw (e, f, le-leb p q h)

pub both_down : (a b : Option ℕ) (p q : ℕ) → a ≡ Some p → b ≡ Some q → q < p → spot (Some q) ≡ least (spot a) (spot b)
both_down a b p q e f h = rw (e, f, lt-leb p q h)

pub first_alone : (a b : Option ℕ) (p : ℕ) → a ≡ Some p → b ≡ None → spot (Some p) ≡ least (spot a) (spot b)
first_alone a b p e f = rw (e, f)

pub second_alone : (a b : Option ℕ) → a ≡ None → spot b ≡ least (spot a) (spot b)
second_alone a b e = rw e

-- no count is passed: the tables decide
pub last_over : (t : Totals) (short : Bool) → t.tasks ≤ task_limit → t.items ≤ data_item_limit → t.parts ≤ part_limit → t.assignments ≤ assignment_limit → t.sources ≤ source_limit → AnyOver t short short
last_over t true a b d e f = tables refl
last_over t false a b d e f = record { tasks = a; items = b; parts = d; assignments = e; sources = f; tables = refl }

pub whole_some : (text : List ℕ) (t : Totals) (short r : Bool) → r ≡ true → AnyOver t short r → Whole text t short (Some (length text))
whole_some text t short r e h = (subst (AnyOver t short) e h, refl)

pub whole_none : (text : List ℕ) (t : Totals) (short r : Bool) → r ≡ false → AnyOver t short r → Whole text t short None
whole_none text t short r e h = subst (AnyOver t short) e h

-- ---- the tokens

at_most : (n m : ℕ) → ¬ (m < n) → n ≤ m
at_most n m h = ⊎_elim (λ (e : leb n m ≡ true). leb-true n m e) (λ (e : leb n m ≡ false). absurd (h (leb-false n m e))) (two (leb n m))

module _ {text kinds places lengths : List ℕ} (l : Lexed text kinds places lengths) where
  few_tokens : length l.tokens ≤ token_limit
  few_tokens = at_most (length l.tokens) token_limit (λ h. l.passed count_stage (length text) (omega arith) (many_tokens l.its h))

  few_kinds : length kinds ≤ token_limit
  few_kinds = let e = stand_length l.stand in let h = few_tokens in omega arith

  short_text : length text ≤ guideline_limit
  short_text = at_most (length text) guideline_limit (λ h. l.passed text_stage (length text) (omega arith) (long h))

  given : (g : List TopLevel) → Structure l.tokens g → Given (source text kinds places lengths) l.tokens g
  given g s = record { stand = l.stand; structure = s; brackets = λ q h. l.passed count_stage q (omega arith) (many_open l.its h); few = few_tokens; short = short_text }

token_at : (c : Source) (i k : ℕ) (ts : List Token) → Stand c i ts → k < length ts → PlaceOf c.text ts k (get_or c.places (i + k) 0)
token_at c i k [] (at_end e) h = absurd (omega arith)
token_at c i zero (t ∷ ts) (at_token h s) l =
    let z : i + 0 ≡ i = omega arith in
    subst (λ (p : ℕ). PlaceOf c.text (t ∷ ts) 0 p) (h.place ∙ ap (λ (j : ℕ). get_or c.places j 0) (sym z)) (of_token View.at_first)
token_at c i (suc k) (t ∷ ts) (at_token h s) l =
    let z : suc i + k ≡ i + suc k = omega arith in
    later (subst (λ (j : ℕ). PlaceOf c.text ts k (get_or c.places j 0)) z (token_at c (suc i) k ts s (omega arith)))
  where
    later : {p : ℕ} → PlaceOf c.text ts k p → PlaceOf c.text (t ∷ ts) (suc k) p
    later (of_token a) = of_token (View.at_later a)
    later (of_end e) = of_end (ap suc e)

place_there : (text kinds places lengths : List ℕ) (l : Lexed text kinds places lengths) (i p : ℕ) → i ≤ length kinds → Places text kinds places i p → PlaceOf text l.tokens i p
place_there text kinds places lengths l i p h w =
    let e = stand_length l.stand in
    ⊎_elim
    (λ (y : ltb i (length kinds) ≡ true).
    let m = ltb-true i (length kinds) y in
    let z : 0 + i ≡ i = omega arith in
    subst (λ (q : ℕ). PlaceOf text l.tokens i q) (ap (λ (j : ℕ). get_or places j 0) z ∙ sym (w.inside m)) (token_at (source text kinds places lengths) 0 i l.tokens l.stand (omega arith)))
    (λ (y : ltb i (length kinds) ≡ false).
    let m = ltb-false i (length kinds) y in
    subst (λ (q : ℕ). PlaceOf text l.tokens i q) (sym (w.behind m)) (of_end (omega arith)))
    (two (ltb i (length kinds)))

-- ---- lent tables

neither : (p q : Bool) → ¬ (p || q ≡ true) → ¬ (p ≡ true) × ¬ (q ≡ true)
neither true q h = absurd (h refl)
neither false q h = (λ e. contra (sym e), h)

long_enough : (n m : ℕ) → ¬ (ltb n m ≡ true) → m ≤ n
long_enough n m h = at_most m n (λ k. h (lt-ltb n m k))

-- every table has its least length
record Wide (r c b : ℕ) : Type 0 where
  rows : row_cells ≤ r
  cells : part_limit * 4 ≤ c
  bytes : guideline_limit ≤ b

wide : (r c b : ℕ) → ¬ (is_short r c b ≡ true) → Wide r c b
wide r c b h =
    let a = neither (ltb r row_cells) (ltb c (part_limit * 4) || ltb b guideline_limit) h in
    let d = neither (ltb c (part_limit * 4)) (ltb b guideline_limit) a.1 in
    record { rows = long_enough r row_cells a.0; cells = long_enough c (part_limit * 4) d.0; bytes = long_enough b guideline_limit d.1 }

-- tables that were cleared, which were blank before
same_empty : {x y : List ℕ} {t u : Table} {z : List ℕ} {v : Table} → length y ≡ length x → length u.cells ≡ length t.cells → length u.bytes ≡ length t.bytes → Empty y u z v → Empty x t z v
same_empty a b c e = record { rows = e.rows ∙ ap (λ (n : ℕ). replicate n 0) a; parts = e.parts ∙ ap (λ (n : ℕ). replicate n 0) b; bytes = e.bytes ∙ ap (λ (n : ℕ). replicate n 0) c }

-- ---- the outcome

module _ (text kinds places lengths x : List ℕ) (t : Table) where
  pub bad_token : (p : ℕ) → Sentences text kinds places (Some p) → Judges text kinds places lengths x t x t (Err (refusal 3 p))
  bad_token p s = record {
    outcome = λ l e.
        let b = s (few_kinds l) in (
          grammar_refused (Short x t) text l.its l.are (early_passed (Short x t) text l.passed) b.bad
              (place_there text kinds places lengths l b.index p b.bad.within b.place),
          e,
        );
  }

  sentence_passed : (l : Lexed text kinds places lengths) → SentenceOf ⟨process⟩ kinds → Passed (Short x t) text 3
  sentence_passed l d = grammar_passed (Short x t) text l.its l.are (early_passed (Short x t) text l.passed) d

  pub left_out_there : (p : ℕ) → SentenceOf ⟨process⟩ kinds → First LeftOut (source text kinds places lengths) (Some p) → Judges text kinds places lengths x t x t (Err (refusal 10 p))
  left_out_there p d f = record {
    outcome = λ l e.
        let h = f l.tokens l.its l.stand in
        (left_out_refused (Short x t) text l.its l.are (sentence_passed l d) h.0 h.1, e);
  }

  pub nothing_left_out : {y : List ℕ} {u : Table} {r : Result ℕ Refused} → SentenceOf ⟨process⟩ kinds → First LeftOut (source text kinds places lengths) None
      → Limited text kinds places lengths x t y u r → Judges text kinds places lengths x t y u r
  nothing_left_out d f m = record {
    outcome = λ l e.
        let n = f l.tokens l.its l.stand in
        let g = some_structure l.are d n in
        m.outcome l g.0 g.1 (left_out_passed (Short x t) text l.its l.are (sentence_passed l d) n) e;
  }

module _ {text kinds places lengths x y k l b d : List ℕ} {w : Totals} {short : Bool} (es : short ≡ is_short (length x) (length k) (length b))
    (walks : Walks (source text kinds places lengths) x y k l b d w) where
  walked : (v : Lexed text kinds places lengths) (g : List TopLevel) → Structure v.tokens g → Walked (source text kinds places lengths) x y k l b d (flatten g) w
  walked v g s = walks.done v.tokens g (given v g s)

  -- what is found goes by the lent tables
  by_tables : (r : Option ℕ) → OverLimits text kinds places lengths w short r → (v : Lexed text kinds places lengths) (g : List TopLevel) (s : Structure v.tokens g) → Least (Over (Short x (table k b)) text v.its s) (spot r)
  by_tables r h v g s =
      subst (λ (q : Bool). Least (Over (q ≡ true) text v.its s) (spot r)) es (h v.tokens g v.its v.stand s (surveyed g (walked v g s).tally))

  pub past_limit : {y' l' d' : List ℕ} (p : ℕ) → OverLimits text kinds places lengths w short (Some p) → length y ≡ length x → length l ≡ length k → length d ≡ length b → Empty y (table l d) y' (table l' d')
      → Limited text kinds places lengths x (table k b) y' (table l' d') (Err (refusal 6 p))
  past_limit p h ly ll ld e = record { outcome = λ v g s before blank. (limit_refused (Short x (table k b)) text v.its s before (by_tables (Some p) h v g s), same_empty ly ll ld e) }

  -- there is room for a guideline that breaks no limit
  roomy : (v : Lexed text kinds places lengths) (g : List TopLevel) → Structure v.tokens g → Passed (Short x (table k b)) text 5 → Roomy (source text kinds places lengths) x k b (flatten g)
  roomy v g s passed =
      let r = wide (length x) (length k) (length b) (λ q. passed limit_stage (length text) (omega arith) (Refusals.short_table q)) in
      let r1 = r.rows in
      let r2 = r.cells in
      let f = few_rows s in
      let ft = few_tokens v in
      let rd : Refusals.Read text g = record { tokens = v.tokens; its = v.its; structure = s } in
      let p : total_parts (expressions g) ≤ part_limit = at_most (total_parts (expressions g)) part_limit (λ q. passed limit_stage (length text) (omega arith) (many_parts rd q)) in
      let q = all_parts g in
      record {
        sound = record { clean = clean v.stand (λ i t a b. passed limit_stage t.place (omega arith) (token_breach v.its a b)); short = short_text v };
        cells = omega arith;
        few = omega arith;
        parts = omega arith;
        bytes = room_enough v.its (structure_flat s) (short_text v) r.bytes;
      }

  pub all_within : OverLimits text kinds places lengths w short None → length y ≡ length x → length l ≡ length k → length d ≡ length b
      → Limited text kinds places lengths x (table k b) y (table l d) (Ok w.rows)
  all_within h ly ll ld = record {
    outcome = λ v g s before e.
        let passed = limit_passed (Short x (table k b)) text v.its s before (by_tables None h v g s) in
        let wk = walked v g s in
        record {
          guideline = g;
          read = record { tokens = v.tokens; its = v.its; structure = s };
          passed = passed;
          count = wk.tally.count;
          long = record { cells = ly; parts = ll; bytes = ld };
          encoded = laid_encoded (zero_at x x e.rows) (zero_at k k e.parts) (zero_at b b e.bytes) (wk.laid (roomy v g s passed));
        };
  }
