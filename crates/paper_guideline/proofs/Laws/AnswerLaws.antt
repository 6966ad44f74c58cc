-- Every text has exactly one answer of load. Stage by stage: the smallest place of its breaches, computed where the tokens and the structure are known (`answerF`), or that there is none.
use Rattle.std.specs.Prelude.{ℕ, zero, suc, ◌≤◌, ◌<◌, ◌≡◌, refl, Bool, true, false, eqb, length}
use Rattle.std.proofs.Common.{arith, sym, ap, subst, ◌∙◌, ⊎_elim, eqb-true}
use Rattle.std.proofs.Math.Decide.{dec_lt}
use Rattle.std.proofs.Math.Option.{Option, none, some}
use mathlib.Core.List.{List, [], ◌∷◌, map, Memᴰ}
use Rattle.std.proofs.lemmas.List.{length-map}
use Rattle.std.proofs.lemmas.Bool.{eqb-false}
use Rattle.paper_expressions.specs.Bytes.{Alike}
use Rattle.paper_expressions.specs.View.{Item, At, at_first, at_later, Apart}
use Rattle.paper_expressions.proofs.Laws.Tests.{two}
use Rattle.paper_expressions.proofs.Laws.Search.{Reflects, of_yes, of_no, at_one}
use Rattle.paper_tokens.specs.Lexical.{Token, Tokens, Stuck}
use Rattle.paper_tokens.specs.Terminals.{Terminals}
use Rattle.paper_tokens.proofs.Laws.LexicalLaws as Lists
use Rattle.paper_tokens.proofs.Laws.LexicalTwin.{Lexed, tokens, stuck, lex_f, Is, lexed}
use Rattle.paper_tokens.proofs.Laws.StuckLaws.{not_stuck, one_stuck}
use Rattle.paper_tokens.proofs.Laws.TerminalLaws.{terminal_f, have_terminals}
use Rattle.paper_tokens.proofs.Laws.TerminalLaws as Kinds
use Rattle.paper_grammar.specs.Nonterminals.{⟨process⟩}
use Rattle.paper_grammar.specs.Sentence.{SentenceOf, FirstBad}
use Rattle.paper_grammar.proofs.Laws.Same.{at_process, sentence_or_bad, first_bad_one}
use Rattle.paper_guideline.specs.LeftOut.{LeftOut}
use Rattle.paper_guideline.specs.Structure.{TopLevel, DataItem, Structure, data_items}
use Rattle.paper_guideline.specs.Parts.{expressions}
use Rattle.paper_guideline.specs.Names.{NameBreach, data_item_twice}
use Rattle.paper_guideline.specs.Refusals
use Refusals.{Stage, text_stage, lexical_stage, count_stage, grammar_stage, left_out_stage, limit_stage, name_stage, type_stage, turn, number, declared_items, Fitting, Read, Breach, no_rule, bad_token, bad_end, uses_left_out, name_breach, no_type}
use Refusals.{Answer, loads, refused, Answers, is_loaded, is_refused}
use Rattle.paper_guideline.proofs.Laws.RefusalLaws.{by_turn, by_its_turn, one_answer}
use Rattle.paper_guideline.proofs.Laws.SentenceLaws.{structured_sentence}
use Rattle.paper_guideline.proofs.Laws.CompleteLaws.{some_structure}
use Rattle.paper_guideline.proofs.Laws.Places.{least_f, Least, least, nowhere, least-of, least_iff}
use Rattle.paper_guideline.proofs.Laws.NameTwin.{name_places, name_breach_if, name_breach_in}
use Rattle.paper_guideline.proofs.Laws.FittingTwin.{type_places, unfit_in, unfit_out}
use Rattle.paper_guideline.proofs.Laws.StageTwin.{text_places, text_in, text_if, count_places, count_in, count_if, left_out_places, left_out_in, left_out_out, limit_places, limit_in, limit_if, one_read}

-- ---- where no rule on names is broken, the declared items have names apart

declared_at : {i : ℕ} {x : Item} (ds : List DataItem) → At (map (λ (d : DataItem). record { name = d.named.spelt; declared = d.declared; value = none }) ds) i x
    → (d : DataItem) × At ds i d × (x.name ≡ d.named.spelt)
declared_at [] h = elim h [ ]
declared_at (d ∷ ds) at_first = (d, at_first, refl)
declared_at (d ∷ ds) (at_later h) = let r = declared_at ds h in (r.0, at_later r.1, r.2)

pub names_apart : (g : List TopLevel) → ((p : ℕ) → ¬ NameBreach g p) → Apart (declared_items g)
names_apart g none-broken = record { items = λ h k e. same h k e; tasks = λ h. elim h [ ] }
  where
    twice : {i j : ℕ} {x y : Item} → At (declared_items g).items i x → At (declared_items g).items j y → Alike x.name y.name → ¬ (i < j)
    twice {x} h k e l =
        let a = declared_at (data_items g) h in
        let b = declared_at (data_items g) k in
        let f : Alike a.0.named.spelt b.0.named.spelt = subst (λ (n : List ℕ). Alike n b.0.named.spelt) a.2 (subst (λ (n : List ℕ). Alike x.name n) b.2 e) in
        none-broken b.0.named.place (data_item_twice l a.1 b.1 f)

    same : {i j : ℕ} {x y : Item} → At (declared_items g).items i x → At (declared_items g).items j y → Alike x.name y.name → i ≡ j
    same {i} {j} h k e = go (dec_lt i j) (dec_lt j i)
      where
        go : Dec (i < j) → Dec (j < i) → i ≡ j
        go (yes l) d = absurd (twice h k e l)
        go (no l) (yes m) = absurd (twice k h (sym e) m)
        go (no l) (no m) = omega arith

-- ---- the stages in their order

-- the stage's number and its smallest place, or the answer of what follows
abbrev pub or_refused : Stage → Option ℕ → Answer → Answer
or_refused s (some p) a = refused (number s) p
or_refused s none a = a

-- no stage before the n-th is broken
abbrev Passed : Type 0 → List ℕ → ℕ → Type 0
Passed Short text n = (s : Stage) (q : ℕ) → turn s < n → ¬ Breach Short text s q

module _ {Short : Type 0} {text : List ℕ} where
  none_passed : Passed Short text 0
  none_passed s q l = omega arith

  passed_on : (s : Stage) → Passed Short text (turn s) → ((q : ℕ) → ¬ Breach Short text s q) → Passed Short text (suc (turn s))
  passed_on s before here r q l b = ⊎_elim
      (λ (e : eqb (turn r) (turn s) ≡ true). here q (subst (λ (z : Stage). Breach Short text z q) (sym (by_its_turn r) ∙ ap by_turn (eqb-true (turn r) (turn s) e) ∙ by_its_turn s) b))
      (λ (e : eqb (turn r) (turn s) ≡ false). let n = eqb-false (turn r) (turn s) e in before r q (omega arith) b)
      (two (eqb (turn r) (turn s)))

  stage_answer : {o : Option ℕ} {a : Answer} (s : Stage) → Passed Short text (turn s) → Least (Breach Short text s) o → (Passed Short text (suc (turn s)) → Answers Short text a) → Answers Short text (or_refused s o a)
  stage_answer s before (least {p} b m) on =
      is_refused (record { stage = s; broken = b; numbered = refl; smallest = λ {q} c. m q c; first = λ {s = r} {q} l. before r q l })
  stage_answer s before (nowhere n) on = on (passed_on s before n)

-- ---- a text with its structure: the answer, computed

abbrev pub answer_f : Bool → List ℕ → List Token → List TopLevel → Answer
answer_f short text ts g =
    or_refused text_stage (least_f (text_places text))
    (or_refused count_stage (least_f (count_places text ts))
    (or_refused left_out_stage (least_f (left_out_places ts))
    (or_refused limit_stage (least_f (limit_places short text ts g))
    (or_refused name_stage (least_f (name_places g))
    (or_refused type_stage (least_f (type_places g)) loads)))))

module _ {Short : Type 0} {short : Bool} (is : Reflects Short short) {text : List ℕ} {ts : List Token} (its : Tokens text 0 ts) where
  text_least : Least (Breach Short text text_stage) (least_f (text_places text))
  text_least = least_iff (λ p m. text_if text m) (λ p b. text_in text b) (least-of (text_places text))

  none_stuck : (q : ℕ) → ¬ Breach Short text lexical_stage q
  none_stuck q (no_rule s) = not_stuck its s

  count_least : Least (Breach Short text count_stage) (least_f (count_places text ts))
  count_least = least_iff (λ p m. count_if its m) (λ p b. count_in its b) (least-of (count_places text ts))

  out_in : {p : ℕ} → Breach Short text left_out_stage p → LeftOut ts p
  out_in {p} (uses_left_out t h) = subst (λ (us : List Token). LeftOut us p) (Lists.one_list t its) h

  left_out_least : Least (Breach Short text left_out_stage) (least_f (left_out_places ts))
  left_out_least =
      least_iff (λ p m. uses_left_out its (left_out_out ts (have_terminals its) m)) (λ p b. left_out_in (out_in b) (have_terminals its)) (least-of (left_out_places ts))

  same_terminals : {us : List Token} {ks : List ℕ} → Tokens text 0 us → Terminals us ks → ks ≡ map terminal_f ts
  same_terminals {ks} t k = Kinds.one_list (subst (λ (vs : List Token). Terminals vs ks) (Lists.one_list t its) k) (have_terminals its)

  a_sentence : SentenceOf ⟨process⟩ (map terminal_f ts) → (q : ℕ) → ¬ Breach Short text grammar_stage q
  a_sentence s q (bad_token t k b h) = b.no_sentence (subst (SentenceOf ⟨process⟩) (sym (same_terminals t k)) s)
  a_sentence s q (bad_end t k b) = b.no_sentence (subst (SentenceOf ⟨process⟩) (sym (same_terminals t k)) s)

  module _ {g : List TopLevel} (structure : Structure ts g) where
    read : Read text g
    read = record { tokens = ts; its = its; structure = structure }

    names_in : {p : ℕ} → Breach Short text name_stage p → NameBreach g p
    names_in {p} (name_breach r b) = subst (λ (h : List TopLevel). NameBreach h p) (one_read r read) b

    name_least : Least (Breach Short text name_stage) (least_f (name_places g))
    name_least = least_iff (λ p m. name_breach read (name_breach_if g m)) (λ p b. name_breach_in g (names_in b)) (least-of (name_places g))

    types_in : {p : ℕ} → Apart (declared_items g) → Breach Short text type_stage p → Memᴰ p (type_places g)
    types_in apart (no_type {i} {x} r h n) =
        let e = one_read r read in
        unfit_in g apart (subst (λ (k : List TopLevel). At (expressions k) i x) e h) (subst (λ (k : List TopLevel). ¬ Fitting (declared_items k) x x.role) e n)

    types_if : {p : ℕ} → Apart (declared_items g) → Memᴰ p (type_places g) → Breach Short text type_stage p
    types_if apart m = let u = unfit_out g apart m in subst (Breach Short text type_stage) (sym u.there) (no_type read u.at u.misfit)

    type_least : Apart (declared_items g) → Least (Breach Short text type_stage) (least_f (type_places g))
    type_least apart = least_iff (λ p m. types_if apart m) (λ p b. types_in apart b) (least-of (type_places g))

    -- no stage is broken
    all_passed : ((s : Stage) (q : ℕ) → turn s < 8 → ¬ Breach Short text s q) → (s : Stage) (q : ℕ) → ¬ Breach Short text s q
    all_passed f text_stage q = f text_stage q (omega arith)
    all_passed f lexical_stage q = f lexical_stage q (omega arith)
    all_passed f count_stage q = f count_stage q (omega arith)
    all_passed f grammar_stage q = f grammar_stage q (omega arith)
    all_passed f left_out_stage q = f left_out_stage q (omega arith)
    all_passed f limit_stage q = f limit_stage q (omega arith)
    all_passed f name_stage q = f name_stage q (omega arith)
    all_passed f type_stage q = f type_stage q (omega arith)

    pub structured_answer : Answers Short text (answer_f short text ts g)
    structured_answer =
        stage_answer text_stage none_passed text_least (λ a.
        let b = passed_on lexical_stage a none_stuck in
        stage_answer count_stage b count_least (λ c.
        let d = passed_on grammar_stage c (a_sentence (structured_sentence structure (have_terminals its))) in
        stage_answer left_out_stage d left_out_least (λ e.
        stage_answer limit_stage e (least_iff (λ p m. limit_if is its structure m) (λ p b. limit_in is its structure b) (least-of (limit_places short text ts g))) (λ f.
        stage_answer name_stage f name_least (λ h.
        let apart = names_apart g (λ p b. h name_stage p (omega arith) (name_breach read b)) in
        stage_answer type_stage h (type_least apart) (λ k. is_loaded read (all_passed k)))))))

-- ---- every text

abbrev Some : Type 0 → List ℕ → Type 0
Some Short text = (a : Answer) × Answers Short text a

-- where the j-th token of a text stands, or its end
data Spot (text : List ℕ) (ts : List Token) (j : ℕ) : ℕ → Type 0 where
  of_token : {t : Token} → At ts j t → Spot text ts j t.place
  of_end : j ≡ length ts → Spot text ts j (length text)

at_below : {A : Type 0} (l : List A) (i : ℕ) → i < length l → (x : A) × At l i x
at_below [] i h = absurd (omega arith)
at_below (x ∷ l) zero h = (x, at_first)
at_below (x ∷ l) (suc i) h = let r = at_below l i (omega arith) in (r.0, at_later r.1)

below : {A : Type 0} {l : List A} {i : ℕ} {x : A} → At l i x → i < length l
below at_first = omega arith
below (at_later h) = let k = below h in omega arith

one_spot : {text : List ℕ} {ts : List Token} {j p q : ℕ} → Spot text ts j p → Spot text ts j q → p ≡ q
one_spot (of_token h) (of_token k) = ap (λ (t : Token). t.place) (at_one h k)
one_spot (of_token h) (of_end e) = absurd (let l = below h in omega arith)
one_spot (of_end e) (of_token h) = absurd (let l = below h in omega arith)
one_spot (of_end e) (of_end f) = refl

pub record OneAnswer (Short : Type 0) (text : List ℕ) : Type 0 where
  pub answer : Answer
  pub fits : Answers Short text answer
  pub only : {a : Answer} → Answers Short text a → a ≡ answer

module _ {Short : Type 0} {short : Bool} (is : Reflects Short short) (text : List ℕ) where
  -- a stage is broken, or what follows has an answer
  stage_some : {o : Option ℕ} (s : Stage) → Passed Short text (turn s) → Least (Breach Short text s) o → (Passed Short text (suc (turn s)) → Some Short text) → Some Short text
  stage_some s before (least {p} b m) on = (refused (number s) p, stage_answer {a = loads} s before (least b m) (λ x. absurd (x s p (omega arith) b)))
  stage_some s before (nowhere n) on = on (passed_on s before n)

  stuck_least : {p : ℕ} → Stuck text p → Least (Breach Short text lexical_stage) (some p)
  stuck_least {p} s = least (no_rule s) (λ q b. go b)
    where
      go : {q : ℕ} → Breach Short text lexical_stage q → p ≤ q
      go (no_rule t) = let e = one_stuck s t in omega arith

  module _ {ts : List Token} (its : Tokens text 0 ts) where
    bad_at : {q : ℕ} → Breach Short text grammar_stage q → (j : ℕ) × FirstBad ⟨process⟩ (map terminal_f ts) j × Spot text ts j q
    bad_at (bad_token {i} {t} u k b h) =
        (i, subst (λ (ks : List ℕ). FirstBad ⟨process⟩ ks i) (same_terminals is its u k) b, of_token (subst (λ (us : List Token). At us i t) (Lists.one_list u its) h))
    bad_at (bad_end {ts = us} u k b) =
        (length us, subst (λ (ks : List ℕ). FirstBad ⟨process⟩ ks (length us)) (same_terminals is its u k) b, of_end (ap length (Lists.one_list u its)))

    spotted : {i p : ℕ} → FirstBad ⟨process⟩ (map terminal_f ts) i → Spot text ts i p → Breach Short text grammar_stage p
    spotted b (of_token h) = bad_token its (have_terminals its) b h
    spotted b (of_end e) = bad_end its (have_terminals its) (subst (FirstBad ⟨process⟩ (map terminal_f ts)) e b)

    spot_of : (i : ℕ) → i ≤ length (map terminal_f ts) → (p : ℕ) × Spot text ts i p
    spot_of i h = go (dec_lt i (length ts))
      where
        go : Dec (i < length ts) → (p : ℕ) × Spot text ts i p
        go (yes l) = let t = at_below ts i l in (t.0.place, of_token t.1)
        go (no l) = let e = length-map ts terminal_f in (length text, of_end (omega arith))

    bad_least : {i p : ℕ} → FirstBad ⟨process⟩ (map terminal_f ts) i → Spot text ts i p → Least (Breach Short text grammar_stage) (some p)
    bad_least {i} {p} b s = least (spotted b s) (λ q c.
        let d = bad_at c in
        let e = one_spot s (subst (λ (k : ℕ). Spot text ts k q) (first_bad_one d.1 b) d.2) in
        omega arith)

    tokens_some : Passed Short text 2 → Some Short text
    tokens_some before = stage_some count_stage before (count_least is its) (λ c. ⊎_elim
        (λ (s : SentenceOf ⟨process⟩ (map terminal_f ts)).
        stage_some left_out_stage (passed_on grammar_stage c (a_sentence is its s)) (left_out_least is its) (λ d.
        let g = some_structure (have_terminals its) s (λ p h. d left_out_stage p (omega arith) (uses_left_out its h)) in
        (answer_f short text ts g.0, structured_answer is its g.1)))
        (λ (b : (i : ℕ) × FirstBad ⟨process⟩ (map terminal_f ts) i).
        let p = spot_of b.0 b.1.within in
        stage_some grammar_stage c (bad_least b.1 p.1) (λ d. absurd (d grammar_stage p.0 (omega arith) (spotted b.1 p.1))))
        (sentence_or_bad at_process (map terminal_f ts)))

  some_answer : Some Short text
  some_answer = stage_some text_stage none_passed text_smallest (λ a. go a (lex_f text) (lexed text))
    where
      text_smallest : Least (Breach Short text text_stage) (least_f (text_places text))
      text_smallest = least_iff (λ p m. text_if text m) (λ p b. text_in text b) (least-of (text_places text))

      none_stuck_in : {ts : List Token} → Tokens text 0 ts → (q : ℕ) → ¬ Breach Short text lexical_stage q
      none_stuck_in its q (no_rule s) = not_stuck its s

      go : Passed Short text 1 → (x : Lexed) → Is text 0 x → Some Short text
      go a (tokens ts) its = tokens_some its (passed_on lexical_stage a (none_stuck_in its))
      go a (stuck p) s = stage_some lexical_stage a (stuck_least s) (λ b. absurd (b lexical_stage p (omega arith) (no_rule s)))

-- every text has exactly one answer; whether a lent table is too short is decided
pub exactly_one_answer : {Short : Type 0} → Dec Short → (text : List ℕ) → OneAnswer Short text
exactly_one_answer {Short} short text = go short
  where
    one_of : Some Short text → OneAnswer Short text
    one_of s = record { answer = s.0; fits = s.1; only = λ h. one_answer h s.1 }

    go : Dec Short → OneAnswer Short text
    go (yes s) = one_of (some_answer (of_yes s) text)
    go (no n) = one_of (some_answer (of_no n) text)
