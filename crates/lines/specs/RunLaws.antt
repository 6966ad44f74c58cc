-- What the program writes, step by step, is the published output: what is kept of a line has the line's own answer, and `take` cuts the input where `lines` does.
use Rattle.std.specs.Prelude.{ℕ, suc, ◌+◌, ◌≤◌, ◌<◌, ◌≡◌, refl, Bool, true, false, cond, List, [], ◌∷◌, ◌++◌, eqb, length, take, drop}
use Rattle.std.proofs.Common.{arith, sym, ap, subst, ◌∙◌, ⊎_elim, append_assoc, append-nil, length-take, length-drop, drop_of_length-le, take_all, drop-drop}
use Rattle.std.proofs.Math.Seq.{drop-length}
use Rattle.paper_guideline.specs.Limits.{guideline_limit}
use Rattle.paper_guideline.specs.Refusals.{text_stage, number}
use Rattle.paper_guideline.proofs.Laws.RefusalLaws.{le_or_gt}
use Rattle.paper_guideline.specs.Line.{line_long, LineAnswer, refused, LineAnswers, line_refused, digits_of, answer_written, lines_from, Writes, no_more_lines, next_line, Output, output}
use Rattle.paper_guideline.proofs.Laws.LineLaws.{one_line_answer}
use Rattle.lines.specs.Kept.{kept_limit, Begun, before_newline, has_newline, Takes}
use Rattle.lines.specs.Run.{header, line_written, joined, Run, line_ends, line_goes_on, next_chunk, last_line, no_last_line}
use Rattle.lines.specs.declared.Taken.{Taken}

-- ---- the answer of a line

too_long : {line : List ℕ} → guideline_limit < length line → LineAnswers line (refused (number text_stage))
too_long h = line_refused {s = text_stage} (line_long h) (λ r l. absurd (omega arith))

-- what is kept of a line has the line's own answer: a longer line is refused either way
pub kept_answer : {begun kept : List ℕ} {n : ℕ} {a : LineAnswer} → Begun begun kept n → LineAnswers (take n kept) a → LineAnswers begun a
kept_answer {begun} {kept} {n} {a} b h =
    ⊎_elim
    (λ l. subst (λ (w : List ℕ). LineAnswers w a) (b.same ∙ take_all kept_limit begun l) h)
    (λ l.
    let e = ap length b.same ∙ length-take kept_limit begun in
    let t : guideline_limit < length (take n kept) = omega arith in
    let s = one_line_answer h (too_long t) in
    subst (λ (x : LineAnswer). LineAnswers begun x) (sym s) (too_long (let z : guideline_limit < length begun = omega arith in z)))
    (le_or_gt (length begun) kept_limit)

-- ---- where the input is cut

module _ (rest : List ℕ) where
  at_newline : (begun w : List ℕ) → has_newline w ≡ true
      → lines_from begun (w ++ rest) ≡ (begun ++ before_newline w) ∷ lines_from [] (drop (suc (length (before_newline w))) w ++ rest)
  at_newline begun [] h = absurd (let z : ◌≡◌ {A = ℕ} 0 1 = cc in omega arith)
  at_newline begun (b ∷ w) h =
      let by : (t : Bool) → cond t true (has_newline w) ≡ true
      → cond t (begun ∷ lines_from [] (w ++ rest)) (lines_from (begun ++ (b ∷ [])) (w ++ rest))
      ≡ (begun ++ cond t [] (b ∷ before_newline w)) ∷ lines_from [] (drop (suc (length (cond t [] (b ∷ before_newline w)))) (b ∷ w) ++ rest) =
      elim [
        | true ↦ λ k. ap (λ (l : List ℕ). l ∷ lines_from [] (w ++ rest)) (sym (append-nil begun))
        | false ↦ λ k. at_newline (begun ++ (b ∷ [])) w k
            ∙ ap (λ (l : List ℕ). l ∷ lines_from [] (drop (suc (length (before_newline w))) w ++ rest)) (append_assoc begun (b ∷ []) (before_newline w))
      ] in
      by (eqb b 10) h

  at_the_end : (begun w : List ℕ) → has_newline w ≡ false → lines_from begun (w ++ rest) ≡ lines_from (begun ++ before_newline w) rest
  at_the_end begun [] h = ap (λ (l : List ℕ). lines_from l rest) (sym (append-nil begun))
  at_the_end begun (b ∷ w) h =
      let by : (t : Bool) → cond t true (has_newline w) ≡ false
      → cond t (begun ∷ lines_from [] (w ++ rest)) (lines_from (begun ++ (b ∷ [])) (w ++ rest))
      ≡ lines_from (begun ++ cond t [] (b ∷ before_newline w)) rest =
      elim [
        | true ↦ λ k. absurd (let z : ◌≡◌ {A = ℕ} 0 1 = cc in omega arith)
        | false ↦ λ k. at_the_end (begun ++ (b ∷ [])) w k ∙ ap (λ (l : List ℕ). lines_from l rest) (append_assoc begun (b ∷ []) (before_newline w))
      ] in
      by (eqb b 10) h

all_before : (w : List ℕ) → has_newline w ≡ false → before_newline w ≡ w
all_before [] h = refl
all_before (b ∷ w) h =
    let by : (t : Bool) → cond t true (has_newline w) ≡ false → cond t [] (b ∷ before_newline w) ≡ b ∷ w =
    elim [
      | true ↦ λ k. absurd (let z : ◌≡◌ {A = ℕ} 0 1 = cc in omega arith)
      | false ↦ λ k. ap (λ (l : List ℕ). b ∷ l) (all_before w k)
    ] in
    by (eqb b 10) h

module _ {chunk kept kept' : List ℕ} {from n : ℕ} {r : Taken} (t : Takes chunk from kept n kept' r) where
  -- behind a newline `take` goes on, and without one it has come to the chunk's end
  behind_newline : r.ended ≡ true → drop r.at chunk ≡ drop (suc (length (before_newline (drop from chunk)))) (drop from chunk)
  behind_newline e =
      let o = t.on ∙ ap (λ (x : Bool). from + length (before_newline (drop from chunk)) + cond x 1 0) e in
      let p : r.at ≡ from + suc (length (before_newline (drop from chunk))) = omega arith in
      ap (λ (i : ℕ). drop i chunk) p ∙ sym (drop-drop _ from chunk)

  nothing_left : r.ended ≡ false → drop r.at chunk ≡ []
  nothing_left e =
      let d = drop from chunk in
      let o = t.on ∙ ap (λ (x : Bool). from + length (before_newline d) + cond x 1 0) e in
      let a = ap (λ (l : List ℕ). length l) (all_before d (sym t.ended ∙ e)) in
      let p : r.at ≡ from + length d = omega arith in
      ap (λ (i : ℕ). drop i chunk) p ∙ sym (drop-drop _ from chunk) ∙ drop-length d

  -- where any of the chunk is left, it goes on
  pub moves_on : from < length chunk → from < r.at
  moves_on l =
      let d = drop from chunk in
      let o = t.on in
      let some : 0 < length d = omega (arith, length-drop from chunk) in
      let by : (x : Bool) → r.ended ≡ x → from < r.at =
      elim [
        | true ↦ λ e. let z = ap {B = ℕ} (λ (x : Bool). cond x 1 0) e in omega arith
        | false ↦ λ e. let a = ap (λ (w : List ℕ). length w) (all_before d (sym t.ended ∙ e)) in omega arith
      ] in
      by r.ended refl

-- ---- what is written

none_begun : {begun kept : List ℕ} {n : ℕ} → Begun begun kept n → Begun [] kept 0
none_begun b = record { room = b.room; count = refl; same = refl }

begun_none : {begun kept : List ℕ} → Begun begun kept 0 → begun ≡ []
begun_none {begun = []} b = refl
begun_none {begun = x ∷ l} b = let e = b.count in absurd (omega arith)

last_written : {begun kept : List ℕ} {n number : ℕ} {a : LineAnswer} → Begun begun kept n → 0 < n → LineAnswers (take n kept) a
    → Writes number (lines_from begun []) (line_written number a)
last_written {begun = []} b l h = let e = b.count in absurd (omega arith)
last_written {begun = x ∷ l} b s h = next_line (kept_answer b h) no_more_lines

-- none of a chunk is left
used_up : {w : List ℕ} {from number : ℕ} (begun rest chunk : List ℕ) → length chunk ≤ from → Writes number (lines_from begun rest) w
    → Writes number (lines_from begun (drop from chunk ++ rest)) w
used_up {w} {number = k} begun rest chunk l h =
    subst (λ (v : List ℕ). Writes k (lines_from begun (v ++ rest)) w) (sym (drop_of_length-le chunk l)) h

pub run_writes : {kept chunk w : List ℕ} {n number from : ℕ} {chunks : List (List ℕ)} (begun : List ℕ) → Begun begun kept n
    → Run kept n number chunk from chunks w → Writes number (lines_from begun (drop from chunk ++ joined chunks)) w
run_writes begun b (line_ends {chunk} {w} {number = k} {from} {chunks} {r} {a} t e its more) =
    let d = drop from chunk in
    let b' = t.more begun b in
    let behind = ap (λ (l : List ℕ). (begun ++ before_newline d) ∷ lines_from [] (l ++ joined chunks)) (behind_newline t e) in
    let cut = at_newline (joined chunks) begun d (sym t.ended ∙ e) ∙ sym behind in
    let written = append_assoc (digits_of k ++ (32 ∷ answer_written a)) (10 ∷ []) w in
    let rest = run_writes [] (none_begun b') more in
    subst (λ (ls : List (List ℕ)). Writes k ls (line_written k a ++ w)) (sym cut)
    (subst (λ (v : List ℕ). Writes k ((begun ++ before_newline d) ∷ lines_from [] (drop r.at chunk ++ joined chunks)) v) (sym written)
    (next_line (kept_answer b' its) rest))
run_writes begun b (line_goes_on {chunk} {w} {number = k} {from} {chunks} t e more) =
    let d = drop from chunk in
    let left = ap (λ (l : List ℕ). lines_from (begun ++ before_newline d) (l ++ joined chunks)) (nothing_left t e) in
    let cut = at_the_end (joined chunks) begun d (sym t.ended ∙ e) ∙ sym left in
    subst (λ (ls : List (List ℕ)). Writes k ls w) (sym cut) (run_writes (begun ++ before_newline d) (t.more begun b) more)
run_writes begun b (next_chunk {chunk} {next} {chunks} l more) = used_up begun (next ++ joined chunks) chunk l (run_writes begun b more)
run_writes begun b (last_line {chunk} l s its) = used_up begun [] chunk l (last_written b s its)
run_writes begun b (no_last_line {chunk} {number = k} l) =
    used_up begun [] chunk l (subst (λ (g : List ℕ). Writes k (lines_from g []) []) (sym (begun_none b)) no_more_lines)

-- From the start, with no byte kept and the first line to come, over all chunks to the end: the header and what is written then are the output of the input.
pub run_output : {kept w : List ℕ} {chunks : List (List ℕ)} → kept_limit ≤ length kept → Run kept 0 1 [] 0 chunks w → Output (joined chunks) (header ++ w)
run_output l h = output (run_writes [] (record { room = l; count = refl; same = refl }) h)
