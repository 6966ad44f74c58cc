-- What the functions append is what a step writes: the bytes one behind the other, each line within its limit, and a step of `Run` for each way that `take` goes.
use Rattle.std.specs.Prelude.{ℕ, zero, suc, ◌+◌, ◌-◌, ◌/◌, ◌%◌, ◌≤◌, ◌<◌, ◌≡◌, refl, Bool, true, false, cond, List, [], ◌∷◌, ◌++◌, ltb, length, take, replicate}
use Rattle.std.proofs.Common.{arith, sym, ap, subst, ◌∙◌, append_assoc, length-append, take_at, lt-ltb}
use Rattle.std.proofs.lemmas.List.{length-replicate}
use Rattle.paper_guideline.specs.Line.{LineAnswer, digits_in, digits_of, answer_written}
use Rattle.tokens.specs.Reply.{filled}
use Rattle.digits.specs.Appends.{Appends}
use Rattle.digits.specs.AppendsLaws.{append_nothing, append_then, appends_as}
use Rattle.lines.specs.Kept.{Takes}
use Rattle.lines.specs.Run.{line_written, Run, line_ends, line_goes_on, last_line, no_last_line}
use Rattle.lines.specs.RunLaws.{moves_on}
use Rattle.lines.specs.declared.Taken.{Taken}
use Rattle.written.specs.Limit.{answer_limit}
use Rattle.line_answer.specs.Reply.{Reply}
use Rattle.sheet.specs.Steps.{line_limit, number_limit, following, Put, Room, LineWritten, Steps, Ends}
use Rattle.sheet.specs.declared.output.State.{State}

-- ---- what stands in the buffer

pub put : {out out' : List ℕ} {o r : ℕ} {w : List ℕ} → Appends out out' o r w → o + length w ≤ length out → Put out out' o r w
put h room = record { up-to = (h.wrote room).0; cells = (h.wrote room).1 }

put_nothing : (out : List ℕ) (o : ℕ) → o ≤ length out → Put out out o o []
put_nothing out o h = put (append_nothing out o) (omega arith)

-- ---- how long a line is

digits_short : (n m : ℕ) → length (digits_in n m) ≤ n
digits_short zero m = omega arith
digits_short (suc n) m =
    let h = digits_short n (m / 10) in
    let a = length-append (digits_in n (m / 10)) ((48 + m % 10) ∷ []) in
    let by : (t : Bool) → length (cond t ((48 + m) ∷ []) (digits_in n (m / 10) ++ ((48 + m % 10) ∷ []))) ≤ suc n =
    elim [ true ↦ omega arith | false ↦ omega arith ] in
    by (ltb m 10)

line_short : (number : ℕ) (a : LineAnswer) → length (answer_written a) ≤ answer_limit → length (line_written number a) ≤ line_limit
line_short number a h =
    let d = digits_short 20 number in
    let front = digits_of number in
    let one = length-append front (32 ∷ answer_written a) in
    let two = length-append (front ++ (32 ∷ answer_written a)) (10 ∷ []) in
    omega arith

-- ---- one line

-- the same line, said otherwise
pub reply_as : {line line' cells : List ℕ} {n r : ℕ} → line' ≡ line → Reply line n cells r → Reply line' n cells r
reply_as {cells} {n} {r} e h = subst (λ (w : List ℕ). Reply w n cells r) (sym e) h

answer_short : {n : ℕ} {cells : List ℕ} (w : List ℕ) → length cells ≡ n → cells ≡ filled n w → length w ≤ n
answer_short {n} w l e =
    let a = length-append w (replicate (n - length w) 0) in
    let b = length-replicate {A = ℕ} (n - length w) 0 in
    let c = ap (λ (x : List ℕ). length x) e in
    omega arith

pub line_is : {line text out one two three out' : List ℕ} {number n len o a b c r : ℕ} → Reply line n text len → n ≡ answer_limit → length text ≡ n
    → Appends out one o a (digits_of number) → Appends one two a b (32 ∷ []) → Appends two three b c (take len text) → Appends three out' c r (10 ∷ [])
    → Room out o → LineWritten line number out out' o r
line_is {text} {out} {out'} {number} {n} {len} {o} {r} reply e l first blank its newline room =
    let k = reply.answered (omega arith) in
    let w = answer_written k.answer in
    let same : take len text ≡ w = ap (λ (x : List ℕ). take len x) k.written ∙ take_at w (replicate (n - length w) 0) len (sym k.bytes) in
    let short = line_short number k.answer (let z = answer_short w l k.written in omega arith) in
    let all = append_then (append_then (append_then first blank) (appends_as (sym same) its)) newline in
    let as_written = ap (λ (x : List ℕ). x ++ (10 ∷ [])) (sym (append_assoc (digits_of number) (32 ∷ []) w)) in
    record {
      answer = k.answer;
      answers = k.answers;
      put = put (appends_as as_written all) (omega arith);
    }

-- ---- one step

module _ {chunk kept kept' : List ℕ} {s : State} {t : Taken} (took : Takes chunk s.at kept s.n kept' t) where
  pub goes_on : (out : List ℕ) → s.o ≤ length out → t.ended ≡ false → Steps chunk kept kept' out out s (record { at = t.at; n = t.n; number = s.number; o = s.o })
  goes_on out room e = record {
    writes = [];
    put = put_nothing out s.o room;
    run = λ few chunks more h. line_goes_on took e h;
    onward = moves_on took;
    taken = t;
    took = took;
    place = refl;
    count = rw e;
    number = rw e;
  }

  pub ends : {out out' : List ℕ} {number o : ℕ} → t.ended ≡ true → LineWritten (take t.n kept') s.number out out' s.o o
      → number ≡ following s.number → Steps chunk kept kept' out out' s (record { at = t.at; n = 0; number = number; o = o })
  ends e l next = record {
    writes = line_written s.number l.answer;
    put = l.put;
    run = λ few chunks more h. line_ends {number = s.number} took e l.answers (subst (λ (k : ℕ). Run kept' 0 k chunk t.at chunks more) (next ∙ rw (lt-ltb s.number number_limit few)) h);
    onward = moves_on took;
    taken = t;
    took = took;
    place = refl;
    count = rw e;
    number = rw e next;
  }

-- ---- the end

pub none_left : (kept out : List ℕ) (s : State) → s.o ≤ length out → s.n ≡ 0 → Ends kept out out s s.o
none_left kept out s room e = record {
  writes = [];
  put = put_nothing out s.o room;
  run = λ chunk from l. subst (λ (n : ℕ). Run kept n s.number chunk from [] []) (sym e) (no_last_line l);
}

pub one_left : {kept out out' : List ℕ} {s : State} {r : ℕ} → 0 < s.n → LineWritten (take s.n kept) s.number out out' s.o r → Ends kept out out' s r
one_left {s} some l = record {
  writes = line_written s.number l.answer;
  put = l.put;
  run = λ chunk from e. last_line e some l.answers;
}
