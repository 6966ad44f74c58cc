-- What the walk ends with is the reply that the definitions ask for: the machine accepts the sentences of 3.2 and stops at the first bad token.
use Prim.Native.Nat.{ℕ, ◌≤◌}
use mathlib.Core.Path.{◌≡◌, ap, subst, ◌∙◌}
use mathlib.Core.List.{List, [], ◌∷◌, map}
use native.Mathlib.Omega.{arith}
use lib.ListN.{length, drop, set, length-set, drop_of_length-le}
use lib.Seq.{drop-cons, get_or-set_same}
use Rattle.paper_guideline.specs.Limits.{token_limit}
use Rattle.paper_grammar.proofs.Laws.Ll.{Sym, N}
use Rattle.paper_grammar.proofs.Laws.Same.{accepts_sentence, refuses_at}
use Rattle.grammar.specs.declared.Start.{Start}
use Rattle.grammar.specs.declared.Answer.{Answer}
use Rattle.grammar.specs.declared.Answer.TheVariants.{Accepted, Refused, Unread}
use Rattle.grammar.specs.Tables.{sym_of}
use Rattle.grammar.specs.Machine.{Ends}
use Rattle.grammar.specs.Reply.{form_of, Verdict}
use Rattle.grammar.specs.ReplyLaws.{starts}
use Rattle.grammar.proofs.MachineLaws.{syms}

-- the stack with the start symbol on it
begun : (st : List ℕ) (c : ℕ) → length st ≡ 32768 → syms 32767 (set st 32767 c) ≡ sym_of c ∷ []
begun st c e =
    let n : length (set st 32767 c) ≡ length st = length-set st 32767 c in
    let l : length (set st 32767 c) ≤ 32768 = omega arith in
    ap (map sym_of) (drop-cons (set st 32767 c) 32767 0 (omega arith))
    ∙ ap (λ (x : ℕ). sym_of x ∷ map sym_of (drop 32768 (set st 32767 c))) (get_or-set_same st 32767 c 0 (omega arith))
    ∙ ap (λ (q : List ℕ). sym_of c ∷ map sym_of q) (drop_of_length-le (set st 32767 c) l)

verdict_of : (s : Start) (w : List ℕ) (r : Answer) → length w ≤ token_limit → Ends (N (form_of s) ∷ []) w r → Verdict s w r
verdict_of s w Accepted h e = (h, accepts_sentence (starts s) w e)
verdict_of s w (Refused i) h e = (h, refuses_at (starts s) w i e.0 e.1)
verdict_of s w Unread h e = absurd e

pub reply : (s : Start) (w st : List ℕ) (c : ℕ) (r : Answer) → length w ≤ token_limit → length st ≡ 32768 → sym_of c ≡ N (form_of s) → Ends (syms 32767 (set st 32767 c)) w r → Verdict s w r
reply s w st c r h n e d = verdict_of s w r h (subst (λ (q : List (Sym ℕ)). Ends q w r) (begun st c n ∙ ap (λ (x : Sym ℕ). x ∷ []) e) d)
