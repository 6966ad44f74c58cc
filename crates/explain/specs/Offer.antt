-- What could stand at a token of a guideline, and that a reader's answers tell it.
use Rattle.std.specs.Prelude.{ℕ, ◌+◌, ◌≤◌, ◌<◌, ◌≡◌, Bool, true, false, ◌⊎◌, List, [], ◌∷◌, ◌++◌, length, take, drop, get_or, set}
use Rattle.std.proofs.Common.{arith, sym, ap, subst, ◌∙◌, ⊎_elim, append-nil, append_assoc, take-append-drop, take-suc, take-suc-set, add-one}
use Rattle.std.proofs.Math.Seq.{take-length}
use Rattle.paper_expressions.proofs.Laws.Tests.{contra}
use Rattle.paper_tokens.specs.Tokens.{‘other-atom’, ‘yes-or-no’, ‘data-type’}
use Rattle.paper_grammar.proofs.Laws.Ll.{is_in}
use Rattle.paper_guideline.specs.LeftOut.{left_out_words}
use Rattle.paper_grammar.specs.Nonterminals.{⟨process⟩}
use Rattle.paper_grammar.specs.Sentence.{SentenceOf, Guideline, Begins}
use Rattle.grammar.specs.declared.Start.TheVariants.{Process}
use Rattle.grammar.specs.declared.Answer.TheVariants.{Accepted, Refused}
use Rattle.grammar.specs.Reply.{Verdict}

-- the answer r is yes exactly if P holds
abbrev pub Tells : Type 0 → Bool → Type 0
Tells P true = P
Tells P false = ¬ P

-- the terminal k can stand behind the tokens w: some guideline has them first, and then k
abbrev pub Behind : List ℕ → ℕ → Type 0
Behind w k = Begins ⟨process⟩ (w ++ (k ∷ []))

-- .. and not every name can
pub record Alone (w : List ℕ) (k : ℕ) : Type 0 where
  pub stands : Behind w k
  pub no_name : ¬ Behind w ‘other-atom’

-- k is worth offering behind w: this edition runs it, and a name of a certain spelling is not one of many
pub record Offered (w : List ℕ) (k : ℕ) : Type 0 where
  pub runs : is_in k left_out_words ≡ false
  pub stands : Behind w k
  pub single : (k ≡ ‘yes-or-no’) ⊎ (k ≡ ‘data-type’) → ¬ Behind w ‘other-atom’

-- of the first n tokens r begin before the place, and the next, if there is one, does not
pub record Before (places : List ℕ) (n place r : ℕ) : Type 0 where
  pub few : r ≤ n
  pub earlier : (i : ℕ) → i < r → get_or places i 0 < place
  pub not_later : r < n → r < length places → place ≤ get_or places r 0

-- ---- what is offered

pub not_alone : {w : List ℕ} {k : ℕ} → Tells (Behind w ‘other-atom’) true → Tells (Alone w k) false
not_alone p a = a.no_name p

pub alone : (w : List ℕ) (k : ℕ) (b r : Bool) → b ≡ false → Tells (Behind w ‘other-atom’) b → Tells (Behind w k) r → Tells (Alone w k) r
alone w k true r e n p = contra (sym e)
alone w k false true e n p = record { stands = p; no_name = n }
alone w k false false e n p = λ a. p a.stands

pub not_run : {w : List ℕ} {k : ℕ} → true ≡ is_in k left_out_words → Tells (Offered w k) false
not_run e o = contra (sym (e ∙ o.runs))

pub offered_alone : (w : List ℕ) (k : ℕ) (r : Bool) → false ≡ is_in k left_out_words → (k ≡ ‘yes-or-no’) ⊎ (k ≡ ‘data-type’) → Tells (Alone w k) r → Tells (Offered w k) r
offered_alone w k true e s a = record { runs = sym e; stands = a.stands; single = λ _. a.no_name }
offered_alone w k false e s a = λ o. a (record { stands = o.stands; no_name = o.single s })

pub offered : (w : List ℕ) (k : ℕ) (r : Bool) → false ≡ is_in k left_out_words → ¬ (k ≡ ‘yes-or-no’) → ¬ (k ≡ ‘data-type’) → Tells (Behind w k) r → Tells (Offered w k) r
offered w k true e y d b = record { runs = sym e; stands = b; single = λ s. absurd (⊎_elim y d s) }
offered w k false e y d b = λ o. b o.stands

-- ---- what a reader's answers say

-- a guideline begins with itself
pub whole_begins : (w : List ℕ) → Verdict Process w Accepted → Begins ⟨process⟩ w
unfolding Begins
whole_begins w v = ([], subst (SentenceOf ⟨process⟩) (sym (append-nil w)) v.1)

-- refused only for what is missing behind the last token
pub end_begins : (w : List ℕ) (i : ℕ) → Verdict Process w (Refused i) → i ≡ length w → Begins ⟨process⟩ w
end_begins w i v e = subst (Begins ⟨process⟩) (ap (λ (n : ℕ). take n w) e ∙ take-length w) v.1.so_far

-- what begins a guideline does so with each of its own beginnings
begins_less : (w : List ℕ) (n : ℕ) → Begins ⟨process⟩ w → Begins ⟨process⟩ (take n w)
unfolding Begins
begins_less w n (v, d) =
    (drop n w ++ v, subst (SentenceOf ⟨process⟩) (ap (λ (x : List ℕ). x ++ v) (sym (take-append-drop n w)) ∙ append_assoc (take n w) (drop n w) v) d)

-- refused at a token
pub token_begins_not : (w : List ℕ) (i : ℕ) → Verdict Process w (Refused i) → ¬ (i ≡ length w) → ¬ Begins ⟨process⟩ w
token_begins_not w i v n b =
    let h = v.1.within in
    let l : i < length w = omega (arith, n) in
    v.1.no_further l (begins_less w (i + 1) b)

pub not_ended : (w : List ℕ) (i : ℕ) → Verdict Process w (Refused i) → ¬ Guideline w
not_ended w i v = v.1.no_sentence

-- ---- one cell more

pub copied_more : (to kinds : List ℕ) (i : ℕ) → i < length to → i < length kinds → take i to ≡ take i kinds
    → take (i + 1) (set to i (get_or kinds i 0)) ≡ take (i + 1) kinds
copied_more to kinds i h k e =
    ap (λ (n : ℕ). take n (set to i (get_or kinds i 0))) (add-one i) ∙ take-suc-set to i (get_or kinds i 0) h
    ∙ ap (λ (l : List ℕ). l ++ (get_or kinds i 0 ∷ [])) e ∙ sym (take-suc kinds i 0 k) ∙ ap (λ (n : ℕ). take n kinds) (sym (add-one i))

-- the first i cells and k
pub put_last : (to kinds : List ℕ) (i k : ℕ) → i < length to → take i to ≡ take i kinds → take (i + 1) (set to i k) ≡ take i kinds ++ (k ∷ [])
put_last to kinds i k h e =
    ap (λ (n : ℕ). take n (set to i k)) (add-one i) ∙ take-suc-set to i k h ∙ ap (λ (l : List ℕ). l ++ (k ∷ [])) e
