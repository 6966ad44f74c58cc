-- Rows: token lists, where the machine stops, and so what 3.2 and document 01 say of them.
use Rattle.std.specs.Prelude.{ℕ, refl, List, [], ◌∷◌, ◌++◌}
use Rattle.std.proofs.Common.{arith}
use Rattle.paper_tokens.specs.Tokens.{“plan”, “end”, “component”, “postcondition”, “autonomous”, “caption”, “goal”, “and”, “AND”, “::”, “semicolon”, “dot”, “open”, “close”, “:”, “=”}
use Rattle.paper_tokens.specs.Tokens.{‘other-atom’, ‘yes-or-no’, ‘integer’}
use Rattle.paper_grammar.specs.Nonterminals.{⟨process⟩, ⟨expression⟩}
use Rattle.paper_grammar.specs.Sentence.{Guideline, SentenceOf, FirstBad}
use Rattle.paper_grammar.proofs.Laws.Form.{rows, blanks}
use Rattle.paper_grammar.proofs.Laws.Same.{at_process, at_expression, accepts_sentence, refuses_at}

-- plan :: a ; .. end plan .
abbrev plan : List ℕ → List ℕ
plan l = “plan” ∷ “::” ∷ ‘other-atom’ ∷ “semicolon” ∷ (l ++ “end” ∷ “plan” ∷ “dot” ∷ [])

-- nothing in it
row_plan : Guideline (plan [])
unfolding rows blanks
row_plan = accepts_sentence at_process _ refl

-- postcondition :: d = 1 and e = 2 ;
row_two : Guideline (plan (“postcondition” ∷ “::” ∷ ‘other-atom’ ∷ “=” ∷ ‘integer’ ∷ “and” ∷ ‘other-atom’ ∷ “=” ∷ ‘integer’ ∷ “semicolon” ∷ []))
unfolding rows blanks
row_two = accepts_sentence at_process _ refl

-- postcondition :: d = 1 AND e ;
row_AND : Guideline (plan (“postcondition” ∷ “::” ∷ ‘other-atom’ ∷ “=” ∷ ‘integer’ ∷ “AND” ∷ ‘other-atom’ ∷ “semicolon” ∷ []))
unfolding rows blanks
row_AND = accepts_sentence at_process _ refl

-- postcondition :: d = (1 and e) ;
row_brackets : Guideline (plan (“postcondition” ∷ “::” ∷ ‘other-atom’ ∷ “=” ∷ “open” ∷ ‘integer’ ∷ “and” ∷ ‘other-atom’ ∷ “close” ∷ “semicolon” ∷ []))
unfolding rows blanks
row_brackets = accepts_sentence at_process _ refl

-- postcondition :: d = 1 and e ; stops at the semicolon
row_and : FirstBad ⟨process⟩ (plan (“postcondition” ∷ “::” ∷ ‘other-atom’ ∷ “=” ∷ ‘integer’ ∷ “and” ∷ ‘other-atom’ ∷ “semicolon” ∷ [])) 11
unfolding rows blanks
row_and = refuses_at at_process _ 11 (omega arith) refl

-- component :: no ; autonomous :: maybe ; stops at maybe
row_yes : FirstBad ⟨process⟩ (plan (“component” ∷ “::” ∷ ‘yes-or-no’ ∷ “semicolon” ∷ “autonomous” ∷ “::” ∷ ‘other-atom’ ∷ “semicolon” ∷ [])) 10
unfolding rows blanks
row_yes = refuses_at at_process _ 10 (omega arith) refl

-- goal :: g ; caption :: c ; stops at caption
row_late : FirstBad ⟨process⟩ (plan (“goal” ∷ “::” ∷ ‘other-atom’ ∷ “semicolon” ∷ “caption” ∷ “::” ∷ ‘other-atom’ ∷ “semicolon” ∷ [])) 8
unfolding rows blanks
row_late = refuses_at at_process _ 8 (omega arith) refl

-- no tokens: the end is the first bad place
row_none : FirstBad ⟨process⟩ [] 0
unfolding rows blanks
row_none = refuses_at at_process _ 0 (omega arith) refl

-- a ( 1 = 1 )
row_call : SentenceOf ⟨expression⟩ (‘other-atom’ ∷ “open” ∷ ‘integer’ ∷ “=” ∷ ‘integer’ ∷ “close” ∷ [])
unfolding rows blanks
row_call = accepts_sentence at_expression _ refl

-- 3 -2 stops at -2
row_minus : FirstBad ⟨expression⟩ (‘integer’ ∷ ‘integer’ ∷ []) 1
unfolding rows blanks
row_minus = refuses_at at_expression _ 1 (omega arith) refl

-- a : b ( 1 ) stops at the bracket
row_colon : FirstBad ⟨expression⟩ (‘other-atom’ ∷ “:” ∷ ‘other-atom’ ∷ “open” ∷ ‘integer’ ∷ “close” ∷ []) 3
unfolding rows blanks
row_colon = refuses_at at_expression _ 3 (omega arith) refl
