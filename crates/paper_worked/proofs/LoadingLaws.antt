-- Laws: a text that is computed to load loads, and so does the call of load with it.
use Rattle.std.specs.Prelude.{ℕ, ◌≡◌, refl, true, false, List}
use Rattle.std.proofs.Common.{subst}
use Rattle.std.proofs.Math.Option.{Option, none, some}
use Rattle.paper_expressions.proofs.Laws.Search.{of_no, no_clash}
use Rattle.paper_expressions.proofs.Laws.Tests.{contra}
use Rattle.paper_tokens.specs.Lexical.{Token, Tokens}
use Rattle.paper_guideline.specs.Structure.{TopLevel, Structure}
use Rattle.paper_guideline.specs.Refusals.{Answer, loads, refused, Answers}
use Rattle.paper_guideline.proofs.Laws.AnswerLaws.{answer_f, structured_answer}
use Rattle.paper_rows.specs.Load.{Initial}
use Rattle.paper_rows.specs.Bare.{bare_guideline}
use Rattle.paper_rows.proofs.Laws.RowLists.{look_f}
use Rattle.paper_rows.proofs.Laws.Lawful.{Lawful}
use Rattle.paper_rows.proofs.Laws.InitialLaws.{load_f, initial}
use Rattle.paper_calls.specs.Calls.{State, loaded, done, load, Calls, load_done}
use Rattle.paper_worked.specs.Lexer.{tokens_f}
use Rattle.paper_worked.proofs.LexerLaws.{tokens_are}
use Rattle.paper_worked.specs.Reader.{structure_f}
use Rattle.paper_worked.specs.Loading.{Loads, if_loads, from_structure, read_only, from_tokens, loaded_f}

module _ {text : List ℕ} {h : List TopLevel} where
  answered : {ts : List Token} {g : List TopLevel} (a : Answer) → Tokens text 0 ts → Structure ts g → answer_f false text ts g ≡ a → if_loads a g ≡ some h → Loads text h
  answered {ts} {g} loads t s e f = record {
    structure = g;
    read = record { tokens = ts; its = t; structure = s };
    answer = subst (Answers (false ≡ true) text) e (structured_answer (of_no (λ x. contra x)) t s);
    kept = let z : bare_guideline g ≡ h = cc in z;
  }
  answered (refused n p) t s e f = absurd (no_clash (cc))

  read : {ts : List Token} (o : Option ((g : List TopLevel) × Structure ts g)) → Tokens text 0 ts → from_structure text ts (read_only o) ≡ some h → Loads text h
  read none t f = absurd (no_clash (cc))
  read {ts} (some x) t f = answered (answer_f false text ts x.0) t x.1 refl f

  lexed : (o : Option (List Token)) → tokens_f text ≡ o → from_tokens text o ≡ some h → Loads text h
  lexed none e f = absurd (no_clash (cc))
  lexed (some ts) e f = read (structure_f ts) (tokens_are e) f

  -- what is computed, is so
  pub loads_if : loaded_f text ≡ some h → Loads text h
  loads_if f = lexed (tokens_f text) refl f

-- the call of load with such a text, in any state
pub load_of : {text : List ℕ} {h : List TopLevel} → Loads text h → Lawful h → (s : State)
    → Calls (load text false) s done (loaded (record { structure = h; table = look_f (load_f h); flag = false; time = 0 }))
load_of {text} {h} l k s =
    subst (λ (x : List TopLevel). Initial x (look_f (load_f h)) → Calls (load text false) s done (loaded (record { structure = x; table = look_f (load_f h); flag = false; time = 0 })))
    l.kept (λ i. load_done l.answer l.read i) (initial k)
