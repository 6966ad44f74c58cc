-- What each symbol of Form means in 3.2: with the first symbols read before it, it makes the second of them (Backward and Images go by this). Both lists have the last symbol first.
use Rattle.std.specs.Prelude.{ℕ, List, [], ◌∷◌}
use Rattle.paper_tokens.specs.Tokens
use Tokens.{“action”, “data”, “decision”, “enquiry”, “plan”, “task”, “::”, “semicolon”, “comma”, ‘integer’}
use Rattle.paper_grammar.specs.Nonterminals
use Nonterminals.{⟨action-attribute-list⟩, ⟨action-task⟩, ⟨assertion⟩, ⟨candidate-attribute-list⟩, ⟨choice-mode-type⟩, ⟨component-attribute-list⟩}
use Nonterminals.{⟨data-attribute-list⟩, ⟨data-item⟩, ⟨data-name⟩, ⟨data-type-definition⟩, ⟨decision-attribute-list⟩, ⟨decision-task⟩}
use Nonterminals.{⟨directive-list⟩, ⟨enquiry-attribute-list⟩, ⟨enquiry-task⟩, ⟨expression⟩, ⟨expression-list⟩, ⟨generic-attribute-list⟩}
use Nonterminals.{⟨generic-task⟩, ⟨nonempty-expression-list⟩, ⟨nonempty-parameter-list⟩, ⟨number⟩, ⟨optional-argument-attribute-list⟩}
use Nonterminals.{⟨optional-argument-name⟩, ⟨optional-data-type-definition⟩, ⟨optional-parameter-attribute-list⟩, ⟨parameter⟩, ⟨plan-attribute-list⟩}
use Nonterminals.{⟨plan-task⟩, ⟨process⟩, ⟨range-list⟩, ⟨source-attribute-list⟩, ⟨support⟩, ⟨support-mode-type⟩, ⟨task-attribute-list⟩}
use Nonterminals.{⟨textual-constant⟩, ⟨time-unit⟩, ⟨top-level-component-list⟩, ⟨expression-no-and⟩, ⟨atom⟩}

unfoldable pub meanings : List (List ℕ × List ℕ)
meanings =
    ([], ⟨process⟩ ∷ []) ∷  -- ‹Process›
    ([], ⟨directive-list⟩ ∷ []) ∷  -- ‹Dirs›
    ([], ⟨top-level-component-list⟩ ∷ []) ∷  -- ‹Top›
    (“plan” ∷ [], ⟨plan-task⟩ ∷ []) ∷  -- ‹Plan›
    (“decision” ∷ [], ⟨decision-task⟩ ∷ []) ∷  -- ‹Decision›
    (“action” ∷ [], ⟨action-task⟩ ∷ []) ∷  -- ‹Action›
    (“enquiry” ∷ [], ⟨enquiry-task⟩ ∷ []) ∷  -- ‹Enquiry›
    (“task” ∷ [], ⟨generic-task⟩ ∷ []) ∷  -- ‹Generic›
    (“data” ∷ [], ⟨data-item⟩ ∷ []) ∷  -- ‹Data›
    ([], ⟨generic-attribute-list⟩ ∷ []) ∷  -- ‹Gen›
    ([], “semicolon” ∷ ⟨expression⟩ ∷ “::” ∷ []) ∷  -- ‹Is›
    ([], ⟨task-attribute-list⟩ ∷ []) ∷  -- ‹Task-attrs›
    ([], ⟨plan-attribute-list⟩ ∷ []) ∷  -- ‹Plan-attrs›
    ([], ⟨action-attribute-list⟩ ∷ []) ∷  -- ‹Action-attrs›
    ([], ⟨enquiry-attribute-list⟩ ∷ []) ∷  -- ‹Enquiry-attrs›
    ([], ⟨decision-attribute-list⟩ ∷ []) ∷  -- ‹Decision-attrs›
    ([], ⟨choice-mode-type⟩ ∷ []) ∷  -- ‹Choice›
    ([], ⟨support-mode-type⟩ ∷ []) ∷  -- ‹Mode›
    ([], ⟨component-attribute-list⟩ ∷ []) ∷  -- ‹Comp-attrs›
    ([], ‘integer’ ∷ “comma” ∷ ‘integer’ ∷ “comma” ∷ ‘integer’ ∷ “comma” ∷ []) ∷  -- ‹Three›
    ([], ⟨time-unit⟩ ∷ []) ∷  -- ‹Unit›
    ([], ⟨source-attribute-list⟩ ∷ []) ∷  -- ‹Source-attrs›
    ([], ⟨candidate-attribute-list⟩ ∷ []) ∷  -- ‹Cand-attrs›
    ([], ⟨support⟩ ∷ []) ∷  -- ‹Support›
    ([], ⟨number⟩ ∷ []) ∷  -- ‹Number›
    ([], ⟨optional-argument-attribute-list⟩ ∷ []) ∷  -- ‹Arg-attrs›
    ([], ⟨optional-argument-name⟩ ∷ []) ∷  -- ‹Arg-name›
    ([], ⟨parameter⟩ ∷ []) ∷  -- ‹Param›
    (⟨parameter⟩ ∷ [], ⟨nonempty-parameter-list⟩ ∷ []) ∷  -- ‹Params›
    ([], ⟨optional-parameter-attribute-list⟩ ∷ []) ∷  -- ‹Param-attrs›
    ([], ⟨data-type-definition⟩ ∷ []) ∷  -- ‹Type›
    ([], ⟨optional-data-type-definition⟩ ∷ []) ∷  -- ‹Opt-type›
    ([], ⟨data-attribute-list⟩ ∷ []) ∷  -- ‹Data-attrs›
    (⟨expression⟩ ∷ [], ⟨range-list⟩ ∷ []) ∷  -- ‹Range›
    ([], ⟨textual-constant⟩ ∷ []) ∷  -- ‹Text›
    ([], ⟨data-name⟩ ∷ []) ∷  -- ‹Data-name›
    (⟨atom⟩ ∷ [], ⟨data-name⟩ ∷ []) ∷  -- ‹Data-name-rest›
    ([], ⟨atom⟩ ∷ []) ∷  -- ‹Atom›
    ([], ⟨assertion⟩ ∷ []) ∷  -- ‹Assertion›
    (⟨assertion⟩ ∷ [], ⟨assertion⟩ ∷ []) ∷  -- ‹Assertion-tail›
    ([], ⟨expression⟩ ∷ []) ∷  -- ‹Expr›
    (⟨expression⟩ ∷ [], ⟨expression⟩ ∷ []) ∷  -- ‹Expr-tail›
    (⟨atom⟩ ∷ [], ⟨expression⟩ ∷ []) ∷  -- ‹Expr-atom›
    ([], ⟨expression-no-and⟩ ∷ []) ∷  -- ‹Xna›
    (⟨expression-no-and⟩ ∷ [], ⟨expression-no-and⟩ ∷ []) ∷  -- ‹Xna-tail›
    (⟨atom⟩ ∷ [], ⟨expression-no-and⟩ ∷ []) ∷  -- ‹Xna-atom›
    ([], ⟨expression-list⟩ ∷ []) ∷  -- ‹List›
    (⟨expression⟩ ∷ [], ⟨nonempty-expression-list⟩ ∷ []) ∷  -- ‹List-tail›
    []
