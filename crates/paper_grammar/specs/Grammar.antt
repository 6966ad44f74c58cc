-- The productions of 3.2, one a line in the order in which they are printed; then the two lists that document 01 and 3.3 add. Definitions only.
-- “..” is a reserved string (semicolon, dot, comma, open and close for ; . , ( and )), ‘..’ a kind of token, ⟨..⟩ a nonterminal; a hyphen stands for an underscore (or a blank, where the print has one inside a name). A slip of the print is mended where a comment says so.
use Rattle.std.specs.Prelude.{List, [], ◌∷◌, ◌++◌}
use Rattle.paper_grammar.specs.Cfg.{Prod, ◌::=◌}
use Rattle.paper_tokens.specs.Tokens
use Tokens.{“abort”, “action”, “against”, “and”, “AND”, “argument”, “argument-name”, “attributes”, “autonomous”, “candidate”, “caption”}
use Tokens.{“choice-mode”, “completed”, “component”, “confirming”, “context”, “cycle-repeat”, “cycle-until”, “data”, “days”, “decision”}
use Tokens.{“default-value”, “derivation”, “description”, “directives”, “end”, “enquiry”, “excluding”, “false-value”, “for”, “goal”, “hours”}
use Tokens.{“include”, “includes”, “ltwh”, “mandatory”, “mandatory-validation”, “minutes”, “multiple”, “netsupport”, “Netsupport”, “number-of-cycles”}
use Tokens.{“numeric”, “oneof”, “optional”, “or”, “OR”, “param-value”, “parameters”, “plan”, “postcondition”, “precondition”, “priority”, “procedure”}
use Tokens.{“range”, “recommendation”, “result-of”, “schedule-constraint”, “seconds”, “single”, “source”, “support-mode”, “symbolic”, “task”}
use Tokens.{“terminal”, “terminate”, “trigger”, “true-value”, “type”, “unit”, “wait-condition”, “weeks”, “::”, “semicolon”, “dot”, “comma”, “open”}
use Tokens.{“close”, “[”, “]”, “:”, “=”, “#”, “++”, “<”, “<=”, “=<”, “>”, “>=”, “=>”, “!=”, “+”, “-”, “*”, “/”, ‘other-atom’, ‘yes-or-no’}
use Tokens.{‘data-type’, ‘integer’, ‘float’, ‘double-quoted-string’}
use Rattle.paper_grammar.specs.Nonterminals
use Nonterminals.{⟨abort-condition⟩, ⟨action-attribute⟩, ⟨action-attribute-list⟩, ⟨action-task⟩, ⟨argument⟩, ⟨assertion⟩, ⟨assignment⟩, ⟨autonomous⟩}
use Nonterminals.{⟨candidate⟩, ⟨candidate-attribute⟩, ⟨candidate-attribute-list⟩, ⟨candidate-name⟩, ⟨caption⟩, ⟨choice-mode⟩, ⟨choice-mode-type⟩}
use Nonterminals.{⟨complex-atom⟩, ⟨component⟩, ⟨component-attribute⟩, ⟨component-attribute-list⟩, ⟨constant⟩, ⟨context⟩, ⟨cycle-repeat⟩}
use Nonterminals.{⟨cycle-until⟩, ⟨data-attribute⟩, ⟨data-attribute-list⟩, ⟨data-item⟩, ⟨data-name⟩, ⟨data-type⟩, ⟨data-type-definition⟩}
use Nonterminals.{⟨decision-attribute⟩, ⟨decision-attribute-list⟩, ⟨decision-task⟩, ⟨default-value⟩, ⟨derivation⟩, ⟨description⟩, ⟨directive-list⟩}
use Nonterminals.{⟨empty⟩, ⟨enquiry-attribute⟩, ⟨enquiry-attribute-list⟩, ⟨enquiry-task⟩, ⟨expression⟩, ⟨expression-list⟩, ⟨false-value⟩}
use Nonterminals.{⟨functor-name⟩, ⟨generic-attribute⟩, ⟨generic-attribute-list⟩, ⟨generic-task⟩, ⟨goal⟩, ⟨ltwh⟩, ⟨mandatory⟩, ⟨mandatory-validation⟩}
use Nonterminals.{⟨nonempty-expression-list⟩, ⟨nonempty-parameter-list⟩, ⟨number⟩, ⟨number-of-cycles⟩, ⟨optional⟩, ⟨optional-argument-attribute-list⟩}
use Nonterminals.{⟨optional-argument-name⟩, ⟨optional-data-type-definition⟩, ⟨optional-directives⟩, ⟨optional-parameter-attribute-list⟩}
use Nonterminals.{⟨param-value⟩, ⟨parameter⟩, ⟨parameter-declarations⟩, ⟨plan-attribute⟩, ⟨plan-attribute-list⟩, ⟨plan-task⟩, ⟨postcondition⟩}
use Nonterminals.{⟨precondition⟩, ⟨priority⟩, ⟨procedure⟩, ⟨process⟩, ⟨range⟩, ⟨range-list⟩, ⟨recommendation⟩, ⟨schedule-constraint⟩, ⟨source⟩}
use Nonterminals.{⟨source-attribute-list⟩, ⟨source-attribute⟩, ⟨support⟩, ⟨support-mode⟩, ⟨support-mode-type⟩, ⟨task⟩, ⟨task-attribute⟩}
use Nonterminals.{⟨task-attribute-list⟩, ⟨terminal-att⟩, ⟨terminate-condition⟩, ⟨textual-constant⟩, ⟨time-unit⟩, ⟨top-level-component⟩}
use Nonterminals.{⟨top-level-component-list⟩, ⟨trigger⟩, ⟨true-value⟩, ⟨unit⟩, ⟨wait-condition⟩, ⟨yes-or-no⟩, ⟨warning-condition⟩}
use Nonterminals.{⟨expression-no-and⟩, ⟨atom⟩}

unfoldable pub printed : List Prod
printed =
    (⟨abort-condition⟩ ::= “abort” ∷ “::” ∷ ⟨expression⟩ ∷ “semicolon” ∷ []) ∷
    (⟨action-attribute⟩ ::= ⟨task-attribute⟩ ∷ []) ∷
    (⟨action-attribute⟩ ::= ⟨procedure⟩ ∷ []) ∷
    (⟨action-attribute-list⟩ ::= ⟨action-attribute⟩ ∷ ⟨action-attribute-list⟩ ∷ []) ∷
    (⟨action-attribute-list⟩ ::= ⟨empty⟩ ∷ []) ∷
    (⟨action-task⟩ ::= “action” ∷ “::” ∷ ⟨atom⟩ ∷ “semicolon” ∷ ⟨generic-attribute-list⟩ ∷ ⟨action-attribute-list⟩ ∷ “end” ∷ “action” ∷ “dot” ∷ []) ∷
    (⟨argument⟩ ::= “argument” ∷ “::” ∷ ⟨support⟩ ∷ “comma” ∷ ⟨expression⟩ ∷ ⟨optional-argument-attribute-list⟩ ∷ “semicolon” ∷ []) ∷
    -- changed by document 01: an `and` outside the brackets of the assigned expression ends it. Printed: <assertion> ::= <assignment> (which <param_value> keeps)
    (⟨assertion⟩ ::= ⟨atom⟩ ∷ “=” ∷ ⟨expression-no-and⟩ ∷ []) ∷
    (⟨assertion⟩ ::= ⟨assertion⟩ ∷ “and” ∷ ⟨assertion⟩ ∷ []) ∷
    (⟨assertion⟩ ::= “open” ∷ ⟨assertion⟩ ∷ “close” ∷ []) ∷  -- printed with assertion unbracketed
    (⟨assignment⟩ ::= ⟨atom⟩ ∷ “=” ∷ ⟨expression⟩ ∷ []) ∷
    (⟨autonomous⟩ ::= “autonomous” ∷ “::” ∷ ⟨yes-or-no⟩ ∷ “semicolon” ∷ []) ∷
    (⟨candidate⟩ ::= “candidate” ∷ “::” ∷ ⟨candidate-name⟩ ∷ “semicolon” ∷ ⟨generic-attribute-list⟩ ∷ ⟨candidate-attribute-list⟩ ∷ []) ∷
    (⟨candidate-attribute⟩ ::= ⟨argument⟩ ∷ []) ∷
    (⟨candidate-attribute⟩ ::= ⟨recommendation⟩ ∷ []) ∷
    (⟨candidate-attribute⟩ ::= ⟨priority⟩ ∷ []) ∷
    (⟨candidate-attribute-list⟩ ::= ⟨candidate-attribute⟩ ∷ ⟨candidate-attribute-list⟩ ∷ []) ∷
    (⟨candidate-attribute-list⟩ ::= ⟨empty⟩ ∷ []) ∷
    (⟨candidate-name⟩ ::= ⟨atom⟩ ∷ []) ∷
    (⟨caption⟩ ::= “caption” ∷ “::” ∷ ⟨expression⟩ ∷ “semicolon” ∷ []) ∷
    (⟨choice-mode⟩ ::= “choice-mode” ∷ “::” ∷ ⟨choice-mode-type⟩ ∷ “semicolon” ∷ []) ∷
    (⟨choice-mode-type⟩ ::= “single” ∷ []) ∷
    (⟨choice-mode-type⟩ ::= “multiple” ∷ []) ∷
    (⟨complex-atom⟩ ::= ⟨atom⟩ ∷ “:” ∷ ⟨atom⟩ ∷ []) ∷
    (⟨component⟩ ::= “component” ∷ “::” ∷ ⟨atom⟩ ∷ “semicolon” ∷ ⟨component-attribute-list⟩ ∷ []) ∷
    (⟨component-attribute⟩ ::= ⟨autonomous⟩ ∷ []) ∷
    (⟨component-attribute⟩ ::= ⟨optional⟩ ∷ []) ∷
    (⟨component-attribute⟩ ::= ⟨terminal-att⟩ ∷ []) ∷
    (⟨component-attribute⟩ ::= ⟨param-value⟩ ∷ []) ∷
    (⟨component-attribute⟩ ::= ⟨schedule-constraint⟩ ∷ []) ∷
    (⟨component-attribute⟩ ::= ⟨ltwh⟩ ∷ []) ∷
    (⟨component-attribute⟩ ::= ⟨number-of-cycles⟩ ∷ []) ∷
    (⟨component-attribute⟩ ::= ⟨cycle-until⟩ ∷ []) ∷  -- printed <cyck until>
    (⟨component-attribute⟩ ::= ⟨cycle-repeat⟩ ∷ []) ∷
    (⟨component-attribute-list⟩ ::= ⟨component-attribute⟩ ∷ ⟨component-attribute-list⟩ ∷ []) ∷
    (⟨component-attribute-list⟩ ::= ⟨empty⟩ ∷ []) ∷
    (⟨constant⟩ ::= ⟨number⟩ ∷ []) ∷
    (⟨constant⟩ ::= ⟨textual-constant⟩ ∷ []) ∷
    (⟨context⟩ ::= “context” ∷ “::” ∷ ⟨atom⟩ ∷ “semicolon” ∷ []) ∷
    (⟨cycle-repeat⟩ ::= “cycle-repeat” ∷ “::” ∷ ⟨expression⟩ ∷ ⟨time-unit⟩ ∷ “semicolon” ∷ []) ∷
    (⟨cycle-until⟩ ::= “cycle-until” ∷ “::” ∷ ⟨expression⟩ ∷ “semicolon” ∷ []) ∷
    (⟨data-attribute⟩ ::= ⟨range⟩ ∷ []) ∷
    (⟨data-attribute⟩ ::= ⟨default-value⟩ ∷ []) ∷
    (⟨data-attribute⟩ ::= ⟨true-value⟩ ∷ []) ∷
    (⟨data-attribute⟩ ::= ⟨false-value⟩ ∷ []) ∷
    (⟨data-attribute⟩ ::= ⟨mandatory-validation⟩ ∷ []) ∷
    (⟨data-attribute⟩ ::= ⟨derivation⟩ ∷ []) ∷
    (⟨data-attribute⟩ ::= ⟨warning-condition⟩ ∷ []) ∷  -- nothing printed says what a <warning condition> is, so it derives nothing
    (⟨data-attribute⟩ ::= ⟨unit⟩ ∷ []) ∷
    (⟨data-attribute-list⟩ ::= ⟨data-attribute⟩ ∷ ⟨data-attribute-list⟩ ∷ []) ∷
    (⟨data-attribute-list⟩ ::= ⟨empty⟩ ∷ []) ∷
    (⟨data-item⟩ ::= “data” ∷ “::” ∷ ⟨data-name⟩ ∷ “semicolon” ∷ ⟨data-type-definition⟩ ∷ ⟨generic-attribute-list⟩ ∷ ⟨data-attribute-list⟩ ∷ “end” ∷ “data” ∷ “dot” ∷ []) ∷
    (⟨data-name⟩ ::= ⟨atom⟩ ∷ []) ∷
    (⟨data-name⟩ ::= ⟨complex-atom⟩ ∷ []) ∷
    -- 3.3: printed <atom>, which must be one of the ten of `data-types` in Words (setof_integer and setof_real are printed with a blank here)
    (⟨data-type⟩ ::= ‘data-type’ ∷ []) ∷
    (⟨data-type-definition⟩ ::= “type” ∷ “::” ∷ ⟨data-type⟩ ∷ “semicolon” ∷ []) ∷
    (⟨decision-attribute⟩ ::= ⟨task-attribute⟩ ∷ []) ∷
    (⟨decision-attribute⟩ ::= ⟨candidate⟩ ∷ []) ∷
    (⟨decision-attribute⟩ ::= ⟨source⟩ ∷ []) ∷
    (⟨decision-attribute⟩ ::= ⟨choice-mode⟩ ∷ []) ∷
    (⟨decision-attribute⟩ ::= ⟨support-mode⟩ ∷ []) ∷
    (⟨decision-attribute-list⟩ ::= ⟨decision-attribute⟩ ∷ ⟨decision-attribute-list⟩ ∷ []) ∷
    (⟨decision-attribute-list⟩ ::= ⟨empty⟩ ∷ []) ∷
    (⟨decision-task⟩ ::= “decision” ∷ “::” ∷ ⟨atom⟩ ∷ “semicolon” ∷ ⟨generic-attribute-list⟩ ∷ ⟨decision-attribute-list⟩ ∷ “end” ∷ “decision” ∷ “dot” ∷ []) ∷
    (⟨default-value⟩ ::= “default-value” ∷ “::” ∷ ⟨expression⟩ ∷ “semicolon” ∷ []) ∷
    (⟨derivation⟩ ::= “derivation” ∷ “::” ∷ ⟨expression⟩ ∷ “semicolon” ∷ []) ∷
    (⟨description⟩ ::= “description” ∷ “::” ∷ ⟨expression⟩ ∷ “semicolon” ∷ []) ∷
    (⟨directive-list⟩ ::= ⟨atom⟩ ∷ “semicolon” ∷ ⟨directive-list⟩ ∷ []) ∷
    (⟨directive-list⟩ ::= ⟨empty⟩ ∷ []) ∷
    (⟨empty⟩ ::= []) ∷
    (⟨enquiry-attribute⟩ ::= ⟨task-attribute⟩ ∷ []) ∷
    (⟨enquiry-attribute⟩ ::= ⟨source⟩ ∷ []) ∷
    (⟨enquiry-attribute-list⟩ ::= ⟨enquiry-attribute⟩ ∷ ⟨enquiry-attribute-list⟩ ∷ []) ∷  -- printed <enguiry ..>
    (⟨enquiry-attribute-list⟩ ::= ⟨empty⟩ ∷ []) ∷
    (⟨enquiry-task⟩ ::= “enquiry” ∷ “::” ∷ ⟨atom⟩ ∷ “semicolon” ∷ ⟨generic-attribute-list⟩ ∷ ⟨enquiry-attribute-list⟩ ∷ “end” ∷ “enquiry” ∷ “dot” ∷ []) ∷
    (⟨expression⟩ ::= ⟨atom⟩ ∷ []) ∷
    (⟨expression⟩ ::= ⟨complex-atom⟩ ∷ []) ∷
    (⟨expression⟩ ::= ‘integer’ ∷ []) ∷
    (⟨expression⟩ ::= ‘float’ ∷ []) ∷
    (⟨expression⟩ ::= ‘double-quoted-string’ ∷ []) ∷
    (⟨expression⟩ ::= “open” ∷ ⟨expression⟩ ∷ “close” ∷ []) ∷
    (⟨expression⟩ ::= “result-of” ∷ “open” ∷ ⟨atom⟩ ∷ “close” ∷ []) ∷
    (⟨expression⟩ ::= “Netsupport” ∷ “open” ∷ ⟨atom⟩ ∷ “comma” ∷ ⟨atom⟩ ∷ “close” ∷ []) ∷
    (⟨expression⟩ ::= “netsupport” ∷ “open” ∷ ⟨atom⟩ ∷ “comma” ∷ ⟨atom⟩ ∷ “close” ∷ []) ∷
    (⟨expression⟩ ::= ⟨expression⟩ ∷ “or” ∷ ⟨expression⟩ ∷ []) ∷
    (⟨expression⟩ ::= ⟨expression⟩ ∷ “OR” ∷ ⟨expression⟩ ∷ []) ∷
    (⟨expression⟩ ::= ⟨expression⟩ ∷ “and” ∷ ⟨expression⟩ ∷ []) ∷
    (⟨expression⟩ ::= ⟨expression⟩ ∷ “AND” ∷ ⟨expression⟩ ∷ []) ∷
    (⟨expression⟩ ::= ⟨expression⟩ ∷ “#” ∷ ⟨expression⟩ ∷ []) ∷
    (⟨expression⟩ ::= ⟨expression⟩ ∷ “++” ∷ ⟨expression⟩ ∷ []) ∷
    (⟨expression⟩ ::= ⟨expression⟩ ∷ “<” ∷ ⟨expression⟩ ∷ []) ∷
    (⟨expression⟩ ::= ⟨expression⟩ ∷ “<=” ∷ ⟨expression⟩ ∷ []) ∷
    (⟨expression⟩ ::= ⟨expression⟩ ∷ “=<” ∷ ⟨expression⟩ ∷ []) ∷
    (⟨expression⟩ ::= ⟨expression⟩ ∷ “>” ∷ ⟨expression⟩ ∷ []) ∷
    (⟨expression⟩ ::= ⟨expression⟩ ∷ “>=” ∷ ⟨expression⟩ ∷ []) ∷
    (⟨expression⟩ ::= ⟨expression⟩ ∷ “=>” ∷ ⟨expression⟩ ∷ []) ∷
    (⟨expression⟩ ::= ⟨expression⟩ ∷ “=” ∷ ⟨expression⟩ ∷ []) ∷
    (⟨expression⟩ ::= ⟨expression⟩ ∷ “!=” ∷ ⟨expression⟩ ∷ []) ∷
    (⟨expression⟩ ::= ⟨expression⟩ ∷ “+” ∷ ⟨expression⟩ ∷ []) ∷
    (⟨expression⟩ ::= ⟨expression⟩ ∷ “-” ∷ ⟨expression⟩ ∷ []) ∷
    (⟨expression⟩ ::= ⟨expression⟩ ∷ “*” ∷ ⟨expression⟩ ∷ []) ∷
    (⟨expression⟩ ::= ⟨expression⟩ ∷ “/” ∷ ⟨expression⟩ ∷ []) ∷
    (⟨expression⟩ ::= ⟨expression⟩ ∷ “include” ∷ ⟨expression⟩ ∷ []) ∷
    (⟨expression⟩ ::= ⟨expression⟩ ∷ “includes” ∷ ⟨expression⟩ ∷ []) ∷
    (⟨expression⟩ ::= ⟨expression⟩ ∷ “oneof” ∷ ⟨expression⟩ ∷ []) ∷
    (⟨expression⟩ ::= “-” ∷ ⟨expression⟩ ∷ []) ∷
    (⟨expression⟩ ::= ⟨functor-name⟩ ∷ “open” ∷ ⟨expression-list⟩ ∷ “close” ∷ []) ∷
    (⟨expression⟩ ::= “[” ∷ ⟨expression-list⟩ ∷ “]” ∷ []) ∷  -- printed with expression_list unbracketed
    (⟨expression-list⟩ ::= ⟨empty⟩ ∷ []) ∷
    (⟨expression-list⟩ ::= ⟨nonempty-expression-list⟩ ∷ []) ∷
    (⟨false-value⟩ ::= “false-value” ∷ “::” ∷ ⟨textual-constant⟩ ∷ “semicolon” ∷ []) ∷
    (⟨functor-name⟩ ::= ⟨atom⟩ ∷ []) ∷
    (⟨generic-attribute⟩ ::= ⟨caption⟩ ∷ []) ∷
    (⟨generic-attribute⟩ ::= ⟨description⟩ ∷ []) ∷
    (⟨generic-attribute-list⟩ ::= ⟨generic-attribute⟩ ∷ ⟨generic-attribute-list⟩ ∷ []) ∷
    (⟨generic-attribute-list⟩ ::= ⟨empty⟩ ∷ []) ∷
    (⟨generic-task⟩ ::= “task” ∷ “::” ∷ ⟨atom⟩ ∷ “semicolon” ∷ ⟨generic-attribute-list⟩ ∷ ⟨task-attribute-list⟩ ∷ “end” ∷ “task” ∷ “dot” ∷ []) ∷
    (⟨goal⟩ ::= “goal” ∷ “::” ∷ ⟨expression⟩ ∷ “semicolon” ∷ []) ∷
    (⟨ltwh⟩ ::= “ltwh” ∷ “::” ∷ ‘integer’ ∷ “comma” ∷ ‘integer’ ∷ “comma” ∷ ‘integer’ ∷ “comma” ∷ ‘integer’ ∷ “semicolon” ∷ []) ∷
    (⟨mandatory⟩ ::= “mandatory” ∷ “::” ∷ ⟨yes-or-no⟩ ∷ “semicolon” ∷ []) ∷
    (⟨mandatory-validation⟩ ::= “mandatory-validation” ∷ “::” ∷ ⟨expression⟩ ∷ “semicolon” ∷ []) ∷
    (⟨nonempty-expression-list⟩ ::= ⟨expression⟩ ∷ []) ∷
    (⟨nonempty-expression-list⟩ ::= ⟨expression⟩ ∷ “comma” ∷ ⟨nonempty-expression-list⟩ ∷ []) ∷
    (⟨nonempty-parameter-list⟩ ::= ⟨parameter⟩ ∷ []) ∷
    (⟨nonempty-parameter-list⟩ ::= ⟨parameter⟩ ∷ “comma” ∷ ⟨nonempty-parameter-list⟩ ∷ []) ∷
    (⟨number⟩ ::= ‘integer’ ∷ []) ∷
    (⟨number⟩ ::= ‘float’ ∷ []) ∷
    (⟨number⟩ ::= “-” ∷ ⟨number⟩ ∷ []) ∷  -- printed "- "
    (⟨number-of-cycles⟩ ::= “number-of-cycles” ∷ “::” ∷ ⟨expression⟩ ∷ “semicolon” ∷ []) ∷
    (⟨optional⟩ ::= “optional” ∷ “::” ∷ ⟨yes-or-no⟩ ∷ “semicolon” ∷ []) ∷
    (⟨optional-argument-attribute-list⟩ ::= ⟨empty⟩ ∷ []) ∷
    (⟨optional-argument-attribute-list⟩ ::= “attributes” ∷ ⟨optional-argument-name⟩ ∷ ⟨generic-attribute-list⟩ ∷ “end” ∷ “attributes” ∷ []) ∷
    (⟨optional-argument-name⟩ ::= “argument-name” ∷ “::” ∷ ⟨atom⟩ ∷ “semicolon” ∷ []) ∷
    (⟨optional-argument-name⟩ ::= ⟨empty⟩ ∷ []) ∷
    (⟨optional-data-type-definition⟩ ::= ⟨data-type-definition⟩ ∷ []) ∷
    (⟨optional-data-type-definition⟩ ::= ⟨empty⟩ ∷ []) ∷
    (⟨optional-directives⟩ ::= “directives” ∷ “::” ∷ ⟨directive-list⟩ ∷ “end” ∷ “directives” ∷ “dot” ∷ []) ∷
    (⟨optional-directives⟩ ::= ⟨empty⟩ ∷ []) ∷  -- printed empty, unbracketed
    (⟨optional-parameter-attribute-list⟩ ::= ⟨empty⟩ ∷ []) ∷
    (⟨optional-parameter-attribute-list⟩ ::= “attributes” ∷ ⟨optional-data-type-definition⟩ ∷ ⟨generic-attribute-list⟩ ∷ “end” ∷ “attributes” ∷ []) ∷
    (⟨param-value⟩ ::= “param-value” ∷ “::” ∷ ⟨assignment⟩ ∷ “semicolon” ∷ []) ∷
    (⟨parameter⟩ ::= ⟨atom⟩ ∷ ⟨optional-parameter-attribute-list⟩ ∷ []) ∷
    (⟨parameter-declarations⟩ ::= “parameters” ∷ “::” ∷ ⟨nonempty-parameter-list⟩ ∷ “semicolon” ∷ []) ∷
    (⟨plan-attribute⟩ ::= ⟨task-attribute⟩ ∷ []) ∷
    (⟨plan-attribute⟩ ::= ⟨component⟩ ∷ []) ∷
    (⟨plan-attribute⟩ ::= ⟨abort-condition⟩ ∷ []) ∷
    (⟨plan-attribute⟩ ::= ⟨terminate-condition⟩ ∷ []) ∷
    (⟨plan-attribute-list⟩ ::= ⟨plan-attribute⟩ ∷ ⟨plan-attribute-list⟩ ∷ []) ∷
    (⟨plan-attribute-list⟩ ::= ⟨empty⟩ ∷ []) ∷
    -- the two lists are printed in one pair of angle brackets
    (⟨plan-task⟩ ::= “plan” ∷ “::” ∷ ⟨atom⟩ ∷ “semicolon” ∷ ⟨generic-attribute-list⟩ ∷ ⟨plan-attribute-list⟩ ∷ “end” ∷ “plan” ∷ “dot” ∷ []) ∷
    (⟨postcondition⟩ ::= “postcondition” ∷ “::” ∷ ⟨assertion⟩ ∷ “semicolon” ∷ []) ∷
    (⟨precondition⟩ ::= “precondition” ∷ “::” ∷ ⟨expression⟩ ∷ “semicolon” ∷ []) ∷
    (⟨priority⟩ ::= “priority” ∷ “::” ∷ ‘integer’ ∷ “semicolon” ∷ []) ∷  -- printed <pri>cpriority>
    (⟨procedure⟩ ::= “procedure” ∷ “::” ∷ ⟨expression⟩ ∷ “semicolon” ∷ []) ∷
    -- the root symbol; printed with its right side unbracketed
    (⟨process⟩ ::= ⟨optional-directives⟩ ∷ ⟨plan-task⟩ ∷ ⟨top-level-component-list⟩ ∷ []) ∷
    (⟨range⟩ ::= “range” ∷ “::” ∷ ⟨range-list⟩ ∷ “semicolon” ∷ []) ∷
    (⟨range-list⟩ ::= ⟨expression⟩ ∷ []) ∷
    (⟨range-list⟩ ::= ⟨expression⟩ ∷ “comma” ∷ ⟨range-list⟩ ∷ []) ∷  -- printed with range_list unbracketed
    (⟨recommendation⟩ ::= “recommendation” ∷ “::” ∷ ⟨expression⟩ ∷ “semicolon” ∷ []) ∷
    (⟨schedule-constraint⟩ ::= “schedule-constraint” ∷ “::” ∷ “completed” ∷ “open” ∷ ⟨atom⟩ ∷ “close” ∷ “semicolon” ∷ []) ∷
    -- printed with data_name and source_attribute_list unbracketed
    (⟨source⟩ ::= “source” ∷ “::” ∷ ⟨data-name⟩ ∷ “semicolon” ∷ ⟨source-attribute-list⟩ ∷ []) ∷
    (⟨source-attribute-list⟩ ::= ⟨source-attribute⟩ ∷ ⟨source-attribute-list⟩ ∷ []) ∷
    (⟨source-attribute-list⟩ ::= ⟨empty⟩ ∷ []) ∷
    (⟨source-attribute⟩ ::= ⟨generic-attribute⟩ ∷ []) ∷
    (⟨source-attribute⟩ ::= ⟨mandatory⟩ ∷ []) ∷
    (⟨support⟩ ::= “for” ∷ []) ∷
    (⟨support⟩ ::= “against” ∷ []) ∷
    (⟨support⟩ ::= “confirming” ∷ []) ∷
    (⟨support⟩ ::= “excluding” ∷ []) ∷
    (⟨support⟩ ::= ⟨number⟩ ∷ []) ∷
    (⟨support-mode⟩ ::= “support-mode” ∷ “::” ∷ ⟨support-mode-type⟩ ∷ “semicolon” ∷ []) ∷
    (⟨support-mode-type⟩ ::= “symbolic” ∷ []) ∷
    (⟨support-mode-type⟩ ::= “numeric” ∷ []) ∷
    (⟨task⟩ ::= ⟨plan-task⟩ ∷ []) ∷
    (⟨task⟩ ::= ⟨decision-task⟩ ∷ []) ∷
    (⟨task⟩ ::= ⟨action-task⟩ ∷ []) ∷
    (⟨task⟩ ::= ⟨enquiry-task⟩ ∷ []) ∷
    (⟨task⟩ ::= ⟨generic-task⟩ ∷ []) ∷
    (⟨task-attribute⟩ ::= ⟨precondition⟩ ∷ []) ∷
    (⟨task-attribute⟩ ::= ⟨wait-condition⟩ ∷ []) ∷
    (⟨task-attribute⟩ ::= ⟨postcondition⟩ ∷ []) ∷
    (⟨task-attribute⟩ ::= ⟨goal⟩ ∷ []) ∷
    (⟨task-attribute⟩ ::= ⟨trigger⟩ ∷ []) ∷
    (⟨action-attribute⟩ ::= ⟨context⟩ ∷ []) ∷  -- an action's attribute, printed at this place
    (⟨task-attribute⟩ ::= ⟨parameter-declarations⟩ ∷ []) ∷
    (⟨task-attribute-list⟩ ::= ⟨task-attribute⟩ ∷ ⟨task-attribute-list⟩ ∷ []) ∷
    (⟨task-attribute-list⟩ ::= ⟨empty⟩ ∷ []) ∷
    (⟨terminal-att⟩ ::= “terminal” ∷ “::” ∷ ⟨yes-or-no⟩ ∷ “semicolon” ∷ []) ∷
    (⟨terminate-condition⟩ ::= “terminate” ∷ “::” ∷ ⟨expression⟩ ∷ “semicolon” ∷ []) ∷
    (⟨textual-constant⟩ ::= ‘double-quoted-string’ ∷ []) ∷
    (⟨textual-constant⟩ ::= ⟨atom⟩ ∷ []) ∷
    (⟨time-unit⟩ ::= “seconds” ∷ []) ∷
    (⟨time-unit⟩ ::= “minutes” ∷ []) ∷
    (⟨time-unit⟩ ::= “hours” ∷ []) ∷
    (⟨time-unit⟩ ::= “days” ∷ []) ∷
    (⟨time-unit⟩ ::= “weeks” ∷ []) ∷
    (⟨top-level-component⟩ ::= ⟨task⟩ ∷ []) ∷
    (⟨top-level-component⟩ ::= ⟨data-item⟩ ∷ []) ∷
    -- this and the next are printed as one, with the middle <top_level_component_list> once: zero or more
    (⟨top-level-component-list⟩ ::= ⟨top-level-component⟩ ∷ ⟨top-level-component-list⟩ ∷ []) ∷
    (⟨top-level-component-list⟩ ::= ⟨empty⟩ ∷ []) ∷
    (⟨trigger⟩ ::= “trigger” ∷ “::” ∷ ⟨atom⟩ ∷ “semicolon” ∷ []) ∷
    (⟨true-value⟩ ::= “true-value” ∷ “::” ∷ ⟨textual-constant⟩ ∷ “semicolon” ∷ []) ∷  -- printed with textual_constant unbracketed
    (⟨unit⟩ ::= “unit” ∷ “::” ∷ ⟨textual-constant⟩ ∷ “semicolon” ∷ []) ∷  -- printed with textual_constant unbracketed
    (⟨wait-condition⟩ ::= “wait-condition” ∷ “::” ∷ ⟨expression⟩ ∷ “semicolon” ∷ []) ∷  -- printed with wait_condition on the left unbracketed
    (⟨yes-or-no⟩ ::= ‘yes-or-no’ ∷ []) ∷  -- 3.3: printed <atom>, which must be yes or no
    []

-- 01: "In a postcondition an `and` outside the assigned expression's own brackets ends it.": the productions of <expression> but that with "and". What stands inside brackets is any expression.
unfoldable pub no_and : List Prod
no_and =
    (⟨expression-no-and⟩ ::= ⟨atom⟩ ∷ []) ∷
    (⟨expression-no-and⟩ ::= ⟨complex-atom⟩ ∷ []) ∷
    (⟨expression-no-and⟩ ::= ‘integer’ ∷ []) ∷
    (⟨expression-no-and⟩ ::= ‘float’ ∷ []) ∷
    (⟨expression-no-and⟩ ::= ‘double-quoted-string’ ∷ []) ∷
    (⟨expression-no-and⟩ ::= “open” ∷ ⟨expression⟩ ∷ “close” ∷ []) ∷
    (⟨expression-no-and⟩ ::= “result-of” ∷ “open” ∷ ⟨atom⟩ ∷ “close” ∷ []) ∷
    (⟨expression-no-and⟩ ::= “Netsupport” ∷ “open” ∷ ⟨atom⟩ ∷ “comma” ∷ ⟨atom⟩ ∷ “close” ∷ []) ∷
    (⟨expression-no-and⟩ ::= “netsupport” ∷ “open” ∷ ⟨atom⟩ ∷ “comma” ∷ ⟨atom⟩ ∷ “close” ∷ []) ∷
    (⟨expression-no-and⟩ ::= ⟨expression-no-and⟩ ∷ “or” ∷ ⟨expression-no-and⟩ ∷ []) ∷
    (⟨expression-no-and⟩ ::= ⟨expression-no-and⟩ ∷ “OR” ∷ ⟨expression-no-and⟩ ∷ []) ∷
    (⟨expression-no-and⟩ ::= ⟨expression-no-and⟩ ∷ “AND” ∷ ⟨expression-no-and⟩ ∷ []) ∷
    (⟨expression-no-and⟩ ::= ⟨expression-no-and⟩ ∷ “#” ∷ ⟨expression-no-and⟩ ∷ []) ∷
    (⟨expression-no-and⟩ ::= ⟨expression-no-and⟩ ∷ “++” ∷ ⟨expression-no-and⟩ ∷ []) ∷
    (⟨expression-no-and⟩ ::= ⟨expression-no-and⟩ ∷ “<” ∷ ⟨expression-no-and⟩ ∷ []) ∷
    (⟨expression-no-and⟩ ::= ⟨expression-no-and⟩ ∷ “<=” ∷ ⟨expression-no-and⟩ ∷ []) ∷
    (⟨expression-no-and⟩ ::= ⟨expression-no-and⟩ ∷ “=<” ∷ ⟨expression-no-and⟩ ∷ []) ∷
    (⟨expression-no-and⟩ ::= ⟨expression-no-and⟩ ∷ “>” ∷ ⟨expression-no-and⟩ ∷ []) ∷
    (⟨expression-no-and⟩ ::= ⟨expression-no-and⟩ ∷ “>=” ∷ ⟨expression-no-and⟩ ∷ []) ∷
    (⟨expression-no-and⟩ ::= ⟨expression-no-and⟩ ∷ “=>” ∷ ⟨expression-no-and⟩ ∷ []) ∷
    (⟨expression-no-and⟩ ::= ⟨expression-no-and⟩ ∷ “=” ∷ ⟨expression-no-and⟩ ∷ []) ∷
    (⟨expression-no-and⟩ ::= ⟨expression-no-and⟩ ∷ “!=” ∷ ⟨expression-no-and⟩ ∷ []) ∷
    (⟨expression-no-and⟩ ::= ⟨expression-no-and⟩ ∷ “+” ∷ ⟨expression-no-and⟩ ∷ []) ∷
    (⟨expression-no-and⟩ ::= ⟨expression-no-and⟩ ∷ “-” ∷ ⟨expression-no-and⟩ ∷ []) ∷
    (⟨expression-no-and⟩ ::= ⟨expression-no-and⟩ ∷ “*” ∷ ⟨expression-no-and⟩ ∷ []) ∷
    (⟨expression-no-and⟩ ::= ⟨expression-no-and⟩ ∷ “/” ∷ ⟨expression-no-and⟩ ∷ []) ∷
    (⟨expression-no-and⟩ ::= ⟨expression-no-and⟩ ∷ “include” ∷ ⟨expression-no-and⟩ ∷ []) ∷
    (⟨expression-no-and⟩ ::= ⟨expression-no-and⟩ ∷ “includes” ∷ ⟨expression-no-and⟩ ∷ []) ∷
    (⟨expression-no-and⟩ ::= ⟨expression-no-and⟩ ∷ “oneof” ∷ ⟨expression-no-and⟩ ∷ []) ∷
    (⟨expression-no-and⟩ ::= “-” ∷ ⟨expression-no-and⟩ ∷ []) ∷
    (⟨expression-no-and⟩ ::= ⟨functor-name⟩ ∷ “open” ∷ ⟨expression-list⟩ ∷ “close” ∷ []) ∷
    (⟨expression-no-and⟩ ::= “[” ∷ ⟨expression-list⟩ ∷ “]” ∷ []) ∷
    []

-- 3.3: an atom is yes or no, the name of a data type, or another.
unfoldable pub atoms : List Prod
atoms =
    (⟨atom⟩ ::= ‘other-atom’ ∷ []) ∷
    (⟨atom⟩ ::= ‘yes-or-no’ ∷ []) ∷
    (⟨atom⟩ ::= ‘data-type’ ∷ []) ∷
    []

unfoldable pub grammar : List Prod
grammar = printed ++ (no_and ++ atoms)
