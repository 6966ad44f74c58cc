-- The numbers of the terminals in one list, and how many there are. Definitions only.
use Rattle.std.specs.Prelude.{ℕ, List, [], ◌∷◌}
use Rattle.paper_tokens.specs.Tokens.{“abort”, “action”, “against”, “and”, “AND”, “argument”, “argument-name”, “attributes”, “autonomous”, “candidate”, “caption”, “choice-mode”, “completed”, “component”, “confirming”, “context”, “cycle-repeat”, “cycle-until”, “data”, “days”, “decision”, “default-value”, “derivation”, “description”, “directives”, “end”, “enquiry”, “excluding”, “false-value”, “for”, “goal”, “hours”, “include”, “includes”, “ltwh”, “mandatory”, “mandatory-validation”, “minutes”, “multiple”, “netsupport”, “Netsupport”, “number-of-cycles”, “numeric”, “oneof”, “optional”, “or”, “OR”, “param-value”, “parameters”, “plan”, “postcondition”, “precondition”, “priority”, “procedure”, “range”, “recommendation”, “result-of”, “schedule-constraint”, “seconds”, “single”, “source”, “support-mode”, “symbolic”, “task”, “terminal”, “terminate”, “trigger”, “true-value”, “type”, “unit”, “wait-condition”, “weeks”, “::”, “semicolon”, “dot”, “comma”, “open”, “close”, “[”, “]”, “:”, “=”, “#”, “++”, “<”, “<=”, “=<”, “>”, “>=”, “=>”, “!=”, “+”, “-”, “*”, “/”, ‘other-atom’, ‘yes-or-no’, ‘data-type’, ‘integer’, ‘float’, ‘double-quoted-string’, terminals}

abbrev pub numbers : List ℕ
numbers =
    “abort” ∷ “action” ∷ “against” ∷ “and” ∷ “AND” ∷ “argument” ∷ “argument-name” ∷ “attributes” ∷
    “autonomous” ∷ “candidate” ∷ “caption” ∷ “choice-mode” ∷ “completed” ∷ “component” ∷ “confirming” ∷ “context” ∷
    “cycle-repeat” ∷ “cycle-until” ∷ “data” ∷ “days” ∷ “decision” ∷ “default-value” ∷ “derivation” ∷ “description” ∷
    “directives” ∷ “end” ∷ “enquiry” ∷ “excluding” ∷ “false-value” ∷ “for” ∷ “goal” ∷ “hours” ∷
    “include” ∷ “includes” ∷ “ltwh” ∷ “mandatory” ∷ “mandatory-validation” ∷ “minutes” ∷ “multiple” ∷ “netsupport” ∷
    “Netsupport” ∷ “number-of-cycles” ∷ “numeric” ∷ “oneof” ∷ “optional” ∷ “or” ∷ “OR” ∷ “param-value” ∷
    “parameters” ∷ “plan” ∷ “postcondition” ∷ “precondition” ∷ “priority” ∷ “procedure” ∷ “range” ∷ “recommendation” ∷
    “result-of” ∷ “schedule-constraint” ∷ “seconds” ∷ “single” ∷ “source” ∷ “support-mode” ∷ “symbolic” ∷ “task” ∷
    “terminal” ∷ “terminate” ∷ “trigger” ∷ “true-value” ∷ “type” ∷ “unit” ∷ “wait-condition” ∷ “weeks” ∷
    “::” ∷ “semicolon” ∷ “dot” ∷ “comma” ∷ “open” ∷ “close” ∷ “[” ∷ “]” ∷
    “:” ∷ “=” ∷ “#” ∷ “++” ∷ “<” ∷ “<=” ∷ “=<” ∷ “>” ∷
    “>=” ∷ “=>” ∷ “!=” ∷ “+” ∷ “-” ∷ “*” ∷ “/” ∷ ‘other-atom’ ∷
    ‘yes-or-no’ ∷ ‘data-type’ ∷ ‘integer’ ∷ ‘float’ ∷ ‘double-quoted-string’ ∷ terminals ∷ []
