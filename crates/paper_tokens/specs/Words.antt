-- The reserved strings of section 2, all that 3.2 has in double quotes: each with its terminal and its characters. Definitions only.
use Rattle.std.specs.Prelude.{ℕ, List, [], ◌∷◌}
use Prim.Native.String.{String}
use Rattle.paper_tokens.specs.Tokens
use Tokens.{“abort”, “action”, “against”, “and”, “AND”, “argument”, “argument-name”, “attributes”, “autonomous”, “candidate”, “caption”}
use Tokens.{“choice-mode”, “completed”, “component”, “confirming”, “context”, “cycle-repeat”, “cycle-until”, “data”, “days”, “decision”}
use Tokens.{“default-value”, “derivation”, “description”, “directives”, “end”, “enquiry”, “excluding”, “false-value”, “for”, “goal”, “hours”}
use Tokens.{“include”, “includes”, “ltwh”, “mandatory”, “mandatory-validation”, “minutes”, “multiple”, “netsupport”, “Netsupport”, “number-of-cycles”}
use Tokens.{“numeric”, “oneof”, “optional”, “or”, “OR”, “param-value”, “parameters”, “plan”, “postcondition”, “precondition”, “priority”, “procedure”}
use Tokens.{“range”, “recommendation”, “result-of”, “schedule-constraint”, “seconds”, “single”, “source”, “support-mode”, “symbolic”, “task”}
use Tokens.{“terminal”, “terminate”, “trigger”, “true-value”, “type”, “unit”, “wait-condition”, “weeks”, “::”, “semicolon”, “dot”, “comma”, “open”}
use Tokens.{“close”, “[”, “]”, “:”, “=”, “#”, “++”, “<”, “<=”, “=<”, “>”, “>=”, “=>”, “!=”, “+”, “-”, “*”, “/”}

unfoldable pub reserved : List (ℕ × String)
reserved =
    (“abort”, "abort") ∷
    (“action”, "action") ∷
    (“against”, "against") ∷
    (“and”, "and") ∷
    (“AND”, "AND") ∷
    (“argument”, "argument") ∷
    (“argument-name”, "argument_name") ∷
    (“attributes”, "attributes") ∷
    (“autonomous”, "autonomous") ∷
    (“candidate”, "candidate") ∷
    (“caption”, "caption") ∷
    (“choice-mode”, "choice_mode") ∷
    (“completed”, "completed") ∷
    (“component”, "component") ∷
    (“confirming”, "confirming") ∷
    (“context”, "context") ∷
    (“cycle-repeat”, "cycle_repeat") ∷
    (“cycle-until”, "cycle_until") ∷
    (“data”, "data") ∷
    (“days”, "days") ∷
    (“decision”, "decision") ∷
    (“default-value”, "default_value") ∷
    (“derivation”, "derivation") ∷
    (“description”, "description") ∷
    (“directives”, "directives") ∷
    (“end”, "end") ∷
    (“enquiry”, "enquiry") ∷
    (“excluding”, "excluding") ∷
    (“false-value”, "false_value") ∷
    (“for”, "for") ∷
    (“goal”, "goal") ∷
    (“hours”, "hours") ∷
    (“include”, "include") ∷
    (“includes”, "includes") ∷
    (“ltwh”, "ltwh") ∷
    (“mandatory”, "mandatory") ∷
    (“mandatory-validation”, "mandatory_validation") ∷
    (“minutes”, "minutes") ∷
    (“multiple”, "multiple") ∷
    (“netsupport”, "netsupport") ∷
    (“Netsupport”, "Netsupport") ∷
    (“number-of-cycles”, "number_of_cycles") ∷
    (“numeric”, "numeric") ∷
    (“oneof”, "oneof") ∷
    (“optional”, "optional") ∷
    (“or”, "or") ∷
    (“OR”, "OR") ∷
    (“param-value”, "param_value") ∷
    (“parameters”, "parameters") ∷
    (“plan”, "plan") ∷
    (“postcondition”, "postcondition") ∷
    (“precondition”, "precondition") ∷
    (“priority”, "priority") ∷
    (“procedure”, "procedure") ∷
    (“range”, "range") ∷
    (“recommendation”, "recommendation") ∷
    (“result-of”, "result_of") ∷
    (“schedule-constraint”, "schedule_constraint") ∷
    (“seconds”, "seconds") ∷
    (“single”, "single") ∷
    (“source”, "source") ∷
    (“support-mode”, "support_mode") ∷
    (“symbolic”, "symbolic") ∷
    (“task”, "task") ∷
    (“terminal”, "terminal") ∷
    (“terminate”, "terminate") ∷
    (“trigger”, "trigger") ∷
    (“true-value”, "true_value") ∷
    (“type”, "type") ∷
    (“unit”, "unit") ∷
    (“wait-condition”, "wait_condition") ∷
    (“weeks”, "weeks") ∷
    (“::”, "::") ∷
    (“semicolon”, ";") ∷
    (“dot”, ".") ∷
    (“comma”, ",") ∷
    (“open”, "(") ∷
    (“close”, ")") ∷
    (“[”, "[") ∷
    (“]”, "]") ∷
    (“:”, ":") ∷
    (“=”, "=") ∷
    (“#”, "#") ∷
    (“++”, "++") ∷
    (“<”, "<") ∷
    (“<=”, "<=") ∷
    (“=<”, "=<") ∷
    (“>”, ">") ∷
    (“>=”, ">=") ∷
    (“=>”, "=>") ∷
    (“!=”, "!=") ∷
    (“+”, "+") ∷
    (“-”, "-") ∷
    (“*”, "*") ∷
    (“/”, "/") ∷
    []

-- The strings that make an atom one of the kinds of 3.3. They are not reserved.
unfoldable pub data_types : List String
data_types = "text" ∷ "integer" ∷ "boolean" ∷ "datetime" ∷ "date" ∷ "time" ∷ "real" ∷ "setof_text" ∷ "setof_integer" ∷ "setof_real" ∷ []

unfoldable pub yes_or_no : List String
yes_or_no = "yes" ∷ "no" ∷ []
