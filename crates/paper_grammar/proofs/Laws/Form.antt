-- The grammar in the form that a machine reads by one token at a time: each alternative begins with a token. Same shows that it has the sentences of 3.2.
use Rattle.std.specs.Prelude.{ℕ, Bool, true, false, List, [], ◌∷◌, get_or}
use Rattle.paper_grammar.proofs.Laws.Ll.{Sym, T, N, Alt, ◌⇒◌, Grammar}
use Rattle.paper_tokens.specs.Tokens
use Tokens.{“abort”, “action”, “against”, “and”, “AND”, “argument”, “argument-name”, “attributes”, “autonomous”, “candidate”, “caption”}
use Tokens.{“choice-mode”, “completed”, “component”, “confirming”, “context”, “cycle-repeat”, “cycle-until”, “data”, “days”, “decision”}
use Tokens.{“default-value”, “derivation”, “description”, “directives”, “end”, “enquiry”, “excluding”, “false-value”, “for”, “goal”, “hours”}
use Tokens.{“include”, “includes”, “ltwh”, “mandatory”, “mandatory-validation”, “minutes”, “multiple”, “netsupport”, “Netsupport”, “number-of-cycles”}
use Tokens.{“numeric”, “oneof”, “optional”, “or”, “OR”, “param-value”, “parameters”, “plan”, “postcondition”, “precondition”, “priority”, “procedure”}
use Tokens.{“range”, “recommendation”, “result-of”, “schedule-constraint”, “seconds”, “single”, “source”, “support-mode”, “symbolic”, “task”}
use Tokens.{“terminal”, “terminate”, “trigger”, “true-value”, “type”, “unit”, “wait-condition”, “weeks”, “::”, “semicolon”, “dot”, “comma”, “open”}
use Tokens.{“close”, “[”, “]”, “:”, “=”, “#”, “++”, “<”, “<=”, “=<”, “>”, “>=”, “=>”, “!=”, “+”, “-”, “*”, “/”, ‘other-atom’, ‘yes-or-no’}
use Tokens.{‘data-type’, ‘integer’, ‘float’, ‘double-quoted-string’}

abbrev pub ‹Process› : ℕ
‹Process› = 0

abbrev pub ‹Dirs› : ℕ
‹Dirs› = 1

abbrev pub ‹Top› : ℕ
‹Top› = 2

abbrev pub ‹Plan› : ℕ
‹Plan› = 3

abbrev pub ‹Decision› : ℕ
‹Decision› = 4

abbrev pub ‹Action› : ℕ
‹Action› = 5

abbrev pub ‹Enquiry› : ℕ
‹Enquiry› = 6

abbrev pub ‹Generic› : ℕ
‹Generic› = 7

abbrev pub ‹Data› : ℕ
‹Data› = 8

abbrev pub ‹Gen› : ℕ
‹Gen› = 9

abbrev pub ‹Is› : ℕ
‹Is› = 10

abbrev pub ‹Task-attrs› : ℕ
‹Task-attrs› = 11

abbrev pub ‹Plan-attrs› : ℕ
‹Plan-attrs› = 12

abbrev pub ‹Action-attrs› : ℕ
‹Action-attrs› = 13

abbrev pub ‹Enquiry-attrs› : ℕ
‹Enquiry-attrs› = 14

abbrev pub ‹Decision-attrs› : ℕ
‹Decision-attrs› = 15

abbrev pub ‹Choice› : ℕ
‹Choice› = 16

abbrev pub ‹Mode› : ℕ
‹Mode› = 17

abbrev pub ‹Comp-attrs› : ℕ
‹Comp-attrs› = 18

abbrev pub ‹Three› : ℕ
‹Three› = 19

abbrev pub ‹Unit› : ℕ
‹Unit› = 20

abbrev pub ‹Source-attrs› : ℕ
‹Source-attrs› = 21

abbrev pub ‹Cand-attrs› : ℕ
‹Cand-attrs› = 22

abbrev pub ‹Support› : ℕ
‹Support› = 23

abbrev pub ‹Number› : ℕ
‹Number› = 24

abbrev pub ‹Arg-attrs› : ℕ
‹Arg-attrs› = 25

abbrev pub ‹Arg-name› : ℕ
‹Arg-name› = 26

abbrev pub ‹Param› : ℕ
‹Param› = 27

abbrev pub ‹Params› : ℕ
‹Params› = 28

abbrev pub ‹Param-attrs› : ℕ
‹Param-attrs› = 29

abbrev pub ‹Type› : ℕ
‹Type› = 30

abbrev pub ‹Opt-type› : ℕ
‹Opt-type› = 31

abbrev pub ‹Data-attrs› : ℕ
‹Data-attrs› = 32

abbrev pub ‹Range› : ℕ
‹Range› = 33

abbrev pub ‹Text› : ℕ
‹Text› = 34

abbrev pub ‹Data-name› : ℕ
‹Data-name› = 35

abbrev pub ‹Data-name-rest› : ℕ
‹Data-name-rest› = 36

abbrev pub ‹Atom› : ℕ
‹Atom› = 37

abbrev pub ‹Assertion› : ℕ
‹Assertion› = 38

abbrev pub ‹Assertion-tail› : ℕ
‹Assertion-tail› = 39

abbrev pub ‹Expr› : ℕ
‹Expr› = 40

abbrev pub ‹Expr-tail› : ℕ
‹Expr-tail› = 41

abbrev pub ‹Expr-atom› : ℕ
‹Expr-atom› = 42

abbrev pub ‹Xna› : ℕ
‹Xna› = 43

abbrev pub ‹Xna-tail› : ℕ
‹Xna-tail› = 44

abbrev pub ‹Xna-atom› : ℕ
‹Xna-atom› = 45

abbrev pub ‹List› : ℕ
‹List› = 46

abbrev pub ‹List-tail› : ℕ
‹List-tail› = 47

-- how many symbols there are
abbrev pub count : ℕ
count = 48

unfoldable pub rows : List (List (Alt ℕ))
rows =
    (
    (“directives” ⇒ T “::” ∷ N ‹Dirs› ∷ T “end” ∷ T “directives” ∷ T “dot” ∷ T “plan” ∷ N ‹Plan› ∷ N ‹Top› ∷ []) ∷
    (“plan” ⇒ N ‹Plan› ∷ N ‹Top› ∷ []) ∷
    []
    ) ∷  -- ‹Process›
    (
    (‘other-atom’ ⇒ T “semicolon” ∷ N ‹Dirs› ∷ []) ∷
    (‘yes-or-no’ ⇒ T “semicolon” ∷ N ‹Dirs› ∷ []) ∷
    (‘data-type’ ⇒ T “semicolon” ∷ N ‹Dirs› ∷ []) ∷
    []
    ) ∷  -- ‹Dirs›
    (
    (“plan” ⇒ N ‹Plan› ∷ N ‹Top› ∷ []) ∷
    (“decision” ⇒ N ‹Decision› ∷ N ‹Top› ∷ []) ∷
    (“action” ⇒ N ‹Action› ∷ N ‹Top› ∷ []) ∷
    (“enquiry” ⇒ N ‹Enquiry› ∷ N ‹Top› ∷ []) ∷
    (“task” ⇒ N ‹Generic› ∷ N ‹Top› ∷ []) ∷
    (“data” ⇒ N ‹Data› ∷ N ‹Top› ∷ []) ∷
    []
    ) ∷  -- ‹Top›
    ((“::” ⇒ N ‹Atom› ∷ T “semicolon” ∷ N ‹Gen› ∷ N ‹Plan-attrs› ∷ T “end” ∷ T “plan” ∷ T “dot” ∷ []) ∷ []) ∷  -- ‹Plan›
    ((“::” ⇒ N ‹Atom› ∷ T “semicolon” ∷ N ‹Gen› ∷ N ‹Decision-attrs› ∷ T “end” ∷ T “decision” ∷ T “dot” ∷ []) ∷ []) ∷  -- ‹Decision›
    ((“::” ⇒ N ‹Atom› ∷ T “semicolon” ∷ N ‹Gen› ∷ N ‹Action-attrs› ∷ T “end” ∷ T “action” ∷ T “dot” ∷ []) ∷ []) ∷  -- ‹Action›
    ((“::” ⇒ N ‹Atom› ∷ T “semicolon” ∷ N ‹Gen› ∷ N ‹Enquiry-attrs› ∷ T “end” ∷ T “enquiry” ∷ T “dot” ∷ []) ∷ []) ∷  -- ‹Enquiry›
    ((“::” ⇒ N ‹Atom› ∷ T “semicolon” ∷ N ‹Gen› ∷ N ‹Task-attrs› ∷ T “end” ∷ T “task” ∷ T “dot” ∷ []) ∷ []) ∷  -- ‹Generic›
    ((“::” ⇒ N ‹Data-name› ∷ T “semicolon” ∷ N ‹Type› ∷ N ‹Gen› ∷ N ‹Data-attrs› ∷ T “end” ∷ T “data” ∷ T “dot” ∷ []) ∷ []) ∷  -- ‹Data›
    ((“caption” ⇒ N ‹Is› ∷ N ‹Gen› ∷ []) ∷ (“description” ⇒ N ‹Is› ∷ N ‹Gen› ∷ []) ∷ []) ∷  -- ‹Gen›
    ((“::” ⇒ N ‹Expr› ∷ T “semicolon” ∷ []) ∷ []) ∷  -- ‹Is›
    (
    (“precondition” ⇒ N ‹Is› ∷ N ‹Task-attrs› ∷ []) ∷
    (“wait-condition” ⇒ N ‹Is› ∷ N ‹Task-attrs› ∷ []) ∷
    (“goal” ⇒ N ‹Is› ∷ N ‹Task-attrs› ∷ []) ∷
    (“postcondition” ⇒ T “::” ∷ N ‹Assertion› ∷ T “semicolon” ∷ N ‹Task-attrs› ∷ []) ∷
    (“trigger” ⇒ T “::” ∷ N ‹Atom› ∷ T “semicolon” ∷ N ‹Task-attrs› ∷ []) ∷
    (“parameters” ⇒ T “::” ∷ N ‹Param› ∷ N ‹Params› ∷ T “semicolon” ∷ N ‹Task-attrs› ∷ []) ∷
    []
    ) ∷  -- ‹Task-attrs›
    (
    (“precondition” ⇒ N ‹Is› ∷ N ‹Plan-attrs› ∷ []) ∷
    (“wait-condition” ⇒ N ‹Is› ∷ N ‹Plan-attrs› ∷ []) ∷
    (“goal” ⇒ N ‹Is› ∷ N ‹Plan-attrs› ∷ []) ∷
    (“postcondition” ⇒ T “::” ∷ N ‹Assertion› ∷ T “semicolon” ∷ N ‹Plan-attrs› ∷ []) ∷
    (“trigger” ⇒ T “::” ∷ N ‹Atom› ∷ T “semicolon” ∷ N ‹Plan-attrs› ∷ []) ∷
    (“parameters” ⇒ T “::” ∷ N ‹Param› ∷ N ‹Params› ∷ T “semicolon” ∷ N ‹Plan-attrs› ∷ []) ∷
    (“component” ⇒ T “::” ∷ N ‹Atom› ∷ T “semicolon” ∷ N ‹Comp-attrs› ∷ N ‹Plan-attrs› ∷ []) ∷
    (“abort” ⇒ N ‹Is› ∷ N ‹Plan-attrs› ∷ []) ∷
    (“terminate” ⇒ N ‹Is› ∷ N ‹Plan-attrs› ∷ []) ∷
    []
    ) ∷  -- ‹Plan-attrs›
    (
    (“precondition” ⇒ N ‹Is› ∷ N ‹Action-attrs› ∷ []) ∷
    (“wait-condition” ⇒ N ‹Is› ∷ N ‹Action-attrs› ∷ []) ∷
    (“goal” ⇒ N ‹Is› ∷ N ‹Action-attrs› ∷ []) ∷
    (“postcondition” ⇒ T “::” ∷ N ‹Assertion› ∷ T “semicolon” ∷ N ‹Action-attrs› ∷ []) ∷
    (“trigger” ⇒ T “::” ∷ N ‹Atom› ∷ T “semicolon” ∷ N ‹Action-attrs› ∷ []) ∷
    (“parameters” ⇒ T “::” ∷ N ‹Param› ∷ N ‹Params› ∷ T “semicolon” ∷ N ‹Action-attrs› ∷ []) ∷
    (“procedure” ⇒ N ‹Is› ∷ N ‹Action-attrs› ∷ []) ∷
    (“context” ⇒ T “::” ∷ N ‹Atom› ∷ T “semicolon” ∷ N ‹Action-attrs› ∷ []) ∷
    []
    ) ∷  -- ‹Action-attrs›
    (
    (“precondition” ⇒ N ‹Is› ∷ N ‹Enquiry-attrs› ∷ []) ∷
    (“wait-condition” ⇒ N ‹Is› ∷ N ‹Enquiry-attrs› ∷ []) ∷
    (“goal” ⇒ N ‹Is› ∷ N ‹Enquiry-attrs› ∷ []) ∷
    (“postcondition” ⇒ T “::” ∷ N ‹Assertion› ∷ T “semicolon” ∷ N ‹Enquiry-attrs› ∷ []) ∷
    (“trigger” ⇒ T “::” ∷ N ‹Atom› ∷ T “semicolon” ∷ N ‹Enquiry-attrs› ∷ []) ∷
    (“parameters” ⇒ T “::” ∷ N ‹Param› ∷ N ‹Params› ∷ T “semicolon” ∷ N ‹Enquiry-attrs› ∷ []) ∷
    (“source” ⇒ T “::” ∷ N ‹Data-name› ∷ T “semicolon” ∷ N ‹Source-attrs› ∷ N ‹Enquiry-attrs› ∷ []) ∷
    []
    ) ∷  -- ‹Enquiry-attrs›
    (
    (“precondition” ⇒ N ‹Is› ∷ N ‹Decision-attrs› ∷ []) ∷
    (“wait-condition” ⇒ N ‹Is› ∷ N ‹Decision-attrs› ∷ []) ∷
    (“goal” ⇒ N ‹Is› ∷ N ‹Decision-attrs› ∷ []) ∷
    (“postcondition” ⇒ T “::” ∷ N ‹Assertion› ∷ T “semicolon” ∷ N ‹Decision-attrs› ∷ []) ∷
    (“trigger” ⇒ T “::” ∷ N ‹Atom› ∷ T “semicolon” ∷ N ‹Decision-attrs› ∷ []) ∷
    (“parameters” ⇒ T “::” ∷ N ‹Param› ∷ N ‹Params› ∷ T “semicolon” ∷ N ‹Decision-attrs› ∷ []) ∷
    (“source” ⇒ T “::” ∷ N ‹Data-name› ∷ T “semicolon” ∷ N ‹Source-attrs› ∷ N ‹Decision-attrs› ∷ []) ∷
    (“candidate” ⇒ T “::” ∷ N ‹Atom› ∷ T “semicolon” ∷ N ‹Gen› ∷ N ‹Cand-attrs› ∷ N ‹Decision-attrs› ∷ []) ∷
    (“choice-mode” ⇒ T “::” ∷ N ‹Choice› ∷ T “semicolon” ∷ N ‹Decision-attrs› ∷ []) ∷
    (“support-mode” ⇒ T “::” ∷ N ‹Mode› ∷ T “semicolon” ∷ N ‹Decision-attrs› ∷ []) ∷
    []
    ) ∷  -- ‹Decision-attrs›
    ((“single” ⇒ []) ∷ (“multiple” ⇒ []) ∷ []) ∷  -- ‹Choice›
    ((“symbolic” ⇒ []) ∷ (“numeric” ⇒ []) ∷ []) ∷  -- ‹Mode›
    (
    (“autonomous” ⇒ T “::” ∷ T ‘yes-or-no’ ∷ T “semicolon” ∷ N ‹Comp-attrs› ∷ []) ∷
    (“optional” ⇒ T “::” ∷ T ‘yes-or-no’ ∷ T “semicolon” ∷ N ‹Comp-attrs› ∷ []) ∷
    (“terminal” ⇒ T “::” ∷ T ‘yes-or-no’ ∷ T “semicolon” ∷ N ‹Comp-attrs› ∷ []) ∷
    (“schedule-constraint” ⇒ T “::” ∷ T “completed” ∷ T “open” ∷ N ‹Atom› ∷ T “close” ∷ T “semicolon” ∷ N ‹Comp-attrs› ∷ []) ∷
    (“param-value” ⇒ T “::” ∷ N ‹Atom› ∷ T “=” ∷ N ‹Expr› ∷ T “semicolon” ∷ N ‹Comp-attrs› ∷ []) ∷
    (“ltwh” ⇒ T “::” ∷ T ‘integer’ ∷ N ‹Three› ∷ T “semicolon” ∷ N ‹Comp-attrs› ∷ []) ∷
    (“number-of-cycles” ⇒ N ‹Is› ∷ N ‹Comp-attrs› ∷ []) ∷
    (“cycle-until” ⇒ N ‹Is› ∷ N ‹Comp-attrs› ∷ []) ∷
    (“cycle-repeat” ⇒ T “::” ∷ N ‹Expr› ∷ N ‹Unit› ∷ T “semicolon” ∷ N ‹Comp-attrs› ∷ []) ∷
    []
    ) ∷  -- ‹Comp-attrs›
    ((“comma” ⇒ T ‘integer’ ∷ T “comma” ∷ T ‘integer’ ∷ T “comma” ∷ T ‘integer’ ∷ []) ∷ []) ∷  -- ‹Three›
    ((“seconds” ⇒ []) ∷ (“minutes” ⇒ []) ∷ (“hours” ⇒ []) ∷ (“days” ⇒ []) ∷ (“weeks” ⇒ []) ∷ []) ∷  -- ‹Unit›
    (
    (“caption” ⇒ N ‹Is› ∷ N ‹Source-attrs› ∷ []) ∷
    (“description” ⇒ N ‹Is› ∷ N ‹Source-attrs› ∷ []) ∷
    (“mandatory” ⇒ T “::” ∷ T ‘yes-or-no’ ∷ T “semicolon” ∷ N ‹Source-attrs› ∷ []) ∷
    []
    ) ∷  -- ‹Source-attrs›
    (
    (“argument” ⇒ T “::” ∷ N ‹Support› ∷ T “comma” ∷ N ‹Expr› ∷ N ‹Arg-attrs› ∷ T “semicolon” ∷ N ‹Cand-attrs› ∷ []) ∷
    (“recommendation” ⇒ N ‹Is› ∷ N ‹Cand-attrs› ∷ []) ∷
    (“priority” ⇒ T “::” ∷ T ‘integer’ ∷ T “semicolon” ∷ N ‹Cand-attrs› ∷ []) ∷
    []
    ) ∷  -- ‹Cand-attrs›
    (
    (“for” ⇒ []) ∷
    (“against” ⇒ []) ∷
    (“confirming” ⇒ []) ∷
    (“excluding” ⇒ []) ∷
    (‘integer’ ⇒ []) ∷
    (‘float’ ⇒ []) ∷
    (“-” ⇒ N ‹Number› ∷ []) ∷
    []
    ) ∷  -- ‹Support›
    ((‘integer’ ⇒ []) ∷ (‘float’ ⇒ []) ∷ (“-” ⇒ N ‹Number› ∷ []) ∷ []) ∷  -- ‹Number›
    ((“attributes” ⇒ N ‹Arg-name› ∷ N ‹Gen› ∷ T “end” ∷ T “attributes” ∷ []) ∷ []) ∷  -- ‹Arg-attrs›
    ((“argument-name” ⇒ T “::” ∷ N ‹Atom› ∷ T “semicolon” ∷ []) ∷ []) ∷  -- ‹Arg-name›
    ((‘other-atom’ ⇒ N ‹Param-attrs› ∷ []) ∷ (‘yes-or-no’ ⇒ N ‹Param-attrs› ∷ []) ∷ (‘data-type’ ⇒ N ‹Param-attrs› ∷ []) ∷ []) ∷  -- ‹Param›
    ((“comma” ⇒ N ‹Param› ∷ N ‹Params› ∷ []) ∷ []) ∷  -- ‹Params›
    ((“attributes” ⇒ N ‹Opt-type› ∷ N ‹Gen› ∷ T “end” ∷ T “attributes” ∷ []) ∷ []) ∷  -- ‹Param-attrs›
    ((“type” ⇒ T “::” ∷ T ‘data-type’ ∷ T “semicolon” ∷ []) ∷ []) ∷  -- ‹Type›
    ((“type” ⇒ T “::” ∷ T ‘data-type’ ∷ T “semicolon” ∷ []) ∷ []) ∷  -- ‹Opt-type›
    (
    (“range” ⇒ T “::” ∷ N ‹Expr› ∷ N ‹Range› ∷ T “semicolon” ∷ N ‹Data-attrs› ∷ []) ∷
    (“default-value” ⇒ N ‹Is› ∷ N ‹Data-attrs› ∷ []) ∷
    (“mandatory-validation” ⇒ N ‹Is› ∷ N ‹Data-attrs› ∷ []) ∷
    (“derivation” ⇒ N ‹Is› ∷ N ‹Data-attrs› ∷ []) ∷
    (“true-value” ⇒ T “::” ∷ N ‹Text› ∷ T “semicolon” ∷ N ‹Data-attrs› ∷ []) ∷
    (“false-value” ⇒ T “::” ∷ N ‹Text› ∷ T “semicolon” ∷ N ‹Data-attrs› ∷ []) ∷
    (“unit” ⇒ T “::” ∷ N ‹Text› ∷ T “semicolon” ∷ N ‹Data-attrs› ∷ []) ∷
    []
    ) ∷  -- ‹Data-attrs›
    ((“comma” ⇒ N ‹Expr› ∷ N ‹Range› ∷ []) ∷ []) ∷  -- ‹Range›
    ((‘double-quoted-string’ ⇒ []) ∷ (‘other-atom’ ⇒ []) ∷ (‘yes-or-no’ ⇒ []) ∷ (‘data-type’ ⇒ []) ∷ []) ∷  -- ‹Text›
    (
    (‘other-atom’ ⇒ N ‹Data-name-rest› ∷ []) ∷
    (‘yes-or-no’ ⇒ N ‹Data-name-rest› ∷ []) ∷
    (‘data-type’ ⇒ N ‹Data-name-rest› ∷ []) ∷
    []
    ) ∷  -- ‹Data-name›
    ((“:” ⇒ N ‹Atom› ∷ []) ∷ []) ∷  -- ‹Data-name-rest›
    ((‘other-atom’ ⇒ []) ∷ (‘yes-or-no’ ⇒ []) ∷ (‘data-type’ ⇒ []) ∷ []) ∷  -- ‹Atom›
    (
    (‘other-atom’ ⇒ T “=” ∷ N ‹Xna› ∷ N ‹Assertion-tail› ∷ []) ∷
    (‘yes-or-no’ ⇒ T “=” ∷ N ‹Xna› ∷ N ‹Assertion-tail› ∷ []) ∷
    (‘data-type’ ⇒ T “=” ∷ N ‹Xna› ∷ N ‹Assertion-tail› ∷ []) ∷
    (“open” ⇒ N ‹Assertion› ∷ T “close” ∷ N ‹Assertion-tail› ∷ []) ∷
    []
    ) ∷  -- ‹Assertion›
    ((“and” ⇒ N ‹Assertion› ∷ []) ∷ []) ∷  -- ‹Assertion-tail›
    (
    (‘integer’ ⇒ N ‹Expr-tail› ∷ []) ∷
    (‘float’ ⇒ N ‹Expr-tail› ∷ []) ∷
    (‘double-quoted-string’ ⇒ N ‹Expr-tail› ∷ []) ∷
    (‘other-atom’ ⇒ N ‹Expr-atom› ∷ N ‹Expr-tail› ∷ []) ∷
    (‘yes-or-no’ ⇒ N ‹Expr-atom› ∷ N ‹Expr-tail› ∷ []) ∷
    (‘data-type’ ⇒ N ‹Expr-atom› ∷ N ‹Expr-tail› ∷ []) ∷
    (“open” ⇒ N ‹Expr› ∷ T “close” ∷ N ‹Expr-tail› ∷ []) ∷
    (“[” ⇒ N ‹List› ∷ T “]” ∷ N ‹Expr-tail› ∷ []) ∷
    (“-” ⇒ N ‹Expr› ∷ []) ∷
    (“result-of” ⇒ T “open” ∷ N ‹Atom› ∷ T “close” ∷ N ‹Expr-tail› ∷ []) ∷
    (“netsupport” ⇒ T “open” ∷ N ‹Atom› ∷ T “comma” ∷ N ‹Atom› ∷ T “close” ∷ N ‹Expr-tail› ∷ []) ∷
    (“Netsupport” ⇒ T “open” ∷ N ‹Atom› ∷ T “comma” ∷ N ‹Atom› ∷ T “close” ∷ N ‹Expr-tail› ∷ []) ∷
    []
    ) ∷  -- ‹Expr›
    (
    (“or” ⇒ N ‹Expr› ∷ []) ∷
    (“OR” ⇒ N ‹Expr› ∷ []) ∷
    (“and” ⇒ N ‹Expr› ∷ []) ∷
    (“AND” ⇒ N ‹Expr› ∷ []) ∷
    (“#” ⇒ N ‹Expr› ∷ []) ∷
    (“++” ⇒ N ‹Expr› ∷ []) ∷
    (“<” ⇒ N ‹Expr› ∷ []) ∷
    (“<=” ⇒ N ‹Expr› ∷ []) ∷
    (“=<” ⇒ N ‹Expr› ∷ []) ∷
    (“>=” ⇒ N ‹Expr› ∷ []) ∷
    (“=>” ⇒ N ‹Expr› ∷ []) ∷
    (“=” ⇒ N ‹Expr› ∷ []) ∷
    (“!=” ⇒ N ‹Expr› ∷ []) ∷
    (“+” ⇒ N ‹Expr› ∷ []) ∷
    (“-” ⇒ N ‹Expr› ∷ []) ∷
    (“*” ⇒ N ‹Expr› ∷ []) ∷
    (“/” ⇒ N ‹Expr› ∷ []) ∷
    (“include” ⇒ N ‹Expr› ∷ []) ∷
    (“includes” ⇒ N ‹Expr› ∷ []) ∷
    (“oneof” ⇒ N ‹Expr› ∷ []) ∷
    (“>” ⇒ N ‹Expr› ∷ []) ∷
    []
    ) ∷  -- ‹Expr-tail›
    ((“:” ⇒ N ‹Atom› ∷ []) ∷ (“open” ⇒ N ‹List› ∷ T “close” ∷ []) ∷ []) ∷  -- ‹Expr-atom›
    (
    (‘integer’ ⇒ N ‹Xna-tail› ∷ []) ∷
    (‘float’ ⇒ N ‹Xna-tail› ∷ []) ∷
    (‘double-quoted-string’ ⇒ N ‹Xna-tail› ∷ []) ∷
    (‘other-atom’ ⇒ N ‹Xna-atom› ∷ N ‹Xna-tail› ∷ []) ∷
    (‘yes-or-no’ ⇒ N ‹Xna-atom› ∷ N ‹Xna-tail› ∷ []) ∷
    (‘data-type’ ⇒ N ‹Xna-atom› ∷ N ‹Xna-tail› ∷ []) ∷
    (“open” ⇒ N ‹Expr› ∷ T “close” ∷ N ‹Xna-tail› ∷ []) ∷
    (“[” ⇒ N ‹List› ∷ T “]” ∷ N ‹Xna-tail› ∷ []) ∷
    (“-” ⇒ N ‹Xna› ∷ []) ∷
    (“result-of” ⇒ T “open” ∷ N ‹Atom› ∷ T “close” ∷ N ‹Xna-tail› ∷ []) ∷
    (“netsupport” ⇒ T “open” ∷ N ‹Atom› ∷ T “comma” ∷ N ‹Atom› ∷ T “close” ∷ N ‹Xna-tail› ∷ []) ∷
    (“Netsupport” ⇒ T “open” ∷ N ‹Atom› ∷ T “comma” ∷ N ‹Atom› ∷ T “close” ∷ N ‹Xna-tail› ∷ []) ∷
    []
    ) ∷  -- ‹Xna›
    (
    (“or” ⇒ N ‹Xna› ∷ []) ∷
    (“OR” ⇒ N ‹Xna› ∷ []) ∷
    (“AND” ⇒ N ‹Xna› ∷ []) ∷
    (“#” ⇒ N ‹Xna› ∷ []) ∷
    (“++” ⇒ N ‹Xna› ∷ []) ∷
    (“<” ⇒ N ‹Xna› ∷ []) ∷
    (“<=” ⇒ N ‹Xna› ∷ []) ∷
    (“=<” ⇒ N ‹Xna› ∷ []) ∷
    (“>=” ⇒ N ‹Xna› ∷ []) ∷
    (“=>” ⇒ N ‹Xna› ∷ []) ∷
    (“=” ⇒ N ‹Xna› ∷ []) ∷
    (“!=” ⇒ N ‹Xna› ∷ []) ∷
    (“+” ⇒ N ‹Xna› ∷ []) ∷
    (“-” ⇒ N ‹Xna› ∷ []) ∷
    (“*” ⇒ N ‹Xna› ∷ []) ∷
    (“/” ⇒ N ‹Xna› ∷ []) ∷
    (“include” ⇒ N ‹Xna› ∷ []) ∷
    (“includes” ⇒ N ‹Xna› ∷ []) ∷
    (“oneof” ⇒ N ‹Xna› ∷ []) ∷
    (“>” ⇒ N ‹Xna› ∷ []) ∷
    []
    ) ∷  -- ‹Xna-tail›
    ((“:” ⇒ N ‹Atom› ∷ []) ∷ (“open” ⇒ N ‹List› ∷ T “close” ∷ []) ∷ []) ∷  -- ‹Xna-atom›
    (
    (‘integer’ ⇒ N ‹Expr-tail› ∷ N ‹List-tail› ∷ []) ∷
    (‘float’ ⇒ N ‹Expr-tail› ∷ N ‹List-tail› ∷ []) ∷
    (‘double-quoted-string’ ⇒ N ‹Expr-tail› ∷ N ‹List-tail› ∷ []) ∷
    (‘other-atom’ ⇒ N ‹Expr-atom› ∷ N ‹Expr-tail› ∷ N ‹List-tail› ∷ []) ∷
    (‘yes-or-no’ ⇒ N ‹Expr-atom› ∷ N ‹Expr-tail› ∷ N ‹List-tail› ∷ []) ∷
    (‘data-type’ ⇒ N ‹Expr-atom› ∷ N ‹Expr-tail› ∷ N ‹List-tail› ∷ []) ∷
    (“open” ⇒ N ‹Expr› ∷ T “close” ∷ N ‹Expr-tail› ∷ N ‹List-tail› ∷ []) ∷
    (“[” ⇒ N ‹List› ∷ T “]” ∷ N ‹Expr-tail› ∷ N ‹List-tail› ∷ []) ∷
    (“-” ⇒ N ‹Expr› ∷ N ‹List-tail› ∷ []) ∷
    (“result-of” ⇒ T “open” ∷ N ‹Atom› ∷ T “close” ∷ N ‹Expr-tail› ∷ N ‹List-tail› ∷ []) ∷
    (“netsupport” ⇒ T “open” ∷ N ‹Atom› ∷ T “comma” ∷ N ‹Atom› ∷ T “close” ∷ N ‹Expr-tail› ∷ N ‹List-tail› ∷ []) ∷
    (“Netsupport” ⇒ T “open” ∷ N ‹Atom› ∷ T “comma” ∷ N ‹Atom› ∷ T “close” ∷ N ‹Expr-tail› ∷ N ‹List-tail› ∷ []) ∷
    []
    ) ∷  -- ‹List›
    ((“comma” ⇒ N ‹Expr› ∷ N ‹List-tail› ∷ []) ∷ []) ∷  -- ‹List-tail›
    []

-- which symbols may be empty
unfoldable pub blanks : List Bool
blanks =
    false ∷  -- ‹Process›
    true ∷  -- ‹Dirs›
    true ∷  -- ‹Top›
    false ∷  -- ‹Plan›
    false ∷  -- ‹Decision›
    false ∷  -- ‹Action›
    false ∷  -- ‹Enquiry›
    false ∷  -- ‹Generic›
    false ∷  -- ‹Data›
    true ∷  -- ‹Gen›
    false ∷  -- ‹Is›
    true ∷  -- ‹Task-attrs›
    true ∷  -- ‹Plan-attrs›
    true ∷  -- ‹Action-attrs›
    true ∷  -- ‹Enquiry-attrs›
    true ∷  -- ‹Decision-attrs›
    false ∷  -- ‹Choice›
    false ∷  -- ‹Mode›
    true ∷  -- ‹Comp-attrs›
    false ∷  -- ‹Three›
    false ∷  -- ‹Unit›
    true ∷  -- ‹Source-attrs›
    true ∷  -- ‹Cand-attrs›
    false ∷  -- ‹Support›
    false ∷  -- ‹Number›
    true ∷  -- ‹Arg-attrs›
    true ∷  -- ‹Arg-name›
    false ∷  -- ‹Param›
    true ∷  -- ‹Params›
    true ∷  -- ‹Param-attrs›
    false ∷  -- ‹Type›
    true ∷  -- ‹Opt-type›
    true ∷  -- ‹Data-attrs›
    true ∷  -- ‹Range›
    false ∷  -- ‹Text›
    false ∷  -- ‹Data-name›
    true ∷  -- ‹Data-name-rest›
    false ∷  -- ‹Atom›
    false ∷  -- ‹Assertion›
    true ∷  -- ‹Assertion-tail›
    false ∷  -- ‹Expr›
    true ∷  -- ‹Expr-tail›
    true ∷  -- ‹Expr-atom›
    false ∷  -- ‹Xna›
    true ∷  -- ‹Xna-tail›
    true ∷  -- ‹Xna-atom›
    true ∷  -- ‹List›
    true ∷  -- ‹List-tail›
    []

abbrev pub G : Grammar ℕ
G = record { alts = λ x. get_or rows x []; empty = λ x. get_or blanks x true }
