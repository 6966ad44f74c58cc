-- The terminals, by number: the 72 words and 23 symbols that stand in double quotes in 3.2 (hyphen for underscore), and the kinds of the other tokens. Definitions only.
-- An atom is one of three kinds, since 3.3 asks for yes or no in some places and for the name of a data type in others.
use Rattle.std.specs.Prelude.{ℕ}

abbrev pub “abort” : ℕ
“abort” = 0

abbrev pub “action” : ℕ
“action” = 1

abbrev pub “against” : ℕ
“against” = 2

abbrev pub “and” : ℕ
“and” = 3

abbrev pub “AND” : ℕ
“AND” = 4

abbrev pub “argument” : ℕ
“argument” = 5

abbrev pub “argument-name” : ℕ
“argument-name” = 6

abbrev pub “attributes” : ℕ
“attributes” = 7

abbrev pub “autonomous” : ℕ
“autonomous” = 8

abbrev pub “candidate” : ℕ
“candidate” = 9

abbrev pub “caption” : ℕ
“caption” = 10

abbrev pub “choice-mode” : ℕ
“choice-mode” = 11

abbrev pub “completed” : ℕ
“completed” = 12

abbrev pub “component” : ℕ
“component” = 13

abbrev pub “confirming” : ℕ
“confirming” = 14

abbrev pub “context” : ℕ
“context” = 15

abbrev pub “cycle-repeat” : ℕ
“cycle-repeat” = 16

abbrev pub “cycle-until” : ℕ
“cycle-until” = 17

abbrev pub “data” : ℕ
“data” = 18

abbrev pub “days” : ℕ
“days” = 19

abbrev pub “decision” : ℕ
“decision” = 20

abbrev pub “default-value” : ℕ
“default-value” = 21

abbrev pub “derivation” : ℕ
“derivation” = 22

abbrev pub “description” : ℕ
“description” = 23

abbrev pub “directives” : ℕ
“directives” = 24

abbrev pub “end” : ℕ
“end” = 25

abbrev pub “enquiry” : ℕ
“enquiry” = 26

abbrev pub “excluding” : ℕ
“excluding” = 27

abbrev pub “false-value” : ℕ
“false-value” = 28

abbrev pub “for” : ℕ
“for” = 29

abbrev pub “goal” : ℕ
“goal” = 30

abbrev pub “hours” : ℕ
“hours” = 31

abbrev pub “include” : ℕ
“include” = 32

abbrev pub “includes” : ℕ
“includes” = 33

abbrev pub “ltwh” : ℕ
“ltwh” = 34

abbrev pub “mandatory” : ℕ
“mandatory” = 35

abbrev pub “mandatory-validation” : ℕ
“mandatory-validation” = 36

abbrev pub “minutes” : ℕ
“minutes” = 37

abbrev pub “multiple” : ℕ
“multiple” = 38

abbrev pub “netsupport” : ℕ
“netsupport” = 39

abbrev pub “Netsupport” : ℕ
“Netsupport” = 40

abbrev pub “number-of-cycles” : ℕ
“number-of-cycles” = 41

abbrev pub “numeric” : ℕ
“numeric” = 42

abbrev pub “oneof” : ℕ
“oneof” = 43

abbrev pub “optional” : ℕ
“optional” = 44

abbrev pub “or” : ℕ
“or” = 45

abbrev pub “OR” : ℕ
“OR” = 46

abbrev pub “param-value” : ℕ
“param-value” = 47

abbrev pub “parameters” : ℕ
“parameters” = 48

abbrev pub “plan” : ℕ
“plan” = 49

abbrev pub “postcondition” : ℕ
“postcondition” = 50

abbrev pub “precondition” : ℕ
“precondition” = 51

abbrev pub “priority” : ℕ
“priority” = 52

abbrev pub “procedure” : ℕ
“procedure” = 53

abbrev pub “range” : ℕ
“range” = 54

abbrev pub “recommendation” : ℕ
“recommendation” = 55

abbrev pub “result-of” : ℕ
“result-of” = 56

abbrev pub “schedule-constraint” : ℕ
“schedule-constraint” = 57

abbrev pub “seconds” : ℕ
“seconds” = 58

abbrev pub “single” : ℕ
“single” = 59

abbrev pub “source” : ℕ
“source” = 60

abbrev pub “support-mode” : ℕ
“support-mode” = 61

abbrev pub “symbolic” : ℕ
“symbolic” = 62

abbrev pub “task” : ℕ
“task” = 63

abbrev pub “terminal” : ℕ
“terminal” = 64

abbrev pub “terminate” : ℕ
“terminate” = 65

abbrev pub “trigger” : ℕ
“trigger” = 66

abbrev pub “true-value” : ℕ
“true-value” = 67

abbrev pub “type” : ℕ
“type” = 68

abbrev pub “unit” : ℕ
“unit” = 69

abbrev pub “wait-condition” : ℕ
“wait-condition” = 70

abbrev pub “weeks” : ℕ
“weeks” = 71

abbrev pub “::” : ℕ
“::” = 72

abbrev pub “semicolon” : ℕ
“semicolon” = 73

abbrev pub “dot” : ℕ
“dot” = 74

abbrev pub “comma” : ℕ
“comma” = 75

abbrev pub “open” : ℕ
“open” = 76

abbrev pub “close” : ℕ
“close” = 77

abbrev pub “[” : ℕ
“[” = 78

abbrev pub “]” : ℕ
“]” = 79

abbrev pub “:” : ℕ
“:” = 80

abbrev pub “=” : ℕ
“=” = 81

abbrev pub “#” : ℕ
“#” = 82

abbrev pub “++” : ℕ
“++” = 83

abbrev pub “<” : ℕ
“<” = 84

abbrev pub “<=” : ℕ
“<=” = 85

abbrev pub “=<” : ℕ
“=<” = 86

abbrev pub “>” : ℕ
“>” = 87

abbrev pub “>=” : ℕ
“>=” = 88

abbrev pub “=>” : ℕ
“=>” = 89

abbrev pub “!=” : ℕ
“!=” = 90

abbrev pub “+” : ℕ
“+” = 91

abbrev pub “-” : ℕ
“-” = 92

abbrev pub “*” : ℕ
“*” = 93

abbrev pub “/” : ℕ
“/” = 94

abbrev pub ‘other-atom’ : ℕ
‘other-atom’ = 95

abbrev pub ‘yes-or-no’ : ℕ
‘yes-or-no’ = 96

abbrev pub ‘data-type’ : ℕ
‘data-type’ = 97

abbrev pub ‘integer’ : ℕ
‘integer’ = 98

abbrev pub ‘float’ : ℕ
‘float’ = 99

abbrev pub ‘double-quoted-string’ : ℕ
‘double-quoted-string’ = 100

-- how many reserved strings and how many terminals there are
abbrev pub reserved_count : ℕ
reserved_count = 95

abbrev pub terminals : ℕ
terminals = 101
