-- Section 2: the lexical rules, the longest match, and the tokens of a text, with document 01's "Reading the text". Definitions only.
use Rattle.std.specs.Prelude.{ℕ, ◌+◌, ◌≤◌, ◌<◌, ◌≡◌, cond, ◌||◌, eqb, length, take, drop}
use Prim.Native.String.{String}
use mathlib.Core.List.{List, [], ◌∷◌, Memᴰ}
use Rattle.paper_expressions.specs.Bytes.{bytes}
use Rattle.paper_tokens.specs.Kinds.{letter, power, digit, minus, point, quote, double_quote, backslash, blank, slash, star}
use Rattle.paper_tokens.specs.Forms.{Form, any, one, ◌then◌, ◌or◌, many, no, opt, some, Match}
use Rattle.paper_tokens.specs.Words.{reserved}

-- ---- the rules, in the order of section 2

pub data Rule : Type 0 where
  reserved_word atom integer float double_quoted_string white_space comment : Rule

abbrev pub order : Rule → ℕ
order reserved_word = 0
order atom = 1
order integer = 2
order float = 3
order double_quoted_string = 4
order white_space = 5
order comment = 6

-- "A reserved word is any text string that appears in double quotes in the BNF productions": w is the terminal k of the grammar
pub record Reserved (w : List ℕ) (k : ℕ) : Type 0 where
  pub string : String
  pub listed : Memᴰ (k, string) reserved
  pub same : w ≡ bytes string

abbrev is : ℕ → Form
is k = one (k ∷ [])

-- "An atom consists of either a text string which consists of one or more underscores or nonwhitespace alphanumeric characters and
-- which does not begin with a digit
unfoldable pub bare_atom : Form
bare_atom = one (letter ∷ power ∷ []) then many (one (letter ∷ power ∷ digit ∷ []))

abbrev ends_in_backslash : Form
ends_in_backslash = any then is backslash

-- 01: "A quote inside is escaped if the byte before it is a backslash, and then never closes."
abbrev has_unescaped : ℕ → Form
has_unescaped q = no ends_in_backslash then is q then any

-- an opening quote, any text in which it does not stand unescaped, and a closing one
abbrev pub enclosed : ℕ → Form
enclosed q = is q then no (has_unescaped q or ends_in_backslash) then is q

-- or a pair of single quotes enclosing a sequence of zero or more characters which may contain any character other than an
-- unescaped single quote"
unfoldable pub quoted_atom : Form
quoted_atom = enclosed quote

-- "An integer is an optional minus sign ('-') followed by one or more digits."
unfoldable pub integer_form : Form
integer_form = opt (is minus) then some (is digit)

-- "A float is an optional minus sign ('-') followed by either a sequence of zero or more digits followed by a period ('.') followed by one or
-- more digits, or a sequence of one or more digits followed by a period ('.') followed by zero or more digits"
unfoldable pub plain_float : Form
plain_float =
    opt (is minus)
    then ((many (is digit) then is point then some (is digit)) or (some (is digit) then is point then many (is digit)))

-- an exponent
unfoldable pub exponent : Form
exponent = is power then some (is digit)

-- "optionally followed by a sequence consisting of one of the letters "e", "E", "d", or "D" and then one or more digits"
unfoldable pub float_form : Form
float_form = plain_float then opt exponent

-- "A double quoted string is a pair of double quote characters enclosing a sequence of zero or more characters .."
unfoldable pub string_form : Form
string_form = enclosed double_quote

-- "White Space means any sequence of one or more spaces, newlines, carriage returns or tabs."
unfoldable pub white_form : Form
white_form = some (is blank)

abbrev closing : Form
closing = is star then is star then is slash

-- "A comment is the string /** followed by any sequence of characters that does not include the string **/ followed by the string **/"
unfoldable pub comment_form : Form
comment_form = is slash then is star then is star then no (any then closing then any) then closing

-- the rule matches the whole of w
unfoldable pub Matches : Rule → List ℕ → Type 0
Matches reserved_word w = (k : ℕ) × Reserved w k
Matches atom w = Match (bare_atom or quoted_atom) w
Matches integer w = Match integer_form w
Matches float w = Match float_form w
Matches double_quoted_string w = Match string_form w
Matches white_space w = Match white_form w
Matches comment w = Match comment_form w

-- ---- 1. "Identify for the longest string that matches one of the lexical rules above, if the longest string matches more than rule then use the rule that comes first in the list above"

-- the n bytes of a text from a place on
abbrev pub part : List ℕ → ℕ → ℕ → List ℕ
part text at n = take n (drop at text)

pub record Fits (text : List ℕ) (at : ℕ) (r : Rule) (n : ℕ) : Type 0 where
  pub some_bytes : 0 < n
  pub inside : at + n ≤ length text
  pub matches : Matches r (part text at n)

-- 01: "At each place it tries every rule and stops at the first byte that no rule can take. The longest match wins; on a tie, the order
-- of section 2."
pub record Longest (text : List ℕ) (at : ℕ) (r : Rule) (n : ℕ) : Type 0 where
  pub fits : Fits text at r n
  pub longest : {s : Rule} {m : ℕ} → Fits text at s m → m ≤ n
  pub first : {s : Rule} → Fits text at s n → order r ≤ order s

-- ---- 2. "If the string identified was not white space and not a comment then add the appropriate token"

pub data Skipped : Rule → Type 0 where
  skips_white_space : Skipped white_space
  skips_comment : Skipped comment

pub record Token : Type 0 where
  pub rule : Rule
  pub place : ℕ
  pub bytes : List ℕ

abbrev pub token : List ℕ → ℕ → Rule → ℕ → Token
token text at r n = record { rule = r; place = at; bytes = part text at n }

-- ---- 3. "Unless the end of the text has been reached, start at the end of the string that has just been recognised and repeat steps 1,2,3."

-- the tokens of a text from a place on
pub data Tokens (text : List ℕ) : ℕ → List Token → Type 0 where
  at_end : {at : ℕ} → at ≡ length text → Tokens text at []
  skip : {at n : ℕ} {r : Rule} {ts : List Token} → Longest text at r n → Skipped r → Tokens text (at + n) ts → Tokens text at ts
  take_token : {at n : ℕ} {r : Rule} {ts : List Token} → Longest text at r n → ¬ Skipped r → Tokens text (at + n) ts
      → Tokens text at (token text at r n ∷ ts)

-- the places that the reader comes to
pub data Comes (text : List ℕ) : ℕ → Type 0 where
  starts : Comes text 0
  goes_on : {at n : ℕ} {r : Rule} → Comes text at → Longest text at r n → Comes text (at + n)

-- the reader comes to a place before the end, and no rule matches there
pub record Stuck (text : List ℕ) (at : ℕ) : Type 0 where
  pub comes : Comes text at
  pub inside : at < length text
  pub nothing : (r : Rule) (n : ℕ) → ¬ Fits text at r n

-- ---- what a token says

abbrev but_last : List ℕ → List ℕ
but_last [] = []
but_last (b ∷ []) = []
but_last (b ∷ c ∷ w) = b ∷ but_last (c ∷ w)

-- the text of a token without its quotes, where it has any
-- 01: "A quoted atom and a bare one with the same inner characters are the same name; a backslash stays in the text."
abbrev pub inner : List ℕ → List ℕ
inner [] = []
inner (b ∷ w) = cond (eqb b 39 || eqb b 34) (but_last w) (b ∷ w)

-- a float that has an exponent
abbrev pub HasExponent : Token → Type 0
HasExponent t = (t.rule ≡ float) × ¬ Match plain_float t.bytes
