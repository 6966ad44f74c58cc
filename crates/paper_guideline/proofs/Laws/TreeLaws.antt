-- A list of tokens has at most one tree: a reader that goes over the tokens once, with a stack of what is open, comes to the tree that a derivation has.
use Rattle.std.specs.Prelude.{ℕ, zero, suc, ◌+◌, ◌-◌, ◌≤◌, ◌<◌, ◌≡◌, refl, Bool, true, false, cond, ◌||◌, eqb, leb, ltb, length}
use Rattle.std.proofs.Common.{sym, ap, subst, ◌∙◌, ⊎_elim, arith, eqb-true, ne_eqb, le-leb, ltb-true}
use Rattle.std.proofs.Math.Option.{Option, none, some}
use mathlib.Core.List.{List, [], ◌∷◌, ◌++◌, append_assoc, append_cancel_right, Memᴰ}
use Rattle.std.proofs.lemmas.Bool.{eqb-false, lt-leb}
use Rattle.paper_expressions.proofs.Laws.Tests.{every, every_at, two}
use Rattle.paper_expressions.specs.Bytes.{bytes}
use Rattle.paper_expressions.specs.Operators.{Op, arithmetic, plus, minus, times, divide, compare, is>, is<, is>=, is<=, is=, is!=, and, or, includes, oneof, negate}
use Rattle.paper_expressions.proofs.Laws.Functors.{functor_f, functor_only}
use Rattle.paper_expressions.specs.Expressions.{Expr, Exprs, Atom, IntegerLit, FloatLit, StringLit, Paren, Listing, Apply, ε, ◌▸◌}
use Rattle.paper_tokens.specs.Tokens
use Tokens.{“or”, “OR”, “and”, “AND”, “<”, “<=”, “=<”, “>”, “>=”, “=>”, “=”, “!=”, “include”, “includes”, “oneof”, “+”, “-”, “*”, “/”, “open”, “close”, “[”, “]”, “comma”}
use Tokens.{‘other-atom’, ‘yes-or-no’, ‘data-type’, ‘integer’, ‘float’, ‘double-quoted-string’}
use Rattle.paper_tokens.specs.Lexical.{Token, reserved_word}
use Rattle.paper_tokens.specs.Words.{reserved}
use Rattle.paper_tokens.specs.Terminals.{Terminal, name}
use Rattle.paper_tokens.specs.Terminals
use Rattle.paper_tokens.specs.Literals.{whole, thousandths}
use Rattle.paper_guideline.specs.Tree
use Tree.{infixes, Where, anywhere, assigned, MayStand, any_operator, but_and, Tree, infix_operator, looser, unary_minus, an_atom, an_integer, a_float, a_string, parentheses, a_list, a_call, Trees, empty, nonempty, SomeTrees, last, then_more}
use Rattle.paper_tokens.proofs.Laws.LexicalTwin.{word_found}
use Rattle.paper_tokens.proofs.Laws.TerminalLaws.{terminal_f, terminal_is, atom-kind}

-- ---- the operators, loosest first (01: "`or`; `and`; comparison and membership; `#` and `++`; `+ -`; `* /`")

abbrev levels : List (List (ℕ × Op))
levels =
    ((“or”, or) ∷ (“OR”, or) ∷ [])
    ∷ ((“and”, and) ∷ (“AND”, and) ∷ [])
    ∷ ((“<”, compare is<) ∷ (“<=”, compare is<=) ∷ (“=<”, compare is<=) ∷ (“>”, compare is>) ∷ (“>=”, compare is>=) ∷ (“=>”, compare is>=)
    ∷ (“=”, compare is=) ∷ (“!=”, compare is!=) ∷ (“include”, includes) ∷ (“includes”, includes) ∷ (“oneof”, oneof) ∷ [])
    ∷ []
    ∷ ((“+”, arithmetic plus) ∷ (“-”, arithmetic minus) ∷ [])
    ∷ ((“*”, arithmetic times) ∷ (“/”, divide) ∷ [])
    ∷ []

abbrev at_level : ℕ → ℕ → List (ℕ × Op) → Option (ℕ × Op) → Option (ℕ × Op)
at_level l k [] d = d
at_level l k (x ∷ xs) d = cond (eqb k x.0) (some (l, x.1)) (at_level l k xs d)

abbrev from_level : ℕ → ℕ → List (List (ℕ × Op)) → Option (ℕ × Op)
from_level l k [] = none
from_level l k (x ∷ xs) = at_level l k x (from_level (suc l) k xs)

-- the level and the meaning of a terminal between two operands
unfoldable pub infix_f : ℕ → Option (ℕ × Op)
infix_f k = from_level 1 k levels

infixr 5 ◌&◌
pub data Each {A : Type 0} (P : A → Type 0) : List A → Type 0 where
  all : Each P []
  ◌&◌ : {x : A} {l : List A} → P x → Each P l → Each P (x ∷ l)

pub each_at : {A : Type 0} {P : A → Type 0} {l : List A} {x : A} → Each P l → Memᴰ x l → P x
each_at {P} (p & ps) (Memᴰ.head e) = subst P (sym e) p
each_at (p & ps) (Memᴰ.tail m) = each_at ps m
each_at {A = A} {P = P} all x6 = elim x6 [ ]

all_infix : Each (λ (x : ℕ × ℕ × Op). infix_f x.1 ≡ some (x.0, x.2)) infixes
unfolding infixes infix_f
all_infix = refl & refl & refl & refl & refl & refl & refl & refl & refl & refl & refl & refl & refl & refl & refl & refl & refl & refl & refl & all

infix_is : {l k : ℕ} {o : Op} → Memᴰ (l, k, o) infixes → infix_f k ≡ some (l, o)
infix_is m = each_at all_infix m

all_below : every (λ (x : ℕ × ℕ × Op). ltb x.0 7) infixes ≡ true
unfolding infixes
all_below = refl

infix_below : {l k : ℕ} {o : Op} → Memᴰ (l, k, o) infixes → l < 7
infix_below {l} {k} {o} m = ltb-true l 7 (every_at (λ (x : ℕ × ℕ × Op). ltb x.0 7) infixes all_below (l, k, o) m)

-- what may join on behind an operand
abbrev pub joins : Where → ℕ → Option (ℕ × Op)
joins anywhere k = infix_f k
joins assigned k = cond (eqb k “and”) none (infix_f k)

joins_is : {a : Where} {l k : ℕ} {o : Op} → Memᴰ (l, k, o) infixes → MayStand a k → joins a k ≡ some (l, o)
joins_is m any_operator = infix_is m
joins_is {k} m (but_and n) = rw (ne_eqb k “and” n) (infix_is m)

-- ---- the reader

-- what is open: an operator's left operand, a minus, a parenthesis, a list or a call with the elements so far
pub data Bracket : Type 0 where
  square : Bracket
  call : Op → Bracket

pub data Stack : Type 0 where
  bottom : Where → Stack
  pending : Stack → Expr → ℕ → Op → Stack
  negated : Stack → Stack
  in_parentheses : Stack → Stack
  in_bracket : Stack → Bracket → Exprs → Stack

pub data State : Type 0 where
  operand : Stack → State
  operator : Stack → Expr → State
  name_read : Stack → Token → State

pub data Step : Type 0 where
  on : State → Step
  ended : Expr → Step
  wrong : Step

abbrev mode : Stack → Where
mode (bottom a) = a
mode (pending s e l o) = mode s
mode (negated s) = mode s
mode (in_parentheses s) = anywhere
mode (in_bracket s b es) = anywhere

abbrev closer : Bracket → ℕ
closer square = “]”
closer (call o) = “close”

abbrev built : Bracket → Exprs → Expr
built square es = Listing es
built (call o) es = Apply o es

abbrev ◌⧺◌ : Exprs → Exprs → Exprs
ε ⧺ fs = fs
(e ▸ es) ⧺ fs = e ▸ (es ⧺ fs)

infixr 6 ◌⧺◌
⧺-assoc : (es fs gs : Exprs) → (es ⧺ fs) ⧺ gs ≡ es ⧺ (fs ⧺ gs)
⧺-assoc ε fs gs = refl
⧺-assoc (e ▸ es) fs gs = ap (λ (x : Exprs). e ▸ x) (⧺-assoc es fs gs)

-- an operator of level j closes what is open at level j or tighter, and what is no operator closes all, as level 0 does
abbrev closed : ℕ → Stack → Expr → Stack × Expr
closed j (bottom a) f = (bottom a, f)
closed j (pending s e l o) f = cond (leb j l) (closed j s (Apply o (e ▸ f ▸ ε))) (pending s e l o, f)
closed j (negated s) f = closed j s (Apply negate (f ▸ ε))
closed j (in_parentheses s) f = (in_parentheses s, f)
closed j (in_bracket s b es) f = (in_bracket s b es, f)

-- an operand is expected
abbrev close_empty : ℕ → Stack → Step
close_empty k (bottom a) = wrong
close_empty k (pending s e l o) = wrong
close_empty k (negated s) = wrong
close_empty k (in_parentheses s) = wrong
close_empty k (in_bracket s b ε) = cond (eqb k (closer b)) (on (operator s (built b ε))) wrong
close_empty k (in_bracket s b (e ▸ es)) = wrong

abbrev is_atom : ℕ → Bool
is_atom k = eqb k ‘other-atom’ || (eqb k ‘yes-or-no’ || eqb k ‘data-type’)

abbrev begin : ℕ → Token → Stack → Step
begin k t s =
    cond (eqb k “-”) (on (operand (negated s)))
    (cond (eqb k “open”) (on (operand (in_parentheses s)))
    (cond (eqb k “[”) (on (operand (in_bracket s square ε)))
    (cond (is_atom k) (on (name_read s t))
    (cond (eqb k ‘integer’) (on (operator s (IntegerLit (whole t.bytes))))
    (cond (eqb k ‘float’) (on (operator s (FloatLit (thousandths t.bytes))))
    (cond (eqb k ‘double-quoted-string’) (on (operator s (StringLit (name t))))
    (close_empty k s)))))))

-- an operator is expected
abbrev close : ℕ → Stack × Expr → Step
close k (bottom a, f) = ended f
close k (pending s e l o, f) = wrong
close k (negated s, f) = wrong
close k (in_parentheses s, f) = cond (eqb k “close”) (on (operator s (Paren f))) wrong
close k (in_bracket s b es, f) =
    cond (eqb k (closer b)) (on (operator s (built b (es ⧺ (f ▸ ε))))) (cond (eqb k “comma”) (on (operand (in_bracket s b (es ⧺ (f ▸ ε))))) wrong)

abbrev go_on : Option (ℕ × Op) → ℕ → Stack → Expr → Step
go_on (some x) k s f = let c = closed x.0 s f in on (operand (pending c.0 c.1 x.0 x.1))
go_on none k s f = close k (closed 0 s f)

abbrev step : State → ℕ → Token → Step
step (operand s) k t = begin k t s
step (operator s f) k t = go_on (joins (mode s) k) k s f
step (name_read s n) k t = cond (eqb k “open”) (on (operand (in_bracket s (call (functor_f (name n))) ε))) (go_on (joins (mode s) k) k s (Atom (name n)))

abbrev final : Stack × Expr → Option (Expr × List Token)
final (bottom a, f) = some (f, [])
final (pending s e l o, f) = none
final (negated s, f) = none
final (in_parentheses s, f) = none
final (in_bracket s b es, f) = none

abbrev at_end : State → Option (Expr × List Token)
at_end (operand s) = none
at_end (operator s f) = final (closed 0 s f)
at_end (name_read s n) = final (closed 0 s (Atom (name n)))

abbrev goes : Step → (State → Option (Expr × List Token)) → List Token → Option (Expr × List Token)
goes (on q) f r = f q
goes (ended e) f r = some (e, r)
goes wrong f r = none

abbrev run : State → List Token → Option (Expr × List Token)
run q [] = at_end q
run q (t ∷ w) = goes (step q (terminal_f t) t) (λ (p : State). run p w) (t ∷ w)

-- the tree that the tokens begin with, and those behind it
unfoldable pub tree_f : Where → List Token → Option (Expr × List Token)
tree_f a w = run (operand (bottom a)) w

-- ---- what a derivation reads, the reader reads

abbrev joins_at : Where → List Token → Option (ℕ × Op)
joins_at a [] = none
joins_at a (t ∷ w) = joins a (terminal_f t)

abbrev level : Option (ℕ × Op) → ℕ
level none = 0
level (some x) = x.0

abbrev opens : List Token → Bool
opens [] = false
opens (t ∷ w) = eqb (terminal_f t) “open”

-- nothing that is tighter than level l goes on in r, and no parenthesis
record Stops (a : Where) (l : ℕ) (r : List Token) : Type 0 where
  pub looser : level (joins_at a r) ≤ l
  pub no_call : opens r ≡ false

-- the last open level, and one more
abbrev top : Stack → ℕ
top (bottom a) = 0
top (pending s e l o) = suc l
top (negated s) = 7
top (in_parentheses s) = 0
top (in_bracket s b es) = 0

not_closed : (l : ℕ) (s : Stack) (f : Expr) → top s ≤ l → l < 7 → closed l s f ≡ (s, f)
not_closed l (bottom a) f h k = refl
not_closed l (pending s e j o) f h k = rw (lt-leb l j (omega arith))
not_closed l (negated s) f h k = absurd (omega arith)
not_closed l (in_parentheses s) f h k = refl
not_closed l (in_bracket s b es) f h k = refl

-- a tighter operator that is pending may be applied at once
applied : (s : Stack) (e f : Expr) (l : ℕ) (o : Op) (r : List Token) → level (joins_at (mode s) r) ≤ l
    → run (operator (pending s e l o) f) r ≡ run (operator s (Apply o (e ▸ f ▸ ε))) r
applied s e f l o [] h = rw (le-leb 0 l h)
applied s e f l o (t ∷ r) h =
    let by : (x : Option (ℕ × Op)) → level x ≤ l → go_on x (terminal_f t) (pending s e l o) f ≡ go_on x (terminal_f t) s (Apply o (e ▸ f ▸ ε))
    = elim [ none ↦ λ h. rw (le-leb 0 l h) | some x ↦ λ h. rw (le-leb x.0 l h) ] in
    ap (λ (p : Step). goes p (λ (q : State). run q r) (t ∷ r)) (by (joins (mode s) (terminal_f t)) h)

applied_minus : (s : Stack) (f : Expr) (r : List Token) → run (operator (negated s) f) r ≡ run (operator s (Apply negate (f ▸ ε))) r
applied_minus s f [] = refl
applied_minus s f (t ∷ r) =
    let by : (x : Option (ℕ × Op)) → go_on x (terminal_f t) (negated s) f ≡ go_on x (terminal_f t) s (Apply negate (f ▸ ε))
    = elim [ none ↦ refl | some x ↦ refl ] in
    ap (λ (p : Step). goes p (λ (q : State). run q r) (t ∷ r)) (by (joins (mode s) (terminal_f t)))

no_call_read : (s : Stack) (n : Token) (r : List Token) → opens r ≡ false → run (name_read s n) r ≡ run (operator s (Atom (name n))) r
no_call_read s n [] h = refl
no_call_read s n (t ∷ r) h = rw h

-- one token, of which the terminal is known
on_token : {t : Token} {k : ℕ} (q : State) (w : List Token) → Terminal t k → run q (t ∷ w) ≡ goes (step q k t) (λ (p : State). run p w) (t ∷ w)
on_token {t} q w h = ap (λ (k : ℕ). goes (step q k t) (λ (p : State). run p w) (t ∷ w)) (terminal_is h)

not_open : {t : Token} {k : ℕ} (w : List Token) → Terminal t k → eqb k “open” ≡ false → opens (t ∷ w) ≡ false
not_open w h e = ap (λ (k : ℕ). eqb k “open”) (terminal_is h) ∙ e

infix_not_open : {l k : ℕ} {o : Op} → Memᴰ (l, k, o) infixes → eqb k “open” ≡ false
unfolding infix_f
infix_not_open {k} m = ne_eqb k “open” (λ e. let f = ap infix_f e in let g = infix_is m in let z : ◌≡◌ {A = ℕ} 0 1 = cc in omega arith)

stops_at : {a : Where} {t : Token} {k : ℕ} (l : ℕ) (w : List Token) → Terminal t k → joins a k ≡ none → eqb k “open” ≡ false → Stops a l (t ∷ w)
stops_at {a} l w h j e =
    let f = ap (joins a) (terminal_is h) ∙ j in
    record { looser = rw f (omega arith); no_call = not_open w h e }

record Reads (a : Where) (l : ℕ) (w r : List Token) (e : Expr) : Type 0 where
  pub one : (s : Stack) → mode s ≡ a → top s ≤ l → Stops a l r → run (operand s) w ≡ run (operator s e) r

record ReadsList (w x : List Token) (es : Exprs) : Type 0 where
  pub all : (s : Stack) (b : Bracket) (c : Token) (r : List Token) → x ≡ c ∷ r → Terminal c (closer b)
      → run (operand (in_bracket s b ε)) w ≡ run (operator s (built b es)) r

record ReadsMore (w x : List Token) (es : Exprs) : Type 0 where
  pub more : (s : Stack) (b : Bracket) (ds : Exprs) (c : Token) (r : List Token) → x ≡ c ∷ r → Terminal c (closer b)
      → run (operand (in_bracket s b ds)) w ≡ run (operator s (built b (ds ⧺ es))) r

reads_infix : {a : Where} {l n k : ℕ} {o : Op} {t : Token} {w m r : List Token} {e f : Expr}
    → Memᴰ (l, k, o) infixes → Terminal t k → MayStand a k → l < n → Reads a l w (t ∷ m) e → Reads a n m r f → Reads a l w r (Apply o (e ▸ f ▸ ε))
reads_infix {a} {l} {n} {k} {o} {t} {w} {m} {r} {e} {f} i h p tighter x y = record {
  one = λ s d b q.
      let j = joins_is i p in
      let c = infix_below i in
      let here : Stops a l (t ∷ m) = record { looser = rw (ap (joins a) (terminal_is h) ∙ j) (omega arith); no_call = not_open m h (infix_not_open i) } in
      let then : run (operator s e) (t ∷ m) ≡ run (operand (pending s e l o)) m = on_token (operator s e) m h ∙ rw (d, j, not_closed l s e b c) in
      let there : Stops a n r = record { looser = let c = q.looser in omega arith; no_call = q.no_call } in
      x.one s d b here ∙ then ∙ y.one (pending s e l o) d (omega arith) there ∙ applied s e f l o r (rw d q.looser);
}

close_at : {c : Token} (s : Stack) (b : Bracket) (r : List Token) → Terminal c (closer b) → run (operand (in_bracket s b ε)) (c ∷ r) ≡ run (operator s (built b ε)) r
close_at s square r k = on_token (operand (in_bracket s square ε)) r k
close_at s (call o) r k = on_token (operand (in_bracket s (call o) ε)) r k

close_behind : {c : Token} (s : Stack) (b : Bracket) (ds : Exprs) (e : Expr) (r : List Token) → Terminal c (closer b)
    → run (operator (in_bracket s b ds) e) (c ∷ r) ≡ run (operator s (built b (ds ⧺ (e ▸ ε)))) r
unfolding infix_f
close_behind s square ds e r k = on_token (operator (in_bracket s square ds) e) r k
close_behind s (call o) ds e r k = on_token (operator (in_bracket s (call o) ds) e) r k

comma_behind : {t : Token} (s : Stack) (b : Bracket) (ds : Exprs) (e : Expr) (m : List Token) → Terminal t “comma”
    → run (operator (in_bracket s b ds) e) (t ∷ m) ≡ run (operand (in_bracket s b (ds ⧺ (e ▸ ε)))) m
unfolding infix_f
comma_behind s square ds e m k = on_token (operator (in_bracket s square ds) e) m k
comma_behind s (call o) ds e m k = on_token (operator (in_bracket s (call o) ds) e) m k

stops_close : {c : Token} (b : Bracket) (r : List Token) → Terminal c (closer b) → Stops anywhere 1 (c ∷ r)
unfolding infix_f
stops_close square r k = stops_at 1 r k refl refl
stops_close (call o) r k = stops_at 1 r k refl refl

reads : {a : Where} {l : ℕ} {w r : List Token} {e : Expr} → Tree a l w r e → Reads a l w r e
unfolding infix_f
reads x = elim x as (λ a l w r e x. Reads a l w r e) (λ w r es x. ReadsList w r es) (λ w r es x. ReadsMore w r es) [
  | infix_operator i h p (x → f) (y → g) ↦ reads_infix i h p (omega arith) f g
  | looser (x → f) ↦ record { one = λ s d n q. f.one s d (omega arith) (record { looser = let c = q.looser in omega arith; no_call = q.no_call }) }
  | unary_minus {w} {r} {e} h (x → f) ↦ record { one = λ s d n q. on_token (operand s) w h ∙ f.one (negated s) d (omega arith) q ∙ applied_minus s e r }
  | an_atom {t} {r} h ↦ record {
    one = λ s d n q.
        atom-kind t h (λ (k : ℕ). goes (begin k t s) (λ (p : State). run p r) (t ∷ r) ≡ run (name_read s t) r) refl refl refl ∙ no_call_read s t r q.no_call;
  }
  | an_integer {r} h ↦ record { one = λ s d n q. on_token (operand s) r (Terminals.an_integer h) }
  | a_float {r} h ↦ record { one = λ s d n q. on_token (operand s) r (Terminals.a_float h) }
  | a_string {r} h ↦ record { one = λ s d n q. on_token (operand s) r (Terminals.a_string h) }
  | parentheses {w} {r} {e} h (x → f) k ↦ record {
    one = λ s d n q.
        on_token (operand s) w h ∙ f.one (in_parentheses s) refl (omega arith) (stops_at 1 r k refl refl) ∙ on_token (operator (in_parentheses s) e) r k;
  }
  | a_list {c} {w} {r} h (x → f) k ↦ record { one = λ s d n q. on_token (operand s) w h ∙ f.all s square c r refl k }
  | a_call {f} {t} {c} {w} {r} {o} e i h (x → g) k ↦ record {
    one = λ s d n q.
        atom-kind f e (λ (k : ℕ). goes (begin k f s) (λ (p : State). run p (t ∷ w)) (f ∷ t ∷ w) ≡ run (name_read s f) (t ∷ w)) refl refl refl
        ∙ on_token (name_read s f) w h ∙ rw (functor_only i) (g.all s (call o) c r refl k);
  }
  | empty ↦ record { all = λ s b c r e k. rw e (close_at s b r k) }
  | nonempty (x → f) ↦ record { all = λ s b. f.more s b ε }
  | last {w} {e} (x → f) ↦ record {
    more = λ s b ds c r i k.
        f.one (in_bracket s b ds) refl (omega arith) (rw i (stops_close b r k)) ∙ rw i (close_behind s b ds e r k);
  }
  | then_more {m} {e} {es} (x → f) h (y → g) ↦ record {
    more = λ s b ds c r i k.
        f.one (in_bracket s b ds) refl (omega arith) (stops_at 1 m h refl refl) ∙ comma_behind s b ds e m h
        ∙ g.more s b (ds ⧺ (e ▸ ε)) c r i k ∙ ap (λ (z : Exprs). run (operator s (built b z)) r) (⧺-assoc ds (e ▸ ε) es);
  }
]

pub shorter : {a : Where} {l : ℕ} {w r : List Token} {e : Expr} → Tree a l w r e → length r < length w
shorter x = elim x as (λ a l w r e x. length r < length w) (λ w r es x. length r ≤ length w) (λ w r es x. length r < length w) [
  | infix_operator i h p (x → f) (y → g) ↦ omega arith
  | looser (x → f) ↦ f
  | unary_minus h (x → f) ↦ omega arith
  | an_atom h ↦ omega arith
  | an_integer h ↦ omega arith
  | a_float h ↦ omega arith
  | a_string h ↦ omega arith
  | parentheses h (x → f) k ↦ omega arith
  | a_list h (x → f) k ↦ omega arith
  | a_call e o h (x → f) k ↦ omega arith
  | empty ↦ omega arith
  | nonempty (x → f) ↦ omega arith
  | last (x → f) ↦ f
  | then_more (x → f) h (y → g) ↦ omega arith
]

-- ---- at most one tree, with the end open: behind it stands no operator that goes on, and no parenthesis

pub record Ends (a : Where) (r : List Token) : Type 0 where
  pub no_operator : joins_at a r ≡ none
  pub no_call : opens r ≡ false

pub ends_at : {a : Where} {t : Token} {k : ℕ} (w : List Token) → Terminal t k → joins a k ≡ none → eqb k “open” ≡ false → Ends a (t ∷ w)
ends_at {a} w h j e = record { no_operator = ap (joins a) (terminal_is h) ∙ j; no_call = not_open w h e }

at_bottom : (a : Where) (e : Expr) (r : List Token) → joins_at a r ≡ none → run (operator (bottom a) e) r ≡ some (e, r)
at_bottom a e [] h = refl
at_bottom a e (t ∷ r) h = rw h

pub tree_read : {a : Where} {l : ℕ} {w r : List Token} {e : Expr} → Tree a l w r e → Ends a r → tree_f a w ≡ some (e, r)
unfolding tree_f
tree_read {a} {l} {w} {r} {e} x h =
    (reads x).one (bottom a) refl (omega arith) (record { looser = rw h.no_operator (omega arith); no_call = h.no_call }) ∙ at_bottom a e r h.no_operator

pub one_end : {a : Where} {l : ℕ} {w r s : List Token} {e f : Expr} → Tree a l w r e → Ends a r → Tree a l w s f → Ends a s → (r ≡ s) × (e ≡ f)
one_end {r} {s} {e} {f} x h y k =
    let p = tree_read x h in
    let q = tree_read y k in
    let z : ◌≡◌ {A = Expr × List Token} (e, r) (f, s) = cc in
    (ap (λ (v : Expr × List Token). v.1) z, ap (λ (v : Expr × List Token). v.0) z)

-- ---- at most one tree of the tokens before r, whatever r is: a tree is the same with nothing behind it

record Front (T : List Token → List Token → Type 0) (w r : List Token) : Type 0 where
  pub front : List Token
  pub is : w ≡ front ++ r
  pub moved : (x : List Token) → T (front ++ x) x

module _ {T S : List Token → List Token → Type 0} where
  behind : (u : List Token) {w r : List Token} → ((v x : List Token) → T v x → S (u ++ v) x) → Front T w r → Front S (u ++ w) r
  behind u f p = record { front = u ++ p.front; is = rw (p.is, append_assoc); moved = λ x. rw append_assoc (f (p.front ++ x) x (p.moved x)) }

  both : {U : List Token → List Token → Type 0} {t : Token} {w m r : List Token}
      → ((v y x : List Token) → T v (t ∷ y) → U y x → S v x) → Front T w (t ∷ m) → Front U m r → Front S w r
  both {t} f p q = record {
    front = p.front ++ (t ∷ q.front);
    is = p.is ∙ rw (q.is, append_assoc);
    moved = λ x. rw append_assoc (f (p.front ++ (t ∷ (q.front ++ x))) (q.front ++ x) x (p.moved (t ∷ (q.front ++ x))) (q.moved x));
  }

before : {T : List Token → List Token → Type 0} {c : Token} {w r : List Token} → Front T w (c ∷ r) → Front (λ v x. T v (c ∷ x)) w r
before {c} p = record { front = p.front ++ (c ∷ []); is = p.is ∙ rw append_assoc; moved = λ x. rw append_assoc (p.moved (c ∷ x)) }

alone : {T : List Token → List Token → Type 0} {t : Token} {r : List Token} → ((x : List Token) → T (t ∷ x) x) → Front T (t ∷ r) r
alone {t} f = record { front = t ∷ []; is = refl; moved = f }

cut : {a : Where} {l : ℕ} {w r : List Token} {e : Expr} → Tree a l w r e → Front (λ v x. Tree a l v x e) w r
cut x = elim x as (λ a l w r e x. Front (λ v x. Tree a l v x e) w r) (λ w r es x. Front (λ v x. Trees v x es) w r) (λ w r es x. Front (λ v x. SomeTrees v x es) w r) [
  | infix_operator i h p (x → f) (y → g) ↦ both (λ v m r x y. infix_operator i h p x y) f g
  | looser (x → f) ↦ record { front = f.front; is = f.is; moved = λ x. looser (f.moved x) }
  | unary_minus {t} h (x → f) ↦ behind (t ∷ []) (λ v r x. unary_minus h x) f
  | an_atom h ↦ alone (λ x. an_atom h)
  | an_integer h ↦ alone (λ x. an_integer h)
  | a_float h ↦ alone (λ x. a_float h)
  | a_string h ↦ alone (λ x. a_string h)
  | parentheses {t} h (x → f) k ↦ behind (t ∷ []) (λ v r x. parentheses h x k) (before f)
  | a_list {t} h (x → f) k ↦ behind (t ∷ []) (λ v r x. a_list h x k) (before f)
  | a_call {f} {t} e o h (x → g) k ↦ behind (f ∷ t ∷ []) (λ v r x. a_call e o h x k) (before g)
  | empty ↦ record { front = []; is = refl; moved = λ x. empty }
  | nonempty (x → f) ↦ record { front = f.front; is = f.is; moved = λ x. nonempty (f.moved x) }
  | last (x → f) ↦ record { front = f.front; is = f.is; moved = λ x. last (f.moved x) }
  | then_more (x → f) h (y → g) ↦ both (λ v m r x y. then_more x h y) f g
]

pub one_tree : {a : Where} {l : ℕ} {w r : List Token} {e f : Expr} → Tree a l w r e → Tree a l w r f → e ≡ f
one_tree {a} {l} {r} {f} x y =
    let p = cut x in
    let q = cut y in
    let e = append_cancel_right p.front q.front r (sym p.is ∙ q.is) in
    let z = subst (λ (u : List Token). Tree a l (u ++ []) [] f) (sym e) (q.moved []) in
    (one_end (p.moved []) (record { no_operator = refl; no_call = refl }) z (record { no_operator = refl; no_call = refl })).1

-- ---- lists of trees, as the elements of a list in brackets

opening : Token
opening = record { rule = reserved_word; place = 0; bytes = bytes "[" }

closing : Token
closing = record { rule = reserved_word; place = 0; bytes = bytes "]" }

is_opening : Terminal opening “[”
unfolding reserved opening
is_opening = Terminals.a_reserved_word refl (word_found refl)

is_closing : Terminal closing “]”
unfolding reserved closing
is_closing = Terminals.a_reserved_word refl (word_found refl)

cut_some : {w r : List Token} {es : Exprs} → SomeTrees w r es → Front (λ v x. SomeTrees v x es) w r
cut_some (last x) = let f = cut x in record { front = f.front; is = f.is; moved = λ x. last (f.moved x) }
cut_some (then_more x h y) = both (λ v m r x y. then_more x h y) (cut x) (cut_some y)

cut_list : {w r : List Token} {es : Exprs} → Trees w r es → Front (λ v x. Trees v x es) w r
cut_list empty = record { front = []; is = refl; moved = λ x. empty }
cut_list (nonempty y) = let f = cut_some y in record { front = f.front; is = f.is; moved = λ x. nonempty (f.moved x) }

pub one_list : {w r : List Token} {es fs : Exprs} → Trees w r es → Trees w r fs → es ≡ fs
one_list {r} {es} {fs} x y =
    let p = cut_list x in
    let q = cut_list y in
    let e = append_cancel_right p.front q.front r (sym p.is ∙ q.is) in
    let z = subst (λ (u : List Token). Trees (u ++ (closing ∷ [])) (closing ∷ []) fs) (sym e) (q.moved (closing ∷ [])) in
    let i = one_tree {a = anywhere} (a_list is_opening (p.moved (closing ∷ [])) is_closing) (a_list is_opening z is_closing) in
    cc

pub one_some : {w r : List Token} {es fs : Exprs} → SomeTrees w r es → SomeTrees w r fs → es ≡ fs
one_some x y = one_list (nonempty x) (nonempty y)

-- ---- any operands, joined by any operators, have a tree

pub data Chain (a : Where) : List Token → List Token → Type 0 where
  single : {w r : List Token} {e : Expr} → Tree a 7 w r e → Chain a w r
  joined : {l k : ℕ} {o : Op} {t : Token} {w m r : List Token} {e : Expr}
      → Chain a w (t ∷ m) → Memᴰ (l, k, o) infixes → Terminal t k → MayStand a k → Tree a 7 m r e → Chain a w r

loose : {a : Where} {w r : List Token} {e : Expr} (n l : ℕ) → n + l ≡ 7 → Tree a 7 w r e → Tree a l w r e
loose {a} {w} {r} {e} zero l h x = let g : 7 ≡ l = omega arith in subst (λ (j : ℕ). Tree a j w r e) g x
loose (suc n) l h x = looser (loose n (suc l) (omega arith) x)

module _ {a : Where} {j k : ℕ} {o : Op} {t : Token} {m r : List Token} {f : Expr} (i : Memᴰ (j, k, o) infixes) (h : Terminal t k) (p : MayStand a k) (y : Tree a 7 m r f) where
  -- the operator is of this level, or tighter
  level_or_tighter : {l : ℕ} {w : List Token} {e : Expr} → Tree a l w (t ∷ m) e → l ≤ j
      → (suc l ≤ j → (g : Expr) × Tree a l w r g) → (g : Expr) × Tree a l w r g
  level_or_tighter {l} {w} {e} x b go = ⊎_elim
      (λ (q : eqb l j ≡ true). let s = eqb-true l j q in
      let c = infix_below i in
      (Apply o (e ▸ f ▸ ε), infix_operator (subst (λ (l : ℕ). Memᴰ (l, k, o) infixes) (sym s) i) h p x (loose (6 - l) (suc l) (omega arith) y)))
      (λ (q : eqb l j ≡ false). let d = eqb-false l j q in go (omega arith))
      (two (eqb l j))

  extend : {l : ℕ} {w : List Token} {e : Expr} → Tree a l w (t ∷ m) e → l ≤ j → (g : Expr) × Tree a l w r g
  extend (infix_operator i' h' p' x z) b = level_or_tighter (infix_operator i' h' p' x z) b (λ c. let g = extend z c in (_, infix_operator i' h' p' x g.1))
  extend (looser x) b = level_or_tighter (looser x) b (λ c. let g = extend x c in (g.0, looser g.1))
  extend (unary_minus h' x) b = let c = infix_below i in absurd (omega arith)
  extend (an_atom q) b = let c = infix_below i in absurd (omega arith)
  extend (an_integer q) b = let c = infix_below i in absurd (omega arith)
  extend (a_float q) b = let c = infix_below i in absurd (omega arith)
  extend (a_string q) b = let c = infix_below i in absurd (omega arith)
  extend (parentheses q x s) b = let c = infix_below i in absurd (omega arith)
  extend (a_list q x s) b = let c = infix_below i in absurd (omega arith)
  extend (a_call q n u x s) b = let c = infix_below i in absurd (omega arith)

all_above : every (λ (x : ℕ × ℕ × Op). ltb 0 x.0) infixes ≡ true
unfolding infixes
all_above = refl

pub some_tree : {a : Where} {w r : List Token} → Chain a w r → (e : Expr) × Tree a 1 w r e
some_tree (single {e} x) = (e, loose 6 1 refl x)
some_tree (joined {l} {k} {o} c i h p y) =
    extend i h p y (some_tree c).1 (ltb-true 0 l (every_at (λ (x : ℕ × ℕ × Op). ltb 0 x.0) infixes all_above (l, k, o) i))
