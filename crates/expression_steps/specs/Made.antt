-- What the functions of the expression reader have to do: for every tree that the tokens have, the numbers are its measures, and the rows hold it. Definitions only.
use Rattle.std.specs.Prelude.{ℕ, zero, suc, ◌+◌, ◌*◌, ◌-◌, ◌≤◌, ◌<◌, ◌≡◌, true, false, eqb, length, get_or}
use mathlib.Core.List.{List, ◌∷◌, Memᴰ}
use Rattle.paper_expressions.specs.Operators.{Op, negate}
use Rattle.paper_expressions.specs.Expressions.{Expr, Exprs, Listing, Apply, ε, ◌▸◌}
use Rattle.paper_expressions.proofs.Laws.Parentheses.{bare}
use Rattle.paper_guideline.specs.Limits.{guideline_limit, bracket_limit, part_limit, larger, depth, longest_list}
use Rattle.paper_tokens.specs.Lexical.{Token}
use Rattle.paper_tokens.specs.Terminals.{Terminal}
use Rattle.paper_guideline.specs.Tree.{infixes, Where, MayStand, Tree, Trees}
use Rattle.paper_guideline.proofs.Laws.TreeLaws.{Ends}
use Rattle.paper_guideline.specs.Refusals.{TooManyOpen}
use Rattle.parts.specs.Part.{table, size, Holds}
use Rattle.leaves.specs.declared.Word.{Word}
use Rattle.leaves.specs.Leaf.{Says}
use Rattle.leaves.specs.Source.{Source, source, Stand, Clean}
use Rattle.expression_steps.specs.declared.Built.{Built}
use Rattle.expression_steps.specs.declared.operators.Operand.{Operand}
use Rattle.expression_steps.specs.Rows.{Beside, Put}
use Rattle.expression_steps.specs.Levels.{level_of, level_in, kind_of}

-- the tokens from p on are w; with b brackets open before them and d more allowed, no limit on brackets is passed
pub record Standing (c : Source) (b d p : ℕ) (w : List Token) : Type 0 where
  pub stand : Stand c p w
  pub brackets : (q : ℕ) → ¬ TooManyOpen b w q
  pub deep : bracket_limit ≤ b + d

-- no token before r is past a limit of its own
pub record Tidy (c : Source) (r : List Token) : Type 0 where
  pub clean : Clean c r
  pub short : length c.text ≤ guideline_limit

-- that, and there is room for the rows before v
pub record Sound (c : Source) (x : List ℕ) (v : ℕ) (r : List Token) : Type 0 where
  pub tidy : Tidy c r
  pub few : v ≤ part_limit
  pub room : v * 4 ≤ length x

-- the expression e is read: behind it stand the tokens r, the numbers are its measures, and the rows of y from u on hold it
pub record Done (c : Source) (x y : List ℕ) (b u : ℕ) (r : List Token) (e : Expr) (m : Built) : Type 0 where
  pub ok : m.ok ≡ true
  pub stand : Stand c m.next r
  pub brackets : (q : ℕ) → ¬ TooManyOpen b r q
  pub used : m.used ≡ u + size (bare e)
  pub depth : m.depth ≡ depth e
  pub longest : m.longest ≡ longest_list e
  pub held : Sound c x (u + size (bare e)) r → Holds (table y c.text) u (bare e)

-- what is accepted has a token, no more parts than tokens, and changes no other row
pub record Went (x y : List ℕ) (p u : ℕ) (m : Built) : Type 0 where
  pub on : p < m.next
  pub few : m.used + p ≤ m.next + u
  pub more : u ≤ m.used
  pub beside : Beside u m.used x y

abbrev pub Onward : List ℕ → List ℕ → ℕ → ℕ → Built → Type 0
Onward x y p u m = m.ok ≡ true → Went x y p u m

-- a tree of level l, 7 or 8, that no parenthesis follows
pub record ReadsOperand (l : ℕ) (c : Source) (x y : List ℕ) (p u d : ℕ) (m : Built) : Type 0 where
  pub onward : Onward x y p u m
  pub done : (a : Where) (b : ℕ) (w r : List Token) (e : Expr) → Standing c b d p w → eqb (kind_of r) 76 ≡ false → Tree a l w r e → Done c x y b u r e m

pub record ReadsExpression (a : Where) (c : Source) (x y : List ℕ) (p u d : ℕ) (m : Built) : Type 0 where
  pub onward : Onward x y p u m
  pub done : (b : ℕ) (w r : List Token) (e : Expr) → Standing c b d p w → Ends a r → Tree a 1 w r e → Done c x y b u r e m

-- what elements are, by the terminal that closes them: a list, or a call
pub data Group (es : Exprs) : ℕ → Expr → Type 0 where
  a_list : Group es 79 (Listing es)
  a_call : {o : Op} → Group es 77 (Apply o es)

-- the kind and the load of the part of elements, where no token before r is past a limit of its own
abbrev pub Heads : Source → List Token → Expr → Word → Type 0
Heads c r e h = Tidy c r → Says c.text e h

pub record ReadsList (close : ℕ) (h : Word) (c : Source) (x y : List ℕ) (p u d : ℕ) (m : Built) : Type 0 where
  pub onward : Onward x y p u m
  pub done : (b : ℕ) (w r : List Token) (t : Token) (es : Exprs) (e : Expr) → Standing c (b + 1) d p w → Terminal t close → Trees w (t ∷ r) es
      → Group es close e → Heads c r e h → Done c x y b u r e m

-- ---- the steps

pub record Puts (x y : List ℕ) (v k n a l : ℕ) : Type 0 where
  pub beside : Beside v (v + 1) x y
  pub done : v < part_limit → a ≤ v → n ≤ part_limit → (v + 1) * 4 ≤ length x → Put x y v k n (v + 1 - a) l

-- m minuses before e
abbrev pub minuses : ℕ → Expr → Expr
minuses zero e = e
minuses (suc m) e = Apply negate (minuses m e ▸ ε)

-- the minuses from p up to q are taken off
pub record Taken (c : Source) (a : Where) (b d p q : ℕ) (r : List Token) (e : Expr) : Type 0 where
  pub rest : List Token
  pub inner : Expr
  pub standing : Standing c b d q rest
  pub tree : Tree a 8 rest r inner
  pub is : e ≡ minuses (q - p) inner

pub record TakesMinuses (ks : List ℕ) (p q : ℕ) : Type 0 where
  pub onward : p ≤ q
  pub done : (text places lengths : List ℕ) (a : Where) (b d : ℕ) (w r : List Token) (e : Expr) → Standing (source text ks places lengths) b d p w → Tree a 7 w r e
      → Taken (source text ks places lengths) a b d p q r e

-- m minuses are put on what the rows from u up to v hold
pub record Negates (x y : List ℕ) (u v m : ℕ) : Type 0 where
  pub beside : Beside v (v + m) x y
  pub done : (text : List ℕ) (e : Expr) → Holds (table x text) u (bare e) → v ≡ u + size (bare e) → v + m ≤ part_limit → (v + m) * 4 ≤ length x
      → Holds (table y text) u (bare (minuses m e))

-- ---- operators that wait

-- the table z, before anything of the expression e was written to its rows from u on, has room for it, and no token is past a limit of its own
abbrev pub Fit : Source → List ℕ → List Token → Expr → ℕ → Type 0
Fit c z r e u = Sound c z (u + size (bare e)) r

-- Around .. n p y l m f: the whole expression is e, before the tokens r, in the rows from u on. If f is a tree at level l before the tokens m,
-- in the rows from p on, behind n operators that wait, it is the whole. The operator i of the stack is of terminal `get_or ks i 0`, and its left
-- operand stands in the rows from `get_or fs i 0` on and has the depth `get_or ds i 0`; no list in the left operands has more than y elements.
pub data Around (c : Source) (z x ks fs ds : List ℕ) (a : Where) (r : List Token) (e : Expr) (u : ℕ) : ℕ → ℕ → ℕ → ℕ → List Token → Expr → Type 0 where
  whole : Around c z x ks fs ds a r e u 0 u 0 1 r e
  held_looser : {n p y l : ℕ} {m : List Token} {f : Expr} → Around c z x ks fs ds a r e u n p y l m f → Around c z x ks fs ds a r e u n p y (suc l) m f
  -- it is the left operand of the operator behind it
  on_left : {n p y l k : ℕ} {o : Op} {t : Token} {m s : List Token} {f g : Expr}
      → Memᴰ (l, k, o) infixes → Terminal t k → MayStand a k → Tree a (suc l) m s g
      → Around c z x ks fs ds a r e u n p y l s (Apply o (f ▸ g ▸ ε)) → Around c z x ks fs ds a r e u n p y l (t ∷ m) f
  -- it is the right operand of the last operator that waits
  on_right : {n p y l k : ℕ} {o : Op} {m : List Token} {f g : Expr}
      → Memᴰ (l, k, o) infixes → get_or ks n 0 ≡ k → get_or fs n 0 ≡ p → get_or ds n 0 ≡ depth f → (Fit c z r e u → Holds (table x c.text) p (bare f))
      → Around c z x ks fs ds a r e u n p y l m (Apply o (f ▸ g ▸ ε))
      → Around c z x ks fs ds a r e u (suc n) (p + size (bare f)) (larger y (longest_list f)) (suc l) m g

-- what stands around the operand o; v is the most elements of a list in it or before it
pub record Settled (c : Source) (z x ks fs ds : List ℕ) (a : Where) (r : List Token) (e : Expr) (u : ℕ) (m : List Token) (o : Operand) (v : ℕ) : Type 0 where
  pub y : ℕ
  pub level : ℕ
  pub operand : Expr
  pub around : Around c z x ks fs ds a r e u o.n o.from y level m operand
  pub used : o.used ≡ o.from + size (bare operand)
  pub deep : o.depth ≡ depth operand
  pub longest : v ≡ larger y (longest_list operand)
  pub held : Fit c z r e u → Holds (table x c.text) o.from (bare operand)

-- the operators that wait and are not looser than l are applied
abbrev pub Settles : List ℕ → List ℕ → List ℕ → List ℕ → List ℕ → Operand → ℕ → ℕ → Operand → Type 0
Settles x y ks fs ds o l most o' =
    (c : Source) (z : List ℕ) (a : Where) (r : List Token) (e : Expr) (u : ℕ) (m : List Token) (v : ℕ) → Ends a r → level_in a (kind_of m) ≡ l → depth e ≤ most
    → length x ≡ length z → Settled c z x ks fs ds a r e u m o v → Settled c z y ks fs ds a r e u m o' v

pub record Reduces (x y ks fs ds : List ℕ) (o : Operand) (l most : ℕ) (r : Operand) : Type 0 where
  pub few : r.n ≤ o.n
  pub sum : r.used + r.n ≡ o.used + o.n
  pub looser : 0 < r.n → level_of (get_or ks (r.n - 1) 0) < l
  pub beside : Beside o.used r.used x y
  pub done : Settles x y ks fs ds o l most r
