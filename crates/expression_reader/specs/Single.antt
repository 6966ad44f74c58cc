-- What the functions around the cycle of the reader have to do: a single token, a functor name before a parenthesis, elements, and a bracket that closes. Definitions only.
use Rattle.std.specs.Prelude.{ℕ, ◌+◌, ◌≤◌, ◌<◌, ◌≡◌, Bool, true, false, List, ◌∷◌, length}
use Rattle.paper_expressions.specs.Expressions.{Expr, Exprs, ε}
use Rattle.paper_expressions.proofs.Laws.Parentheses.{bares}
use Rattle.paper_guideline.specs.Limits.{guideline_limit, larger, depth, count, deepest, longest_lists}
use Rattle.paper_tokens.specs.Lexical.{Token, atom}
use Rattle.paper_tokens.specs.Terminals.{Terminal, name}
use Rattle.paper_guideline.specs.Refusals.{TokenBreach, TooManyOpen}
use Rattle.parts.specs.Part.{table, sizes, HoldsAll}
use Rattle.leaves.specs.declared.Word.{Word}
use Rattle.leaves.specs.Source.{Source, source, Here, Stand}
use Rattle.leaves.specs.Leaf.{Leaf, Says, SaysFunctor}
use Rattle.expression_steps.specs.declared.Built.{Built}
use Rattle.expression_steps.specs.Rows.{Kept, Beside}
use Rattle.expression_steps.specs.Levels.{kind_at}
use Rattle.expression_steps.specs.Made.{Standing, Fit, Done, Onward, Group, Heads}

-- the part that the token at p is by itself
abbrev pub SaysAt : Source → ℕ → Word → Type 0
SaysAt c p r = (t : Token) (e : Expr) → Here c p t → ¬ TokenBreach t → length c.text ≤ guideline_limit → Leaf t e → Says c.text e r

abbrev pub SaysHeadAt : List ℕ → List ℕ → List ℕ → ℕ → Word → Type 0
SaysHeadAt text places lengths p r =
    (kinds : List ℕ) (t : Token) → Here (source text kinds places lengths) p t → ¬ TokenBreach t → length text ≤ guideline_limit → t.rule ≡ atom → SaysFunctor text (name t) r

pub record ReadsSingle (c : Source) (x y : List ℕ) (p u : ℕ) (m : Built) : Type 0 where
  pub onward : Onward x y p u m
  pub done : (b d : ℕ) (r : List Token) (t : Token) (e : Expr) → Standing c b d p (t ∷ r) → Leaf t e → Done c x y b u r e m

-- whether an atom with a parenthesis behind it stands at p
pub record Calls (ks : List ℕ) (p : ℕ) (r : Bool) : Type 0 where
  pub room : r ≡ true → p + 1 < length ks
  pub yes : r ≡ true → (95 ≤ kind_at ks p) × (kind_at ks (p + 1) ≡ 76)
  pub no : r ≡ false → 95 ≤ kind_at ks p → kind_at ks p ≤ 97 → ¬ (kind_at ks (p + 1) ≡ 76)

-- the parenthesis at j closes what e measures
pub record Rounds (ks : List ℕ) (j : ℕ) (e m : Built) : Type 0 where
  pub ok : m.ok ≡ true
  pub next : m.next ≡ j + 1
  pub used : m.used ≡ e.used
  pub depth : e.depth + 1 ≤ length ks → m.depth ≡ e.depth + 1
  pub longest : m.longest ≡ e.longest

pub record Also (m e r : Built) : Type 0 where
  pub next : r.next ≡ e.next
  pub used : r.used ≡ e.used
  pub depth : r.depth ≡ larger m.depth e.depth
  pub longest : r.longest ≡ larger m.longest e.longest

-- of the elements es n are read, in the rows from u on, and fs are still to come, before the tokens r: with them, all are held.
-- The table was z before the first, and is y; e is the part that they will be operands of
pub record Left (c : Source) (z y : List ℕ) (r : List Token) (e : Expr) (u : ℕ) (es fs : Exprs) (n : ℕ) (m : Built) : Type 0 where
  pub many : count es ≡ n + count fs
  pub used : u + sizes (bares es) ≡ m.used + sizes (bares fs)
  pub depth : deepest es ≡ larger m.depth (deepest fs)
  pub longest : longest_lists es ≡ larger m.longest (longest_lists fs)
  pub held : Fit c z r e u → (v : List ℕ) → Kept m.used y v → HoldsAll (table v c.text) m.used (bares fs) → HoldsAll (table v c.text) u (bares es)

-- the next token closes n elements in the rows from u on
pub record Closes (ks x y : List ℕ) (u : ℕ) (s : Built) (n close : ℕ) (h : Word) (m : Built) : Type 0 where
  pub next : m.ok ≡ true → m.next ≡ s.next + 1
  pub used : m.ok ≡ true → m.used ≡ s.used + 1
  pub beside : Beside s.used (s.used + 1) x y
  pub done : (text places lengths z : List ℕ) (b : ℕ) (r : List Token) (t : Token) (es : Exprs) (e : Expr) → Stand (source text ks places lengths) s.next (t ∷ r)
      → ((q : ℕ) → ¬ TooManyOpen (b + 1) (t ∷ r) q) → Terminal t close → Group es close e → Heads (source text ks places lengths) r e h → length x ≡ length z
      → Left (source text ks places lengths) z x r e u es ε n s → depth e ≤ length ks → Done (source text ks places lengths) z y b u r e m
