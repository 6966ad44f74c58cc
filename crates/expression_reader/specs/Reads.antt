-- What the expression reader has to do: every expression that the tokens have is read once, its parts, depth and longest list are counted,
-- and the rows hold it without its parentheses, where no token is past a limit of its own and there is room. One reply for what has a tree.
use Rattle.std.specs.Prelude.{ℕ, suc, ◌+◌, ◌*◌, ◌-◌, ◌≤◌, ◌≡◌, refl, true, List, length}
use Rattle.std.proofs.Common.{sym, ap, ◌∙◌, arith}
use Rattle.paper_expressions.specs.Expressions.{Expr, Exprs, Atom, IntegerLit, FloatLit, StringLit, Paren, Listing, Apply, ε, ◌▸◌}
use Rattle.paper_expressions.proofs.Laws.Parentheses.{bare, bares}
use Rattle.paper_guideline.specs.Limits.{guideline_limit, bracket_limit, part_limit, parts, parts_of, depth, deepest, longest_list}
use Rattle.paper_tokens.specs.Lexical.{Token}
use Rattle.paper_guideline.specs.Tree.{Where, Tree}
use Rattle.paper_guideline.proofs.Laws.TreeLaws.{Ends}
use Rattle.paper_guideline.specs.Refusals.{TooManyOpen}
use Rattle.parts.specs.Part.{table, size, sizes, Holds, Within, Withins}
use Rattle.leaves.specs.Source.{Source, Stand, Clean}
use Rattle.expression_steps.specs.declared.Built.{Built}
use Rattle.expression_steps.specs.Levels.{stand_length}
use Rattle.expression_steps.specs.Larger.{first_larger, second_larger}
use Rattle.expression_steps.specs.Made.{Went, ReadsExpression}

-- the expression e is read, and behind it stand the tokens r
pub record Whole (c : Source) (x y : List ℕ) (u : ℕ) (r : List Token) (e : Expr) (m : Built) : Type 0 where
  pub ok : m.ok ≡ true
  pub stand : Stand c m.next r
  pub used : m.used ≡ u + parts e
  pub depth : m.depth ≡ depth e
  pub longest : m.longest ≡ longest_list e
  pub held : Clean c r → length c.text ≤ guideline_limit → u + parts e ≤ part_limit → (u + parts e) * 4 ≤ length x → Holds (table y c.text) u (bare e)

pub record Reads (a : Where) (c : Source) (x y : List ℕ) (p u : ℕ) (m : Built) : Type 0 where
  pub onward : m.ok ≡ true → Went x y p u m
  pub done : (b : ℕ) (w r : List Token) (e : Expr) → Stand c p w → Tree a 1 w r e → Ends a r → ((q : ℕ) → ¬ TooManyOpen b w q) → Whole c x y u r e m

-- ---- laws

mutual
  pub bare_size : (e : Expr) → size (bare e) ≡ size e
  bare_size (Atom n) = refl
  bare_size (IntegerLit n) = refl
  bare_size (FloatLit n) = refl
  bare_size (StringLit n) = refl
  bare_size (Paren e) = bare_size e
  bare_size (Listing es) = ap suc (bare_sizes es)
  bare_size (Apply o es) = ap suc (bare_sizes es)

  bare_sizes : (es : Exprs) → sizes (bares es) ≡ sizes es
  bare_sizes ε = refl
  bare_sizes (e ▸ es) = let i = bare_size e in let j = bare_sizes es in omega arith

mutual
  pub parts_size : (e : Expr) → parts e ≡ size e
  parts_size (Atom a) = refl
  parts_size (IntegerLit n) = refl
  parts_size (FloatLit n) = refl
  parts_size (StringLit s) = refl
  parts_size (Paren e) = parts_size e
  parts_size (Listing es) = ap suc (parts_sizes es)
  parts_size (Apply o es) = ap suc (parts_sizes es)

  parts_sizes : (es : Exprs) → parts_of es ≡ sizes es
  parts_sizes ε = refl
  parts_sizes (e ▸ es) = let i = parts_size e in let j = parts_sizes es in omega arith

-- every bracket that is allowed is still to come
pub whole_read : {a : Where} {c : Source} {x y : List ℕ} {p u : ℕ} {m : Built} → ReadsExpression a c x y p u bracket_limit m → Reads a c x y p u m
whole_read h = record {
  onward = h.onward;
  done = λ b w r e s y end o.
      let d = h.done b w r e (record { stand = s; brackets = o; deep = omega arith }) end y in
      let i = bare_size e in
      let j = parts_size e in
      let v = d.used in
      record {
        ok = d.ok;
        stand = d.stand;
        used = omega arith;
        depth = d.depth;
        longest = d.longest;
        held = λ cl sh few room. d.held (record { tidy = record { clean = cl; short = sh }; few = omega arith; room = omega arith });
      };
}

-- two replies for tokens that have a tree are the same
pub record Agree (m n : Built) : Type 0 where
  pub ok : m.ok ≡ n.ok
  pub next : m.next ≡ n.next
  pub used : m.used ≡ n.used
  pub depth : m.depth ≡ n.depth
  pub longest : m.longest ≡ n.longest

pub one_reading : {a : Where} {c : Source} {x y z : List ℕ} {p u b : ℕ} {m n : Built} {w r : List Token} {e : Expr} → Stand c p w → Tree a 1 w r e → Ends a r → ((q : ℕ) → ¬ TooManyOpen b w q)
    → Reads a c x y p u m → Reads a c x z p u n → Agree m n
one_reading {b = b} {w = w} {r} {e} s t end o f g =
    let i = f.done b w r e s t end o in
    let j = g.done b w r e s t end o in
    let l = stand_length i.stand in
    let l' = stand_length j.stand in
    record { ok = i.ok ∙ sym j.ok; next = omega arith; used = i.used ∙ sym j.used; depth = i.depth ∙ sym j.depth; longest = i.longest ∙ sym j.longest }

-- the depth is that which the part table's users fall by
mutual
  pub within_depth : (d : ℕ) (e : Expr) → depth e ≤ d → Within d (bare e)
  within_depth d (Atom a) h = omega arith
  within_depth d (IntegerLit n) h = omega arith
  within_depth d (FloatLit n) h = omega arith
  within_depth d (StringLit s) h = omega arith
  within_depth d (Paren e) h = within_depth d e (omega arith)
  within_depth d (Listing es) h = (omega arith, withins_depth (d - 1) es (omega arith))
  within_depth d (Apply o es) h = (omega arith, withins_depth (d - 1) es (omega arith))

  withins_depth : (d : ℕ) (es : Exprs) → deepest es ≤ d → Withins d (bares es)
  withins_depth d ε h = tt
  withins_depth d (e ▸ es) h =
      let i = first_larger (depth e) (deepest es) in
      let j = second_larger (depth e) (deepest es) in
      (within_depth d e (omega arith), withins_depth d es (omega arith))
