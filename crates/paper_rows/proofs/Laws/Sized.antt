-- How large a guideline that loads is: its counts, and that no literal, text or list of its expressions passes a limit and no byte of its texts is over 127; and so of the bare guideline.
use Rattle.std.specs.Prelude.{ℕ, suc, ◌≤◌, ◌≡◌, refl, List, [], ◌∷◌, length}
use Rattle.std.proofs.Common.{arith, sym, ap, subst, ◌∙◌}
use Rattle.std.proofs.lemmas.List.{length-map}
use Rattle.paper_expressions.specs.View.{At}
use Rattle.paper_expressions.specs.Expressions.{Expr, Exprs, Atom, IntegerLit, FloatLit, StringLit, Paren, Listing, Apply, ε, ◌▸◌}
use Rattle.paper_expressions.proofs.Laws.WithinLimits.{Modest, AllModest, size, atom_modest, integer_modest, float_modest, string_modest, paren_modest, listing_modest, apply_modest, none_modest, more_modest}
use Rattle.paper_expressions.proofs.Laws.Parentheses.{bare, bares}
use Rattle.paper_guideline.specs.Structure.{TopLevel, tasks, data_items}
use Rattle.paper_guideline.specs.Parts.{Typed, expressions, assignments, sources}
use Rattle.paper_guideline.specs.Limits.{task_limit, data_item_limit, assignment_limit, source_limit}
use Rattle.paper_rows.specs.Bare.{bare_task, bare_item, bare_assignment, bare_guideline}
use Rattle.paper_rows.proofs.Laws.Lists.{map_at}
use Rattle.paper_rows.proofs.Laws.BareLaws.{bare_origin, bare_typed, bare_tasks, bare_items, assignments_bare, sources_bare, bare_expressions}

abbrev pub Ascii : List ℕ → Type 0
Ascii s = (i b : ℕ) → At s i b → b ≤ 127

-- the texts of an expression
abbrev mutual
  pub Plain : Expr → Type 0
  Plain (Atom a) = Ascii a
  Plain (IntegerLit n) = Unit {0}
  Plain (FloatLit n) = Unit {0}
  Plain (StringLit s) = Ascii s
  Plain (Paren e) = Plain e
  Plain (Listing es) = AllPlain es
  Plain (Apply o es) = AllPlain es

  pub AllPlain : Exprs → Type 0
  AllPlain ε = Unit {0}
  AllPlain (e ▸ es) = Plain e × AllPlain es

pub record Sized (g : List TopLevel) : Type 0 where
  pub few_tasks : length (tasks g) ≤ task_limit
  pub few_items : length (data_items g) ≤ data_item_limit
  pub few_assignments : length (assignments g) ≤ assignment_limit
  pub few_sources : length (sources g) ≤ source_limit
  pub modest : {i : ℕ} {x : Typed} → At (expressions g) i x → Modest x.expression.tree
  pub plain : {i : ℕ} {x : Typed} → At (expressions g) i x → Plain x.expression.tree

-- ---- without parentheses

size_bare : (es : Exprs) → size (bares es) ≡ size es
size_bare ε = refl
size_bare (e ▸ es) = ap suc (size_bare es)

mutual
  modest_bare : {e : Expr} → Modest e → Modest (bare e)
  modest_bare (atom_modest h) = atom_modest h
  modest_bare (integer_modest h) = integer_modest h
  modest_bare (float_modest h) = float_modest h
  modest_bare (string_modest h) = string_modest h
  modest_bare (paren_modest h) = modest_bare h
  modest_bare (listing_modest {es} b h) = listing_modest {es = bares es} (let e = size_bare es in omega arith) (all_modest_bare h)
  modest_bare (apply_modest h) = apply_modest (all_modest_bare h)

  all_modest_bare : {es : Exprs} → AllModest es → AllModest (bares es)
  all_modest_bare none_modest = none_modest
  all_modest_bare (more_modest h hs) = more_modest (modest_bare h) (all_modest_bare hs)

mutual
  plain_bare : (e : Expr) → Plain e → Plain (bare e)
  plain_bare (Atom a) h = h
  plain_bare (IntegerLit n) h = tt
  plain_bare (FloatLit n) h = tt
  plain_bare (StringLit s) h = h
  plain_bare (Paren e) h = plain_bare e h
  plain_bare (Listing es) h = all_plain_bare es h
  plain_bare (Apply o es) h = all_plain_bare es h

  all_plain_bare : (es : Exprs) → AllPlain es → AllPlain (bares es)
  all_plain_bare ε h = tt
  all_plain_bare (e ▸ es) h = (plain_bare e h.0, all_plain_bare es h.1)

pub bare_sized : {g : List TopLevel} → Sized g → Sized (bare_guideline g)
bare_sized {g} s =
    record {
      few_tasks = omega (arith, ap length (bare_tasks g), length-map (tasks g) bare_task, s.few_tasks);
      few_items = omega (arith, ap length (bare_items g), length-map (data_items g) bare_item, s.few_items);
      few_assignments = omega (arith, ap length (assignments_bare g), length-map (assignments g) bare_assignment, s.few_assignments);
      few_sources = omega (arith, ap length (sources_bare g), length-map (sources g) bare_origin, s.few_sources);
      modest = λ {i} {x} h. let a = its h in subst (λ (y : Typed). Modest y.expression.tree) a.2 (modest_bare (s.modest a.1));
      plain = λ {i} {x} h. let a = its h in subst (λ (y : Typed). Plain y.expression.tree) a.2 (plain_bare a.0.expression.tree (s.plain a.1));
    }
  where
    its : {i : ℕ} {y : Typed} → At (expressions (bare_guideline g)) i y → (x : Typed) × At (expressions g) i x × (bare_typed x ≡ y)
    its {i} {y} h = map_at bare_typed (expressions g) (subst (λ (l : List Typed). At l i y) (bare_expressions g) h)
