-- Laws of what holds tightest: brackets that open and close, a single token, and minuses before it. By the first token of a tree.
use Rattle.std.specs.Prelude.{ℕ, suc, ◌+◌, ◌-◌, ◌≤◌, ◌<◌, ◌≡◌, refl, true, false, List, [], ◌∷◌, eqb, leb, length, get_or}
use Rattle.std.proofs.Common.{sym, ap, subst, ◌∙◌, ⊎_elim, arith, leb-true, leb-false}
use Rattle.paper_expressions.proofs.Laws.Tests.{two, contra}
use Rattle.paper_expressions.proofs.Laws.Functors.{functor_f}
use Rattle.paper_expressions.specs.Expressions.{Expr, Exprs, Listing, Apply, ε, ◌▸◌}
use Rattle.paper_expressions.proofs.Laws.Parentheses.{bare, bares}
use Rattle.paper_guideline.specs.Limits.{guideline_limit, bracket_limit, part_limit, larger, depth, count, deepest, longest_list}
use Rattle.paper_tokens.specs.Lexical.{Token, atom, part}
use Rattle.paper_tokens.specs.Terminals.{Terminal, name}
use Rattle.paper_tokens.specs.Terminals
use Rattle.paper_guideline.specs.Tree.{Where, anywhere, Tree, Trees, empty, nonempty}
use Rattle.paper_guideline.specs.Refusals.{TokenBreach, TooManyOpen, one_too_many, one_more_open, one_fewer_open, Opening, opens_round, opens_square, Closing, closes_round, closes_square}
use Rattle.paper_tokens.proofs.Laws.TerminalLaws.{terminal_f, terminal_is, atom-kind}
use Rattle.parts.specs.Operands.{size_pos}
use Rattle.parts.specs.Part.{table, size, sizes, number_of, Root, Holds, HoldsAll}
use Rattle.leaves.specs.declared.Word.{Word}
use Rattle.leaves.specs.Source.{Source, Here, Stand}
use Rattle.leaves.specs.Leaf.{Leaf, Says, SaysFunctor, SaysLeaf, SaysHead, Read, atom_range}
use Rattle.leaves.specs.Leaf as L
use Rattle.expression_steps.specs.declared.Built.{Built}
use Rattle.expression_steps.specs.Rows.{Beside, Put, all_kept, put_root}
use Rattle.expression_steps.specs.Levels.{kind_at, kind_of, stand_kind, stand_length}
use Rattle.expression_steps.specs.Views.{First, one_token, round, square, call, first_token, leaf_kind, no_tree, some_shorter, round_ends}
use Rattle.expression_steps.specs.Larger.{larger_none, tree_deep, minuses_depth, minuses_longest}
use Rattle.expression_steps.specs.Made.{Standing, Tidy, Sound, Done, Onward, ReadsOperand, ReadsExpression, ReadsList, Group, a_list, a_call, Heads, Puts, Taken, Negates}
use Rattle.expression_steps.specs.StepLaws.{quiet_above, quiet_brackets, quiet_next, stand_next, stand_here, minuses_size}
use Rattle.expression_reader.specs.Single.{SaysAt, SaysHeadAt, ReadsSingle, Rounds, Left}

abbrev pub built : ℕ → ℕ → ℕ → ℕ → Built
built j v q l = record { ok = true; next = j; used = v; depth = q; longest = l }

-- what is refused claims nothing
pub none_onward : {x y : List ℕ} {p u : ℕ} {m : Built} → m.ok ≡ false → Onward x y p u m
none_onward h e = contra (sym h ∙ e)

-- no expression is deeper than there are tokens
pub depth_within : {c : Source} {b d p l : ℕ} {a : Where} {w r : List Token} {e : Expr} → Standing c b d p w → Tree a l w r e → depth e ≤ length c.kinds
depth_within s y = let h = tree_deep y in let g = stand_length s.stand in omega arith

tidy_more : (c : Source) (r s : List Token) → length r ≤ length s → Tidy c r → Tidy c s
tidy_more c r s h f = record { clean = λ i t e g. f.clean i t e (omega arith); short = f.short }

-- fewer rows, before more tokens
pub sound_less : {c : Source} {x y : List ℕ} {v w : ℕ} {r s : List Token} → v ≤ w → length r ≤ length s → length y ≡ length x → Sound c x w r → Sound c y v s
sound_less {c} {r = r} {s} h l g f = let a = f.few in let b = f.room in record { tidy = tidy_more c r s l f.tidy; few = omega arith; room = omega arith }

-- ---- brackets

-- an opening bracket: one more is open, one fewer is left
record Opened (c : Source) (b d p : ℕ) (w : List Token) : Type 0 where
  some : 0 < d
  standing : Standing c (b + 1) (d - 1) (p + 1) w

not_yet : (b : ℕ) → ¬ (bracket_limit ≤ b) → b < bracket_limit
not_yet b h = ⊎_elim (λ (e : leb bracket_limit b ≡ true). absurd (h (leb-true bracket_limit b e))) (λ (e : leb bracket_limit b ≡ false). leb-false bracket_limit b e) (two (leb bracket_limit b))

open_bracket : {c : Source} {b d p : ℕ} {t : Token} {w : List Token} → Opening t → Standing c b d p (t ∷ w) → Opened c b d p w
open_bracket {b = b} {t = t} o f =
    let l = not_yet b (λ g. f.brackets t.place (one_too_many o g)) in
    let d = f.deep in
    record { some = omega arith; standing = record { stand = stand_next f.stand; brackets = λ q h. f.brackets q (one_more_open o h); deep = omega arith } }

close_bracket : {b : ℕ} {t : Token} {r : List Token} → Closing t → ((q : ℕ) → ¬ TooManyOpen (b + 1) (t ∷ r) q) → (q : ℕ) → ¬ TooManyOpen b r q
close_bracket {b} {t} {r} o f q h = let e : b ≡ b + 1 - 1 = omega arith in f q (one_fewer_open o (subst (λ (n : ℕ). TooManyOpen n r q) e h))

-- ---- a single token

leaf_top : {t : Token} {e : Expr} → Leaf t e → terminal_f t ≤ 100
leaf_top {t} (L.an_atom h) = atom-kind t h (λ (k : ℕ). k ≤ 100) (omega arith) (omega arith) (omega arith)
leaf_top {t} (L.an_integer h) = let e : terminal_f t ≡ 98 = terminal_is (Terminals.an_integer h) in omega arith
leaf_top {t} (L.a_float h) = let e : terminal_f t ≡ 99 = terminal_is (Terminals.a_float h) in omega arith
leaf_top {t} (L.a_string h) = let e : terminal_f t ≡ 100 = terminal_is (Terminals.a_string h) in omega arith

leaf_measures : {t : Token} {e : Expr} → Leaf t e → (size (bare e) ≡ 1) × (depth e ≡ 1) × (longest_list e ≡ 0)
leaf_measures (L.an_atom q) = (refl, refl, refl)
leaf_measures (L.an_integer q) = (refl, refl, refl)
leaf_measures (L.a_float q) = (refl, refl, refl)
leaf_measures (L.a_string q) = (refl, refl, refl)

leaf_held : {t : Token} {e : Expr} {x y : List ℕ} (text : List ℕ) (u : ℕ) (w : Word) → u < part_limit → u + 1 - u ≡ 1 → Leaf t e → Says text e w → Put x y u w.kind 0 (u + 1 - u) w.load
    → Holds (table y text) u (bare e)
leaf_held text u w h o (L.an_atom q) s p = put_root text _ u w.kind 0 (u + 1 - u) w.load p s.kind refl o s.load
leaf_held text u w h o (L.an_integer q) s p = put_root text _ u w.kind 0 (u + 1 - u) w.load p s.kind refl o s.load
leaf_held text u w h o (L.a_float q) s p = put_root text _ u w.kind 0 (u + 1 - u) w.load p s.kind refl o s.load
leaf_held text u w h o (L.a_string q) s p = put_root text _ u w.kind 0 (u + 1 - u) w.load p s.kind refl o s.load

module _ {c : Source} {b d p : ℕ} {r : List Token} {t : Token} {e : Expr} (f : Standing c b d p (t ∷ r)) (l : Leaf t e) where
  pub single_kind : (95 ≤ kind_at c.kinds p) × (kind_at c.kinds p ≤ 100)
  single_kind = let a = leaf_kind l in let z = leaf_top l in let i = stand_kind f.stand in (omega arith, omega arith)

  pub single_done : {x y : List ℕ} {u : ℕ} (w : Word) → SaysAt c p w → Puts x y u w.kind 0 u w.load → Done c x y b u r e (built (p + 1) (u + 1) 1 0)
  single_done {x} {y} {u} w s q =
      let z = leaf_measures l in
      let k = leaf_kind l in
      let n = z.0 in
      let h = stand_here f.stand in
      let m = stand_length f.stand in
      record {
        ok = refl;
        stand = stand_next f.stand;
        brackets = quiet_brackets (quiet_above t (omega arith)) f.brackets;
        used = omega arith;
        depth = sym z.1;
        longest = sym z.2;
        held = λ g.
            let few = g.few in
            let room = g.room in
            leaf_held c.text u w (omega arith) (omega arith) l (s t e h (g.tidy.clean p t h (omega arith)) g.tidy.short l) (q.done (omega arith) (omega arith) (omega arith) (omega arith));
      }

-- the cells of the columns, as the code reads them
module _ {c : Source} {p at n : ℕ} {t : Token} (h : Here c p t) where
  pub token_fits : at ≡ get_or c.places p 0 → n ≡ get_or c.lengths p 0 → at + n ≤ length c.text
  token_fits a b = let w = h.within in omega arith

  token_read : {k : ℕ} → ¬ TokenBreach t → length c.text ≤ guideline_limit → at ≡ get_or c.places p 0 → n ≡ get_or c.lengths p 0 → k ≡ get_or c.kinds p 0 → Read c.text k at n t
  token_read b s ea en ek = record { terminal = subst (Terminal t) (sym ek) h.terminal; bytes = h.bytes ∙ ap (λ (i : ℕ). part c.text i (get_or c.lengths p 0)) (sym ea) ∙ ap (λ (i : ℕ). part c.text at i) (sym en); clean = b; short = s }

  pub said_leaf : {k : ℕ} {e : Expr} (w : Word) → ¬ TokenBreach t → length c.text ≤ guideline_limit → Leaf t e → at ≡ get_or c.places p 0 → n ≡ get_or c.lengths p 0 → k ≡ get_or c.kinds p 0
      → SaysLeaf c.text k at n w → Says c.text e w
  said_leaf {e = e} w b s l ea en ek f = f t e (token_read b s ea en ek) l

  pub said_head : (w : Word) → ¬ TokenBreach t → length c.text ≤ guideline_limit → t.rule ≡ atom → at ≡ get_or c.places p 0 → n ≡ get_or c.lengths p 0
      → SaysHead c.text at n w → SaysFunctor c.text (name t) w
  said_head w b s l ea en f = f t (get_or c.kinds p 0) (token_read b s ea en refl) l

-- ---- a bracket that closes

group_held : {text : List ℕ} {es : Exprs} {e : Expr} {x y : List ℕ} {close : ℕ} (u w n s : ℕ) (h : Word) → w < part_limit → w ≡ u + sizes (bares es) → n ≡ number_of (bares es)
    → s ≡ suc (sizes (bares es)) → Group es close e → Says text e h → HoldsAll (table x text) u (bares es) → Beside w (w + 1) x y → Put x y w h.kind n s h.load → Holds (table y text) u (bare e)
group_held {text} {es} {x = x} {y} u w n s h g ew en es' a_list says d b p =
    (all_kept text b.before (bares es) u (omega arith) d, subst (λ (i : ℕ). Root (table y text) i (Listing (bares es))) ew (put_root text (Listing (bares es)) w h.kind n s h.load p says.kind en es' says.load))
group_held {text} {es} {x = x} {y} u w n s h g ew en es' (a_call {o = o}) says d b p =
    (all_kept text b.before (bares es) u (omega arith) d, subst (λ (i : ℕ). Root (table y text) i (Apply o (bares es))) ew (put_root text (Apply o (bares es)) w h.kind n s h.load p says.kind en es' says.load))

pub group_size : {es : Exprs} {e : Expr} {close : ℕ} → Group es close e → size (bare e) ≡ suc (sizes (bares es))
group_size a_list = refl
group_size a_call = refl

pub group_depth : {es : Exprs} {e : Expr} {close : ℕ} → Group es close e → depth e ≡ suc (deepest es)
group_depth a_list = refl
group_depth a_call = refl

group_closing : {es : Exprs} {e : Expr} {t : Token} {close : ℕ} → Group es close e → Terminal t close → Closing t
group_closing a_list h = closes_square h
group_closing a_call h = closes_round h

count_number : (es : Exprs) → count es ≡ number_of (bares es)
count_number ε = refl
count_number (e ▸ es) = ap suc (count_number es)

number_size : (es : Exprs) → number_of es ≤ sizes es
number_size ε = omega arith
number_size (e ▸ es) = let a = size_pos e in let b = number_size es in omega arith

-- the longest list of all the elements
group_longest : {c : Source} {z x : List ℕ} {r : List Token} {es : Exprs} {f e : Expr} {n u close : ℕ} {s : Built} (l : ℕ) → Left c z x r f u es ε n s → Group es close e
    → (close ≡ 79 → l ≡ larger n s.longest) → (¬ (close ≡ 79) → l ≡ s.longest) → l ≡ longest_list e
group_longest {es = es} {n = n} {s = s} l left a_list f g =
    let a = left.many in let d = left.longest in let z = larger_none s.longest in
    let n1 : count es ≡ n = omega arith in
    let v = f refl in
    cc
group_longest {s = s} l left a_call f g = let d = left.longest in let z = larger_none s.longest in let v = g (λ e. omega arith) in cc

pub closed_done : {c : Source} {z x y : List ℕ} {r : List Token} {t : Token} {es : Exprs} {e : Expr} {n u b close : ℕ} {s : Built} {h : Word} (q l : ℕ) → Stand c s.next (t ∷ r)
    → ((q : ℕ) → ¬ TooManyOpen (b + 1) (t ∷ r) q) → Terminal t close → Group es close e → Heads c r e h → length x ≡ length z → Left c z x r e u es ε n s
    → depth e ≤ length c.kinds → (s.depth + 1 ≤ length c.kinds → q ≡ s.depth + 1) → (close ≡ 79 → l ≡ larger n s.longest) → (¬ (close ≡ 79) → l ≡ s.longest)
    → Puts x y s.used h.kind n u h.load → Done c z y b u r e (built (s.next + 1) (s.used + 1) q l)
closed_done {c} {z} {x} {y} {es = es} {n = n} {u} {s = s} {h} q l f o tm g hd lg left k dp l1 l2 p =
    let us = left.used in
    let gs = group_size g in
    let gd = group_depth g in
    let ld = left.depth in
    let ln = larger_none s.depth in
    let qd = dp (omega arith) in
    let mn = left.many in
    let cn = count_number es in
    let ns = number_size (bares es) in
    record {
      ok = refl;
      stand = stand_next f;
      brackets = close_bracket (group_closing g tm) o;
      used = omega arith;
      depth = omega arith;
      longest = group_longest l left g l1 l2;
      held = λ t.
          let few = t.few in
          let room = t.room in
          group_held u s.used n (s.used + 1 - u) h (omega arith) (omega arith) (omega arith) (omega arith) g (hd t.tidy) (left.held t x (record { same = λ i j. refl }) tt) p.beside
          (p.done (omega arith) (omega arith) (omega arith) (omega arith));
    }

-- ---- minuses

module _ {c : Source} {x y : List ℕ} {a : Where} {b d p q u : ℕ} {r : List Token} {e : Expr} {m : Built} (s : Taken c a b d p q r e) (reads : ReadsOperand 8 c x y q u d m)
    (nc : eqb (kind_of r) 76 ≡ false) where
  pub inner_read : Done c x y b u r s.inner m
  inner_read = reads.done a b s.rest r s.inner s.standing nc s.tree

  pub operand_done : {z : List ℕ} {k : ℕ} → length y ≡ length x → depth e ≤ length c.kinds → Negates y z u m.used (q - p) → (m.depth + (q - p) ≤ length c.kinds → k ≡ m.depth + (q - p))
      → Done c x z b u r e (built m.next (m.used + (q - p)) k m.longest)
  operand_done {z} {k} lg dp g h =
      let i = inner_read in
      let us = i.used in
      let ms = ap (λ (i : Expr). size (bare i)) s.is ∙ minuses_size (q - p) s.inner in
      let md = ap depth s.is ∙ minuses_depth (q - p) s.inner in
      let w = i.depth in
      let kd = h (omega arith) in
      record {
        ok = refl;
        stand = i.stand;
        brackets = i.brackets;
        used = omega arith;
        depth = omega arith;
        longest = i.longest ∙ sym (ap longest_list s.is ∙ minuses_longest (q - p) s.inner);
        held = λ t.
            let few = t.few in
            let room = t.room in
            subst (λ (i : Expr). Holds (table z c.text) u (bare i)) (sym s.is) (g.done c.text s.inner (i.held (sound_less (omega arith) (omega arith) refl t)) us (omega arith) (omega arith));
      }

-- ---- what stands in brackets

-- what a parenthesis closes
pub record Rounded (c : Source) (x y : List ℕ) (b u : ℕ) (r : List Token) (e : Expr) (m : Built) : Type 0 where
  pub ok : m.ok ≡ true
  pub closes : kind_at c.kinds m.next ≡ 77
  pub done : (k : Built) → Rounds c.kinds m.next m k → Done c x y b u r e k

shorter_list : {w r : List Token} {t : Token} {es : Exprs} → Trees w (t ∷ r) es → length r < length w
shorter_list empty = omega arith
shorter_list (nonempty y) = let s = some_shorter y in omega arith

module _ {c : Source} {x : List ℕ} {p u d : ℕ} where
  round_first : {b : ℕ} {t : Token} {w r : List Token} {e : Expr} → First t r w e → Standing c b d p (t ∷ w) → depth e ≤ length c.kinds → terminal_f t ≡ 76
      → (0 < d) × ((y : List ℕ) (m : Built) → ReadsExpression anywhere c x y (p + 1) u (d - 1) m → Rounded c x y b u r e m)
  round_first {b} {r = r} (round {c = k} {e = e} h y g) f dp z =
      let o = open_bracket (opens_round h) f in (
        o.some,
        λ y' m reads.
            let q = reads.done (b + 1) _ (k ∷ r) e o.standing (round_ends r g) y in
            let w = q.depth in
            record {
              ok = q.ok;
              closes = stand_kind q.stand ∙ terminal_is g;
              done = λ i j. let i1 = j.depth (omega arith) in record {
                ok = j.ok;
                stand = subst (λ (i : ℕ). Stand c i r) (sym j.next) (stand_next q.stand);
                brackets = close_bracket (closes_round g) q.brackets;
                used = j.used ∙ q.used;
                depth = omega arith;
                longest = j.longest ∙ q.longest;
                held = λ t. q.held (sound_less (omega arith) (omega arith) refl t);
              };
            },
      )
  round_first (one_token l) f dp z = let k = leaf_kind l in absurd (omega arith)
  round_first (square h y g) f dp z = let k = terminal_is h in absurd (omega arith)
  round_first {t = t} (call q h y g) f dp z = let k = leaf_kind {t = t} (L.an_atom q) in absurd (omega arith)

  pub round_done : {a : Where} {b : ℕ} {w r : List Token} {e : Expr} → kind_at c.kinds p ≡ 76 → Standing c b d p w → Tree a 8 w r e
      → (0 < d) × ((y : List ℕ) (m : Built) → ReadsExpression anywhere c x y (p + 1) u (d - 1) m → Rounded c x y b u r e m)
  round_done {w = []} k f y = absurd (no_tree y)
  round_done {w = t ∷ w} k f y = round_first (first_token y) f (depth_within f y) (sym (stand_kind f.stand) ∙ k)

  square_first : {b : ℕ} {t : Token} {w r : List Token} {e : Expr} → First t r w e → Standing c b d p (t ∷ w) → terminal_f t ≡ 78
      → (0 < d) × ((y : List ℕ) (m : Built) → ReadsList 79 (record { kind = 5; load = 0 }) c x y (p + 1) u (d - 1) m → Done c x y b u r e m)
  square_first {b} {r = r} (square {c = k} {w = w} {es = es} h y g) f z =
      let o = open_bracket (opens_square h) f in
      (o.some, λ y' m reads. reads.done b w r k es (Listing es) o.standing g y a_list (λ t. record { kind = refl; load = refl }))
  square_first (one_token l) f z = let k = leaf_kind l in absurd (omega arith)
  square_first (round h y g) f z = let k = terminal_is h in absurd (omega arith)
  square_first {t = t} (call q h y g) f z = let k = leaf_kind {t = t} (L.an_atom q) in absurd (omega arith)

  pub square_done : {a : Where} {b : ℕ} {w r : List Token} {e : Expr} → kind_at c.kinds p ≡ 78 → Standing c b d p w → Tree a 8 w r e
      → (0 < d) × ((y : List ℕ) (m : Built) → ReadsList 79 (record { kind = 5; load = 0 }) c x y (p + 1) u (d - 1) m → Done c x y b u r e m)
  square_done {w = []} k f y = absurd (no_tree y)
  square_done {w = t ∷ w} k f y = square_first (first_token y) f (sym (stand_kind f.stand) ∙ k)

  call_first : {b : ℕ} {t : Token} {w r : List Token} {e : Expr} → First t r w e → Standing c b d p (t ∷ w) → 95 ≤ terminal_f t → kind_of w ≡ 76 → eqb (kind_of r) 76 ≡ false
      → (0 < d) × ((y : List ℕ) (m : Built) (h : Word) → SaysHeadAt c.text c.places c.lengths p h → ReadsList 77 h c x y (p + 2) u (d - 1) m → Done c x y b u r e m)
  call_first {b} {t} {r = r} (call {p = o} {c = k} {w = w} {es = es} q h y g) f z n s =
      let o' = open_bracket (opens_round h) (quiet_next (quiet_above t (omega arith)) f) in
      let v = shorter_list y in
      let len = stand_length f.stand in
      let here = stand_here f.stand in
      let e2 : p + 1 + 1 ≡ p + 2 = omega arith in (
        o'.some,
        λ y' m word says reads.
            reads.done b w r k es (Apply (functor_f (name t)) es) (subst (λ (i : ℕ). Standing c (b + 1) (d - 1) i w) e2 o'.standing) g y a_call
            (λ i. let j = says c.kinds t here (i.clean p t here (omega arith)) i.short q in record { kind = j.kind; load = j.load }),
      )
  call_first (one_token l) f z n s = contra (sym s ∙ ap (λ (i : ℕ). eqb i 76) n)
  call_first (round h y g) f z n s = let k = terminal_is h in absurd (omega arith)
  call_first (square h y g) f z n s = let k = terminal_is h in absurd (omega arith)

  pub call_done : {a : Where} {b : ℕ} {w r : List Token} {e : Expr} → 95 ≤ kind_at c.kinds p → kind_at c.kinds (p + 1) ≡ 76 → Standing c b d p w → eqb (kind_of r) 76 ≡ false → Tree a 8 w r e
      → (0 < d) × ((y : List ℕ) (m : Built) (h : Word) → SaysHeadAt c.text c.places c.lengths p h → ReadsList 77 h c x y (p + 2) u (d - 1) m → Done c x y b u r e m)
  call_done {w = []} k n f s y = absurd (no_tree y)
  call_done {w = t ∷ w} k n f s y =
      let i = stand_kind f.stand in
      call_first (first_token y) f (omega arith) (sym (stand_kind (stand_next f.stand)) ∙ n) s

  one_first : {b : ℕ} {t : Token} {w r : List Token} {e : Expr} → First t r w e → Standing c b d p (t ∷ w) → ¬ (terminal_f t ≡ 76) → ¬ (terminal_f t ≡ 78)
      → (95 ≤ terminal_f t → terminal_f t ≤ 97 → ¬ (kind_of w ≡ 76)) → (y : List ℕ) (m : Built) → ReadsSingle c x y p u m → Done c x y b u r e m
  one_first {b} {t} {r = r} (one_token {e = e} l) f n1 n2 n3 y' m reads = reads.done b d r t e f l
  one_first (round h y g) f n1 n2 n3 y' m reads = absurd (n1 (terminal_is h))
  one_first (square h y g) f n1 n2 n3 y' m reads = absurd (n2 (terminal_is h))
  one_first {t = t} (call q h y g) f n1 n2 n3 y' m reads =
      let z = atom_range q (stand_here f.stand).terminal in
      let i = terminal_is (stand_here f.stand).terminal in
      absurd (n3 (omega arith) (omega arith) (terminal_is h))

  pub one_done : {a : Where} {b : ℕ} {w r : List Token} {e : Expr} → ¬ (kind_at c.kinds p ≡ 76) → ¬ (kind_at c.kinds p ≡ 78)
      → (95 ≤ kind_at c.kinds p → kind_at c.kinds p ≤ 97 → ¬ (kind_at c.kinds (p + 1) ≡ 76)) → Standing c b d p w → Tree a 8 w r e
      → (y : List ℕ) (m : Built) → ReadsSingle c x y p u m → Done c x y b u r e m
  one_done {w = []} n1 n2 n3 f y y' m reads = absurd (no_tree y)
  one_done {w = t ∷ w} n1 n2 n3 f y y' m reads =
      let i = stand_kind f.stand in
      one_first (first_token y) f (λ e. n1 (i ∙ e)) (λ e. n2 (i ∙ e)) (λ a b e. n3 (omega arith) (omega arith) (stand_kind (stand_next f.stand) ∙ e)) y' m reads
