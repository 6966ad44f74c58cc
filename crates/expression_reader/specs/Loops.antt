-- Laws of the reader's two loops: the elements of a list, and operands with operators between them.
use Rattle.std.specs.Prelude.{ℕ, ◌+◌, ◌-◌, ◌≤◌, ◌<◌, ◌≡◌, refl, true, false, ◌⊎◌, List, ◌∷◌, leb, ltb, length, get_or, set}
use Rattle.std.proofs.Common.{sym, ap, subst, ◌∙◌, inl, inr, ⊎_elim, arith, leb-true, leb-false, ltb-true}
use Rattle.paper_expressions.proofs.Laws.Tests.{two}
use Rattle.paper_expressions.specs.Expressions.{Expr, Exprs, ε, ◌▸◌}
use Rattle.paper_expressions.proofs.Laws.Parentheses.{bare, bares}
use Rattle.paper_guideline.specs.Limits.{larger, depth, deepest, longest_list, longest_lists}
use Rattle.paper_tokens.specs.Lexical.{Token}
use Rattle.paper_tokens.specs.Terminals.{Terminal}
use Rattle.paper_guideline.specs.Tree.{Where, anywhere, assigned, Tree, Trees, empty, nonempty, SomeTrees}
use Rattle.paper_guideline.specs.Refusals.{TooManyOpen}
use Rattle.paper_tokens.proofs.Laws.TerminalLaws.{terminal_is}
use Rattle.paper_guideline.proofs.Laws.TreeLaws.{Ends}
use Rattle.parts.specs.Part.{table, size, Holds, HoldsAll}
use Rattle.leaves.specs.Source.{Source, Stand}
use Rattle.expression_steps.specs.declared.Built.{Built}
use Rattle.expression_steps.specs.declared.operators.Operand.{Operand}
use Rattle.expression_steps.specs.Rows.{Beside, holds_kept}
use Rattle.expression_steps.specs.Levels.{level_of, level_in, kind_at, kind_of, stand_kind, stand_length, infix_no_bracket}
use Rattle.expression_steps.specs.Views.{tree_first, After, at_close, at_comma, element, some_shorter, comma_ends, round_ends, square_ends}
use Rattle.expression_steps.specs.Larger.{larger_zero, larger_assoc, trees_deep}
use Rattle.expression_steps.specs.Made.{Standing, Done, ReadsOperand, ReadsExpression, Group, a_list, a_call, Around, whole, Settled, Reduces}
use Rattle.expression_steps.specs.Around.{First, around_kept, around_room, around_few, around_longer, around_no_call, finish, join, down, push}
use Rattle.expression_steps.specs.StepLaws.{quiet_brackets, stand_next, operand}
use Rattle.expression_reader.specs.Single.{Also, Left}
use Rattle.expression_reader.specs.Laws.{built, sound_less, group_size, group_depth}

-- ---- the elements of a list

-- n elements are read, and others are to follow from the token q on, before the closing token t
pub record Elements (c : Source) (z y : List ℕ) (b d u : ℕ) (r : List Token) (t : Token) (e : Expr) (es : Exprs) (q n : ℕ) (m : Built) : Type 0 where
  pub rest : List Token
  pub others : Exprs
  pub standing : Standing c (b + 1) d q rest
  pub trees : SomeTrees rest (t ∷ r) others
  pub left : Left c z y r e u es others n m

-- the list is at its end
pub record Ended (c : Source) (z y : List ℕ) (b u : ℕ) (r : List Token) (t : Token) (e : Expr) (es : Exprs) (j n : ℕ) (m : Built) : Type 0 where
  pub stand : Stand c j (t ∷ r)
  pub brackets : (q : ℕ) → ¬ TooManyOpen (b + 1) (t ∷ r) q
  pub left : Left c z y r e u es ε n m

pub ended_stand : {c : Source} {z y : List ℕ} {b u j n i : ℕ} {r : List Token} {t : Token} {e : Expr} {es : Exprs} {m : Built} → i ≡ j → Ended c z y b u r t e es j n m → Stand c i (t ∷ r)
ended_stand {c} {r = r} {t} h f = subst (λ (k : ℕ). Stand c k (t ∷ r)) (sym h) f.stand

group_ends : {es : Exprs} {e : Expr} {t : Token} {close : ℕ} (r : List Token) → Group es close e → Terminal t close → Ends anywhere (t ∷ r)
group_ends r a_list h = square_ends r h
group_ends r a_call h = round_ends r h

group_close : {es : Exprs} {e : Expr} {close k : ℕ} → Group es close e → k ≡ close → (k ≡ 77) ⊎ (k ≡ 79)
group_close a_list h = inr h
group_close a_call h = inl h

-- the part of elements is no deeper than there are tokens
pub group_within : {c : Source} {b d p close : ℕ} {w r : List Token} {t : Token} {es : Exprs} {e : Expr} → Group es close e → Standing c b d p w → Trees w (t ∷ r) es → depth e ≤ length c.kinds
group_within g s y = let h = trees_deep y in let i = stand_length s.stand in let k = group_depth g in omega arith

left_all : {c : Source} {z : List ℕ} {r : List Token} {e : Expr} (p u : ℕ) (es : Exprs) → Left c z z r e u es es 0 (built p u 0 0)
left_all p u es = record { many = omega arith; used = refl; depth = sym (larger_zero (deepest es)); longest = sym (larger_zero (longest_lists es)); held = λ g v k h. h }

-- a list without elements
pub none_ended : {c : Source} {z : List ℕ} {b d p u close : ℕ} {w r : List Token} {t : Token} {es : Exprs} {e : Expr} → Group es close e → kind_at c.kinds p ≡ close
    → Standing c (b + 1) d p w → Trees w (t ∷ r) es → Ended c z z b u r t e es p 0 (built p u 0 0)
none_ended {p = p} {u} g i f empty = record { stand = f.stand; brackets = f.brackets; left = left_all p u ε }
none_ended g i f (nonempty y) = absurd (tree_first (element y).tree (group_close g (sym (stand_kind f.stand) ∙ i)))

pub elements_first : {c : Source} {z : List ℕ} {b d p u close : ℕ} {w r : List Token} {t : Token} {e : Expr} {es : Exprs} → Terminal t close → ¬ (kind_at c.kinds p ≡ close)
    → Standing c (b + 1) d p w → Trees w (t ∷ r) es → Elements c z z b d u r t e es p 0 (built p u 0 0)
elements_first h i f empty = absurd (i (stand_kind f.stand ∙ terminal_is h))
elements_first {p = p} {u} {w = w} {es = es} h i f (nonempty y) = record { rest = w; others = es; standing = f; trees = y; left = left_all p u es }

after_ends : {es os : Exprs} {e : Expr} {t : Token} {close : ℕ} {r s : List Token} → Group es close e → Terminal t close → After (t ∷ r) s os → Ends anywhere s
after_ends {r = r} g h at_close = group_ends r g h
after_ends g h (at_comma {m = m} i y) = comma_ends m i

after_longer : {t : Token} {r s : List Token} {os : Exprs} → After (t ∷ r) s os → length r ≤ length s
after_longer at_close = omega arith
after_longer (at_comma i y) = let j = some_shorter y in omega arith

-- one more element is read: the end, or a comma and more
pub data Stepped (c : Source) (z y : List ℕ) (b d u : ℕ) (r : List Token) (t : Token) (e : Expr) (es : Exprs) (close n j : ℕ) (m : Built) : Type 0 where
  ended : kind_at c.kinds j ≡ close → Ended c z y b u r t e es j (n + 1) m → Stepped c z y b d u r t e es close n j m
  going : kind_at c.kinds j ≡ 75 → Elements c z y b d u r t e es (j + 1) (n + 1) m → Stepped c z y b d u r t e es close n j m

left_more : {c : Source} {z x y : List ℕ} {b u n close : ℕ} {r s : List Token} {e f : Expr} {es os fs : Exprs} {m k m' : Built} → Group es close e → length x ≡ length z → length r ≤ length s
    → Left c z x r e u es os n m → os ≡ f ▸ fs → Done c x y b m.used s f k → Beside m.used k.used x y → Also m k m' → Left c z y r e u es fs (n + 1) m'
left_more {c} {z} {x} {y} {u = u} {n} {r = r} {e = e} {f} {es} {os} {fs} {m} {k} {m'} g lg lr l is dn bs a =
    let i = subst (λ (i : Exprs). Left c z x r e u es i n m) is l in
    let y1 = i.many in let y2 = i.used in let y3 = i.depth in let y4 = i.longest in
    let a1 = a.used in let a2 = a.depth in let a3 = a.longest in
    let d1 = dn.used in let d2 = dn.depth in let d3 = dn.longest in
    let b1 = larger_assoc m.depth (depth f) (deepest fs) in
    let b2 = larger_assoc m.longest (longest_list f) (longest_lists fs) in
    let gs = group_size g in
    record {
      many = omega arith;
      used = omega arith;
      depth = cc;
      longest = cc;
      held = λ t v kp hs.
          let hf = dn.held (sound_less (omega arith) lr lg t) in (
          i.held t v (record { same = λ j h. kp.same j (omega arith) ∙ bs.before.same j h })
          (holds_kept c.text kp (bare f) m.used (omega arith) hf, subst (λ (j : ℕ). HoldsAll (table v c.text) j (bares fs)) (omega arith) hs)
          );
    }

module _ {c : Source} {z x y : List ℕ} {b d u q n close : ℕ} {r : List Token} {t : Token} {es : Exprs} {e : Expr} {m k : Built}
    (g : Group es close e) (h : Terminal t close) (reads : ReadsExpression anywhere c x y q m.used d k) (v : Elements c z x b d u r t e es q n m) where
  element_read : Done c x y (b + 1) m.used (element v.trees).rest (element v.trees).first k
  element_read = let i = element v.trees in reads.done (b + 1) v.rest i.rest i.first v.standing (after_ends g h i.after) i.tree

  pub element_ok : k.ok ≡ true
  element_ok = element_read.ok

  after_done : {s : List Token} {os : Exprs} (m' : Built) → After (t ∷ r) s os → Stand c k.next s → ((q : ℕ) → ¬ TooManyOpen (b + 1) s q) → Left c z y r e u es os (n + 1) m'
      → Stepped c z y b d u r t e es close n k.next m'
  after_done m' at_close st br l = ended (stand_kind st ∙ terminal_is h) (record { stand = st; brackets = br; left = l })
  after_done m' (at_comma {m = s} {es = os} j y) st br l =
      let kj = terminal_is j in
      going (stand_kind st ∙ terminal_is j) (record {
        rest = s;
        others = os;
        standing = record { stand = stand_next st; brackets = quiet_brackets (λ k a b q. omega arith) br; deep = v.standing.deep };
        trees = y;
        left = l;
      })

  pub elements_step : (m' : Built) → length x ≡ length z → Also m k m' → Stepped c z y b d u r t e es close n k.next m'
  elements_step m' lg a =
      let i = element v.trees in
      let dn = element_read in
      after_done m' i.after dn.stand dn.brackets (left_more g lg (after_longer i.after) v.left i.are dn (reads.onward dn.ok).beside a)

-- ---- what the token behind an element tells

no_comma : {close : ℕ} → (close ≡ 77) ⊎ (close ≡ 79) → ¬ (close ≡ 75)
no_comma (inl e) f = omega arith
no_comma (inr e) f = omega arith

module _ {c : Source} {z y : List ℕ} {b d u n j close : ℕ} {r : List Token} {t : Token} {e : Expr} {es : Exprs} {m : Built} where
  pub stepped_ended : Group es close e → kind_at c.kinds j ≡ close → Stepped c z y b d u r t e es close n j m → Ended c z y b u r t e es j (n + 1) m
  stepped_ended g h (ended k i) = i
  stepped_ended g h (going k i) = absurd (no_comma (group_close g refl) (sym h ∙ k))

  pub stepped_going : ¬ (kind_at c.kinds j ≡ close) → Stepped c z y b d u r t e es close n j m → Elements c z y b d u r t e es (j + 1) (n + 1) m
  stepped_going h (ended k i) = absurd (h k)
  stepped_going h (going k i) = i

  pub stepped_none : {A : Type 0} → ¬ (kind_at c.kinds j ≡ close) → ¬ (kind_at c.kinds j ≡ 75) → Stepped c z y b d u r t e es close n j m → A
  stepped_none h f (ended k i) = absurd (h k)
  stepped_none h f (going k i) = absurd (f k)

-- ---- operands and operators

-- n operators wait, with lists of at most v elements before them, and the next operand begins at the token q, its rows at w
pub record Going (c : Source) (z x ks fs ds : List ℕ) (a : Where) (b d : ℕ) (r : List Token) (e : Expr) (u n q w v : ℕ) : Type 0 where
  pub tokens : List Token
  pub standing : Standing c b d q tokens
  pub first : First c z x ks fs ds a r e u n w v tokens

pub going_first : {c : Source} {z ks fs ds : List ℕ} {a : Where} {b d p u : ℕ} {w r : List Token} {e : Expr} → Standing c b d p w → Tree a 1 w r e → Going c z z ks fs ds a b d r e u 0 p u 0
going_first {w = w} f t = record { tokens = w; standing = f; first = down (omega arith) t whole }

-- an operand is read
module _ {c : Source} {z x y ks fs ds : List ℕ} {a : Where} {b d u n q w v : ℕ} {r : List Token} {e : Expr} {m : Built}
    (end : Ends a r) (reads : ReadsOperand 7 c x y q w d m) (g : Going c z x ks fs ds a b d r e u n q w v) where
  pub operand_read : Done c x y b w g.first.rest g.first.operand m
  operand_read = let o = g.first in reads.done a b g.tokens o.rest o.operand g.standing (around_no_call end o.around) o.tree

  -- the operators that are not looser are applied
  module _ {x' : List ℕ} {l : ℕ} {k : Operand} (lg : length x ≡ length z) (dp : depth e ≤ length c.kinds) (lv : l ≡ level_in a (kind_at c.kinds m.next))
      (red : Reduces y x' ks fs ds (operand n w m.used m.depth) l (length c.kinds) k) where
    level_here : level_in a (kind_of g.first.rest) ≡ l
    level_here = ap (level_in a) (sym (stand_kind operand_read.stand)) ∙ sym lv

    operand_settled : Settled c z x' ks fs ds a r e u g.first.rest k (larger v m.longest)
    operand_settled =
        let o = g.first in
        let i = operand_read in
        let bs = (reads.onward i.ok).beside in
        let rm = around_room o.around in
        red.done c z a r e u o.rest (larger v m.longest) end level_here dp (bs.long ∙ lg) (record {
          y = v;
          level = 7;
          operand = o.operand;
          around = around_kept w (omega arith) bs.before o.around;
          used = i.used;
          deep = i.depth;
          longest = ap (larger v) i.longest;
          held = λ t. i.held (sound_less (omega arith) (around_longer o.around) lg t);
        })

    no_waiting : l ≡ 0 → 0 ≡ k.n
    no_waiting i = ⊎_elim (λ (q : leb k.n 0 ≡ true). let j = leb-true k.n 0 q in omega arith) (λ (q : leb k.n 0 ≡ false). let j = leb-false k.n 0 q in absurd (omega (arith, red.looser j))) (two (leb k.n 0))

    pub going_done : {i : ℕ} → i ≡ larger v m.longest → l ≡ 0 → Done c z x' b u r e (built m.next k.used k.depth i)
    going_done li zero-level =
        let s = operand_settled in
        let f = finish end (level_here ∙ zero-level) (subst (λ (i : ℕ). Around c z x' ks fs ds a r e u i k.from s.y s.level g.first.rest s.operand) (sym (no_waiting zero-level)) s.around) in
        record {
          ok = refl;
          stand = subst (λ (t : List Token). Stand c m.next t) f.rest operand_read.stand;
          brackets = subst (λ (t : List Token). (q : ℕ) → ¬ TooManyOpen b t q) f.rest operand_read.brackets;
          used = s.used ∙ ap (λ (i : ℕ). i + size (bare s.operand)) f.start ∙ ap (λ (i : Expr). u + size (bare i)) f.tree;
          depth = s.deep ∙ ap depth f.tree;
          longest = li ∙ s.longest ∙ ap (λ (i : ℕ). larger i (longest_list s.operand)) f.short ∙ larger_zero (longest_list s.operand) ∙ ap longest_list f.tree;
          held = λ t. subst (λ (i : Expr). Holds (table x' c.text) u (bare i)) f.tree (subst (λ (i : ℕ). Holds (table x' c.text) i (bare s.operand)) f.start (s.held t));
        }

    pub going_few : k.n < 7
    going_few = let i = around_few g.first.around in let j = red.few in omega arith

    pub going_more : {i kd : ℕ} → i ≡ larger v m.longest → kd ≡ kind_at c.kinds m.next → ¬ (l ≡ 0) → length ks ≡ 8 → length fs ≡ 8 → length ds ≡ 8
        → Going c z x' (set ks k.n kd) (set fs k.n k.from) (set ds k.n k.depth) a b d r e u (k.n + 1) (m.next + 1) k.used i
    going_more {i} {kd} li kq some k8 f8 d8 =
        let s = operand_settled in
        let lh = level_here in
        let o = join end (omega arith) (λ i. subst (λ (j : ℕ). level_of (get_or ks (k.n - 1) 0) < j) (sym lh) (red.looser i)) s.around in
        let st = subst (λ (t : List Token). Stand c m.next t) o.is operand_read.stand in
        let br = subst (λ (t : List Token). (q : ℕ) → ¬ TooManyOpen b t q) o.is operand_read.brackets in
        let fw = going_few in
        let tk = terminal_is o.terminal in
        let kk : o.k ≡ kd = sym (kq ∙ stand_kind st ∙ tk) in
        let p1 = push {p = k.from} {f = s.operand} k.depth (omega arith) (omega arith) (omega arith) o.listed s.deep s.held o.tree o.around in
        let p2 = subst (λ (j : ℕ). First c z x' (set ks k.n j) (set fs k.n k.from) (set ds k.n k.depth) a r e u (k.n + 1) (k.from + size (bare s.operand)) (larger s.y (longest_list s.operand)) o.behind) kk p1 in
        let p3 = subst (λ (j : ℕ). First c z x' (set ks k.n kd) (set fs k.n k.from) (set ds k.n k.depth) a r e u (k.n + 1) j (larger s.y (longest_list s.operand)) o.behind) (sym s.used) p2 in
        record {
          tokens = o.behind;
          standing = record {
            stand = stand_next st;
            brackets = quiet_brackets (λ i h k q. infix_no_bracket o.listed i h k (sym tk ∙ q)) br;
            deep = g.standing.deep;
          };
          first = subst (λ (j : ℕ). First c z x' (set ks k.n kd) (set fs k.n k.from) (set ds k.n k.depth) a r e u (k.n + 1) k.used j o.behind) (sym (li ∙ s.longest)) p3;
        }

-- a token that joins is inside
pub level_inside : (a : Where) (ks : List ℕ) (p l : ℕ) → l ≡ level_in a (kind_at ks p) → ¬ (l ≡ 0) → p < length ks
level_inside a ks p l e h = ⊎_elim
    (λ (q : ltb p (length ks) ≡ true). ltb-true p (length ks) q)
    (λ (q : ltb p (length ks) ≡ false). absurd (h (e ∙ (rw q (none a)))))
    (two (ltb p (length ks)))
  where
    none : (a : Where) → level_in a 255 ≡ 0
    none anywhere = refl
    none assigned = refl
