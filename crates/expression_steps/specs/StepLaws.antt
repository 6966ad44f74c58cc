-- Laws of the steps: a token that is no bracket is passed, minuses are taken off and put on, and an operator that waits is applied.
use Rattle.std.specs.Prelude.{ℕ, zero, suc, ◌+◌, ◌*◌, ◌-◌, ◌≤◌, ◌<◌, ◌≡◌, refl, List, ◌∷◌, length, get_or}
use Rattle.std.proofs.Common.{sym, ap, subst, ◌∙◌, add-one, arith}
use Rattle.paper_expressions.specs.Operators.{Op, negate}
use Rattle.paper_expressions.specs.Expressions.{Expr, Apply, ε, ◌▸◌}
use Rattle.paper_expressions.proofs.Laws.Parentheses.{bare}
use Rattle.paper_guideline.specs.Limits.{part_limit, larger, depth, longest_list}
use Rattle.paper_tokens.specs.Lexical.{Token}
use Rattle.paper_guideline.specs.Tree.{Where, Tree}
use Rattle.paper_guideline.specs.Refusals.{TooManyOpen, as_many_open, Opening, opens_round, opens_square, Closing, closes_round, closes_square}
use Rattle.paper_tokens.proofs.Laws.TerminalLaws.{terminal_f, terminal_is}
use Rattle.parts.specs.Codes.{code}
use Rattle.parts.specs.Part.{table, size, Root, Holds}
use Rattle.leaves.specs.Source.{Source, Here, Stand, at_token}
use Rattle.leaves.specs.Names.{known_load}
use Rattle.expression_steps.specs.declared.operators.Operand.{Operand}
use Rattle.expression_steps.specs.Rows.{Beside, Put, holds_kept, beside_none, beside_on, put_root}
use Rattle.expression_steps.specs.Levels.{level_of, kind_at, kind_of, code_of, infix_is, stand_kind}
use Rattle.expression_steps.specs.Views.{Minus, minus, no_minus, minus_of, no_minus_first}
use Rattle.expression_steps.specs.Larger.{larger_none, larger_assoc}
use Rattle.expression_steps.specs.Made.{Standing, Puts, minuses, Taken, Negates, Around, Settles}
use Rattle.expression_steps.specs.Around.{around_kept, around_room, around_deep, apply_last}

-- ---- a token that is no bracket

-- t is neither a bracket that opens nor one that closes
abbrev pub Quiet : Token → Type 0
Quiet t = (j : ℕ) → 75 < j → j < 80 → ¬ (terminal_f t ≡ j)

no_opening : {t : Token} → Quiet t → Opening t → ⊥
no_opening q (opens_round h) = q 76 (omega arith) (omega arith) (terminal_is h)
no_opening q (opens_square h) = q 78 (omega arith) (omega arith) (terminal_is h)

no_closing : {t : Token} → Quiet t → Closing t → ⊥
no_closing q (closes_round h) = q 77 (omega arith) (omega arith) (terminal_is h)
no_closing q (closes_square h) = q 79 (omega arith) (omega arith) (terminal_is h)

pub quiet_brackets : {b : ℕ} {t : Token} {w : List Token} → Quiet t → ((q : ℕ) → ¬ TooManyOpen b (t ∷ w) q) → (q : ℕ) → ¬ TooManyOpen b w q
quiet_brackets k f q h = f q (as_many_open (no_opening k) (no_closing k) h)

pub stand_next : {c : Source} {p : ℕ} {t : Token} {w : List Token} → Stand c p (t ∷ w) → Stand c (p + 1) w
stand_next {c} {p} {w = w} (at_token h s) = subst (λ (i : ℕ). Stand c i w) (sym (add-one p)) s

pub stand_here : {c : Source} {p : ℕ} {t : Token} {w : List Token} → Stand c p (t ∷ w) → Here c p t
stand_here (at_token h s) = h

pub quiet_next : {c : Source} {b d p : ℕ} {t : Token} {w : List Token} → Quiet t → Standing c b d p (t ∷ w) → Standing c b d (p + 1) w
quiet_next q f = record { stand = stand_next f.stand; brackets = quiet_brackets q f.brackets; deep = f.deep }

pub quiet_above : (t : Token) → 79 < terminal_f t → Quiet t
quiet_above t h j a b e = omega arith

-- ---- minuses are taken off

minuses_more : (m : ℕ) (e : Expr) → minuses m (Apply negate (e ▸ ε)) ≡ minuses (suc m) e
minuses_more zero e = refl
minuses_more (suc m) e = ap (λ (f : Expr). Apply negate (f ▸ ε)) (minuses_more m e)

pub record Partly (c : Source) (a : Where) (b d p q : ℕ) (r : List Token) (e : Expr) : Type 0 where
  pub rest : List Token
  pub inner : Expr
  pub standing : Standing c b d q rest
  pub tree : Tree a 7 rest r inner
  pub is : e ≡ minuses (q - p) inner

module _ {c : Source} {a : Where} {b d p : ℕ} {r : List Token} {e : Expr} where
  one_off : {w : List Token} {f : Expr} (q : ℕ) → p ≤ q → Standing c b d q w → Minus a r w f → e ≡ minuses (q - p) f → kind_of w ≡ 92 → Partly c a b d p (q + 1) r e
  one_off q l f (minus {t = t} {w = w} {e = g} h y) k z =
      let n : q + 1 - p ≡ suc (q - p) = omega arith in
      record {
        rest = w;
        inner = g;
        standing = quiet_next (quiet_above t (let i = terminal_is h in omega arith)) f;
        tree = y;
        is = k ∙ minuses_more (q - p) g ∙ ap (λ (i : ℕ). minuses i g) (sym n);
      }
  one_off q l f (no_minus y) k z = absurd (no_minus_first y z)

  pub minus_off : (q : ℕ) → p ≤ q → kind_at c.kinds q ≡ 92 → Partly c a b d p q r e → Partly c a b d p (q + 1) r e
  minus_off q l k s = one_off q l s.standing (minus_of s.tree) s.is (sym (stand_kind s.standing.stand) ∙ k)

  none_off : {w : List Token} {f : Expr} (q : ℕ) → Standing c b d q w → Minus a r w f → e ≡ minuses (q - p) f → ¬ (kind_of w ≡ 92) → Taken c a b d p q r e
  none_off q f (minus h y) k z = absurd (z (terminal_is h))
  none_off q f (no_minus {w = w} {e = g} y) k z = record { rest = w; inner = g; standing = f; tree = y; is = k }

  pub all_off : (q : ℕ) → ¬ (kind_at c.kinds q ≡ 92) → Partly c a b d p q r e → Taken c a b d p q r e
  all_off q k s = none_off q s.standing (minus_of s.tree) s.is (λ z. k (stand_kind s.standing.stand ∙ z))

pub minus_first : {c : Source} {a : Where} {b d p : ℕ} {w r : List Token} {e : Expr} → Standing c b d p w → Tree a 7 w r e → Partly c a b d p p r e
minus_first {p = p} {w} {e = e} f t = let z : 0 ≡ p - p = omega arith in record { rest = w; inner = e; standing = f; tree = t; is = ap (λ (i : ℕ). minuses i e) z }

-- ---- and put on

pub minuses_size : (m : ℕ) (e : Expr) → size (bare (minuses m e)) ≡ size (bare e) + m
minuses_size zero e = omega arith
minuses_size (suc m) e = let i = minuses_size m e in omega arith

minus_on : {x y : List ℕ} (b : List ℕ) (e : Expr) (u w s : ℕ) → w < part_limit → w ≡ u + size (bare e) → s ≡ w + 1 - u → Beside w (w + 1) x y → Put x y w 80 1 s 0
    → Holds (table x b) u (bare e) → Holds (table y b) u (bare (Apply negate (e ▸ ε)))
minus_on {x} {y} b e u w s h k z g p d = (
  (holds_kept b g.before (bare e) u (omega arith) d, tt),
  subst (λ (i : ℕ). Root (table y b) i (bare (Apply negate (e ▸ ε)))) (omega arith)
      (put_root b (bare (Apply negate (e ▸ ε))) w 80 1 s 0 p refl refl (omega arith) refl),
)

-- i of m minuses are put on what the rows from u up to v hold
pub record Negated (x y : List ℕ) (u v m i : ℕ) : Type 0 where
  pub beside : Beside v (v + i) x y
  pub done : (text : List ℕ) (e : Expr) → Holds (table x text) u (bare e) → v ≡ u + size (bare e) → v + m ≤ part_limit → (v + m) * 4 ≤ length x
      → Holds (table y text) u (bare (minuses i e))

pub negated_none : (x : List ℕ) (u v m : ℕ) → Negated x x u v m 0
negated_none x u v m = record { beside = beside_none v (v + 0) x; done = λ text e h k r g. h }

pub negated_more : {x y y' : List ℕ} {u v m i : ℕ} → i < m → Negated x y u v m i → Puts y y' (v + i) 80 1 u 0 → Negated x y' u v m (i + 1)
negated_more {x} {y} {y'} {u} {v} {m} {i} l s p = record {
  beside = beside_on v (v + i) (v + i) (v + i + 1) (v + (i + 1)) (omega arith) (omega arith) (omega arith) s.beside p.beside;
  done = λ text e h k r g.
      let d = s.done text e h k r g in
      let n = minuses_size i e in
      let long = s.beside.long in
      let put = p.done (omega arith) (omega arith) (omega arith) (omega arith) in
      subst (λ (j : ℕ). Holds (table y' text) u (bare (minuses j e))) (sym (add-one i)) (minus_on text (minuses i e) u (v + i) (v + i + 1 - u) (omega arith) (omega arith) refl p.beside put d);
}

pub negated_done : {x y : List ℕ} {u v m i : ℕ} → i ≡ m → Negated x y u v m i → Negates x y u v m
negated_done {x} {y} {u} {v} {m} {i} l s = let z = subst (λ (j : ℕ). Negated x y u v m j) l s in record { beside = z.beside; done = z.done }

-- ---- an operator that waits is applied

both_on : {x y : List ℕ} (b : List ℕ) (o : Op) (f g : Expr) (u v k s : ℕ) → v < part_limit → v ≡ u + size (bare f) + size (bare g) → s ≡ v + 1 - u → k ≡ code o → code o < 250
    → Beside v (v + 1) x y → Put x y v k 2 s 0 → Holds (table x b) u (bare f) → Holds (table x b) (u + size (bare f)) (bare g) → Holds (table y b) u (bare (Apply o (f ▸ g ▸ ε)))
both_on {x} {y} b o f g u v k s h e z i l t p df dg = (
  (holds_kept b t.before (bare f) u (omega arith) df, (holds_kept b t.before (bare g) (u + size (bare f)) (omega arith) dg, tt)),
  subst (λ (j : ℕ). Root (table y b) j (bare (Apply o (f ▸ g ▸ ε)))) (omega arith)
      (put_root b (bare (Apply o (f ▸ g ▸ ε))) v k 2 s 0 p i refl (omega arith) (known_load b o 0 (λ q. omega arith) refl)),
)

abbrev pub operand : ℕ → ℕ → ℕ → ℕ → Operand
operand n p v d = record { n = n; from = p; used = v; depth = d }

pub settled_first : {x ks fs ds : List ℕ} {o : Operand} {l most : ℕ} → Settles x x ks fs ds o l most o
settled_first c z a r e u m v end lv dp lg s = s

module _ {x y ks fs ds : List ℕ} {o : Operand} {l most k p w dep : ℕ} (go : Settles x y ks fs ds o l most (operand k p w dep)) (long : length y ≡ length x) (some : 0 < k)
    (tight : l ≤ level_of (get_or ks (k - 1) 0)) where
  pub settled_more : {y' : List ℕ} (num dep' : ℕ) → num ≡ code_of (get_or ks (k - 1) 0) → Puts y y' w num 2 (get_or fs (k - 1) 0) 0
      → (larger (get_or ds (k - 1) 0) dep + 1 ≤ most → dep' ≡ larger (get_or ds (k - 1) 0) dep + 1) → Settles x y' ks fs ds o l most (operand (k - 1) (get_or fs (k - 1) 0) (w + 1) dep')
  settled_more {y'} num dep' cd pt dq c z a r e u m v end lv dp lg s0 =
      let s = go c z a r e u m v end lv dp lg s0 in
      let n' : suc (k - 1) ≡ k = omega arith in
      let ar = subst (λ (i : ℕ). Around c z y ks fs ds a r e u i p s.y s.level m s.operand) (sym n') s.around in
      let q = apply_last end (subst (λ (i : ℕ). i ≤ level_of (get_or ks (k - 1) 0)) (sym lv) tight) ar in
      let f = s.operand in
      let st = q.starts in
      let sp = q.spans in
      let us = s.used in
      let inf = infix_is q.listed in
      let oc : num ≡ code q.op = cd ∙ ap code_of q.is ∙ inf.number in
      let pl = inf.plain in
      let rm = around_room q.around in
      let d1 = q.deep in
      let d2 = s.deep in
      let d3 : larger (get_or ds (k - 1) 0) dep ≡ larger (depth q.left) (larger (depth f) 0) = let g = larger_none (depth f) in cc in
      let d4 = around_deep q.around in
      let l1 = q.longest in
      let l2 = s.longest in
      let l3 = larger_none (longest_list f) in
      let l4 = larger_assoc q.y' (longest_list q.left) (longest_list f) in
      let whole = Apply q.op (q.left ▸ f ▸ ε) in
      record {
        y = q.y';
        level = q.l;
        operand = whole;
        around = around_kept w (omega arith) pt.beside.before (subst (λ (i : ℕ). Around c z y ks fs ds a r e u (k - 1) i q.y' q.l m whole) (sym st) q.around);
        used = omega arith;
        deep = let b = dq (omega arith) in omega arith;
        longest = cc;
        held = λ g.
            let few = g.few in
            let room = g.room in
            let put = pt.done (omega arith) (omega arith) (omega arith) (omega arith) in
            let hd = subst (λ (i : ℕ). Holds (table y c.text) i (bare f)) sp (s.held g) in
            subst (λ (i : ℕ). Holds (table y' c.text) i (bare whole)) (sym st)
            (both_on c.text q.op q.left f q.start w num (w + 1 - get_or fs (k - 1) 0) (omega arith) (omega arith) (omega arith) oc inf.plain pt.beside put (q.held g) hd);
      }
