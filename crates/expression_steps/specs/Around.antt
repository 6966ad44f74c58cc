-- Laws on what stands around an operand: what the next token tells, and how an operator is taken on and off the stack. By induction on `Around`.
use Rattle.std.specs.Prelude.{ℕ, suc, ◌+◌, ◌-◌, ◌≤◌, ◌<◌, ◌≡◌, refl, true, false, eqb, length, get_or, set}
use Rattle.std.proofs.Common.{sym, ap, subst, ◌∙◌, ⊎_elim, add-one, arith, get_or-set_same, get_or-set_other, eqb-true, ne_eqb}
use mathlib.Core.List.{List, ◌∷◌, Memᴰ}
use Rattle.std.proofs.lemmas.Bool.{eqb-false}
use Rattle.paper_expressions.proofs.Laws.Tests.{two}
use Rattle.paper_expressions.specs.Operators.{Op}
use Rattle.paper_expressions.specs.Expressions.{Expr, Apply, ε, ◌▸◌}
use Rattle.paper_expressions.proofs.Laws.Parentheses.{bare}
use Rattle.paper_guideline.specs.Limits.{larger, depth, longest_list}
use Rattle.paper_tokens.specs.Lexical.{Token}
use Rattle.paper_tokens.specs.Terminals.{Terminal}
use Rattle.paper_guideline.specs.Tree
use Tree.{infixes, Where, MayStand, Tree, infix_operator, looser, unary_minus, an_atom, an_integer, a_float, a_string, parentheses, a_list, a_call}
use Rattle.paper_tokens.proofs.Laws.TerminalLaws.{terminal_f, terminal_is}
use Rattle.paper_guideline.proofs.Laws.TreeLaws.{Ends, shorter}
use Rattle.parts.specs.Part.{table, size, Holds}
use Rattle.leaves.specs.Source.{Source}
use Rattle.expression_steps.specs.Rows.{Kept, holds_kept}
use Rattle.expression_steps.specs.Levels.{level_of, level_in, kind_of, infix_is, infix_no_bracket, may_level, list_ends, list_no_call}
use Rattle.expression_steps.specs.Larger.{larger_none, first_larger, second_larger}
use Rattle.expression_steps.specs.Made.{Fit, Around, whole, held_looser, on_left, on_right}

-- the first operand of what is read
pub record First (c : Source) (z x ks fs ds : List ℕ) (a : Where) (r : List Token) (e : Expr) (u n p y : ℕ) (w : List Token) : Type 0 where
  pub rest : List Token
  pub operand : Expr
  pub tree : Tree a 7 w rest operand
  pub around : Around c z x ks fs ds a r e u n p y 7 rest operand

-- the last operator that waits is applied to its left operand and f
pub record Applied (c : Source) (z x ks fs ds : List ℕ) (a : Where) (r : List Token) (e : Expr) (u n p y : ℕ) (m : List Token) (f : Expr) : Type 0 where
  pub op : Op
  pub k : ℕ
  pub l : ℕ
  pub y' : ℕ
  pub listed : Memᴰ (l, k, op) infixes
  pub is : get_or ks n 0 ≡ k
  pub left : Expr
  pub start : ℕ
  pub starts : get_or fs n 0 ≡ start
  pub deep : get_or ds n 0 ≡ depth left
  pub spans : p ≡ start + size (bare left)
  pub longest : y ≡ larger y' (longest_list left)
  pub held : Fit c z r e u → Holds (table x c.text) start (bare left)
  pub around : Around c z x ks fs ds a r e u n start y' l m (Apply op (left ▸ f ▸ ε))

-- f is the whole
pub record Finished (r : List Token) (e : Expr) (u p y : ℕ) (m : List Token) (f : Expr) : Type 0 where
  pub rest : m ≡ r
  pub tree : f ≡ e
  pub start : p ≡ u
  pub short : y ≡ 0

-- f is the left operand of the operator that follows
pub record Joined (c : Source) (z x ks fs ds : List ℕ) (a : Where) (r : List Token) (e : Expr) (u n p y : ℕ) (m : List Token) (f : Expr) : Type 0 where
  pub op : Op
  pub k : ℕ
  pub l : ℕ
  pub token : Token
  pub behind : List Token
  pub stop : List Token
  pub right : Expr
  pub is : m ≡ token ∷ behind
  pub listed : Memᴰ (l, k, op) infixes
  pub terminal : Terminal token k
  pub tree : Tree a (suc l) behind stop right
  pub around : Around c z x ks fs ds a r e u n p y l stop (Apply op (f ▸ right ▸ ε))

-- a token that joins has its operator's level
joined_level : {a : Where} {l k : ℕ} {o : Op} {t : Token} → Memᴰ (l, k, o) infixes → Terminal t k → MayStand a k → level_in a (terminal_f t) ≡ l
joined_level {a} i h p = ap (level_in a) (terminal_is h) ∙ may_level p ∙ (infix_is i).level

module _ {c : Source} {z ks fs ds : List ℕ} {a : Where} {r : List Token} {e : Expr} {u : ℕ} where
  -- the rows before stay, and so do the operators that wait
  pub around_kept : {x x' : List ℕ} {n p y l : ℕ} {m : List Token} {f : Expr} (v : ℕ) → p ≤ v → Kept v x x'
      → Around c z x ks fs ds a r e u n p y l m f → Around c z x' ks fs ds a r e u n p y l m f
  around_kept v h k whole = whole
  around_kept v h k (held_looser s) = held_looser (around_kept v h k s)
  around_kept v h k (on_left i t q y s) = on_left i t q y (around_kept v h k s)
  around_kept v h k (on_right {p = p} {f = f} i j b d g s) = on_right i j b d (λ t. holds_kept c.text k (bare f) p h (g t)) (around_kept v (omega arith) k s)

  module _ {x : List ℕ} where
    pub around_room : {n p y l : ℕ} {m : List Token} {f : Expr} → Around c z x ks fs ds a r e u n p y l m f → p + size (bare f) + n ≤ u + size (bare e)
    around_room whole = omega arith
    around_room (held_looser s) = around_room s
    around_room (on_left i t q y s) = let g = around_room s in omega arith
    around_room (on_right i j b d g s) = let h = around_room s in omega arith

    pub around_deep : {n p y l : ℕ} {m : List Token} {f : Expr} → Around c z x ks fs ds a r e u n p y l m f → depth f ≤ depth e
    around_deep whole = omega arith
    around_deep (held_looser s) = around_deep s
    around_deep (on_left {f = f} {g = g} i t q y s) = let b = around_deep s in let k = first_larger (depth f) (larger (depth g) 0) in omega arith
    around_deep (on_right {f = f} {g = g} i j b d h s) =
        let b = around_deep s in
        let k = second_larger (depth f) (larger (depth g) 0) in
        let z = larger_none (depth g) in
        omega arith

    pub around_few : {n p y l : ℕ} {m : List Token} {f : Expr} → Around c z x ks fs ds a r e u n p y l m f → n < l
    around_few whole = omega arith
    around_few (held_looser s) = let g = around_few s in omega arith
    around_few (on_left i t q y s) = around_few s
    around_few (on_right i j b d g s) = let h = around_few s in omega arith

    pub around_longer : {n p y l : ℕ} {m : List Token} {f : Expr} → Around c z x ks fs ds a r e u n p y l m f → length r ≤ length m
    around_longer whole = omega arith
    around_longer (held_looser s) = around_longer s
    around_longer (on_left i t q y s) = let g = around_longer s in let h = shorter y in omega arith
    around_longer (on_right i j b d g s) = around_longer s

    -- the last operator that waits is looser than what is asked for
    around_last : {n p y l : ℕ} {m : List Token} {f : Expr} → Around c z x ks fs ds a r e u (suc n) p y l m f → level_of (get_or ks n 0) < l
    around_last (held_looser s) = let g = around_last s in omega arith
    around_last (on_left i t q y s) = around_last s
    around_last (on_right {l = l} i j b d g s) = let h = ap level_of j ∙ (infix_is i).level in omega arith

    module _ (end : Ends a r) where
      -- the next token goes on no tighter than what is asked for
      around_level : {n p y l : ℕ} {m : List Token} {f : Expr} → Around c z x ks fs ds a r e u n p y l m f → level_in a (kind_of m) ≤ l
      around_level whole = let z = list_ends a r end in omega arith
      around_level (held_looser s) = let g = around_level s in omega arith
      around_level (on_left i t q y s) = let g = joined_level i t q in omega arith
      around_level (on_right i j b d g s) = let h = around_level s in omega arith

      pub around_no_call : {n p y l : ℕ} {m : List Token} {f : Expr} → Around c z x ks fs ds a r e u n p y l m f → eqb (kind_of m) 76 ≡ false
      around_no_call whole = list_no_call a r end
      around_no_call (held_looser s) = around_no_call s
      around_no_call (on_left i t q y s) = ap (λ (k : ℕ). eqb k 76) (terminal_is t) ∙ ne_eqb _ 76 (infix_no_bracket i 76 (omega arith) (omega arith))
      around_no_call (on_right i j b d g s) = around_no_call s

      -- ---- an operator is taken off the stack

      pub apply_last : {n p y l : ℕ} {m : List Token} {f : Expr} → level_in a (kind_of m) ≤ level_of (get_or ks n 0)
          → Around c z x ks fs ds a r e u (suc n) p y l m f → Applied c z x ks fs ds a r e u n p y m f
      apply_last h (held_looser s) = apply_last h s
      apply_last h (on_left i t q y s) = let g = joined_level i t q in let b = around_last s in absurd (omega arith)
      apply_last h (on_right {p = p} {y = y} {l = l} {k = k} {o = o} {f = f} i j b d g s) =
          record { op = o; k = k; l = l; y' = y; listed = i; is = j; left = f; start = p; starts = b; deep = d; spans = refl; longest = refl; held = g; around = s }

      -- ---- no operator waits, and none follows

      pub finish : {p y l : ℕ} {m : List Token} {f : Expr} → level_in a (kind_of m) ≡ 0 → Around c z x ks fs ds a r e u 0 p y l m f → Finished r e u p y m f
      finish h whole = record { rest = refl; tree = refl; start = refl; short = refl }
      finish h (held_looser s) = finish h s
      finish h (on_left i t q y s) = let g = joined_level i t q in let b = (infix_is i).some in absurd (omega arith)

      -- ---- an operator that follows is tighter than those that wait

      pub join : {n p y l : ℕ} {m : List Token} {f : Expr} → 0 < level_in a (kind_of m) → (0 < n → level_of (get_or ks (n - 1) 0) < level_in a (kind_of m))
          → Around c z x ks fs ds a r e u n p y l m f → Joined c z x ks fs ds a r e u n p y m f
      join i h whole = let g = list_ends a r end in absurd (omega arith)
      join i h (held_looser s) = join i h s
      join j h (on_left {l = l} {k = k} {o = o} {t = t} {m = m} {s = v} {g = g} i h' q y s) = record { op = o; k = k; l = l; token = t; behind = m; stop = v; right = g; is = refl; listed = i; terminal = h'; tree = y; around = s }
      join i h (on_right {n = n} {l = l} {m = m} i' j b d g s) =
          let b = around_level s in
          let w = ap level_of j ∙ (infix_is i').level in
          let v : suc n - 1 ≡ n = omega arith in
          let y = subst (λ (i : ℕ). level_of (get_or ks i 0) < level_in a (kind_of m)) v (h (omega arith)) in
          absurd (omega arith)

-- ---- down to the first operand, and an operator onto the stack

module _ {c : Source} {z x ks fs ds : List ℕ} {a : Where} {r : List Token} {e : Expr} {u : ℕ} where
  -- at level 7 it is an operand already
  here_or : {n p y l : ℕ} {w m : List Token} {f : Expr} → l ≤ 7 → Tree a l w m f → Around c z x ks fs ds a r e u n p y l m f
      → (suc l ≤ 7 → First c z x ks fs ds a r e u n p y w) → First c z x ks fs ds a r e u n p y w
  here_or {n} {p} {y} {l} {w} {m} {f} b t s go = ⊎_elim
      (λ (q : eqb l 7 ≡ true). let g = eqb-true l 7 q in record {
        rest = m;
        operand = f;
        tree = subst (λ (j : ℕ). Tree a j w m f) g t;
        around = subst (λ (j : ℕ). Around c z x ks fs ds a r e u n p y j m f) g s;
      })
      (λ (q : eqb l 7 ≡ false). let d = eqb-false l 7 q in go (omega arith))
      (two (eqb l 7))

  pub down : {n p y l : ℕ} {w m : List Token} {f : Expr} → l ≤ 7 → Tree a l w m f → Around c z x ks fs ds a r e u n p y l m f → First c z x ks fs ds a r e u n p y w
  down b (infix_operator i h q y z) s = down b y (on_left i h q z s)
  down b (looser y) s = here_or b (looser y) s (λ g. down g y (held_looser s))
  down b (unary_minus h y) s = here_or b (unary_minus h y) s (λ g. absurd (omega arith))
  down b (an_atom h) s = absurd (omega arith)
  down b (an_integer h) s = absurd (omega arith)
  down b (a_float h) s = absurd (omega arith)
  down b (a_string h) s = absurd (omega arith)
  down b (parentheses h y k) s = absurd (omega arith)
  down b (a_list h y k) s = absurd (omega arith)
  down b (a_call q o h y k) s = absurd (omega arith)

-- what is above the operators that wait may change
around_set : {c : Source} {z x ks fs ds : List ℕ} {a : Where} {r : List Token} {e : Expr} {u n p y l : ℕ} {m : List Token} {f : Expr} (h i j k : ℕ) → n ≤ h
    → Around c z x ks fs ds a r e u n p y l m f → Around c z x (set ks h i) (set fs h j) (set ds h k) a r e u n p y l m f
around_set h i j k b whole = whole
around_set h i j k b (held_looser s) = held_looser (around_set h i j k b s)
around_set h i j k b (on_left y t q z s) = on_left y t q z (around_set h i j k b s)
around_set {ks = ks} {fs = fs} {ds = ds} h i j k b (on_right {n = n} y w d g t s) =
    on_right y (get_or-set_other ks h n i 0 (λ q. omega arith) ∙ w) (get_or-set_other fs h n j 0 (λ q. omega arith) ∙ d) (get_or-set_other ds h n k 0 (λ q. omega arith) ∙ g) t (around_set h i j k (omega arith) s)

-- the operator of terminal k waits, with its left operand f, of depth d, in the rows from p on
pub push : {c : Source} {z x ks fs ds : List ℕ} {a : Where} {r : List Token} {e : Expr} {u n p y l k : ℕ} {o : Op} {w m : List Token} {f g : Expr} (d : ℕ)
    → n < length ks → n < length fs → n < length ds → Memᴰ (l, k, o) infixes → d ≡ depth f → (Fit c z r e u → Holds (table x c.text) p (bare f)) → Tree a (suc l) w m g
    → Around c z x ks fs ds a r e u n p y l m (Apply o (f ▸ g ▸ ε)) → First c z x (set ks n k) (set fs n p) (set ds n d) a r e u (n + 1) (p + size (bare f)) (larger y (longest_list f)) w
push {c} {z} {x} {ks} {fs} {ds} {a} {r} {e} {u} {n} {p} {y} {k = k} {w = w} {f = f} d j1 j2 j3 i h hd t s =
    let b = (infix_is i).few in
    subst (λ (j : ℕ). First c z x (set ks n k) (set fs n p) (set ds n d) a r e u j (p + size (bare f)) (larger y (longest_list f)) w) (sym (add-one n))
    (down (omega arith) t
    (on_right i (get_or-set_same ks n k 0 j1) (get_or-set_same fs n p 0 j2) (get_or-set_same ds n d 0 j3 ∙ h) hd (around_set n k p d (omega arith) s)))
