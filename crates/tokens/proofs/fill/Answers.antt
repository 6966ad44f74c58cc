-- `fill`: before each turn the columns hold the tokens up to the cursor.
use Prim.Native.Nat.{ℕ}
use native.Mathlib.Omega.{arith}
use mathlib.Core.Path.{sym, subst}
use mathlib.Core.List.{List}
use lib.ListN.{length}
use Rattle.matches.specs.Walk.{Marks}
use Rattle.tokens.specs.Loop.{Upto}
use Rattle.tokens.specs.Reply.{blank}
use Rattle.tokens.specs.declared.Open.{Open}
use Rattle.tokens.proofs.Reading.{upto_begin, next_turn, few_open}
use Rattle.tokens.proofs.fill.Goals as goal

pub loop-token-init : goal.loop-token-init
loop-token-init c =
    let s = c.args in
    let t = s.text.now in
    let k = length s.kinds.now in
    let p = length s.places.now in
    let l = length s.lengths.now in
    let z = c.requires.kinds_value in
    let o : Open = record { count = 0; bad = length t } in (
      c.new-cursor.ensures.1,
      subst (λ (i : ℕ). Upto t k p l i 0 o s.kinds.now s.places.now s.lengths.now) (sym c.new-cursor.ensures.0)
          (subst (λ (x : List ℕ). Upto t k p l 0 0 o x s.places.now s.lengths.now) (sym z.0)
          (subst (λ (x : List ℕ). Upto t k p l 0 0 o (blank k) x s.lengths.now) (sym z.1)
          (subst (λ (x : List ℕ). Upto t k p l 0 0 o (blank k) (blank p) x) (sym z.2) (upto_begin t k p l)))),
    )

pub bracket-b-requires : goal.bracket-b-requires
bracket-b-requires c = let z = few_open c.loop-token.invariant.1.brackets in omega arith

pub loop-token-preserved : goal.loop-token-preserved
loop-token-preserved c =
    let t = c.args.text.now in
    let l = c.loop-token in
    let h = c.requires.in_bounds in
    let a = c.in-Some.ensures in
    let e = c.put-n.ensures in (
      subst (Marks t) (sym a.1) l.invariant.0,
      next_turn t _ _ _ l.n l.b l.kinds l.places l.lengths h.0 h.1 h.2 l.cursor l.invariant.1 c.in-Some.token c.in-Some.next a
          e.value c.bracket-b.ensures e.kinds_after e.places_after e.lengths_after,
    )
