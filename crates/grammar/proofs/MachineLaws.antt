-- What a turn of the machine does to the stack of bytes is what `adv` does to the symbols that the bytes stand for.
use Prim.Native.Nat.{ℕ, ◌<◌, ◌≤◌, ◌+◌, ◌-◌}
use mathlib.Core.Path.{◌≡◌, refl, sym, ap, ◌∙◌}
use mathlib.Core.Bool.{Bool, true, false, cond, ◌&&◌}
use mathlib.Core.Option.{Option}
use mathlib.Core.Logic.{⊎_elim}
use mathlib.Core.List.{List, [], ◌∷◌, ◌++◌, map}
use native.Mathlib.Omega.{arith}
use native.Mathlib.Numerals.{add-one}
use lib.Dec.{eqb}
use borrow.Rule.Slice.PartMut.{put_mid}
use lib.ListN.{length, get_or, take, drop, length-append, length-drop, drop_of_length-le}
use lib.Seq.{drop-cons, drop-drop, length-take-le, drop-append_seam}
use borrow.Author.Tests.{eq-eqb, ne_eqb, eqb-true}
use Rattle.paper_expressions.proofs.Laws.Tests.{and_l, and_r, two}
use Rattle.paper_grammar.proofs.Laws.Ll.{Sym, T, N, stop, go, choose, adv, blank}
use Rattle.paper_grammar.proofs.Laws.Form.{G}
use Rattle.grammar.specs.Tables.{sym_of, side_of, choice_of}
use Rattle.grammar.specs.Machine.{passed, past}
use Rattle.grammar.proofs.TableLaws.{is_token, is_symbol, side_is, choice_none, choice_some}

-- the symbols on the stack from a place on
abbrev pub syms : ℕ → List ℕ → List (Sym ℕ)
syms at st = map sym_of (drop at st)

-- `passed`, by the code's tests
module _ (k c : ℕ) where
  pub token_stays : c < 128 → false ≡ passed k (sym_of c)
  token_stays h = sym (ap (passed k) (is_token c h))

  module _ (x : ℕ) (h : 128 ≤ c) (e : x ≡ c - 128) where
    pub as_symbol : passed k (sym_of c) ≡ eqb (choice_of x k) 0 && G.empty x
    as_symbol = ap (passed k) (is_symbol c h ∙ ap N (sym e))

    pub unless_chosen : choice_of x k ≡ 0 → G.empty x ≡ passed k (sym_of c)
    unless_chosen z = sym (as_symbol ∙ ap (λ (y : Bool). y && G.empty x) (eq-eqb (choice_of x k) 0 z))

    pub chosen_stays : (a : ℕ) → choice_of x k ≡ a + 1 → false ≡ passed k (sym_of c)
    chosen_stays a w = sym (as_symbol ∙ ap (λ (y : Bool). y && G.empty x) (ne_eqb (choice_of x k) 0 (λ z. omega arith)))

module _ (st : List ℕ) (at : ℕ) where
  ended : length st ≤ at → syms at st ≡ []
  ended h = ap (map sym_of) (drop_of_length-le st h)

  module _ (h : at < length st) where
    top_is : syms at st ≡ sym_of (get_or st at 0) ∷ syms (at + 1) st
    top_is = ap (map sym_of) (drop-cons st at 0 h) ∙ rw add-one

    top_token : get_or st at 0 < 128 → syms at st ≡ T (get_or st at 0) ∷ syms (at + 1) st
    top_token l = top_is ∙ ap (λ (s : Sym ℕ). s ∷ syms (at + 1) st) (is_token (get_or st at 0) l)

    top_symbol : (x : ℕ) → 128 ≤ get_or st at 0 → x ≡ get_or st at 0 - 128 → syms at st ≡ N x ∷ syms (at + 1) st
    top_symbol x l e = top_is ∙ ap (λ (s : Sym ℕ). s ∷ syms (at + 1) st) (is_symbol (get_or st at 0) l ∙ ap N (sym e))

    -- `blank`, step by step
    pub blank_token : get_or st at 0 < 128 → blank G (syms at st) ≡ false
    blank_token l = ap (blank G) (top_token l)

    pub blank_symbol : (x : ℕ) (b : Bool) → 128 ≤ get_or st at 0 → x ≡ get_or st at 0 - 128 → b ≡ G.empty x → blank G (syms at st) ≡ b && blank G (syms (at + 1) st)
    blank_symbol x b l e m = ap (blank G) (top_symbol x l e) ∙ ap (λ (y : Bool). y && blank G (syms (at + 1) st)) (sym m)

    -- `past`, step by step
    pub past_stays : (k : ℕ) → false ≡ passed k (sym_of (get_or st at 0)) → syms at st ≡ past k (syms at st)
    past_stays k e =
        top_is ∙ ap (λ (b : Bool). cond b (past k (syms (at + 1) st)) (sym_of (get_or st at 0) ∷ syms (at + 1) st)) e ∙ sym (ap (past k) top_is)

    pub past_goes : (k : ℕ) → true ≡ passed k (sym_of (get_or st at 0)) → past k (syms at st) ≡ past k (syms (at + 1) st)
    past_goes k e = ap (past k) top_is ∙ ap (λ (b : Bool). cond b (past k (syms (at + 1) st)) (sym_of (get_or st at 0) ∷ syms (at + 1) st)) (sym e)

  pub blank_end : length st ≤ at → blank G (syms at st) ≡ true
  blank_end h = ap (blank G) (ended h)

  pub past_end : (k : ℕ) → length st ≤ at → syms at st ≡ past k (syms at st)
  past_end k h = ended h ∙ sym (ap (past k) (ended h))

-- what is passed over makes no difference to the turn
adv_past : (k : ℕ) (q : List (Sym ℕ)) → adv G q k ≡ adv G (past k q) k
adv_past k [] = refl
adv_past k (T j ∷ q) = refl
adv_past k (N x ∷ q) = ⊎_elim
    (λ (t : passed k (N x) ≡ true).
    let n = choice_none x k (eqb-true _ 0 (and_l (eqb (choice_of x k) 0) (G.empty x) t)) in
    let m = and_r (eqb (choice_of x k) 0) (G.empty x) t in
    ap (λ (o : Option (List (Sym ℕ))). choose o q (cond (G.empty x) (adv G q k) stop)) n
    ∙ ap (λ (b : Bool). cond b (adv G q k) stop) m
    ∙ adv_past k q
    ∙ sym (ap (λ (b : Bool). adv G (cond b (past k q) (N x ∷ q)) k) t))
    (λ (t : passed k (N x) ≡ false). sym (ap (λ (b : Bool). adv G (cond b (past k q) (N x ∷ q)) k) t))
    (two (passed k (N x)))

-- what is not passed over stays
stays : (k : ℕ) (q r : List (Sym ℕ)) (s : Sym ℕ) → past k q ≡ s ∷ r → passed k s ≡ false
stays k [] r s e = absurd (let z : ◌≡◌ {A = ℕ} 0 1 = cc in omega arith)
stays k (y ∷ q) r s e = ⊎_elim
    (λ (t : passed k y ≡ true). stays k q r s (sym (ap (λ (b : Bool). cond b (past k q) (y ∷ q)) t) ∙ e))
    (λ (t : passed k y ≡ false). let e' : y ∷ q ≡ s ∷ r = sym (ap (λ (b : Bool). cond b (past k q) (y ∷ q)) t) ∙ e in let f : y ≡ s = cc in sym (ap (passed k) f) ∙ t)
    (two (passed k y))

map_append : (l r : List ℕ) → map sym_of (l ++ r) ≡ map sym_of l ++ map sym_of r
map_append [] r = refl
map_append (x ∷ l) r = ap (λ (q : List (Sym ℕ)). sym_of x ∷ q) (map_append l r)

-- a turn at the token k, with the symbols from `at` on left once those that are passed over are off
module _ (st : List ℕ) (top at k : ℕ) (p : syms at st ≡ past k (syms top st)) where
  turn : adv G (syms top st) k ≡ adv G (syms at st) k
  turn = adv_past k (syms top st) ∙ ap (λ (q : List (Sym ℕ)). adv G q k) (sym p)

  pub none_left : length st ≤ at → adv G (syms top st) k ≡ stop
  none_left h = turn ∙ ap (λ (q : List (Sym ℕ)). adv G q k) (ended st at h)

  module _ (h : at < length st) where
    module _ (l : get_or st at 0 < 128) where
      pub taken : get_or st at 0 ≡ k → adv G (syms top st) k ≡ go (syms (at + 1) st)
      taken e = turn ∙ ap (λ (q : List (Sym ℕ)). adv G q k) (top_token st at h l) ∙ ap (λ (b : Bool). cond b (go (syms (at + 1) st)) stop) (eq-eqb k (get_or st at 0) (sym e))

      pub another : (get_or st at 0 ≡ k → ⊥) → adv G (syms top st) k ≡ stop
      another e = turn ∙ ap (λ (q : List (Sym ℕ)). adv G q k) (top_token st at h l) ∙ ap (λ (b : Bool). cond b (go (syms (at + 1) st)) stop) (ne_eqb k (get_or st at 0) (λ z. e (sym z)))

    module _ (x : ℕ) (l : 128 ≤ get_or st at 0) (e : x ≡ get_or st at 0 - 128) where
      pub no_alternative : choice_of x k ≡ 0 → adv G (syms top st) k ≡ stop
      no_alternative z =
          let q : past k (syms top st) ≡ N x ∷ syms (at + 1) st = sym p ∙ top_symbol st at h x l e in
          let f = stays k (syms top st) (syms (at + 1) st) (N x) q in
          let m : G.empty x ≡ false = sym (ap (λ (b : Bool). b && G.empty x) (eq-eqb (choice_of x k) 0 z)) ∙ f in
          turn ∙ ap (λ (q : List (Sym ℕ)). adv G q k) (top_symbol st at h x l e)
          ∙ ap (λ (o : Option (List (Sym ℕ))). choose o (syms (at + 1) st) (cond (G.empty x) (adv G (syms (at + 1) st) k) stop)) (choice_none x k z)
          ∙ ap (λ (b : Bool). cond b (adv G (syms (at + 1) st) k) stop) m

      pub replaced : (a : ℕ) (out : List ℕ) (t : ℕ) → choice_of x k ≡ a + 1 → drop t out ≡ side_of a ++ drop (at + 1) st → adv G (syms top st) k ≡ go (syms t out)
      replaced a out t c d =
          turn ∙ ap (λ (q : List (Sym ℕ)). adv G q k) (top_symbol st at h x l e)
          ∙ ap (λ (o : Option (List (Sym ℕ))). choose o (syms (at + 1) st) (cond (G.empty x) (adv G (syms (at + 1) st) k) stop)) (choice_some x k a c).0
          ∙ ap go (sym (ap (map sym_of) d ∙ map_append (side_of a) (drop (at + 1) st) ∙ ap (λ (q : List (Sym ℕ)). q ++ syms (at + 1) st) (side_is a)))

-- the part of a stack from at up to top is written over
module _ (st p ys : List ℕ) (top at : ℕ) (e : ys ≡ p) (n : at + length p ≡ top) (h : top ≤ length st) where
  rest : drop (top - at) (drop at st) ≡ drop top st
  rest = drop-drop (top - at) at st ∙ ap (λ (i : ℕ). drop i st) (let z : at + (top - at) ≡ top = omega arith in z)

  front : length (take at st) ≡ at
  front = length-take-le at st (omega arith)

  pub written : drop at (put_mid at (top - at) st ys) ≡ p ++ drop top st
  written =
      ap (λ (i : ℕ). drop i (put_mid at (top - at) st ys)) (sym front)
      ∙ drop-append_seam (take at st) (ys ++ drop (top - at) (drop at st))
      ∙ ap (λ (l : List ℕ). l ++ drop (top - at) (drop at st)) e ∙ ap (λ (l : List ℕ). p ++ l) rest

  pub written_length : length (put_mid at (top - at) st ys) ≡ length st
  written_length =
      let a = length-append (take at st) (ys ++ drop (top - at) (drop at st)) in
      let b = length-append ys (drop (top - at) (drop at st)) in
      let c = ap length e in
      let d = ap length rest in
      let f = length-drop top st in
      let g = front in
      omega arith
