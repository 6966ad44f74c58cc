-- The walk does as `run` does: at each token what is still to come has the run that is left of the whole.
use Prim.Native.Nat.{ℕ, ◌<◌, ◌≤◌, ◌+◌}
use mathlib.Core.Path.{◌≡◌, refl, sym, ap, ◌∙◌}
use mathlib.Core.Bool.{Bool, true, false, cond}
use mathlib.Core.List.{List, [], ◌∷◌}
use native.Mathlib.Omega.{arith}
use native.Mathlib.Numerals.{add-one}
use lib.ListN.{length, get_or, drop, drop_of_length-le}
use lib.Seq.{drop-cons}
use Rattle.paper_grammar.proofs.Laws.Ll.{Sym, Next, stop, go, accept, refuse, after, adv, blank, run}
use Rattle.paper_grammar.proofs.Laws.Form.{G}
use Rattle.grammar.specs.declared.Answer.TheVariants.{Accepted, Refused}
use Rattle.grammar.specs.Machine.{Ends}

-- at the token i, with q still to come: what is left
pub record At (S : List (Sym ℕ)) (w : List ℕ) (q : List (Sym ℕ)) (i : ℕ) : Type 0 where
  pub within : i ≤ length w
  pub runs : run G S w ≡ run G q (drop i w)

pub begins : (S : List (Sym ℕ)) (w : List ℕ) → At S w S 0
begins S w = record { within = omega arith; runs = refl }

module _ (S : List (Sym ℕ)) (w : List ℕ) (q : List (Sym ℕ)) (i : ℕ) (a : At S w q i) where
  module _ (h : i < length w) where
    here : drop i w ≡ get_or w i 0 ∷ drop (i + 1) w
    here = drop-cons w i 0 h ∙ ap (λ (n : ℕ). get_or w i 0 ∷ drop n w) (sym (add-one i))

    run_here : (n : Next ℕ) → adv G q (get_or w i 0) ≡ n → run G S w ≡ after n (refuse (get_or w i 0 ∷ drop (i + 1) w)) (λ p. run G p (drop (i + 1) w))
    run_here n e = a.runs ∙ ap (run G q) here ∙ ap (λ (m : Next ℕ). after m (refuse (get_or w i 0 ∷ drop (i + 1) w)) (λ p. run G p (drop (i + 1) w))) e

    pub stops : adv G q (get_or w i 0) ≡ stop → Ends S w (Refused i)
    stops e = (a.within, run_here stop e ∙ ap refuse (sym here))

    pub moves : (p : List (Sym ℕ)) → adv G q (get_or w i 0) ≡ go p → At S w p (i + 1)
    moves p e = record { within = omega arith; runs = run_here (go p) e }

  module _ (h : length w ≤ i) where
    none_left : drop i w ≡ []
    none_left = drop_of_length-le w h

    run_end : (b : Bool) → b ≡ blank G q → run G S w ≡ cond b accept (refuse [])
    run_end b e = a.runs ∙ ap (run G q) none_left ∙ ap (λ (x : Bool). cond x accept (refuse [])) (sym e)

    pub ends_well : true ≡ blank G q → Ends S w Accepted
    ends_well e = run_end true e

    pub ends_ill : false ≡ blank G q → Ends S w (Refused i)
    ends_ill e = (a.within, run_end false e ∙ ap refuse (sym none_left))
