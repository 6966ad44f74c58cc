-- What may follow each symbol of a form, and a word of each, computed. Nothing rests on this being right: the laws test what comes out.
use Rattle.std.specs.Prelude.{ℕ, zero, suc, cond, List, [], ◌∷◌, ◌++◌, eqb, get_or}
use Rattle.paper_grammar.proofs.Laws.Ll.{Sym, T, N, Alt, ◌⇒◌, Grammar, is_in}

abbrev add : List ℕ → List ℕ → List ℕ
add [] F = F
add (k ∷ ks) F = add ks (cond (is_in k F) F (k ∷ F))

abbrev add_firsts : List (Alt ℕ) → List ℕ → List ℕ
add_firsts [] F = F
add_firsts ((k ⇒ β) ∷ bs) F = add_firsts bs (cond (is_in k F) F (k ∷ F))

module _ (G : Grammar ℕ) where
  -- to F, what may begin β, or be f behind it
  abbrev begins : List (Sym ℕ) → List ℕ → List ℕ → List ℕ
  begins [] f F = add f F
  begins (T k ∷ β) f F = add (k ∷ []) F
  begins (N Z ∷ β) f F = cond (G.empty Z) (begins β f (add_firsts (G.alts Z) F)) (add_firsts (G.alts Z) F)

  -- to F, what follows Y there
  abbrev in_seq : ℕ → List (Sym ℕ) → List ℕ → List ℕ → List ℕ
  in_seq Y [] f F = F
  in_seq Y (T k ∷ β) f F = in_seq Y β f F
  in_seq Y (N Z ∷ β) f F = in_seq Y β f (cond (eqb Y Z) (begins β f F) F)

  abbrev in_alts : ℕ → List (Alt ℕ) → List ℕ → List ℕ → List ℕ
  in_alts Y [] f F = F
  in_alts Y ((k ⇒ β) ∷ bs) f F = in_alts Y bs f (in_seq Y β f F)

  -- the symbols from X on, with what was found to follow them
  abbrev in_rows : ℕ → ℕ → List (List ℕ) → List ℕ → List ℕ
  in_rows Y X [] F = F
  in_rows Y X (f ∷ t) F = in_rows Y (suc X) t (in_alts Y (G.alts X) f F)

  abbrev again : List (List ℕ) → ℕ → List (List ℕ) → List (List ℕ)
  again t Y [] = []
  again t Y (f ∷ fs) = in_rows Y 0 t [] ∷ again t (suc Y) fs

  abbrev rounds : ℕ → List (List ℕ) → List (List ℕ)
  rounds zero t = t
  rounds (suc n) t = rounds n (again t 0 t)

  abbrev nothing : ℕ → List (List ℕ)
  nothing zero = []
  nothing (suc n) = [] ∷ nothing n

  abbrev look : List (List ℕ) → ℕ → List ℕ
  look t x = get_or t x []

  abbrev pub follow_of : ℕ → ℕ → ℕ → List ℕ
  follow_of count n = look (rounds n (nothing count))

  -- by first alternatives
  abbrev word_seq : (ℕ → List ℕ) → List (Sym ℕ) → List ℕ
  word_seq f [] = []
  word_seq f (T k ∷ β) = k ∷ word_seq f β
  word_seq f (N X ∷ β) = f X ++ word_seq f β

  abbrev pub word_alt : (ℕ → List ℕ) → List (Alt ℕ) → List ℕ
  word_alt f [] = []
  word_alt f ((k ⇒ β) ∷ bs) = k ∷ word_seq f β

  abbrev pub word_of : ℕ → ℕ → List ℕ
  word_of zero X = []
  word_of (suc n) X = cond (G.empty X) [] (word_alt (word_of n) (G.alts X))
