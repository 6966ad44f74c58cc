-- The sequences of the form's symbols that a printed nonterminal stands for, from the meanings of those symbols.
-- A nonterminal that a symbol means with nothing before it is that symbol; one that a symbol makes of another nonterminal is that one and the symbol; any other is what its productions say.
-- Nothing rests on this being so: the test of Forward asks only for some sequences.
use Rattle.std.specs.Prelude.{ℕ, zero, suc, Bool, false, cond, ◌&&◌, not, List, [], ◌∷◌, ◌++◌, map, eqb}
use Rattle.paper_grammar.proofs.Laws.Ll.{Sym, T, N}
use Rattle.paper_grammar.proofs.Laws.Tagged.{Rule, ◌⟶◌}

abbrev Seq : Type 0
Seq = List (Sym ℕ)

abbrev one : Seq → ℕ → Bool
one [] A = false
one (T k ∷ l) A = false
one (N B ∷ []) A = eqb A B
one (N B ∷ s ∷ l) A = false

-- with these before it, these beyond it, and this number
abbrev direct : Seq → Seq → ℕ → ℕ → List Seq → List Seq
direct [] σ x A r = cond (one σ A) ((N x ∷ []) ∷ []) r
direct (s ∷ ρ) σ x A r = r

abbrev onto : (ℕ → List Seq) → Seq → Seq → ℕ → ℕ → List Seq → List Seq
onto f [] σ x A r = r
onto f (T k ∷ ρ) σ x A r = r
onto f (N B ∷ []) σ x A r = cond (one σ A && not (eqb A B)) (map (λ γ. γ ++ N x ∷ []) (f B)) r
onto f (N B ∷ s ∷ ρ) σ x A r = r

abbrev directs : List (Seq × Seq) → ℕ → ℕ → List Seq → List Seq
directs [] x A r = r
directs (m ∷ ms) x A r = direct m.0 m.1 x A (directs ms (suc x) A r)

abbrev ontos : (ℕ → List Seq) → List (Seq × Seq) → ℕ → ℕ → List Seq → List Seq
ontos f [] x A r = r
ontos f (m ∷ ms) x A r = onto f m.0 m.1 x A (ontos f ms (suc x) A r)

abbrev joins : List Seq → List Seq → List Seq
joins [] l = []
joins (δ ∷ ds) l = map (λ γ. δ ++ γ) l ++ joins ds l

abbrev spread : (ℕ → List Seq) → Seq → List Seq
spread f [] = [] ∷ []
spread f (T k ∷ α) = map (λ γ. T k ∷ γ) (spread f α)
spread f (N B ∷ α) = joins (f B) (spread f α)

abbrev spreads : (ℕ → List Seq) → List Rule → ℕ → List Seq
spreads f [] A = []
spreads f ((B ⟶ α) ∷ P) A = cond (eqb A B) (spread f α ++ spreads f P A) (spreads f P A)

abbrev pub image_of : List Rule → List (Seq × Seq) → ℕ → ℕ → List Seq
image_of P M zero A = []
image_of P M (suc n) A = directs M 0 A (ontos (image_of P M n) M 0 A (spreads (image_of P M n) P A))
