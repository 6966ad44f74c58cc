-- What a grammar is, and what it derives. Definitions only.
-- A symbol is a number. Those below `terminals` are the terminals, the others the nonterminals.
use Rattle.std.specs.Prelude.{ℕ, ◌<◌}
use mathlib.Core.List.{List, [], ◌∷◌, ◌++◌, Memᴰ}

infix 10 ◌::=◌
pub data Prod : Type 0 where
  ◌::=◌ : ℕ → List ℕ → Prod

module _ (terminals : ℕ) (P : List Prod) where
  -- the tokens w come of these symbols: the first symbol is the first token, or becomes what one of its productions says
  pub data Derives : List ℕ → List ℕ → Type 0 where
    done : Derives [] []
    token : {k : ℕ} {α w : List ℕ} → k < terminals → Derives α w → Derives (k ∷ α) (k ∷ w)
    rule : {A : ℕ} {α β w : List ℕ} → Memᴰ (A ::= β) P → Derives (β ++ α) w → Derives (A ∷ α) w
