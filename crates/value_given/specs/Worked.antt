-- Worked: what some cells and bytes give, by computing.
use Rattle.std.specs.Prelude.{◌≡◌, refl, true, false, [], ◌∷◌, pos, negsuc}
use Rattle.std.proofs.Math.Option.{none, some}
use Rattle.paper_expressions.specs.Values.{unknown, truth, integer, real, text, one, sequence}
use Rattle.value_given.specs.Given.{given}

-- one value: unknown; -3; 2.500; true, and false for any other number
pub gives_unknown : given (0 ∷ 0 ∷ []) (pos 0 ∷ pos 7 ∷ []) [] ≡ some (one unknown)
unfolding given
gives_unknown = refl

pub gives_integer : given (0 ∷ 2 ∷ []) (pos 0 ∷ negsuc 2 ∷ []) [] ≡ some (one (integer (negsuc 2)))
unfolding given
gives_integer = refl

pub gives_real : given (0 ∷ 3 ∷ []) (pos 0 ∷ pos 2500 ∷ []) [] ≡ some (one (real (pos 2500)))
unfolding given
gives_real = refl

pub gives_true : given (0 ∷ 1 ∷ []) (pos 0 ∷ pos 1 ∷ []) [] ≡ some (one (truth true))
unfolding given
gives_true = refl

pub gives_false : given (0 ∷ 1 ∷ []) (pos 0 ∷ pos 2 ∷ []) [] ≡ some (one (truth false))
unfolding given
gives_false = refl

-- the text of 2 bytes from the place 1 on; the one of 3 bytes has a byte past the end
pub gives_text : given (0 ∷ 4 ∷ []) (pos 0 ∷ pos 66 ∷ []) (32 ∷ 104 ∷ 105 ∷ []) ≡ some (one (text (104 ∷ 105 ∷ [])))
unfolding given
gives_text = refl

pub gives_zero : given (0 ∷ 4 ∷ []) (pos 0 ∷ pos 67 ∷ []) (32 ∷ 104 ∷ 105 ∷ []) ≡ some (one (text (104 ∷ 105 ∷ 0 ∷ [])))
unfolding given
gives_zero = refl

-- lists: the empty one, which needs no number, and one of two elements
pub gives_empty : given (1 ∷ []) [] [] ≡ some (sequence [])
unfolding given
gives_empty = refl

pub gives_list : given (3 ∷ 2 ∷ 0 ∷ 2 ∷ []) (pos 0 ∷ pos 1 ∷ pos 0 ∷ pos 5 ∷ []) [] ≡ some (sequence (integer (pos 1) ∷ unknown ∷ []))
unfolding given
gives_list = refl

-- no value: another tag; a text with a negative number; cells that are not lent
pub another_tag : given (0 ∷ 5 ∷ []) (pos 0 ∷ pos 0 ∷ []) [] ≡ none
unfolding given
another_tag = refl

pub negative_text : given (0 ∷ 4 ∷ []) (pos 0 ∷ negsuc 0 ∷ []) [] ≡ none
unfolding given
negative_text = refl

pub nothing_lent : given [] [] [] ≡ none
unfolding given
nothing_lent = refl

pub a_number_short : given (3 ∷ 2 ∷ 2 ∷ []) (pos 0 ∷ pos 1 ∷ []) [] ≡ none
unfolding given
a_number_short = refl

pub a_tag_short : given (3 ∷ 2 ∷ []) (pos 0 ∷ pos 1 ∷ pos 1 ∷ []) [] ≡ none
unfolding given
a_tag_short = refl
