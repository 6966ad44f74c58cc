-- Words by their numbers, as the code finds them: any number that has no word of its own has the last one.
use Rattle.std.specs.Prelude.{◌≡◌, refl, List, ℕ, zero, suc, get_or}
use Rattle.std.proofs.Common.{ap}
use Rattle.paper_expressions.specs.Bytes.{bytes}
use Rattle.transcript.specs.Answers.{state_words, state_word, class_words, class_word, type_words, type_word}

pub state_other : (n : ℕ) → (n ≡ 1 → ⊥) → (n ≡ 2 → ⊥) → (n ≡ 3 → ⊥) → state_word n ≡ bytes "completed"
unfolding state_words
state_other zero h1 h2 h3 = refl
state_other (suc zero) h1 h2 h3 = absurd (h1 refl)
state_other (suc (suc zero)) h1 h2 h3 = absurd (h2 refl)
state_other (suc (suc (suc zero))) h1 h2 h3 = absurd (h3 refl)
state_other (suc (suc (suc (suc n)))) h1 h2 h3 = refl

pub class_other : (n : ℕ) → (n ≡ 1 → ⊥) → (n ≡ 3 → ⊥) → (n ≡ 5 → ⊥) → (n ≡ 6 → ⊥) → class_word n ≡ bytes "source"
unfolding class_words
class_other zero h1 h3 h5 h6 = refl
class_other (suc zero) h1 h3 h5 h6 = absurd (h1 refl)
class_other (suc (suc zero)) h1 h3 h5 h6 = refl
class_other (suc (suc (suc zero))) h1 h3 h5 h6 = absurd (h3 refl)
class_other (suc (suc (suc (suc zero)))) h1 h3 h5 h6 = refl
class_other (suc (suc (suc (suc (suc zero))))) h1 h3 h5 h6 = absurd (h5 refl)
class_other (suc (suc (suc (suc (suc (suc zero)))))) h1 h3 h5 h6 = absurd (h6 refl)
class_other (suc (suc (suc (suc (suc (suc (suc n))))))) h1 h3 h5 h6 = refl

pub type_other : (n : ℕ) → (n ≡ 1 → ⊥) → (n ≡ 2 → ⊥) → (n ≡ 3 → ⊥) → (n ≡ 4 → ⊥) → (n ≡ 5 → ⊥) → (n ≡ 6 → ⊥) → (n ≡ 7 → ⊥) → (n ≡ 8 → ⊥) → (n ≡ 9 → ⊥) → type_word n ≡ bytes "setof_real"
unfolding type_words
type_other zero h1 h2 h3 h4 h5 h6 h7 h8 h9 = refl
type_other (suc zero) h1 h2 h3 h4 h5 h6 h7 h8 h9 = absurd (h1 refl)
type_other (suc (suc zero)) h1 h2 h3 h4 h5 h6 h7 h8 h9 = absurd (h2 refl)
type_other (suc (suc (suc zero))) h1 h2 h3 h4 h5 h6 h7 h8 h9 = absurd (h3 refl)
type_other (suc (suc (suc (suc zero)))) h1 h2 h3 h4 h5 h6 h7 h8 h9 = absurd (h4 refl)
type_other (suc (suc (suc (suc (suc zero))))) h1 h2 h3 h4 h5 h6 h7 h8 h9 = absurd (h5 refl)
type_other (suc (suc (suc (suc (suc (suc zero)))))) h1 h2 h3 h4 h5 h6 h7 h8 h9 = absurd (h6 refl)
type_other (suc (suc (suc (suc (suc (suc (suc zero))))))) h1 h2 h3 h4 h5 h6 h7 h8 h9 = absurd (h7 refl)
type_other (suc (suc (suc (suc (suc (suc (suc (suc zero)))))))) h1 h2 h3 h4 h5 h6 h7 h8 h9 = absurd (h8 refl)
type_other (suc (suc (suc (suc (suc (suc (suc (suc (suc zero))))))))) h1 h2 h3 h4 h5 h6 h7 h8 h9 = absurd (h9 refl)
type_other (suc (suc (suc (suc (suc (suc (suc (suc (suc (suc n)))))))))) h1 h2 h3 h4 h5 h6 h7 h8 h9 = refl
