-- Laws on cells that are all zero. By the cells, one by one.
use Rattle.std.specs.Prelude.{ℕ, zero, suc, ◌+◌, ◌<◌, ◌≡◌, refl, List, length, get_or, set, replicate}
use Rattle.std.proofs.Common.{sym, ap, ◌∙◌, arith, below_more, ext_get_or, get_or-set_same, get_or-set_other}
use Rattle.std.proofs.lemmas.List.{length-replicate, get_or-replicate}

-- as many zeros as there are cells
abbrev pub zeros : List ℕ → List ℕ
zeros l = replicate (length l) 0

pub one_zero : (c : List ℕ) (i : ℕ) → i < length c → ((k : ℕ) → k < i → get_or c k 0 ≡ 0) → (k : ℕ) → k < i + 1 → get_or (set c i 0) k 0 ≡ 0
one_zero c i h d = below_more (λ (k : ℕ). get_or (set c i 0) k 0 ≡ 0) i (λ k l. get_or-set_other c i k 0 0 (λ e. omega arith) ∙ d k l) (get_or-set_same c i 0 0 h)

pub all_zero : (c : List ℕ) (n : ℕ) → length c ≡ n → ((k : ℕ) → k < length c → get_or c k 0 ≡ 0) → c ≡ replicate n 0
all_zero c n e d = ext_get_or 0 c (replicate n 0) (e ∙ sym (length-replicate n 0)) (λ k h. d k h ∙ sym (get_or-replicate n k 0 0 (omega arith)))

zero_cell : (n j : ℕ) → ◌≡◌ {A = ℕ} (get_or (replicate n 0) j 0) 0
zero_cell zero j = refl
zero_cell (suc n) zero = refl
zero_cell (suc n) (suc j) = zero_cell n j

-- each cell of zeros is zero, within them and behind
pub zero_at : (l m : List ℕ) → l ≡ zeros m → (j : ℕ) → get_or l j 0 ≡ 0
zero_at l m e j = ap (λ (w : List ℕ). get_or w j 0) e ∙ zero_cell (length m) j

pub zeros_long : (l m : List ℕ) → l ≡ zeros m → length l ≡ length m
zeros_long l m e = ap length e ∙ length-replicate (length m) 0

pub zeros_again : (l m : List ℕ) → l ≡ zeros m → l ≡ zeros l
zeros_again l m e = e ∙ ap (λ (n : ℕ). replicate n 0) (sym (zeros_long l m e))
