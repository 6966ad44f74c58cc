-- What no state of a guideline speaks of: the guideline's own texts, and the cells and bytes behind the tables. Whatever the tables hold, no call but load changes it. By its fields, one by one.
use Rattle.std.specs.Prelude.{ℕ, ◌<◌, ◌≤◌, ◌≡◌, refl, List, get_or, length}
use Rattle.std.proofs.Common.{◌∙◌}
use Rattle.planned.specs.Planned.{own_texts}

-- how the state table ends, and the texts of the data items' values
abbrev pub state_end : ℕ
state_end = 2952

abbrev pub texts_end : ℕ
texts_end = 65536

-- b and s before, b' and s' after: what no state speaks of is as it was
pub record Elsewhere (b s b' s' : List ℕ) : Type 0 where
  pub cells : length s' ≡ length s
  pub bytes : length b' ≡ length b
  pub behind : (i : ℕ) → state_end ≤ i → get_or s' i 0 ≡ get_or s i 0
  pub own : (i : ℕ) → i < own_texts → get_or b' i 0 ≡ get_or b i 0
  pub past : (i : ℕ) → texts_end ≤ i → get_or b' i 0 ≡ get_or b i 0

pub unmoved : (b s : List ℕ) → Elsewhere b s b s
unmoved b s = record { cells = refl; bytes = refl; behind = λ i l. refl; own = λ i l. refl; past = λ i l. refl }

pub moved_on : {b s c u b' s' : List ℕ} → Elsewhere b s c u → Elsewhere c u b' s' → Elsewhere b s b' s'
moved_on x y =
    record {
      cells = y.cells ∙ x.cells;
      bytes = y.bytes ∙ x.bytes;
      behind = λ i l. y.behind i l ∙ x.behind i l;
      own = λ i l. y.own i l ∙ x.own i l;
      past = λ i l. y.past i l ∙ x.past i l;
    }
