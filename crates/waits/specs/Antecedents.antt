-- What the walk over the tasks that are waited for has found out. By the tasks passed.
use Rattle.std.specs.Prelude.{ℕ, ◌+◌, ◌≡◌, Bool, true, false, not, ◌&&◌, ◌||◌, List}
use Rattle.std.proofs.Common.{sym, subst, ◌∙◌}
use Rattle.state.specs.Layout.{row_is_fn}
use Rattle.waits.specs.declared.Before.{Before}
use Rattle.waits.specs.Booleans.{all_f, any_f, all_more, any_more, all_none, any_none}
use Rattle.waits.specs.Twins.{marked, ended_f, over_f, completed_f, discarded_f}

pub record Noted (s : List ℕ) (waits : Bool) (a : ℕ) (b r : Before) : Type 0 where
  pub any : r.any ≡ (b.any || waits)
  pub over : r.over ≡ (b.over && (not waits || ended_f s a))
  pub completed : r.completed ≡ (b.completed || (waits && row_is_fn s 8 a 5 4))
  pub discarded : r.discarded ≡ (b.discarded && (not waits || row_is_fn s 8 a 5 3))

pub record Upto (s : List ℕ) (row : List Bool) (n : ℕ) (b : Before) : Type 0 where
  pub any : b.any ≡ any_f (marked row) n
  pub over : b.over ≡ all_f (over_f s row) n
  pub completed : b.completed ≡ any_f (completed_f s row) n
  pub discarded : b.discarded ≡ all_f (discarded_f s row) n

pub upto_none : (s : List ℕ) (row : List Bool) (b : Before) → b.any ≡ false → b.over ≡ true → b.completed ≡ false → b.discarded ≡ true → Upto s row 0 b
upto_none s row b p q r u = record { any = p ∙ any_none _; over = q ∙ all_none _; completed = r ∙ any_none _; discarded = u ∙ all_none _ }

pub upto_more : (s : List ℕ) (row : List Bool) (n : ℕ) (b r : Before) {waits : Bool} → waits ≡ marked row n → Upto s row n b → Noted s waits n b r → Upto s row (n + 1) r
upto_more s row n b r {waits} w h k = record { any = any ∙ sym (any_more _ n); over = over ∙ sym (all_more _ n); completed = completed ∙ sym (any_more _ n); discarded = discarded ∙ sym (all_more _ n) }
  where
    any : r.any ≡ (any_f (marked row) n || marked row n)
    any = let x = k.any in let y = h.any in cc

    over : r.over ≡ (all_f (over_f s row) n && over_f s row n)
    over = let x = k.over in let y = h.over in cc

    completed : r.completed ≡ (any_f (completed_f s row) n || completed_f s row n)
    completed = let x = k.completed in let y = h.completed in cc

    discarded : r.discarded ≡ (all_f (discarded_f s row) n && discarded_f s row n)
    discarded = let x = k.discarded in let y = h.discarded in cc

pub upto_all : (s : List ℕ) (row : List Bool) (n : ℕ) (b : Before) → n ≡ 32 → Upto s row n b → Upto s row 32 b
upto_all s row n b e h = subst (λ (m : ℕ). Upto s row m b) e h
