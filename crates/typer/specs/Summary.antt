-- What is gathered of the types of operands, and that it has what rules 8 to 10 ask for. By the first three types.
use Rattle.std.specs.Prelude.{◌≡◌, refl, true, List, [], ◌∷◌, Option, Some, None, ℕ, is_some}
use Rattle.std.proofs.Common.{ap}
use Rattle.paper_expressions.specs.Types.{Ty}
use Rattle.paper_expressions.specs.View.{View}
use Rattle.paper_expressions.specs.Expressions.{Exprs, HaveTypes}
use Rattle.typer.specs.declared.lists.Summary.{Summary}
use Rattle.resolution.specs.Letters.{letter}
use Rattle.resolution.specs.Resolution.{slots}
use Rattle.typer.specs.Lists.{join_of, list_type}

abbrev pub start_of : Summary
start_of = record { first = 32; second = 32; third = 32; list = 97 }

-- some operand has no type
abbrev pub untyped_of : Option Summary
untyped_of = None

abbrev pub push_of : ℕ → Summary → Summary
push_of x s = record { first = x; second = s.first; third = s.second; list = join_of x s.list }

-- of operands of these types
abbrev pub summary : List Ty → Summary
summary [] = start_of
summary (t ∷ ts) = push_of (letter t) (summary ts)

-- of operands that may have no type
pub data Summed (v : View) (T : ℕ) (es : Exprs) (s : Option Summary) : Type 0 where
  all_typed : {ts : List Ty} → HaveTypes v T es ts → s ≡ Some (summary ts) → Summed v T es s
  not_all : ((ts : List Ty) → ¬ HaveTypes v T es ts) → s ≡ untyped_of → Summed v T es s

-- of operands that have types something is gathered
pub summary_typed : {v : View} {T : ℕ} {es : Exprs} {ts : List Ty} {s : Option Summary} → HaveTypes v T es ts → Summed v T es s → is_some s ≡ true
summary_typed hs (all_typed ks e) = ap is_some e
summary_typed {ts = ts} hs (not_all f e) = absurd (f ts hs)

pub summary_list : (ts : List Ty) → (summary ts).list ≡ list_type ts
summary_list [] = refl
summary_list (t ∷ ts) = rw (summary_list ts)

-- the three letters
abbrev pub three : Summary → List ℕ
three s = s.first ∷ s.second ∷ s.third ∷ []

pub summary_slots : (ts : List Ty) → three (summary ts) ≡ slots 3 ts
summary_slots [] = refl
summary_slots (t ∷ []) = refl
summary_slots (t ∷ u ∷ []) = refl
summary_slots (t ∷ u ∷ w ∷ ts) = refl
