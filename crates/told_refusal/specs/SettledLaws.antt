-- One part more; and the columns that are gathered of the rows are those of the guideline's data items.
use Rattle.std.specs.Prelude.{ℕ, ◌+◌, ◌≤◌, ◌<◌, ◌≡◌, refl, ◌⊎◌, List, Option, Some, None, IfSome, length, get_or, take, set}
use Rattle.std.proofs.Common.{arith, sym, subst, ◌∙◌, inl, inr, ⊎_elim, length-set, get_or-set_same, get_or-set_other}
use Rattle.std.specs.Option.{unwrap_or}
use Rattle.std.proofs.Math.Decide.{dec_lt}
use Rattle.paper_guideline.specs.Structure.{TopLevel}
use Rattle.paper_guideline.specs.Limits.{depth_limit, data_item_limit}
use Rattle.parts.specs.Part.{Table}
use Rattle.row_tests.specs.Table.{row_limit}
use Rattle.typer.specs.Typed.{Typed}
use Rattle.types.specs.Columns.{Gathers}
use Rattle.types.specs.Judged.{Given}
use Rattle.types.specs.JudgedLaws.{few_gathered, gathered_items}
use Rattle.explain_rows.specs.Types.{root, Untyped, UntypedOf}
use Rattle.told_refusal.specs.Settled.{Spelt, FirstUntyped, Settled}

-- ---- the letters of the parts before p

pub record Letters (t : Table) (names types : List ℕ) (from : ℕ) (l m : List ℕ) (p : ℕ) : Type 0 where
  pub low : from ≤ p
  pub long : length m ≡ length l
  pub spelt : (q : ℕ) → from ≤ q → q < p → Typed t names types root (q + 1) depth_limit (get_or m q 0)
  pub others : (q : ℕ) → (q < from) ⊎ (p ≤ q) → get_or m q 0 ≡ get_or l q 0

pub letters_none : (t : Table) (names types : List ℕ) (from : ℕ) (l : List ℕ) → Letters t names types from l l from
letters_none t names types from l = record { low = omega arith; long = refl; spelt = λ q a b. absurd (omega arith); others = λ q h. refl }

module _ {t : Table} {names types : List ℕ} {from : ℕ} {l m : List ℕ} {p : ℕ} (w : Letters t names types from l m p) where
  pub letters_more : {a : ℕ} → p < length m → Typed t names types root (p + 1) depth_limit a → Letters t names types from l (set m p a) (p + 1)
  letters_more {a} h d = record {
    low = let e = w.low in omega arith;
    long = length-set m p a ∙ w.long;
    spelt = λ q u v. typed q u v (dec_lt q p);
    others = λ q e. let low = w.low in ⊎_elim
        (λ (z : q < from). get_or-set_other m p q a 0 (λ y. omega arith) ∙ w.others q (inl z))
        (λ (z : p + 1 ≤ q). get_or-set_other m p q a 0 (λ y. omega arith) ∙ w.others q (inr (omega arith)))
        e;
  }
    where
      typed : (q : ℕ) → from ≤ q → q < p + 1 → Dec (q < p) → Typed t names types root (q + 1) depth_limit (get_or (set m p a) q 0)
      typed q u v (yes z) = subst (Typed t names types root (q + 1) depth_limit) (sym (get_or-set_other m p q a 0 (λ y. omega arith))) (w.spelt q u z)
      typed q u v (no z) =
          let e : p ≡ q = omega arith in
          subst (λ (k : ℕ). Typed t names types root (k + 1) depth_limit (get_or (set m p a) k 0)) e
          (subst (Typed t names types root (p + 1) depth_limit) (sym (get_or-set_same m p a 0 h)) d)

  -- there is no more room, or all are there
  pub letters_full : (to : ℕ) → p < to → length m ≤ p → Spelt t names types from to l m
  letters_full to h k = record {
    long = w.long;
    spelt = λ q a b f. let e = w.long in w.spelt q a (omega arith);
    others = λ q e. w.others q (⊎_elim (λ (z : q < from). inl z) (λ (z : to ≤ q). inr (omega arith)) e);
  }

  pub letters_all : (to : ℕ) → to ≤ p → (p ≤ to) ⊎ (p ≡ from) → Spelt t names types from to l m
  letters_all to h k = record {
    long = w.long;
    spelt = λ q a b f. w.spelt q a (omega arith);
    others = λ q e. w.others q (⊎_elim
        (λ (z : q < from). inl z)
        (λ (z : to ≤ q). ⊎_elim (λ (y : p ≤ to). inr (omega arith)) (λ (y : p ≡ from). before_or (dec_lt q from) y) k)
        e);
  }
    where
      before_or : {q : ℕ} → Dec (q < from) → p ≡ from → (q < from) ⊎ (p ≤ q)
      before_or (yes z) y = inl z
      before_or (no z) y = inr (omega arith)

-- the first part that has no type, where there is one
pub untyped_or : (t : Table) (names types : List ℕ) (from to : ℕ) (r : Option ℕ) → UntypedOf t names types from to r → Untyped t names types from to (unwrap_or r to)
untyped_or t names types from to None w = w
untyped_or t names types from to (Some p) w = w.1

-- .. and it is one of them
pub untyped_within : (t : Table) (names types : List ℕ) (from to : ℕ) (r : Option ℕ) → UntypedOf t names types from to r → IfSome r (λ (p : ℕ). p < to)
untyped_within t names types from to None w = tt
untyped_within t names types from to (Some p) w = w.0

-- ---- the columns

pub too_long : {x : List ℕ} {n : ℕ} {t : Table} {g : List TopLevel} {A : Type 0} → row_limit < n → Given x n t g → A
too_long l given = absurd (let f = given.few_rows in omega arith)

module _ {x : List ℕ} {n : ℕ} {l k l' k' : List ℕ} {m : ℕ} (h : Gathers x n l k l' k' m) where
  pub too_many : (t : Table) {g : List TopLevel} {A : Type 0} → data_item_limit < m → Given x n t g → A
  too_many t u given = absurd (let f = few_gathered t h given in omega arith)

  pub settled : (t : Table) {from to r : ℕ} {s s' : List ℕ} → length l ≡ data_item_limit → length k ≡ data_item_limit
      → Untyped t (take m l') k' from to r → Spelt t (take m l') k' from to s s' → Settled x n t from to s s' r
  settled t el ek u w g given = (record { names = take m l'; types = k'; hold = gathered_items t h given el ek }, u, w)

-- where the expression begins and ends, by the cells of its row
pub settled_at : {x : List ℕ} {n : ℕ} {t : Table} {a b from to : ℕ} {l l' : List ℕ} {r : ℕ} → a ≡ from → b ≡ to → Settled x n t a b l l' r → FirstUntyped x n t from to r
settled_at {x} {n} {t} {a} {b} {from} {to} {r = r} ea eb h =
    subst (λ (i : ℕ). FirstUntyped x n t i to r) ea (subst (λ (i : ℕ). FirstUntyped x n t a i r) eb (λ g given. let s = h g given in (s.0, s.1)))
