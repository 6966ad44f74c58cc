-- What is gathered of the operands' values: the first three, and all as one list. By what is put in front.
use Rattle.std.specs.Prelude.{◌≡◌, refl, List, [], ◌∷◌, map, ℕ, suc, ◌≤◌, ◌<◌, length, take, drop}
use Rattle.std.proofs.Common.{sym, ap, ap₂, subst, ◌∙◌, arith, drop_of_length-le}
use Rattle.paper_expressions.specs.Values as paper
use Rattle.values.specs.declared.value.Value.{Value}
use Rattle.values.specs.Meaning.{meaning, meaning_v, scalar_of}
use Rattle.operators.specs.Means.{meanings}
use Rattle.operators.specs.Comes.{lowered, lowered_is}
use Rattle.evaluator.specs.declared.operands.Operands.{Operands}
use Rattle.evaluator.specs.Lists.{Put, Tail, tail_none, tail_more}

-- o holds no value yet, of n operands
abbrev pub NoneOf : ℕ → Operands → Type 0
NoneOf n o = (o.list.n ≡ n) × (length o.list.items ≡ 16)

-- r is o with v in front, as the k-th
pub record PutOf (k : ℕ) (v : Value) (o r : Operands) : Type 0 where
  pub first : r.first ≡ v
  pub second : r.second ≡ o.first
  pub third : r.third ≡ o.second
  pub list : k < 16 → Put k (scalar_of v) o.list r.list

abbrev pub three : Operands → List Value
three o = o.first ∷ o.second ∷ o.third ∷ []

-- the first of vs mean the first of ws, as far as both go
abbrev pub Slots : List ℕ → List paper.Value → List Value → Type 0
Slots b [] vs = Unit {0}
Slots b (w ∷ ws) [] = Unit {0}
Slots b (w ∷ ws) (v ∷ vs) = (meaning_v b v ≡ w) × Slots b ws vs

-- of the n values ws, o holds those from the k-th on
pub record Gathers (b : List ℕ) (n k : ℕ) (ws : List paper.Value) (o : Operands) : Type 0 where
  pub slots : Slots b (drop k ws) (three o)
  pub list : n ≤ 16 → Tail b n k o.list (map lowered (drop k ws))

fewer : (b : List ℕ) (ws : List paper.Value) (x y z : Value) → Slots b ws (x ∷ y ∷ z ∷ []) → Slots b ws (x ∷ y ∷ [])
fewer b [] x y z h = tt
fewer b (u ∷ []) x y z h = (h.0, tt)
fewer b (u ∷ v ∷ []) x y z h = (h.0, (h.1.0, tt))
fewer b (u ∷ v ∷ w ∷ ws) x y z h = (h.0, (h.1.0, tt))

pub gathers_none : (b : List ℕ) (n : ℕ) (ws : List paper.Value) (o : Operands) → length ws ≡ n → NoneOf n o → Gathers b n n ws o
gathers_none b n ws o l h =
    let e : drop n ws ≡ [] = drop_of_length-le ws {i = n} (omega arith) in
    record {
      slots = subst (λ (us : List paper.Value). Slots b us (three o)) (sym e) tt;
      list = λ i. subst (λ (us : List paper.Value). Tail b n n o.list (map lowered us)) (sym e) (tail_none b n o.list h);
    }

pub gathers_more : (b : List ℕ) (n k : ℕ) (ws : List paper.Value) (w : paper.Value) (v : Value) (o r : Operands) → k < n → drop k ws ≡ w ∷ drop (suc k) ws → meaning_v b v ≡ w
    → Gathers b n (suc k) ws o → PutOf k v o r → Gathers b n k ws r
gathers_more b n k ws w v o r h e m g p =
    let us = drop (suc k) ws in
    let s : Slots b us (r.second ∷ r.third ∷ []) =
    subst (λ (x : Value). Slots b us (x ∷ r.third ∷ [])) (sym p.second)
    (subst (λ (x : Value). Slots b us (o.first ∷ x ∷ [])) (sym p.third) (fewer b us o.first o.second o.third g.slots)) in
    let z : meaning b (scalar_of v) ≡ lowered w = lowered_is b v ∙ ap lowered m in
    record {
      slots = subst (λ (ys : List paper.Value). Slots b ys (three r)) (sym e) (ap (meaning_v b) p.first ∙ m, s);
      list = λ i.
          subst (Tail b n k r.list) (ap (λ (y : paper.Scalar). y ∷ map lowered us) z ∙ ap (map lowered) (sym e))
          (tail_more b n k (scalar_of v) o.list r.list i h (g.list i) (p.list (omega arith)));
    }

-- at most three values are all there
pub all_slots : (b : List ℕ) (ws : List paper.Value) (x y z : Value) → length ws ≤ 3 → Slots b ws (x ∷ y ∷ z ∷ []) → ws ≡ meanings b (take (length ws) (x ∷ y ∷ z ∷ []))
all_slots b [] x y z l h = refl
all_slots b (u ∷ []) x y z l h = ap (λ (a : paper.Value). a ∷ []) (sym h.0)
all_slots b (u ∷ v ∷ []) x y z l h = ap₂ (λ (a c : paper.Value). a ∷ c ∷ []) (sym h.0) (sym h.1.0)
all_slots b (u ∷ v ∷ w ∷ []) x y z l h = ap₂ ◌∷◌ (sym h.0) (ap₂ (λ (a c : paper.Value). a ∷ c ∷ []) (sym h.1.0) (sym h.1.1.0))
all_slots b (u ∷ v ∷ w ∷ t ∷ ws) x y z l h = absurd (omega arith)
