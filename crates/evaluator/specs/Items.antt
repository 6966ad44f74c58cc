-- Law: what is read of an item's cells is what they show. By the shape; a list from its last cell to its first.
use Rattle.std.specs.Prelude.{◌≡◌, true, false, List, ◌∷◌, ℕ, zero, suc, ◌+◌, ◌*◌, ◌-◌, ◌≤◌, ◌<◌, get_or, length}
use Rattle.std.proofs.Common.{sym, ap, ap₂, subst, ◌∙◌, not-suc-le-zero, arith, ne_eqb, lt-ltb, le-ltb}
use Rattle.paper_expressions.specs.Values as paper
use Rattle.values.specs.declared.scalar.Scalar.{Scalar}
use Rattle.values.specs.declared.scalar.Scalar.TheVariants.{Unknown}
use Rattle.values.specs.declared.list.List as Code
use Rattle.values.specs.declared.value.Value.{Value}
use Rattle.values.specs.Meaning.{meaning}
use Rattle.operators.specs.Comes.{single_is}
use Rattle.evaluator.specs.Columns.{cell_at, cells_at_fn, shaped_at, shown_at, ElementsOf, ItemOf}
use Rattle.evaluator.specs.Lists.{Put, Tail, tail_none, tail_more, tail_all, many_is}

module _ (tags nums : List ℕ) where
  module _ (p n : ℕ) where
    -- of the n cells from p on, l holds those from the k-th on
    abbrev pub Filled : ℕ → Code.List → Type 0
    Filled k l = (b : List ℕ) → Tail b n k l (cells_at_fn b tags nums (p + k) (n - k))

    pub filled_none : (l : Code.List) → (l.n ≡ n) × (length l.items ≡ 16) → Filled n l
    filled_none l h b = let e : n - n ≡ 0 = omega arith in rw e (tail_none b n l h)

    pub filled_more : (k : ℕ) (s : Scalar) (l r : Code.List) → n ≤ 16 → 0 < k → k ≤ n → s ≡ cell_at tags nums (p + (k - 1)) → (k - 1 < 16 → Put (k - 1) s l r) → Filled k l → Filled (k - 1) r
    filled_more zero s l r m z h e q f b = absurd (not-suc-le-zero z)
    filled_more (suc k) s l r m z h e q f b =
        let less : suc k - 1 ≡ k = omega arith in
        let one_less : n - k ≡ suc (n - suc k) = omega arith in
        let on : p + suc k ≡ suc (p + k) = omega arith in
        let at : s ≡ cell_at tags nums (p + k) = e ∙ ap (λ (j : ℕ). cell_at tags nums (p + j)) less in
        let put : Put k s l r = subst (λ (j : ℕ). Put j s l r) less (q (omega arith)) in
        let t = tail_more b n k s l r m (omega arith) (f b) put in
        rw less (rw one_less (subst (Tail b n k r) (ap (λ (x : Scalar). meaning b x ∷ cells_at_fn b tags nums (p + suc k) (n - suc k)) at ∙ ap (λ (j : ℕ). meaning b (cell_at tags nums (p + k)) ∷ cells_at_fn b tags nums j (n - suc k)) on) t))

    pub filled_all : (k : ℕ) (l : Code.List) → k ≤ 0 → Filled k l → ElementsOf tags nums p n l
    filled_all zero l z f b = tail_all b n l (f b) ∙ ap₂ (cells_at_fn b tags nums) (let e : p + 0 ≡ p = omega arith in e) (let e : n - 0 ≡ n = omega arith in e)
    filled_all (suc k) l z f b = absurd (not-suc-le-zero z)

  module _ (i : ℕ) (r : Value) where
    pub item_far : 65536 ≤ i → (r.many ≡ false) × (r.one ≡ Unknown) → ItemOf tags nums i r
    item_far h e b = single_is b r e ∙ sym (rw (le-ltb i 65536 h))

    near : i < 65536 → (b : List ℕ) → shown_at b tags nums i ≡ shaped_at b tags nums (17 * i) (get_or tags (17 * i) 0)
    near h b = rw (lt-ltb i 65536 h)

    pub item_one : (k : ℕ) {s : Scalar} → i < 65536 → k ≡ get_or tags (17 * i) 0 → k ≡ 0 → s ≡ cell_at tags nums (17 * i + 1) → (r.many ≡ false) × (r.one ≡ s) → ItemOf tags nums i r
    item_one k h y z e m b = single_is b r m ∙ ap (λ (x : Scalar). paper.one (meaning b x)) e ∙ ap (shaped_at b tags nums (17 * i)) (sym z ∙ y) ∙ sym (near h b)

    pub item_long : (k : ℕ) → i < 65536 → k ≡ get_or tags (17 * i) 0 → 17 < k → (r.many ≡ false) × (r.one ≡ Unknown) → ItemOf tags nums i r
    item_long k h y l m b = single_is b r m ∙ sym shaped ∙ ap (shaped_at b tags nums (17 * i)) y ∙ sym (near h b)
      where
        shaped : shaped_at b tags nums (17 * i) k ≡ paper.one paper.unknown
        shaped = rw (ne_eqb k 0 (λ z. absurd (omega arith)), lt-ltb 17 k l)

    pub item_many : (k : ℕ) {l : Code.List} → i < 65536 → k ≡ get_or tags (17 * i) 0 → ¬ (k ≡ 0) → k ≤ 17 → ElementsOf tags nums (17 * i + 1) (k - 1) l → (r.many ≡ true) × (r.list ≡ l) → ItemOf tags nums i r
    item_many k h y n l f m b = many_is b r m ∙ ap paper.sequence (f b) ∙ sym shaped ∙ ap (shaped_at b tags nums (17 * i)) y ∙ sym (near h b)
      where
        shaped : shaped_at b tags nums (17 * i) k ≡ paper.sequence (cells_at_fn b tags nums (17 * i + 1) (k - 1))
        shaped = rw (ne_eqb k 0 n, le-ltb 17 k l)
