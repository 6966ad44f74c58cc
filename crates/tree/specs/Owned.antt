-- Which row is that of the n-th task, data item or source, as the plan counts them, and which is an owner's caption; and the steps of the searches.
use Rattle.std.specs.Prelude.{ℕ, ◌+◌, ◌≤◌, ◌<◌, ◌≡◌, Bool, true, false, ◌&&◌, [], ◌∷◌, eqb}
use Rattle.std.proofs.Common.{arith, sym, ap, ◌∙◌, add-one, below_more, eqb-true, eq-eqb}
use Rattle.std.proofs.Math.Decide.{dec_lt}
use Rattle.paper_expressions.proofs.Laws.Tests.{contra, and_l, and_r}
use Rattle.paper_tokens.specs.Tokens.{“caption”, “description”, “mandatory”}
use Rattle.paper_grammar.proofs.Laws.Ll.{is_in}
use Rattle.row_names.specs.Sheet.{task_kind}
use Rattle.row_names.specs.Flat.{is_data}
use Rattle.plan.specs.Writes.{one_if, counted, is_source}
use Rattle.tree.specs.declared.owners.Owner.{Owner}
use Rattle.tree.specs.declared.owners.Owner.TheVariants.{Task, Item, Source}

abbrev pub begins_kind : Owner → ℕ → Bool
begins_kind Task k = task_kind k
begins_kind Item k = is_data k
begins_kind Source k = is_source k

-- r is the row below `to` whose kind passes and before which n rows do, or `to`, and then no more than n do
pub record Numbered (f : ℕ → Bool) (kind : ℕ → ℕ) (n to r : ℕ) : Type 0 where
  pub within : r ≤ to
  pub passes : r < to → f (kind r) ≡ true
  pub number : r < to → counted f kind r ≡ n
  pub none : r ≡ to → counted f kind to ≤ n

-- what may stand between an owner and its caption
abbrev pub passed_kind : ℕ → Bool
passed_kind k = is_in k (“description” ∷ “mandatory” ∷ [])

-- between the rows j and m stands nothing else
abbrev pub Between : (ℕ → ℕ) → ℕ → ℕ → Type 0
Between kind j m = (i : ℕ) → j < i → i < m → passed_kind (kind i) ≡ true

-- r is the row below `to` of the caption behind the row j; where there is one, r is it
pub record Captioned (kind : ℕ → ℕ) (j to r : ℕ) : Type 0 where
  pub here : r < to → (j < r) × (kind r ≡ “caption”) × Between kind j r
  pub only : (m : ℕ) → j < m → m < to → Between kind j m → kind m ≡ “caption” → r ≡ m

-- ---- the search for the n-th

module _ (f : ℕ → Bool) (kind : ℕ → ℕ) (n to : ℕ) where
  -- the rows before i are counted, and the n-th is not among them
  abbrev pub Counts : ℕ → ℕ → Type 0
  Counts seen i = (seen ≡ counted f kind i) × (seen ≤ n) × (seen ≤ i) × (i ≤ to)

  pub numbered_here : (seen i : ℕ) {a r : Bool} → Counts seen i → i < to → a ≡ f (kind i) → r ≡ (a && eqb seen n) → r ≡ true → Numbered f kind n to i
  numbered_here seen i {a} h l e q t = record {
    within = omega arith;
    passes = λ k. sym e ∙ and_l a (eqb seen n) (sym q ∙ t);
    number = λ k. sym h.0 ∙ eqb-true seen n (and_r a (eqb seen n) (sym q ∙ t));
    none = λ k. absurd (omega arith);
  }

  pub counted_more : (i : ℕ) → counted f kind (i + 1) ≡ counted f kind i + one_if (f (kind i))
  counted_more i = rw (add-one i)

  pub counts_on : (seen i : ℕ) {a r : Bool} {x : ℕ} → Counts seen i → i < to → a ≡ f (kind i) → r ≡ (a && eqb seen n) → r ≡ false → x ≡ seen + one_if a → Counts x (i + 1)
  counts_on seen i {a} {r} {x} h l e q t y = go a e (sym q ∙ t) y
    where
      go : (b : Bool) → b ≡ f (kind i) → (b && eqb seen n) ≡ false → x ≡ seen + one_if b → Counts x (i + 1)
      go true g z w =
          let k : ¬ (seen ≡ n) = (λ v. contra (sym z ∙ eq-eqb seen n v)) in
          let u = h.1 in
          let v = h.2 in
          (w ∙ ap (λ (y : ℕ). y + 1) h.0 ∙ ap (λ (y : Bool). counted f kind i + one_if y) g ∙ sym (counted_more i), omega arith, omega arith, omega arith)
      go false g z w =
          let u = h.1 in
          let v = h.2 in
          (w ∙ ap (λ (y : ℕ). y + 0) h.0 ∙ ap (λ (y : Bool). counted f kind i + one_if y) g ∙ sym (counted_more i), omega arith, omega arith, omega arith)

  pub numbered_none : (seen i : ℕ) → Counts seen i → to ≤ i → Numbered f kind n to to
  numbered_none seen i h l = record {
    within = omega arith;
    passes = λ k. absurd (omega arith);
    number = λ k. absurd (omega arith);
    none = λ k. (let u = h.1 in let v = h.3 in let w : i ≡ to = omega arith in let x : seen ≡ counted f kind to = h.0 ∙ ap (counted f kind) w in omega arith);
  }

-- ---- the search for a caption

no_caption : {A : Type 0} (k : ℕ) → passed_kind k ≡ true → k ≡ “caption” → A
no_caption k e q = contra (sym (ap passed_kind q) ∙ e)

module _ (kind : ℕ → ℕ) (j to : ℕ) where
  -- the rows behind j up to i are passed
  abbrev pub Passing : ℕ → Type 0
  Passing i = (j ≤ i) × ((m : ℕ) → j < m → m < i + 1 → passed_kind (kind m) ≡ true)

  pub caption_here : (i : ℕ) → Passing i → kind (i + 1) ≡ “caption” → Captioned kind j to (i + 1)
  caption_here i h e = record { here = λ l. (let z = h.0 in (omega arith, e, h.1)); only = λ m a l w q. go m a w q (dec_lt m (i + 1)) (dec_lt (i + 1) m) }
    where
      go : (m : ℕ) → j < m → Between kind j m → kind m ≡ “caption” → Dec (m < i + 1) → Dec (i + 1 < m) → i + 1 ≡ m
      go m a w q (yes b) d = no_caption (kind m) (h.1 m a b) q
      go m a w q (no b) (yes d) = no_caption (kind (i + 1)) (w (i + 1) (let z = h.0 in omega arith) d) e
      go m a w q (no b) (no d) = omega arith

  pub caption_stopped : (i : ℕ) → Passing i → ¬ (kind (i + 1) ≡ “caption”) → passed_kind (kind (i + 1)) ≡ false → Captioned kind j to to
  caption_stopped i h e x = record { here = λ l. absurd (omega arith); only = λ m a l w q. go m a w q (dec_lt m (i + 1)) (dec_lt (i + 1) m) }
    where
      go : (m : ℕ) → j < m → Between kind j m → kind m ≡ “caption” → Dec (m < i + 1) → Dec (i + 1 < m) → to ≡ m
      go m a w q (yes b) d = no_caption (kind m) (h.1 m a b) q
      go m a w q (no b) (yes d) = contra (sym x ∙ w (i + 1) (let z = h.0 in omega arith) d)
      go m a w q (no b) (no d) = let z : i + 1 ≡ m = omega arith in absurd (e (ap kind z ∙ q))

  pub caption_none : (i : ℕ) → Passing i → to ≤ i → Captioned kind j to to
  caption_none i h l = record { here = λ k. absurd (omega arith); only = λ m a k w q. no_caption (kind m) (h.1 m a (omega arith)) q }

  pub caption_beyond : (i : ℕ) → Passing i → to ≤ i + 1 → Captioned kind j to to
  caption_beyond i h l = record { here = λ k. absurd (omega arith); only = λ m a k w q. no_caption (kind m) (h.1 m a (omega arith)) q }

  pub passing_more : (i : ℕ) → Passing i → passed_kind (kind (i + 1)) ≡ true → Passing (i + 1)
  passing_more i h e = ((let z = h.0 in omega arith), λ m a b. below_more (λ (k : ℕ). j < k → passed_kind (kind k) ≡ true) (i + 1) (λ k d c. h.1 k c d) (λ c. e) m b a)
