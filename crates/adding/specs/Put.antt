-- Which cells and bytes are written for a value that is added, and that the tables then hold the table with it. By the regions of the tables.
use Rattle.std.specs.Prelude.{ℕ, ◌+◌, ◌*◌, ◌<◌, ◌≤◌, ◌≡◌, refl, Bool, false, ◌⊎◌, List, get_or, set, length}
use Rattle.std.proofs.Common.{arith, sym, ap, subst, ◌∙◌, inl, inr, length-set, get_or-set_same, get_or-set_other}
use Rattle.std.proofs.Math.Decide.{dec_lt, ℕ_discrete}
use Rattle.std.proofs.Math.Option.{Option, some}
use Rattle.paper_expressions.specs.Values as paper
use Rattle.paper_guideline.specs.Structure.{TopLevel}
use Rattle.paper_rows.specs.Table.{task, data_item, Component, ◌№◌, Property, value, requested, RowValue, value_is, truth_row, Table}
use Rattle.paper_rows.proofs.Laws.Seen.{value_f}
use Rattle.paper_calls.specs.Calls.{Replaced, replaced, kept, Replaces, AddDataValue, add_2a, add_2b}
use Rattle.paper_calls.proofs.Laws.CallLaws.{Mild, sets_good}
use Rattle.values.specs.declared.value.Value.{Value}
use Rattle.blocks.specs.Blocks.{Copied, Outside}
use Rattle.state.specs.Cell.{Cell, plain_truth}
use Rattle.state.specs.Items as Items
use Rattle.state.specs.Items.{holds_as}
use Rattle.state.specs.Layout.{Rows}
use Rattle.items.specs.Encode.{Encodes}
use Rattle.holding.specs.Holding.{Holds, ItemAt}
use Rattle.replying.specs.Replying.{Elsewhere}
use Rattle.replying.specs.Moved.{holds_moved, item_stays, cell_stays, column_below}

-- ---- the cells and bytes

-- no cell of the row requested or of the value of the item d
pub record Away (d i : ℕ) : Type 0 where
  pub tag : ¬ (i ≡ 648 + d)
  pub number : ¬ (i ≡ 712 + d)
  pub tags : Outside (776 + 17 * d) 17 i
  pub numbers : Outside (1864 + 17 * d) 17 i

-- cells and out are the form of a value
pub record Put (cells out : List ℕ) (d : ℕ) (s s' b b' : List ℕ) : Type 0 where
  pub size : length s' ≡ length s
  pub room : length b' ≡ length b
  pub tags : 2952 ≤ length s → (j : ℕ) → j < 17 → get_or s' (776 + 17 * d + j) 0 ≡ get_or cells (0 + j) 0
  pub numbers : 2952 ≤ length s → (j : ℕ) → j < 17 → get_or s' (1864 + 17 * d + j) 0 ≡ get_or cells (17 + j) 0
  pub texts : 65536 ≤ length b → (i : ℕ) → i < 768 → get_or b' (16384 + 768 * d + i) 0 ≡ get_or out (0 + i) 0
  pub asked : 2952 ≤ length s → (get_or s' (648 + d) 0 ≡ 2) × (get_or s' (712 + d) 0 ≡ 0)
  pub other : (i : ℕ) → Away d i → get_or s' i 0 ≡ get_or s i 0
  pub elsewhere : (i : ℕ) → Outside (16384 + 768 * d) 768 i → get_or b' i 0 ≡ get_or b i 0

pub put_all : (cells out : List ℕ) (d : ℕ) (s b : List ℕ) {u v p s' b' : List ℕ} → d < 64
    → Copied cells 0 s (776 + 17 * d) 17 u → Copied cells 17 u (1864 + 17 * d) 17 v → Copied out 0 b (16384 + 768 * d) 768 b'
    → p ≡ set v (648 + d) 2 → s' ≡ set p (712 + d) 0 → Put cells out d s s' b b'
put_all cells out d s b {u} {v} {p} {s'} {b'} l x y z e f =
    record {
      size = size;
      room = z.size;
      tags = λ m j i. away (776 + 17 * d + j) (λ q. omega arith) (λ q. omega arith) ∙ y.other (776 + 17 * d + j) (inl (omega arith)) ∙ x.same j i (omega arith);
      numbers = λ m j i. (let n = x.size in away (1864 + 17 * d + j) (λ q. omega arith) (λ q. omega arith) ∙ y.same j i (omega arith));
      texts = λ m i j. z.same i j (omega arith);
      asked = λ m. asked m;
      other = λ i a. away i a.tag a.number ∙ y.other i a.numbers ∙ x.other i a.tags;
      elsewhere = z.other;
    }
  where
    both : s' ≡ set (set v (648 + d) 2) (712 + d) 0
    both = f ∙ ap (λ (q : List ℕ). set q (712 + d) 0) e

    size : length s' ≡ length s
    size = ap length both ∙ length-set (set v (648 + d) 2) (712 + d) 0 ∙ length-set v (648 + d) 2 ∙ y.size ∙ x.size

    away : (i : ℕ) → ¬ (i ≡ 648 + d) → ¬ (i ≡ 712 + d) → get_or s' i 0 ≡ get_or v i 0
    away i n m = ap (λ (q : List ℕ). get_or q i 0) both ∙ get_or-set_other (set v (648 + d) 2) (712 + d) i 0 0 m ∙ get_or-set_other v (648 + d) i 2 0 n

    asked : 2952 ≤ length s → (get_or s' (648 + d) 0 ≡ 2) × (get_or s' (712 + d) 0 ≡ 0)
    asked m =
        let a = x.size in
        let c = y.size in (
          ap (λ (q : List ℕ). get_or q (648 + d) 0) both ∙ get_or-set_other (set v (648 + d) 2) (712 + d) (648 + d) 0 0 (λ q. omega arith) ∙ get_or-set_same v (648 + d) 2 0 (omega arith),
          ap (λ (q : List ℕ). get_or q (712 + d) 0) both ∙ get_or-set_same (set v (648 + d) 2) (712 + d) 0 0 (simp length-set (omega arith)),
        )

-- v the value, whose texts stand in t
pub record Stores (t : List ℕ) (v : Value) (d : ℕ) (s s' b b' : List ℕ) : Type 0 where
  pub cells : List ℕ
  pub out : List ℕ
  pub long : 34 ≤ length cells
  pub wide : 768 ≤ length out
  pub form : Encodes t v (16384 + 768 * d) cells out
  pub written : Put cells out d s s' b b'

pub stores : (t : List ℕ) (v : Value) (d : ℕ) (s b cells out : List ℕ) {s' b' : List ℕ} → 34 ≤ length cells → 768 ≤ length out → Encodes t v (16384 + 768 * d) cells out → Put cells out d s s' b b' → Stores t v d s s' b b'
stores t v d s b cells out l m e p = record { cells = cells; out = out; long = l; wide = m; form = e; written = p }

pub put_elsewhere : {cells out : List ℕ} {d : ℕ} {s s' b b' : List ℕ} → d < 64 → Put cells out d s s' b b' → Elsewhere b s b' s'
put_elsewhere {d = d} l p =
    record {
      cells = p.size;
      bytes = p.room;
      behind = λ i m. p.other i (record { tag = λ q. omega arith; number = λ q. omega arith; tags = inr (omega arith); numbers = inr (omega arith) });
      own = λ i m. p.elsewhere i (inl (omega arith));
      past = λ i m. p.elsewhere i (inr (omega arith));
    }

-- ---- the rows

same_item : {d e : ℕ} → data_item № d ≡ data_item № e → d ≡ e
same_item e = cc

module _ {D : ℕ} {w : paper.Value} where
  of_task : {T : ℕ} {p : Property} {o o' : Option RowValue} → Replaced (AddDataValue D w) (task № T) p o o' → o' ≡ o
  of_task (replaced n) = absurd (elim n [ ])
  of_task (kept n) = refl

  its_item : {c : Component} {p : Property} {o : Option RowValue} → AddDataValue D w c p o → c ≡ data_item № D
  its_item add_2a = refl
  its_item add_2b = refl

  of_other : {d : ℕ} {p : Property} {o o' : Option RowValue} → ¬ (d ≡ D) → Replaced (AddDataValue D w) (data_item № d) p o o' → o' ≡ o
  of_other m (replaced n) = absurd (m (same_item (its_item n)))
  of_other m (kept n) = refl

  -- the property and the row that are set
  its_row : {c : Component} {p : Property} {o : Option RowValue} → AddDataValue D w c p o → ((p ≡ value) × (o ≡ some (value_is w))) ⊎ ((p ≡ requested) × (o ≡ some (truth_row false)))
  its_row add_2a = inl (refl, refl)
  its_row add_2b = inr (refl, refl)

  its_asked : {o : Option RowValue} → AddDataValue D w (data_item № D) requested o → o ≡ some (truth_row false)
  its_asked {o} n = go (its_row n)
    where
      go : ((requested ≡ value) × (o ≡ some (value_is w))) ⊎ ((requested ≡ requested) × (o ≡ some (truth_row false))) → o ≡ some (truth_row false)
      go (inl z) = let e = z.0 in cc
      go (inr z) = z.1

  of_asked : {o o' : Option RowValue} → Replaced (AddDataValue D w) (data_item № D) requested o o' → o' ≡ some (truth_row false)
  of_asked (replaced n) = its_asked n
  of_asked (kept n) = absurd (n (some (truth_row false)) add_2b)

  its_value : {o : Option RowValue} → AddDataValue D w (data_item № D) value o → o ≡ some (value_is w)
  its_value {o} n = go (its_row n)
    where
      go : ((value ≡ value) × (o ≡ some (value_is w))) ⊎ ((value ≡ requested) × (o ≡ some (truth_row false))) → o ≡ some (value_is w)
      go (inl z) = z.1
      go (inr z) = let e = z.0 in cc

  of_value : {o o' : Option RowValue} → Replaced (AddDataValue D w) (data_item № D) value o o' → o' ≡ some (value_is w)
  of_value (replaced n) = its_value n
  of_value (kept n) = absurd (n (some (value_is w)) add_2a)

module _ {g : List TopLevel} {x b f : List ℕ} {v : List (List Bool)} {s : List ℕ} {t : Table} {flag : Bool} {time : ℕ} (h : Holds g x b f v s t flag time)
    {D : ℕ} {w : paper.Value} (small : D < 64) {cells out s' b' : List ℕ} (p : Put cells out D s s' b b') (held : Items.Holds cells 0 17 out 0 (16384 + 768 * D) (some w))
    {t' : Table} (mild : Mild g t (AddDataValue D w)) (r : Replaces (AddDataValue D w) t t') where
  front : (i : ℕ) → i < 648 → get_or s' i 0 ≡ get_or s i 0
  front i l = p.other i (record { tag = λ q. omega arith; number = λ q. omega arith; tags = inl (omega arith); numbers = inl (omega arith) })

  asked : (d : ℕ) → d < 64 → Dec (d ≡ D) → Cell (get_or s' (648 + d) 0) (get_or s' (712 + d) 0) (t' (data_item № d) requested)
  asked d l (yes e) =
      let a = p.asked h.cells in
      subst (λ (y : ℕ). Cell (get_or s' (648 + y) 0) (get_or s' (712 + y) 0) (t' (data_item № y) requested)) (sym e)
      (subst (Cell (get_or s' (648 + D) 0) (get_or s' (712 + D) 0)) (sym (of_asked (r (data_item № D) requested))) (record { plain = plain_truth false; its_tag = a.0; its_number = a.1 }))
  asked d l (no e) =
      cell_stays
      (p.other (648 + d) (record { tag = λ q. e (omega arith); number = λ q. omega arith; tags = inl (omega arith); numbers = inl (omega arith) }))
      (p.other (712 + d) (record { tag = λ q. omega arith; number = λ q. e (omega arith); tags = inl (omega arith); numbers = inl (omega arith) }))
      (of_other e (r (data_item № d) requested)) (h.rows.asked l)

  rows : Rows s' t'
  rows =
      record {
        tasks = λ {c} {p = q} {T} k l. (let j = column_below k in let m = j.1 in let n = j.2 in cell_stays (front (c + T) (omega arith)) (front (c + 32 + T) (omega arith)) (of_task (r (task № T) q)) (h.rows.tasks k l));
        past = λ {c} {p = q} T k l. of_task (r (task № T) q) ∙ h.rows.past T k l;
        asked = λ {d} l. asked d l (ℕ_discrete d D);
      }

  apart : (d j : ℕ) → ¬ (d ≡ D) → j < 17 → d < 64 → Away D (776 + 17 * d + j) × Away D (1864 + 17 * d + j)
  apart d j e l m = go (dec_lt d D)
    where
      go : Dec (d < D) → Away D (776 + 17 * d + j) × Away D (1864 + 17 * d + j)
      go (yes n) = (record { tag = λ q. omega arith; number = λ q. omega arith; tags = inl (omega arith); numbers = inl (omega arith) }, record { tag = λ q. omega arith; number = λ q. omega arith; tags = inr (omega arith); numbers = inl (omega arith) })
      go (no n) = (record { tag = λ q. omega arith; number = λ q. omega arith; tags = inr (omega arith); numbers = inl (omega arith) }, record { tag = λ q. omega arith; number = λ q. omega arith; tags = inr (omega arith); numbers = inr (omega arith) })

  bytes_apart : (d i : ℕ) → ¬ (d ≡ D) → i < 768 → Outside (16384 + 768 * D) 768 (16384 + 768 * d + i)
  bytes_apart d i e l = go (dec_lt d D)
    where
      go : Dec (d < D) → Outside (16384 + 768 * D) 768 (16384 + 768 * d + i)
      go (yes n) = inl (omega arith)
      go (no n) = inr (omega arith)

  values : (d : ℕ) → d < 64 → Dec (d ≡ D) → ItemAt s' b' d (value_f (t' (data_item № d) value))
  values d l (yes e) =
      subst (λ (y : ℕ). ItemAt s' b' y (value_f (t' (data_item № y) value))) (sym e)
      (subst (λ (o : Option RowValue). ItemAt s' b' D (value_f o)) (sym (of_value (r (data_item № D) value)))
      (holds_as held (p.tags h.cells) (p.numbers h.cells) (p.texts h.bytes)))
  values d l (no e) =
      item_stays d (λ j m. p.other (776 + 17 * d + j) (apart d j e m l).0) (λ j m. p.other (1864 + 17 * d + j) (apart d j e m l).1) (λ i m. p.elsewhere (16384 + 768 * d + i) (bytes_apart d i e m))
      (subst (λ (o : Option RowValue). ItemAt s b d (value_f o)) (sym (of_other e (r (data_item № d) value))) (h.values d l))

  pub holds_added : Holds g x b' f v s' t' flag time
  holds_added =
      holds_moved h (put_elsewhere small p) (sets_good h.good mild r) h.timely
      (record { loaded = front 0 (omega arith); flagged = front 1 (omega arith); timed = front 2 (omega arith) ∙ h.timed; spare = λ i l n. front i (omega arith) })
      rows
      (λ d l. values d l (ℕ_discrete d D))
