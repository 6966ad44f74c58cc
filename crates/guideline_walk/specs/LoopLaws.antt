-- Laws of the walk: what is passed and what is left, and one turn. The rows passed are added up, and written where there is room.
use Rattle.std.specs.Prelude.{ℕ, ◌+◌, ◌*◌, ◌≤◌, ◌<◌, ◌≡◌, refl, true, ◌⊎◌, List, [], ◌∷◌, ◌++◌, length, get_or, Option as Maybe, None, Some, IsSomeAnd}
use Rattle.std.proofs.Common.{sym, ap, subst, ◌∙◌, inl, inr, append_assoc, append-nil, arith, length-append}
use Rattle.std.proofs.Math.Decide.{dec_lt}
use Rattle.paper_tokens.specs.Lexical.{Token}
use Rattle.paper_guideline.specs.Structure.{TopLevel}
use Rattle.parts.specs.Encode.{flat}
use Rattle.parts.specs.EncodeLaws.{flat_length, flat_append}
use Rattle.leaves.specs.Source.{Source}
use Rattle.expression_steps.specs.Rows.{Beside}
use Rattle.expression_steps.specs.Levels.{kind_of, stand_length}
use Rattle.pool.specs.Written.{Written}
use Rattle.pool.specs.WrittenLaws.{spelt_kept, written_none, written_more}
use Rattle.pool.specs.Pooled.{Fits}
use Rattle.guideline_rows.specs.Rows.{Row, flatten, expression_of}
use Rattle.guideline_rows.specs.Sizes.{size_in, parts_in}
use Rattle.guideline_rows.specs.Encoded.{row_text, text_of, behind_name, expression_parts, parts_of, row_cells, cells_of}
use Rattle.guideline_rows.specs.EncodedLaws.{text_snoc, parts_snoc, cells_snoc, parts_one, parts_long, cells_long, sizes_both}
use Rattle.guideline_rows.specs.Room.{text_both}
use Rattle.guideline_rows.specs.Flat
use Flat.{Mode, Shape, Turn, Flat, at_end, turn}
use Rattle.guideline_rows.specs.FlatLaws.{structure_flat}
use Rattle.guideline_rows.specs.Brackets.{turn_fine}
use Rattle.guideline_turns.specs.declared.Entry.{Entry}
use Rattle.guideline_turns.specs.declared.Mode.{Mode as Begins}
use Rattle.guideline_turns.specs.declared.Mode.TheVariants.{Row as AtRow}
use Rattle.guideline_turns.specs.declared.Passed.{Passed}
use Rattle.guideline_turns.specs.Made.{Told, Tells, Gives, Fair, parts_then, Went, Steps, mode_of}
use Rattle.guideline_walk.specs.declared.Totals.{Totals}
use Rattle.guideline_walk.specs.Made.{Tallied, Roomy, Laid, Given, Walked, WritesRow, Writes, RowLaid}
use Rattle.guideline_walk.specs.TotalLaws.{then_is, tallied_more}

-- the tables x, k, b before, and y, l, d now
pub record Upto (c : Source) (x y k l b d : List ℕ) (p : ℕ) (m : Begins) (w : Totals) (rows : List Row) : Type 0 where
  pub ok : w.ok ≡ true
  pub passed : List Row
  pub left : List Row
  pub are : rows ≡ passed ++ left
  pub tally : Tallied passed w
  pub laid : Roomy c x k b rows → Laid x y k l b d passed w
  pub tokens : List Token
  pub fair : Fair c p tokens
  pub flat : Flat (mode_of m) tokens left

pub upto_begin : {c : Source} {x k b : List ℕ} {ts : List Token} {g : List TopLevel} {w : Totals} → w.ok ≡ true → w.bytes ≡ 0 → Tallied [] w → Given c ts g → Upto c x x k k b b 0 AtRow w (flatten g)
upto_begin {c} {x} {k} {b} {ts} {g} o z t h = record {
  ok = o;
  passed = [];
  left = flatten g;
  are = refl;
  tally = t;
  laid = λ r. record { used = z; cells = written_none x 0; parts = written_none k 0; bytes = written_none b 0 };
  tokens = ts;
  fair = record { stand = h.stand; fine = record { count = 0; all = h.brackets }; few = let l = stand_length h.stand in let f = h.few in omega arith; short = h.short };
  flat = structure_flat h.structure;
}

-- ---- one turn of the rows

record Turning (m : Mode) (w : List Token) (rows : List Row) : Type 0 where
  pub shape : Shape
  pub rest : List Token
  pub next : Mode
  pub here : List Row
  pub others : List Row
  pub are : rows ≡ here ++ others
  pub shaped : Flat.shape m (kind_of w) ≡ shape
  pub one : Turn shape w rest next here
  pub flat : Flat next rest others

turning : {m : Mode} {w : List Token} {rows : List Row} → Flat m w rows → 0 < length w → Turning m w rows
turning at_end h = absurd (omega arith)
turning (turn {n = n} {s = s} {r = r} {rs = rs} {rows = rows} e x f) h = record { shape = s; rest = r; next = n; here = rs; others = rows; are = refl; shaped = e; one = x; flat = f }

no_turn : {s : Shape} {r : List Token} {m : Mode} {rs : List Row} → Turn s [] r m rs → ⊥
no_turn x = elim x [ ]

all_passed : {m : Mode} {w : List Token} {rows : List Row} → Flat m w rows → length w ≡ 0 → rows ≡ []
all_passed at_end e = refl
all_passed (turn {w = []} q x f) e = absurd (no_turn x)
all_passed (turn {w = t ∷ w} q x f) e = absurd (omega arith)

-- ---- tables

beside_all : {y z : List ℕ} {u v : ℕ} → v ≡ u → Beside u v y z → (j : ℕ) → get_or z j 0 ≡ get_or y j 0
beside_all {y} {z} {u} {v} e b j = go (dec_lt j (u * 4))
  where
    go : Dec (j < u * 4) → get_or z j 0 ≡ get_or y j 0
    go (yes h) = b.before.same j h
    go (no h) = b.behind j (omega arith)

-- what was written stays where nothing changes
written_kept : {x y z : List ℕ} {a u v : ℕ} {s : List ℕ} → v ≡ u → Beside u v y z → Written x y a s → Written x z a s
written_kept {x} {y} {z} {a} {s = s} e b w = record {
  long = b.long ∙ w.long;
  inside = spelt_kept y z s a (λ j h g. beside_all e b j) w.inside;
  outside = λ j g. beside_all e b j ∙ w.outside j g;
}

-- what is written over rows that change anyway
written_before : {x y z : List ℕ} {u v : ℕ} {s : List ℕ} → u * 4 + length s ≡ v * 4 → Beside u v x y → Written y z (u * 4) s → Written x z (u * 4) s
written_before {x} {y} {z} {u} {v} {s} e b w = record { long = w.long ∙ b.long; inside = w.inside; outside = λ j g. w.outside j g ∙ side j g }
  where
    side : (j : ℕ) → (j < u * 4) ⊎ (u * 4 + length s ≤ j) → get_or y j 0 ≡ get_or x j 0
    side j (inl h) = b.before.same j h
    side j (inr h) = b.behind j (omega arith)

-- ---- one row more

module _ {c : Source} {x y k l b d : List ℕ} {rows passed : List Row} {w : Totals} (row : Row) (others : List Row) (are : rows ≡ passed ++ (row ∷ others)) (tally : Tallied passed w) (room : Roomy c x k b rows)
    (laid : Laid x y k l b d passed w) where
  rows_room : w.rows * 8 + 8 ≤ length y
  rows_room =
      let a = ap length are ∙ length-append passed (row ∷ others) in
      let n = tally.count in
      let r = room.cells in
      let lg = laid.cells.long in
      omega arith

  parts_few : w.parts + size_in (expression_of row) ≤ parts_in rows
  parts_few = let a = ap parts_in are ∙ sizes_both passed (row ∷ others) in let n = tally.parts in omega arith

  texts_room : Fits d (w.bytes + length (row_text row))
  texts_room =
      let a = ap (λ (l : List Row). length (text_of l)) are ∙ ap length (text_both passed (row ∷ others)) ∙ length-append (text_of passed) (text_of (row ∷ others)) in
      let e = length-append (row_text row) (text_of others) in
      let u = laid.used in
      let lg = laid.bytes.long in
      let r1 = room.bytes.bytes in
      let r2 = room.bytes.places in
      record { bytes = omega arith; places = omega arith }

  laid_more : {y' l' l'' d' : List ℕ} {v : ℕ} {r : Totals} → v ≡ w.parts + size_in (expression_of row) → Beside w.parts v l l' → RowLaid y y' l' l'' d d' w.rows w.bytes w.parts row r
      → Laid x y' k l'' b d' (passed ++ (row ∷ [])) r
  laid_more {y'} {l'} {l''} {d'} {v} {r} ev bs rl =
      let n = tally.count in
      let q = tally.parts in
      let u = laid.used in
      let cl = cells_long 0 0 passed in
      let pl = parts_long 0 passed in
      let po = flat_length (expression_parts (behind_name w.bytes row) (expression_of row)) in
      let p1 = parts_one (behind_name w.bytes row) (expression_of row) in
      let e1 : w.bytes ≡ 0 + length (text_of passed) = omega arith in
      let e2 : w.parts ≡ 0 + parts_in passed = omega arith in
      record {
        used = let z = rl.used in let t = ap length (text_snoc passed row) ∙ length-append (text_of passed) (row_text row) in omega arith;
        cells = subst (Written x y' 0) (ap (λ (o : ℕ). cells_of 0 0 passed ++ row_cells o w.parts row) e1 ∙ ap (λ (v : ℕ). cells_of 0 0 passed ++ row_cells (0 + length (text_of passed)) v row) e2 ∙ sym (cells_snoc 0 0 passed row))
            (written_more laid.cells (omega arith) rl.cells);
        parts = subst (Written k l'' 0) (ap (λ (o : ℕ). flat (parts_of 0 passed) ++ flat (expression_parts (behind_name o row) (expression_of row))) e1
            ∙ sym (flat_append (parts_of 0 passed) (expression_parts (behind_name (0 + length (text_of passed)) row) (expression_of row))) ∙ ap flat (sym (parts_snoc 0 passed row)))
            (written_more laid.parts (omega arith) (written_before (omega arith) bs rl.parts));
        bytes = subst (Written b d' 0) (sym (text_snoc passed row)) (written_more laid.bytes (omega arith) rl.bytes);
      }

  laid_next : {y' l' l'' d' : List ℕ} {t : Entry} {r : Totals} → Told c l l' w.parts t row → Beside w.parts (parts_then w.parts (Some t)) l l'
      → WritesRow c.text c.places c.lengths y y' l' l'' d d' w t r → Laid x y' k l'' b d' (passed ++ (row ∷ [])) r
  laid_next {t = t} told bs wr =
      let f = parts_few in
      let few = room.few in
      let ps = room.parts in
      let lg = laid.parts.long in
      let h = wr.laid c.kinds _ w.parts row told room.sound rows_room bs.long (omega arith) (omega arith) texts_room in
      laid_more (then_is w.parts t.expression (expression_of row) told.alike told.end) bs h

-- ---- one turn

module _ {c : Source} {x y k l b d : List ℕ} {p : ℕ} {m : Begins} {w : Totals} {rows : List Row} (u : Upto c x y k l b d p m w rows) where
  module _ (inside : p < length c.kinds) where
    abbrev now : Turning (mode_of m) u.tokens u.left
    now = turning u.flat (let l = stand_length u.fair.stand in omega arith)

    given : {l' : List ℕ} {o : Maybe Passed} → Steps (mode_of m) c l l' p w.parts o → IsSomeAnd o (λ t. Gives c l l' w.parts t now.next now.rest now.here)
    given s = s.done now.shape u.tokens now.rest now.next now.here now.shaped u.fair now.one

    rows_are : rows ≡ u.passed ++ (now.here ++ now.others)
    rows_are = u.are ∙ ap (λ (l : List Row). u.passed ++ l) now.are

    module _ {l' : List ℕ} {t : Passed} (g : Gives c l l' w.parts t now.next now.rest now.here) (went : Went l l' p w.parts t) where
      fair_then : Fair c t.next now.rest
      fair_then = record { stand = g.stand; fine = turn_fine u.fair.stand u.fair.fine now.one; few = u.fair.few; short = u.fair.short }

      flat_then : Flat (mode_of t.mode) now.rest now.others
      flat_then = subst (λ (k : Mode). Flat k now.rest now.others) (sym g.mode) now.flat

      -- with no row, and with one
      by_rows : {y' l'' d' : List ℕ} {r : Totals} (o : Maybe Entry) (rs : List Row) → Tells c l l' w.parts o rs → Beside w.parts (parts_then w.parts o) l l' → rows ≡ u.passed ++ (rs ++ now.others) → Writes c.text c.places c.lengths y y' l' l'' d d' w o r
          → Upto c x y' k l'' b d' t.next t.mode r rows
      by_rows {y'} {l''} {d'} {r} None [] h bs e q =
          let z = q.none in
          let same : Upto c x y k l' b d t.next t.mode w rows = record {
            ok = u.ok;
            passed = u.passed;
            left = now.others;
            are = e;
            tally = u.tally;
            laid = λ o. let i = u.laid o in record { used = i.used; cells = i.cells; parts = written_kept refl bs i.parts; bytes = i.bytes };
            tokens = now.rest;
            fair = fair_then;
            flat = flat_then;
          } in
          let s1 = subst (λ (v : Totals). Upto c x y k l' b d t.next t.mode v rows) (sym z.0) same in
          let s2 = subst (λ (v : List ℕ). Upto c x v k l' b d t.next t.mode r rows) (sym z.1) s1 in
          let s3 = subst (λ (v : List ℕ). Upto c x y' k v b d t.next t.mode r rows) (sym z.2) s2 in
          subst (λ (v : List ℕ). Upto c x y' k l'' b v t.next t.mode r rows) (sym z.3) s3
      by_rows None (a ∷ b) h bs e q = absurd h
      by_rows (Some g1) [] h bs e q = absurd h
      by_rows (Some g1) (row ∷ []) h bs e q =
          let a = q.some.adds in
          record {
            ok = a.ok ∙ u.ok;
            passed = u.passed ++ (row ∷ []);
            left = now.others;
            are = e ∙ sym (append_assoc u.passed (row ∷ []) now.others);
            tally = tallied_more row h.kind h.alike h.end h.sized a u.tally;
            laid = λ o. laid_next row now.others e u.tally o (u.laid o) h bs q.some;
            tokens = now.rest;
            fair = fair_then;
            flat = flat_then;
          }
      by_rows (Some g1) (a ∷ b ∷ l) h bs e q = absurd h

    pub step_ok : {l' : List ℕ} → Steps (mode_of m) c l l' p w.parts None → ⊥
    step_ok s = given s

    pub next_turn : {l' y' l'' d' : List ℕ} {t : Passed} {r : Totals} → Steps (mode_of m) c l l' p w.parts (Some t) → Writes c.text c.places c.lengths y y' l' l'' d d' w t.row r
        → Upto c x y' k l'' b d' t.next t.mode r rows
    next_turn {t = t} s q = by_rows (given s) s.onward t.row now.here (given s).rows s.onward.beside rows_are q

  -- ---- at the end

  pub upto_end : length c.kinds ≤ p → Walked c x y k l b d rows w
  upto_end h =
      let e = all_passed u.flat (let l = stand_length u.fair.stand in omega arith) in
      let z : u.passed ≡ rows = sym (u.are ∙ ap (λ (l : List Row). u.passed ++ l) e ∙ append-nil u.passed) in
      record { ok = u.ok; tally = subst (λ (v : List Row). Tallied v w) z u.tally; laid = λ r. subst (λ (v : List Row). Laid x y k l b d v w) z (u.laid r) }
