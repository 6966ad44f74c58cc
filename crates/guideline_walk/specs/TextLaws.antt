-- Laws of one row: its name, the texts of its expression, its eight cells, and all of it.
use Rattle.std.specs.Prelude.{ℕ, ◌+◌, ◌*◌, ◌/◌, ◌≤◌, ◌<◌, ◌≡◌, refl, Bool, false, List, [], ◌∷◌, length, set, Option as Maybe, None, Some}
use Rattle.std.proofs.Common.{sym, ap, subst, ◌∙◌, arith, length-append, length-set, lt-ltb}
use Rattle.std.proofs.Math.Option.{Option, none, some}
use Rattle.std.proofs.Math.Decide.{dec_lt}
use Rattle.paper_expressions.proofs.Laws.Tests.{contra}
use Rattle.paper_expressions.specs.Limits as Values
use Rattle.paper_expressions.proofs.Laws.Parentheses.{bare}
use Rattle.paper_tokens.specs.Terminals as Terminals
use Rattle.paper_guideline.specs.Limits.{guideline_limit, part_limit}
use Rattle.paper_guideline.specs.Refusals.{long_name}
use Rattle.paper_guideline.specs.Structure.{Name, Outermost}
use Rattle.parts.specs.Texts.{cells, handle}
use Rattle.parts.specs.Part.{table}
use Rattle.parts.specs.Encode.{flat}
use Rattle.leaves.specs.declared.names.Span.{Span}
use Rattle.leaves.specs.Source.{Source, source}
use Rattle.leaves.specs.Cells.{length_cells}
use Rattle.expression_reader.specs.Reads.{bare_size}
use Rattle.pool.specs.Written.{Written}
use Rattle.pool.specs.WrittenLaws.{written_none, written_one, written_more}
use Rattle.pool.specs.Pooled.{Fits, Gathers}
use Rattle.pool.specs.Columns.{Rooms}
use Rattle.pool.specs.Held.{gathered_in}
use Rattle.guideline_rows.specs.Rows.{Row, name_of, expression_of, word_of}
use Rattle.guideline_rows.specs.Sizes.{size_in, first_of, end_of, start_of, HeldIn}
use Rattle.guideline_rows.specs.Flags.{Spells}
use Rattle.guideline_rows.specs.Encoded.{name_text, expression_text, row_text, expression_parts, name_handle, name_place, row_cells}
use Rattle.guideline_turns.specs.declared.Label.{Label}
use Rattle.guideline_turns.specs.declared.Extent.{Extent}
use Rattle.guideline_turns.specs.declared.Entry.{Entry}
use Rattle.guideline_turns.specs.Made.{Named, NameAt, place_in, first_in, end_in, start_in, Alike, Sound, Told}
use Rattle.guideline_walk.specs.declared.Totals.{Totals}
use Rattle.guideline_walk.specs.declared.texts.Moved.{Moved}
use Rattle.guideline_walk.specs.Made.{low, eight, Puts, SpellsName, NameMoved, NamedBy, MovesName, TextsMoved, MovesTexts, RowLaid}

-- ---- a name

module _ {text places lengths : List ℕ} {j : ℕ} {s : Span} (says : Spells text places lengths j s) where
  pub name_is : (kinds : List ℕ) (n : Name) → Named (source text kinds places lengths) j n → cells text s.at s.n ≡ n.spelt
  name_is kinds n h = says.done h.token (record { bytes = h.here.bytes; within = h.here.within }) ∙ ap (λ (z : Name). z.spelt) h.is

  -- a name within its limit is short
  pub name_short : (kinds : List ℕ) (n : Name) → Sound (source text kinds places lengths) → Named (source text kinds places lengths) j n → s.n ≤ Values.text_limit
  name_short kinds n sd h = go (dec_lt Values.text_limit (length n.spelt))
    where
      e : length n.spelt ≡ length (Terminals.name h.token)
      e = ap (λ (z : Name). length z.spelt) (sym h.is)

      l : length n.spelt ≡ s.n
      l = ap length (sym (name_is kinds n h)) ∙ length_cells text s.at s.n

      go : Dec (Values.text_limit < length n.spelt) → s.n ≤ Values.text_limit
      go (yes g) = absurd (sd.clean j h.token h.here (let i = h.here.inside in omega arith) (long_name h.atom (omega (arith, e))))
      go (no g) = omega (arith, l)

module _ {text places lengths b : List ℕ} {o : ℕ} where
  pub no_name : MovesName text places lengths b b None o (record { handle = 0; behind = o })
  no_name = record { done = none_here }
    where
      none_here : (kinds : List ℕ) (n : Option Name) → Sound (source text kinds places lengths) → NamedBy (source text kinds places lengths) None n → Fits b (o + length (name_text n))
          → NameMoved b b o n (record { handle = 0; behind = o })
      none_here kinds none sd h f = record { behind = omega arith; handle = refl; bytes = written_none b o }
      none_here kinds (some n) sd h f = absurd h

  module _ {v : Label} {s : Span} (says : SpellsName text places lengths v.token s) where
    pub no_room : {q : Bool} {r : Moved} → q ≡ false → Rooms (length b) (o + s.n) q → MovesName text places lengths b b (Some v) o r
    no_room {q} {r} eq m = record { done = some_here }
      where
        some_here : (kinds : List ℕ) (n : Option Name) → Sound (source text kinds places lengths) → NamedBy (source text kinds places lengths) (Some v) n → Fits b (o + length (name_text n)) → NameMoved b b o n r
        some_here kinds none sd h f = absurd h
        some_here kinds (some n) sd h f =
            let e = ap length (says.named kinds n sd h) in
            let l = length_cells text s.at s.n in
            contra (sym eq ∙ m.true_if (let y = f.bytes in omega arith, let y = f.places in omega arith))

    pub name_moved : {d : List ℕ} {x : ℕ} → x ≡ handle o s.n → Written b d o (cells text s.at s.n) → MovesName text places lengths b d (Some v) o (record { handle = x; behind = o + s.n })
    name_moved {d} {x} ex w = record { done = some_here }
      where
        some_here : (kinds : List ℕ) (n : Option Name) → Sound (source text kinds places lengths) → NamedBy (source text kinds places lengths) (Some v) n → Fits b (o + length (name_text n))
            → NameMoved b d o n (record { handle = x; behind = o + s.n })
        some_here kinds none sd h f = absurd h
        some_here kinds (some n) sd h f =
            let q = says.named kinds n sd h in
            let e = ap length q in
            let l = length_cells text s.at s.n in
            record { behind = omega arith; handle = ex ∙ ap (handle o) (sym l ∙ e); bytes = subst (Written b d o) q w }

-- ---- the texts of an expression

module _ {text k b : List ℕ} {o : ℕ} where
  pub texts_none : MovesTexts text k k b b None o o
  texts_none = record { done = none_here }
    where
      none_here : (u : ℕ) (e : Option Outermost) → Alike None e → 0 ≡ first_of u e → 0 ≡ end_of u e → HeldIn (table k text) u e → (u + size_in e) * 4 ≤ length k → Fits b (o + length (expression_text e)) → TextsMoved k k b b u o o e
      none_here u none a ef ee h l f = record { ends = omega arith; parts = written_none k (u * 4); bytes = written_none b o }
      none_here u (some x) a ef ee h l f = absurd a

  pub texts_moved : {x : Extent} {l d : List ℕ} {r : ℕ} → Gathers text k l b d x.first x.end o r → MovesTexts text k l b d (Some x) o r
  texts_moved {x} {l} {d} {r} g = record { done = some_here }
    where
      some_here : (u : ℕ) (e : Option Outermost) → Alike (Some x) e → x.first ≡ first_of u e → x.end ≡ end_of u e → HeldIn (table k text) u e → (u + size_in e) * 4 ≤ length k → Fits b (o + length (expression_text e))
          → TextsMoved k l b d u o r e
      some_here u none a ef ee h ln f = absurd a
      some_here u (some y) a ef ee h ln f =
          let s = bare_size y.tree in
          let m = gathered_in (subst (λ (j : ℕ). Gathers text k l b d j x.end o r) ef g) (bare y.tree) h (omega arith) (omega arith) f in
          record { ends = m.ends; parts = m.cells; bytes = m.bytes }

-- ---- the cells

pub low_is : (x : ℕ) → x < 4294967296 → low x ≡ x
low_is x h = rw (lt-ltb x 4294967296 h)

-- eight stores
pub eight_written : (x : List ℕ) (i a b c d e f g h : ℕ) → i + 8 ≤ length x
    → Written x (set (set (set (set (set (set (set (set x i a) (i + 1) b) (i + 2) c) (i + 3) d) (i + 4) e) (i + 5) f) (i + 6) g) (i + 7) h) i (a ∷ b ∷ c ∷ d ∷ e ∷ f ∷ g ∷ h ∷ [])
eight_written x i a b c d e f g h l =
    let x1 = set x i a in let x2 = set x1 (i + 1) b in let x3 = set x2 (i + 2) c in let x4 = set x3 (i + 3) d in
    let x5 = set x4 (i + 4) e in let x6 = set x5 (i + 5) f in let x7 = set x6 (i + 6) g in
    let n1 = length-set x i a in let n2 = length-set x1 (i + 1) b in let n3 = length-set x2 (i + 2) c in let n4 = length-set x3 (i + 3) d in
    let n5 = length-set x4 (i + 4) e in let n6 = length-set x5 (i + 5) f in let n7 = length-set x6 (i + 6) g in
    let w1 = written_one x i a (omega arith) in
    let w2 = written_more w1 refl (written_one x1 (i + 1) b (omega arith)) in
    let w3 = written_more w2 refl (written_one x2 (i + 2) c (omega arith)) in
    let w4 = written_more w3 refl (written_one x3 (i + 3) d (omega arith)) in
    let w5 = written_more w4 refl (written_one x4 (i + 4) e (omega arith)) in
    let w6 = written_more w5 refl (written_one x5 (i + 5) f (omega arith)) in
    let w7 = written_more w6 refl (written_one x6 (i + 6) g (omega arith)) in
    written_more w7 refl (written_one x7 (i + 7) h (omega arith))

pub eight_put : (x : List ℕ) (n : ℕ) (t : Entry) (h a b d e f : ℕ) → a ≡ low t.word → b ≡ low (place_in t.name) → d ≡ low (first_in t.expression) → e ≡ low (start_in t.expression) → f ≡ low (end_in t.expression) → n < length x / 8
    → Puts x (set (set (set (set (set (set (set (set x (n * 8) t.kind) (n * 8 + 1) a) (n * 8 + 2) h) (n * 8 + 3) b) (n * 8 + 4) d) (n * 8 + 5) e) (n * 8 + 6) f) (n * 8 + 7) t.flag) n t h
eight_put x n t h a b d e f ea eb ed ee ef l = record {
  done = λ g.
      subst (Written x (set (set (set (set (set (set (set (set x (n * 8) t.kind) (n * 8 + 1) a) (n * 8 + 2) h) (n * 8 + 3) b) (n * 8 + 4) d) (n * 8 + 5) e) (n * 8 + 6) f) (n * 8 + 7) t.flag) (n * 8))
      (let z : ◌≡◌ {A = List ℕ} (t.kind ∷ a ∷ h ∷ b ∷ d ∷ e ∷ f ∷ t.flag ∷ []) (eight t h) = cc in z) (eight_written x (n * 8) t.kind a h b d e f t.flag g);
}

-- where a name stands
place_is : (c : Source) (l : Maybe Label) (n : Option Name) → length c.text ≤ guideline_limit → NameAt c l n → (place_in l ≡ name_place n) × (place_in l ≤ guideline_limit)
place_is c None none l h = (refl, omega arith)
place_is c None (some n) l h = absurd h
place_is c (Some v) none l h = absurd h
place_is c (Some v) (some n) l h =
    let w = h.0.here.within in
    let q = h.0.here.place in
    let e = ap (λ (z : Name). z.place) h.0.is in
    let z = h.1 in
    (z, omega arith)

first_low : (u : ℕ) (e : Option Outermost) → u + size_in e ≤ part_limit → (first_of u e ≤ part_limit) × (end_of u e ≤ part_limit)
first_low u none h = (omega arith, omega arith)
first_low u (some x) h = (omega arith, omega arith)

module _ {c : Source} {j k : List ℕ} {u : ℕ} {t : Entry} {row : Row} (told : Told c j k u t row) (sd : Sound c) (few : u + size_in (expression_of row) ≤ part_limit) where
  pub cells_are : (o : ℕ) {h : ℕ} → h ≡ name_handle o (name_of row) → eight t h ≡ row_cells o u row
  cells_are o {h} eh =
      let p = place_is c t.name (name_of row) sd.short told.name in
      let q = first_low u (expression_of row) few in
      let pl = p.1 in
      let ef = told.first in
      let en = told.end in
      let q0 = q.0 in
      let q1 = q.1 in
      let wl = told.low in
      let nr = told.near in
      let e1 = told.kind in
      let e2 : low t.word ≡ word_of row = low_is t.word (omega arith) ∙ told.word in
      let e4 : low (place_in t.name) ≡ name_place (name_of row) = low_is (place_in t.name) (omega arith) ∙ p.0 in
      let e5 : low (first_in t.expression) ≡ first_of u (expression_of row) = low_is (first_in t.expression) (omega arith) ∙ ef in
      let e6 : low (start_in t.expression) ≡ start_of (expression_of row) = low_is (start_in t.expression) (omega arith) ∙ told.start in
      let e7 : low (end_in t.expression) ≡ end_of u (expression_of row) = low_is (end_in t.expression) (omega arith) ∙ en in
      let e8 = told.flag in
      cc

-- the token alone
named_by : (c : Source) (l : Maybe Label) (n : Option Name) → NameAt c l n → NamedBy c l n
named_by c None none h = h
named_by c None (some n) h = absurd h
named_by c (Some v) none h = absurd h
named_by c (Some v) (some n) h = h.0

-- ---- the whole row

pub row_laid : {text kinds places lengths j x y k l b a d : List ℕ} {u o n z : ℕ} {t : Entry} {row : Row} {m : Moved} {r : Totals} → Told (source text kinds places lengths) j k u t row
    → Sound (source text kinds places lengths) → n * 8 + 8 ≤ length x → length k ≡ length j → u + size_in (expression_of row) ≤ part_limit → (u + size_in (expression_of row)) * 4 ≤ length j
    → Fits b (o + length (row_text row)) → MovesName text places lengths b a t.name o m → MovesTexts text k l a d t.expression m.behind z → Puts x y n t m.handle → r.bytes ≡ z
    → RowLaid x y k l b d n o u row r
row_laid {text} {kinds} {places} {lengths} {j} {x} {y} {k} {l} {b} {a} {d} {u} {o} {n} {z} {t} {row} {m} {r} told sd lx lj few room ft name texts put er =
    let e = expression_of row in
    let al = length-append (name_text (name_of row)) (expression_text e) in
    let fb = ft.bytes in
    let fp = ft.places in
    let nm = name.done kinds (name_of row) sd (named_by (source text kinds places lengths) t.name (name_of row) told.name) (record { bytes = omega arith; places = omega arith }) in
    let nb = nm.behind in
    let nl = nm.bytes.long in
    let tm = texts.done u e told.alike told.first told.end (told.held sd few room) (omega arith) (record { bytes = omega arith; places = omega arith }) in
    let te = tm.ends in
    record {
      used = omega arith;
      cells = subst (Written x y (n * 8)) (cells_are told sd few o nm.handle) (put.done lx);
      parts = subst (λ (q : ℕ). Written k l (u * 4) (flat (expression_parts q e))) nb tm.parts;
      bytes = written_more nm.bytes nb tm.bytes;
    }
