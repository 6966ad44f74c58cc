-- The cases of the code of a line, by what it read: the fields, and the copies that it starts from.
use Rattle.std.specs.Prelude.{◌≡◌, Bool, true, false, cond, not, List, ◌++◌, ℕ, ◌+◌, ◌<◌, ◌≤◌, eqb, get_or, length}
use Rattle.std.proofs.Common.{sym, ap, subst, ◌∙◌, arith, eq-eqb, ne_eqb}
use Rattle.blocks.specs.Blocks.{Copied}
use Rattle.truths.specs.Part.{part_of, part_at}
use Rattle.separated.specs.declared.records.Scan.{Scan}
use Rattle.separated.specs.Records.{field_of}
use Rattle.season.specs.Series.{item_of, FieldAdded}
use Rattle.season.specs.UntilQuiet.{Line, Series}
use Rattle.season_answer.specs.Columns.{item_count}
use Rattle.digits.specs.Appends.{Appends}
use Rattle.digits.specs.AppendsLaws.{append_then}
use Rattle.season_answer.specs.Fields.{labels_written, blanks_written, refused_written, values_written, reached_written, ended_written}
use Rattle.season.specs.declared.records.Work.{Work}
use Rattle.season.specs.Lines.{one_more as one-line-more, work, is_spoilt, unread_line}
use Rattle.season.specs.LinesLaws.{its_own}
use Rattle.season.specs.OneLine.{name_of, Entered, of_label, of_item, earlier, AllEntered, one_more, AsLoaded, Written, refused, ran, FromLoaded, LineAnswered, RecordAnswered, unread, read}

-- ---- a field, and those behind it

module _ (columns kept ends f : List ℕ) (i : ℕ) (b s : List ℕ) {d : ℕ} (e : d ≡ item_of columns i) {h : ℕ} (n : h ≡ get_or f (1256 + d) 0) where
  as_named : {b' s' : List ℕ} {r : ℕ} → Entered columns kept ends f i b s b' s' r (name_of f columns i) → Entered columns kept ends f i b s b' s' r h
  as_named {b'} {s'} {r} x = subst (λ (m : ℕ). Entered columns kept ends f i b s b' s' r m) (sym (n ∙ ap (λ (m : ℕ). get_or f (1256 + m) 0) e)) x

  pub label_as : 64 ≤ d → Entered columns kept ends f i b s b s 0 h
  label_as l = as_named (of_label (subst (λ (m : ℕ). 64 ≤ m) e l))

  pub item_as : {w b' s' : List ℕ} {r : ℕ} → d < 64 → w ≡ field_of kept ends i → FieldAdded d w b f s b' s' r → Entered columns kept ends f i b s b' s' r h
  item_as {w} {b'} {s'} {r} l k x =
      as_named (of_item (subst (λ (m : ℕ). m < 64) e l) (subst (λ (v : List ℕ). FieldAdded (item_of columns i) v b f s b' s' r) k (subst (λ (m : ℕ). FieldAdded m w b f s b' s' r) e x)))

pub more_as : {columns kept ends f b s : List ℕ} {i : ℕ} {b' s' b'' s'' : List ℕ} {p h q k u v : ℕ} → AllEntered columns kept ends f b s i b' s' p h → Entered columns kept ends f i b' s' b'' s'' q k
    → (u ≡ earlier p p q) × (v ≡ earlier p h k) → AllEntered columns kept ends f b s (i + 1) b'' s'' u v
more_as {columns} {kept} {ends} {f} {b} {s} {i} {b'' = b''} {s'' = s''} {p = p} {h = h} {q = q} {k = k} {u = u} a x e =
    subst (λ (m : ℕ). AllEntered columns kept ends f b s (i + 1) b'' s'' u m) (sym e.1) (subst (λ (m : ℕ). AllEntered columns kept ends f b s (i + 1) b'' s'' m (earlier p h k)) (sym e.0) (one_more a x))

pub all_many : {columns kept ends f b s : List ℕ} {i many : ℕ} {b' s' : List ℕ} {p h : ℕ} → i ≡ many → AllEntered columns kept ends f b s i b' s' p h → AllEntered columns kept ends f b s many b' s' p h
all_many {columns} {kept} {ends} {f} {b} {s} {b' = b'} {s' = s'} {p = p} {h = h} e a = subst (λ (n : ℕ). AllEntered columns kept ends f b s n b' s' p h) e a

-- ---- the copies

copy_at : {from to after : List ℕ} {n : ℕ} → length to ≡ n → Copied from 0 to 0 n after → (k : ℕ) → k < n → get_or after k 0 ≡ get_or from k 0
copy_at {from} {to} {after} e c k l = subst (λ (j : ℕ). get_or after j 0 ≡ get_or from j 0) (let z : 0 + k ≡ k = omega arith in z) (c.same k l (omega arith))

module _ {texts tables part b₀ s₀ b s : List ℕ} (m : length b₀ ≡ 65536) (n : length s₀ ≡ 2952) (i : part ≡ part_of tables 5736 2952) where
  pub as_loaded : Copied texts 0 b₀ 0 65536 b → Copied part 0 s₀ 0 2952 s → AsLoaded texts tables b s
  as_loaded x y = record { bytes = x.size ∙ m; of_texts = copy_at m x; cells = y.size ∙ n; of_state = of_state }
    where
      of_state : (k : ℕ) → k < 2952 → get_or s k 0 ≡ get_or tables (5736 + k) 0
      of_state k l = copy_at n y k l ∙ ap (λ (v : List ℕ). get_or v k 0) i ∙ part_at tables 5736 2952 k l

-- ---- what is written

module _ {w : List (List Bool)} {l : Line} {separator : ℕ} {b s b' s' out out' : List ℕ} {o r : ℕ} where
  pub refused_as : {x f : List ℕ} {number name : ℕ} → AllEntered l.columns l.kept l.ends f b s l.many b' s' number name → (number ≡ 0 → ⊥)
      → Appends out out' o r (blanks_written (item_count f) separator ++ refused_written number b' name separator) → (v : List ℕ) × Written x f w l separator b s b' s' v × Appends out out' o r v
  refused_as {f = f} {number} {name} a n p = (blanks_written (item_count f) separator ++ refused_written number b' name separator, refused a n, p)

  pub ran_as : {x f b₁ s₁ : List ℕ} {number name e k : ℕ} → AllEntered l.columns l.kept l.ends f b s l.many b₁ s₁ number name → number ≡ 0 → Series x f w l b₁ s₁ b' s' e k
      → Appends out out' o r (values_written f b' s' separator ++ reached_written f b' s' separator ++ ended_written e k separator) → (v : List ℕ) × Written x f w l separator b s b' s' v × Appends out out' o r v
  ran_as {f = f} {e = e} {k = k} a z d p = (values_written f b' s' separator ++ reached_written f b' s' separator ++ ended_written e k separator, ran a z d, p)

  module _ {tables texts : List ℕ} where
    pub from_copies : {x f : List ℕ} → x ≡ part_of tables 0 4096 → f ≡ part_of tables 4096 1640 → AsLoaded texts tables b s → (v : List ℕ) × Written x f w l separator b s b' s' v × Appends out out' o r v
        → (v : List ℕ) × FromLoaded tables texts w l separator b' s' v × Appends out out' o r v
    from_copies {x} {f} i j a h = (
      h.0,
      record {
        b = b;
        s = s;
        as_loaded = a;
        is_written = subst (λ (y : List ℕ). Written y (part_of tables 4096 1640) w l separator b s b' s' h.0) i (subst (λ (y : List ℕ). Written x y w l separator b s b' s' h.0) j h.1);
      },
      h.2,
    )

pub line_as : {tables texts : List ℕ} {w : List (List Bool)} {l : Line} {separator : ℕ} {b' s' out mid out' : List ℕ} {o p r : ℕ} → Appends out mid o p (labels_written l.columns l.many l.kept l.ends separator)
    → (v : List ℕ) × FromLoaded tables texts w l separator b' s' v × Appends mid out' p r v → LineAnswered tables texts w l separator out out' o r
line_as {b' = b'} {s' = s'} a h = record { b' = b'; s' = s'; written = h.0; from_loaded = h.1; appended = append_then a h.2 }

-- ---- a record that ended

module _ (s : Scan) (many : ℕ) where
  pub with_fault : (s.fault ≡ 0 → ⊥) → true ≡ is_spoilt s many
  with_fault n = sym (ap (λ (t : Bool). cond t (not (eqb s.fields many)) true) (ne_eqb s.fault 0 n))

  pub other_number : s.fault ≡ 0 → (s.fields ≡ many → ⊥) → true ≡ is_spoilt s many
  other_number z n = sym (ap (λ (t : Bool). cond t (not (eqb s.fields many)) true) (eq-eqb s.fault 0 z) ∙ ap not (ne_eqb s.fields many n))

  pub as_many : s.fault ≡ 0 → s.fields ≡ many → false ≡ is_spoilt s many
  as_many z n = sym (ap (λ (t : Bool). cond t (not (eqb s.fields many)) true) (eq-eqb s.fault 0 z) ∙ ap not (eq-eqb s.fields many n))

module _ {tables texts : List ℕ} {w : List (List Bool)} {l : Line} {separator : ℕ} {scan : Scan} {out out' : List ℕ} {o r : ℕ} where
  pub unread_as : {p : List ℕ} {t : Bool} {m : ℕ} → m ≡ o → p ≡ part_of tables 4096 1640 → t ≡ is_spoilt scan l.many → t ≡ true → Appends out out' m r (unread_line l.columns l.many (item_count p) separator)
      → RecordAnswered tables texts w l separator scan out out' o r
  unread_as {p} {m = m} e i g h a =
      unread (sym g ∙ h)
      (subst (λ (n : ℕ). Appends out out' n r (unread_line l.columns l.many (item_count (part_of tables 4096 1640)) separator)) e (subst (λ (y : List ℕ). Appends out out' m r (unread_line l.columns l.many (item_count y) separator)) i a))

  pub read_as : {t : Bool} {m : ℕ} → m ≡ o → t ≡ is_spoilt scan l.many → t ≡ false → LineAnswered tables texts w l separator out out' m r → RecordAnswered tables texts w l separator scan out out' o r
  read_as e g h a = read (sym g ∙ h) (subst (λ (n : ℕ). LineAnswered tables texts w l separator out out' n r) e a)

  pub answered_as : {y : Work} {lines n : ℕ} (k : ℕ) → y ≡ work lines r n → n ≡ one-line-more k → RecordAnswered tables texts w l separator scan out out' o r
      → (y ≡ work lines y.o (one-line-more k)) × RecordAnswered tables texts w l separator scan out out' o y.o
  answered_as {y} {lines} k e i h =
      (its_own (e ∙ ap (λ (m : ℕ). work lines r m) i), subst (λ (q : ℕ). RecordAnswered tables texts w l separator scan out out' o q) (sym (ap (λ (z : Work). z.o) e)) h)
