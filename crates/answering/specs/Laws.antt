-- From what the tests of names and types find to the answer and the tables; and that only one reply fits.
use Rattle.std.specs.Prelude.{ℕ, ◌≤◌, ◌≡◌, refl, List, length, replicate, Option, Some, None, Result, Ok, Err}
use Rattle.std.proofs.Common.{arith, sym, ap, subst, ◌∙◌}
use Rattle.paper_guideline.specs.Limits.{task_limit}
use Rattle.paper_guideline.specs.Structure.{TopLevel, tasks}
use Rattle.paper_guideline.specs.Names.{NameBreach}
use Rattle.paper_guideline.specs.Refusals as Refusals
use Rattle.paper_guideline.proofs.Laws.RefusalLaws.{one_answer}
use Rattle.paper_guideline.proofs.Laws.StageTwin.{one_read}
use Rattle.parts.specs.Part.{Table, table}
use Rattle.guideline_rows.specs.Rows.{flatten}
use Rattle.guideline_rows.specs.Encoded.{Encoded}
use Rattle.guideline_rows.specs.LimitLaws.{in_limits}
use Rattle.guideline_rows.specs.OneEncoding.{AsLong, one_encoding}
use Rattle.row_names.specs.Shape.{structure_shaped}
use Rattle.row_tests.specs.EncodedSheet.{encoded_agrees}
use Rattle.names.specs.Verdict as Names
use Rattle.types.specs.Judged as Types
use Rattle.types.specs.Load.{within, rows_within, items_within, given_of}
use Rattle.stages.specs.Judged.{Short, is_short, Empty, Accepted, refusal}
use Rattle.reading.specs.Reply as Reads
use Rattle.reading.specs.Laws.{same_refusal}
use Rattle.stages.specs.declared.Refused.{Refused}
use Rattle.answering.specs.Reply.{Reply, Answered, Passing, Outcome, Typed, Named}
use Rattle.answering.specs.Stages.{never_both, name_refused, name_passed, type_refused, type_passed}

-- ---- what the limits give

module _ {S : Type 0} {text x : List ℕ} {t : Table} {n k : ℕ} {g : List TopLevel} (h : Passing S text x t n k g) (far : 5 ≤ k) where
  counts : (p : ℕ) → ¬ Refusals.Breach S text Refusals.count_stage p
  counts p = h.passed Refusals.count_stage p (omega arith)

  limits : (p : ℕ) → ¬ Refusals.Breach S text Refusals.limit_stage p
  limits p = h.passed Refusals.limit_stage p (omega arith)

  few_tasks : length (tasks g) ≤ task_limit
  few_tasks = within (λ l. limits (length text) (Refusals.many_tasks h.read l))

  pub names_told : (r : Option ℕ) → Names.Judged x n t.bytes r → Names.ToldOf g r
  names_told r j =
      let f = rows_within h.read h.count counts in
      j g (structure_shaped h.read.structure) (encoded_agrees h.encoded (in_limits h.read limits) h.count f) f few_tasks (items_within h.read limits)

  pub types_told : (r : Option ℕ) → Types.Judged x n t r → ((p : ℕ) → ¬ NameBreach g p) → Types.ToldOf g r
  types_told r j none = j g (given_of h.read h.encoded h.count counts limits none)

-- ---- 5

names_fine : {S : Type 0} {text x : List ℕ} {t : Table} {n : ℕ} {g : List TopLevel} → Passing S text x t n 6 g → (p : ℕ) → ¬ NameBreach g p
names_fine h p b = h.passed Refusals.name_stage p (omega arith) (Refusals.name_breach h.read b)

module _ {x : List ℕ} {t : Table} {n : ℕ} (r : Option ℕ) (judged : Types.Judged x n t r) where
  pub well_typed : r ≡ None → Typed x t n x t (Ok n)
  well_typed e =
      record {
        outcome = λ S text g h. (let k = subst (Types.ToldOf g) e (types_told h (omega arith) r judged (names_fine h)) in (type_passed h.read h.passed k, refl, refl, refl));
      }

  pub ill_typed : {p : ℕ} {x' : List ℕ} {t' : Table} → r ≡ Some p → Empty x t x' t' → Typed x t n x' t' (Err (refusal 5 p))
  ill_typed e z =
      record { outcome = λ S text g h. (let k = subst (Types.ToldOf g) e (types_told h (omega arith) r judged (names_fine h)) in (type_refused h.read h.passed k.0 k.1, z)) }

-- ---- 4

module _ {x : List ℕ} {t : Table} {n : ℕ} (r : Option ℕ) (judged : Names.Judged x n t.bytes r) where
  pub well_named : {x' : List ℕ} {t' : Table} {a : Result ℕ Refused} → r ≡ None → Typed x t n x' t' a → Named x t n x' t' a
  well_named e y =
      record {
        outcome = λ S text g h. (let k = subst (Names.ToldOf g) e (names_told h (omega arith) r judged) in
            y.outcome S text g (record { read = h.read; passed = name_passed h.read h.passed k; count = h.count; encoded = h.encoded }));
      }

  pub ill_named : {p : ℕ} {x' : List ℕ} {t' : Table} → r ≡ Some p → Empty x t x' t' → Named x t n x' t' (Err (refusal 4 p))
  ill_named e z =
      record { outcome = λ S text g h. (let k = subst (Names.ToldOf g) e (names_told h (omega arith) r judged) in (name_refused h.read h.passed k.0 k.1, z)) }

-- ---- the whole

module _ {text x y : List ℕ} {t u : Table} {r : Result ℕ Refused} (reads : Reads.Answered text x t y u r) where
  pub turned_away : {s : Refused} → r ≡ Err s → Answered text x t y u (Err s)
  turned_away e = let k = subst (Reads.Reply text x t y u) e reads.reply in record { reply = (Refusals.is_refused k.0.refused, k.1) }

  pub went_on : {n : ℕ} {z : List ℕ} {v : Table} {a : Result ℕ Refused} → r ≡ Ok n → Named y u n z v a → Answered text x t z v a
  went_on {n} {z} {v} {a} e named =
      let k = subst (Reads.Reply text x t y u) e reads.reply in
      record { reply = told k a (named.outcome (is_short (length x) (length t.cells) (length t.bytes)) text k.guideline (record { read = k.read; passed = k.passed; count = k.count; encoded = k.encoded })) }
    where
      told : (k : Accepted text x t y u n) (q : Result ℕ Refused) → Outcome (Short x t) text y u n z v q → Reply text x t z v q
      told k (Ok m) h =
          record {
            guideline = k.guideline;
            read = k.read;
            answers = h.0;
            count = h.1 ∙ k.count;
            long = subst (λ (i : List ℕ). AsLong i x v t) (sym h.2) (subst (λ (w : Table). AsLong y x w t) (sym h.3) k.long);
            encoded = subst (λ (i : List ℕ). Encoded (flatten k.guideline) i v) (sym h.2) (subst (Encoded (flatten k.guideline) y) (sym h.3) k.encoded);
          }
      told k (Err s) h =
          let l = k.long in (
            h.0,
            record {
              rows = h.1.rows ∙ ap (λ (i : ℕ). replicate i 0) l.cells;
              parts = h.1.parts ∙ ap (λ (i : ℕ). replicate i 0) l.parts;
              bytes = h.1.bytes ∙ ap (λ (i : ℕ). replicate i 0) l.bytes;
            },
          )

-- ---- only one reply fits

same_table : {u v : Table} → u.cells ≡ v.cells → u.bytes ≡ v.bytes → u ≡ v
same_table {u} {v} a e = ap (λ (k : List ℕ). table k u.bytes) a ∙ ap (table v.cells) e

same_reply : (text x : List ℕ) (t : Table) {z w : List ℕ} {u v : Table} (r s : Result ℕ Refused) → Reply text x t z u r → Reply text x t w v s → (r ≡ s) × (z ≡ w) × (u ≡ v)
same_reply text x t {z} {w} {u} {v} (Ok n) (Ok m) a b =
    let e = one_read a.read b.read in
    let c = a.count ∙ ap (λ (g : List TopLevel). length (flatten g)) e ∙ sym b.count in
    let l : AsLong z w u v = record { cells = a.long.cells ∙ sym b.long.cells; parts = a.long.parts ∙ sym b.long.parts; bytes = a.long.bytes ∙ sym b.long.bytes } in
    let o = one_encoding l (subst (λ (g : List TopLevel). Encoded (flatten g) z u) e a.encoded) b.encoded in
    (ap Ok c, o.0, o.1)
same_reply text x t (Ok n) (Err r) a b = never_both a.answers b.0
same_reply text x t (Err r) (Ok n) a b = never_both b.answers a.0
same_reply text x t (Err r) (Err s) a b =
    (same_refusal {A = Result ℕ Refused} (λ n p. Err (refusal n p)) (one_answer a.0 b.0), a.1.rows ∙ sym b.1.rows, same_table (a.1.parts ∙ sym b.1.parts) (a.1.bytes ∙ sym b.1.bytes))

pub one_reply : {text x z w : List ℕ} {t u v : Table} {r s : Result ℕ Refused} → Answered text x t z u r → Answered text x t w v s → (r ≡ s) × (z ≡ w) × (u ≡ v)
one_reply {text} {x} {t = t} {r = r} {s = s} a b = same_reply text x t r s a.reply b.reply
