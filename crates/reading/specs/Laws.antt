-- From the stages to the reply; and that only one reply fits.
use Rattle.std.specs.Prelude.{ℕ, ◌≡◌, refl, List, length, take, replicate, Result, Ok, Err}
use Rattle.std.proofs.Common.{sym, ap, ap₂, subst, ◌∙◌}
use Rattle.paper_guideline.specs.Limits.{token_limit}
use Rattle.paper_tokens.specs.Lexical.{Token}
use Rattle.paper_tokens.proofs.Laws.LexicalLaws as LexicalLaws
use Rattle.paper_guideline.specs.Structure.{TopLevel, Structure}
use Rattle.paper_guideline.proofs.Laws.StructureLaws.{one_structure}
use Rattle.paper_guideline.specs.Refusals as Refusals
use Rattle.paper_guideline.proofs.Laws.RefusalLaws.{one_answer}
use Rattle.parts.specs.Part.{Table, table}
use Rattle.blank.specs.Zeros.{zeros_long, zeros_again}
use Rattle.columns.specs.Replies.{not_short, turned, read}
use Rattle.tokens.specs.Reply.{Reads}
use Rattle.tokens.specs.declared.Read as tokens
use Rattle.tokens.specs.declared.Read.TheVariants as variants
use Rattle.guideline_rows.specs.Rows.{flatten}
use Rattle.guideline_rows.specs.Encoded.{Encoded}
use Rattle.guideline_rows.specs.OneEncoding.{AsLong, one_encoding}
use Rattle.stages.specs.Stages.{Passed, Turned, early_refused}
use Rattle.stages.specs.declared.Refused.{Refused}
use Rattle.stages.specs.Judged.{Short, Empty, Accepted, refusal, Outcome, Judges}
use Rattle.reading.specs.Reply.{Reply, Answered, Begun, Structured}

-- ---- what the stages give

module _ {text kinds places lengths x y : List ℕ} {t u : Table} {v : Result ℕ Refused} (judges : Judges text kinds places lengths x t y u v) where
  pub refusing : {r : Refused} → v ≡ Err r → Structured text kinds places lengths x t y u (Err r)
  refusing f = record { reply = λ l b. subst (Outcome text x t y u) f (judges.outcome l b) }

  pub accepting : {n : ℕ} → v ≡ Ok n → Structured text kinds places lengths x t y u (Ok n)
  accepting f = record { reply = λ l b. subst (Outcome text x t y u) f (judges.outcome l b) }

pub structured : {text kinds places lengths x y : List ℕ} {t u : Table} (v : Result ℕ Refused) → Judges text kinds places lengths x t y u v → Structured text kinds places lengths x t y u v
structured (Ok n) judges = accepting judges refl
structured (Err r) judges = refusing judges refl

-- ---- tables that were blanked: as long as they were

module _ {x y : List ℕ} {t u : Table} (e : Empty x t y u) where
  still_blank : Empty y u y u
  still_blank = record {
    rows = zeros_again y x e.rows;
    parts = zeros_again u.cells t.cells e.parts;
    bytes = zeros_again u.bytes t.bytes e.bytes;
  }

  as_long : AsLong y x u t
  as_long = record {
    cells = zeros_long y x e.rows;
    parts = zeros_long u.cells t.cells e.parts;
    bytes = zeros_long u.bytes t.bytes e.bytes;
  }

  same_short : Short y u ≡ Short x t
  same_short = let l = as_long in rw (l.cells, l.parts, l.bytes) refl

  re_empty : {z : List ℕ} {w : Table} → Empty y u z w → Empty x t z w
  re_empty h = let l = as_long in record {
    rows = h.rows ∙ ap (λ (n : ℕ). replicate n 0) l.cells;
    parts = h.parts ∙ ap (λ (n : ℕ). replicate n 0) l.parts;
    bytes = h.bytes ∙ ap (λ (n : ℕ). replicate n 0) l.bytes;
  }

  re_long : {z : List ℕ} {w : Table} → AsLong z y w u → AsLong z x w t
  re_long h = let l = as_long in record {
    cells = h.cells ∙ l.cells;
    parts = h.parts ∙ l.parts;
    bytes = h.bytes ∙ l.bytes;
  }

  lent_again : (text z : List ℕ) (w : Table) (r : Result ℕ Refused) → Reply text y u z w r → Reply text x t z w r
  lent_again text z w (Ok n) h = record {
    guideline = h.guideline;
    read = h.read;
    passed = subst (λ (S : Type 0). Passed S text 5) same_short h.passed;
    count = h.count;
    long = re_long h.long;
    encoded = h.encoded;
  }
  lent_again text z w (Err r) h = (subst (λ (S : Type 0). Turned S text r.number r.place) same_short h.0, re_empty h.1)

  pub relent : {text z : List ℕ} {w : Table} {r : Result ℕ Refused} → Begun text y u z w r → Answered text x t z w r
  relent {text} {z} {w} {r} h = record { reply = lent_again text z w r (h.reply still_blank) }

-- ---- only one reply fits

module _ {x z w : List ℕ} {t u v : Table} where
  empties : Empty x t z u → Empty x t w v → (z ≡ w) × (u ≡ v)
  empties a b = (a.rows ∙ sym b.rows, same_table (a.parts ∙ sym b.parts) (a.bytes ∙ sym b.bytes))
    where
      same_table : u.cells ≡ v.cells → u.bytes ≡ v.bytes → u ≡ v
      same_table a e = ap (λ (k : List ℕ). table k u.bytes) a ∙ ap (table v.cells) e

  same_lengths : AsLong z x u t → AsLong w x v t → AsLong z w u v
  same_lengths a b = record {
    cells = a.cells ∙ sym b.cells;
    parts = a.parts ∙ sym b.parts;
    bytes = a.bytes ∙ sym b.bytes;
  }

not_both : {A : Type 0} {text x z : List ℕ} {t u : Table} {n m p : ℕ} → Accepted text x t z u n → Turned (Short x t) text m p → A
not_both {p = p} a b = absurd (a.passed b.refused.stage p b.stage b.refused.broken)

-- one refusal is one reply, by whichever type it is told
pub same_refusal : {A : Type 0} (reply : ℕ → ℕ → A) {n m p q : ℕ} → Refusals.refused n p ≡ Refusals.refused m q → reply n p ≡ reply m q
same_refusal reply {n} {m} {p} {q} e = let x : n ≡ m = cc in let y : p ≡ q = cc in ap₂ reply x y

same_reply : (text x : List ℕ) (t : Table) {z w : List ℕ} {u v : Table} (r s : Result ℕ Refused) → Reply text x t z u r → Reply text x t w v s → (r ≡ s) × (z ≡ w) × (u ≡ v)
same_reply text x t {z} {w} {u} {v} (Ok n) (Ok m) a b =
    let e : a.guideline ≡ b.guideline = one_structure (subst (λ (ts : List Token). Structure ts a.guideline) (LexicalLaws.one_list a.read.its b.read.its) a.read.structure) b.read.structure in
    let c = a.count ∙ ap (λ (g : List TopLevel). length (flatten g)) e ∙ sym b.count in
    let o = one_encoding (same_lengths a.long b.long) (subst (λ (g : List TopLevel). Encoded (flatten g) z u) e a.encoded) b.encoded in
    (ap Ok c, o.0, o.1)
same_reply text x t (Ok n) (Err r) a b = not_both a b.0
same_reply text x t (Err r) (Ok n) a b = not_both b a.0
same_reply text x t (Err r) (Err s) a b =
    let f = empties a.1 b.1 in
    (same_refusal {A = Result ℕ Refused} (λ n p. Err (refusal n p)) (one_answer (Refusals.is_refused a.0.refused) (Refusals.is_refused b.0.refused)), f.0, f.1)

pub one_reply : {text x z w : List ℕ} {t u v : Table} {r s : Result ℕ Refused} → Answered text x t z u r → Answered text x t w v s → (r ≡ s) × (z ≡ w) × (u ≡ v)
one_reply {text} {x} {t = t} {r = r} {s = s} a b = same_reply text x t r s a.reply b.reply

-- ---- the tokens' reply

module _ (text kinds places lengths : List ℕ) {v : tokens.Read} (reads : Reads text token_limit token_limit token_limit kinds places lengths v) where
  pub no_columns : {x : List ℕ} {t : Table} {x' : List ℕ} {t' : Table} {r : Result ℕ Refused} → v ≡ variants.Short → Begun text x t x' t' r
  no_columns e = absurd (not_short text kinds places lengths reads e)

  pub turning : {x : List ℕ} {t : Table} {n p : ℕ} → v ≡ variants.Refused n p → Begun text x t x t (Err (refusal n p))
  turning {x} {t} e = record { reply = λ b. let h = turned text kinds places lengths reads e in (early_refused (Short x t) text h.refused h.stage, b) }

  pub going : {x : List ℕ} {t : Table} {x' : List ℕ} {t' : Table} {n : ℕ} {r : Result ℕ Refused} → v ≡ variants.Tokens n → Structured text (take n kinds) places lengths x t x' t' r → Begun text x t x' t' r
  going e s = record { reply = λ b. s.reply (read text kinds places lengths reads e) b }
