-- Reading a row for other languages: its contract, of the reply that the numbers tell and of every lent cell and byte; and that only one answer fits. By what the code reads, and the one form of a value.
use Rattle.std.specs.Prelude.{ℕ, zero, suc, ◌+◌, ◌*◌, ◌-◌, ◌/◌, ◌%◌, ◌<◌, ◌≡◌, Bool, List, get_or, length}
use Rattle.std.proofs.Common.{arith, sym, subst, ◌∙◌, ext_get_or}
use Rattle.std.proofs.Math.Decide.{dec_lt}
use Rattle.std.proofs.Math.Option.{Option}
use Rattle.paper_expressions.specs.Values.{Value}
use Rattle.paper_calls.specs.Calls as Calls
use Calls.{Reply, State, read_row}
use Rattle.paper_calls.proofs.Laws.TotalLaws.{is_read}
use Rattle.state.specs.Items.{Bounded, Holds}
use Rattle.replying.specs.Replying.{Holding, Replies}
use Rattle.replying.specs.OneReply.{one_reply}
use Rattle.row_shown.specs.declared.Row.{Row}
use Rattle.row_shown.specs.Shown.{published_row}
use Rattle.row_read.specs.Read.{ReadsRow}
use Rattle.row_numbers.specs.declared.Answer.{Answer}
use Rattle.row_numbers.specs.Told.{Numbers, value_of, Form, Tells, one_answer}

-- ---- definitions

-- k, n and p the numbers of kind, component and property; b the text bytes, f the plan, w who waits for whom, s the state; u the cells and q the bytes after it
pub record Reads (k n p : ℕ) (b f : List ℕ) (w : List (List Bool)) (s u q : List ℕ) (a : Answer) : Type 0 where
  pub reply : Reply
  pub replies : (x : List ℕ) → Replies (read_row k n p) x b f w s b s reply
  pub numbers : Numbers reply a
  pub cells_long : length u ≡ 34
  pub bytes_long : length q ≡ 768
  pub form : Form u q reply

-- ---- what the code finds out

pub reads_told : {k n p : ℕ} {b f : List ℕ} {w : List (List Bool)} (v : List (List Bool)) {s u q : List ℕ} {a : Answer} (r : Row) → w ≡ v → ReadsRow k n p f w s r → Tells b r u q a → Reads k n p b f v s u q a
reads_told {k} {n} {p} {b} {f} v {s} {u} {q} {a} r e h t =
    subst (λ (y : List (List Bool)). Reads k n p b f y s u q a) e
    (record { reply = published_row b r; replies = λ x. h x b; numbers = t.numbers; cells_long = t.cells_long; bytes_long = t.bytes_long; form = t.form })

-- ---- one answer, with every cell and byte, for tables that hold some state

module _ {u q v r : List ℕ} {o : Option Value} (h : Holds u 0 17 q 0 0 o) (k : Holds v 0 17 r 0 0 o) where
  tag_same : (i : ℕ) → i < 17 → get_or u i 0 ≡ get_or v i 0
  tag_same zero l = h.shape ∙ sym k.shape
  tag_same (suc j) l =
      let e : 0 + 1 + j ≡ suc j = omega arith in
      subst (λ (m : ℕ). get_or u m 0 ≡ get_or v m 0) e (h.tags j (omega arith) ∙ sym (k.tags j (omega arith)))

  number_same : (i : ℕ) → i < 17 → get_or u (17 + i) 0 ≡ get_or v (17 + i) 0
  number_same zero l = h.there ∙ sym k.there
  number_same (suc j) l =
      let e : 17 + suc j ≡ 17 + 1 + j = omega arith in
      subst (λ (m : ℕ). get_or u m 0 ≡ get_or v m 0) (sym e) (h.numbers j (omega arith) ∙ sym (k.numbers j (omega arith)))

  cell_same : (i : ℕ) → i < 34 → get_or u i 0 ≡ get_or v i 0
  cell_same i l = go (dec_lt i 17)
    where
      go : Dec (i < 17) → get_or u i 0 ≡ get_or v i 0
      go (yes m) = tag_same i m
      go (no n) = let e : 17 + (i - 17) ≡ i = omega arith in subst (λ (m : ℕ). get_or u m 0 ≡ get_or v m 0) e (number_same (i - 17) (omega arith))

  byte_same : (i : ℕ) → i < 768 → get_or q i 0 ≡ get_or r i 0
  byte_same i l =
      let e : 0 + 48 * (i / 48) + i % 48 ≡ i = omega arith in
      let a : i / 48 < 16 = omega arith in
      let b : i % 48 < 48 = omega arith in
      subst (λ (m : ℕ). get_or q m 0 ≡ get_or r m 0) e (h.bytes (i / 48) (i % 48) a b ∙ sym (k.bytes (i / 48) (i % 48) a b))

pub record Same (a a' : Answer) (u q u' q' : List ℕ) : Type 0 where
  pub answer : a ≡ a'
  pub cells : u ≡ u'
  pub bytes : q ≡ q'

pub one_read : {k n p : ℕ} {x b f : List ℕ} {w : List (List Bool)} {s u q u' q' : List ℕ} {st : State} {a a' : Answer} → Holding x b f w s st → (h : Reads k n p b f w s u q a) → Bounded (value_of h.reply) → Reads k n p b f w s u' q' a' → Same a a' u q u' q'
one_read {x = x} {u = u} {q} {u'} {q'} {a = a} {a'} held h c i =
    let e = (one_reply is_read (h.replies x) (i.replies x) held).reply in
    let y = h.form c in
    let z = subst (λ (r : Reply). Form u' q' r) (sym e) i.form c in
    record {
      answer = one_answer a a' h.numbers (subst (λ (r : Reply). Numbers r a') (sym e) i.numbers);
      cells = ext_get_or 0 u u' (h.cells_long ∙ sym i.cells_long) (λ j l. let m = h.cells_long in cell_same y z j (omega arith));
      bytes = ext_get_or 0 q q' (h.bytes_long ∙ sym i.bytes_long) (λ j l. let m = h.bytes_long in byte_same y z j (omega arith));
    }
