-- What a cycle asks for, of every state that the tables hold: the rows of the Changes table, values by the numbers of their assignments. By the marks of the conditions.
use Rattle.std.specs.Prelude.{ℕ, ◌+◌, ◌*◌, ◌<◌, ◌≤◌, ◌≡◌, Bool, List, get_or, length}
use Rattle.std.proofs.Common.{arith, sym, subst, ◌∙◌}
use Rattle.paper_guideline.specs.Structure.{TopLevel}
use Rattle.paper_rows.specs.Table.{Table}
use Rattle.parts.specs.Part as Parts
use Rattle.std.proofs.Math.Option.{some}
use Rattle.paper_rows.specs.Table as Rows
use Rattle.state.specs.Cell.{Cell}
use Rattle.changes.specs.Row.{Column, Says, Same, Distinct, Appends, distinct}
use Rattle.review.specs.Changes.{ChangesS, tasks_in, Few, Reviews}
use Rattle.truths.specs.Part.{shown_by}
use Rattle.truths.specs.Truth.{AllAllowed, AllEnded}
use Rattle.enacting.specs.Enact as Enact
use Rattle.holding.specs.Holding.{Holds}
use Rattle.holding.specs.Shown.{planned, preconditions, wait_conditions, terminates, reviewed}

-- room for the numbers of every row that a cycle can ask for, four a row
abbrev pub Lent : List ℕ → Type 0
Lent o = 2304 ≤ length o

-- q are the rows, m of them
pub record Asked (f : List ℕ) (t : Table) (now : ℕ) (q : List ℕ) (m : ℕ) : Type 0 where
  pub few : m ≤ 576
  pub room : 4 * m ≤ length q
  -- no row stands there twice
  pub once : Distinct q m
  pub rows : Enact.Holds q m (ChangesS f t now (tasks_in f))

abbrev pub AskedFor : List ℕ → List ℕ → List ℕ → List (List Bool) → List ℕ → List ℕ → List ℕ → ℕ → Type 0
AskedFor x b f w s o q m = (g : List TopLevel) (t : Table) (flag : Bool) (time : ℕ) → Holds g x b f w s t flag time → Lent o → Asked f t time q m

pub asked : (x b f : List ℕ) (w : List (List Bool)) (s o q : List ℕ) (m : ℕ) (pre wait ends : List Bool) (c : ℕ)
    → AllAllowed (Parts.table x b) (shown_by f s) f 520 pre → AllAllowed (Parts.table x b) (shown_by f s) f 552 wait → AllEnded (Parts.table x b) (shown_by f s) f 584 ends
    → c ≡ get_or s 2 0 → Reviews s f w pre wait ends c o q m → Few f m → AskedFor x b f w s o q m
asked x b f w s o q m pre wait ends c p v e i r n g t flag time h lent =
    let few = n (planned h).numbers in
    let a : Appends o 0 q m (ChangesS f t time (tasks_in f)) =
    subst (λ (y : ℕ). Appends o 0 q m (ChangesS f t y (tasks_in f))) (i ∙ h.timed) (r t (reviewed h) (preconditions h pre p) (wait_conditions h wait v) (terminates h ends e)) in
    let k = a.size in
    let z = a.rows (omega arith) in
    record {
      few = few;
      room = omega arith;
      once = distinct z;
      rows = record { asked = λ j l. z.asked j (omega arith) l; all = λ u y d l. z.all l };
    }

-- ---- the same rows elsewhere

-- the first m rows of p and q are the same numbers
abbrev pub SameRows : ℕ → List ℕ → List ℕ → Type 0
SameRows m p q = (i : ℕ) → i < m → (get_or p (4 * i) 0 ≡ get_or q (4 * i) 0) × (get_or p (4 * i + 1) 0 ≡ get_or q (4 * i + 1) 0) × (get_or p (4 * i + 2) 0 ≡ get_or q (4 * i + 2) 0) × (get_or p (4 * i + 3) 0 ≡ get_or q (4 * i + 3) 0)

module _ {m : ℕ} {p q : List ℕ} (e : SameRows m p q) where
  says_there : {i : ℕ} {c : Rows.Component} {d : Rows.Property} {r : Rows.RowValue} → i < m → Says q i c d r → Says p i c d r
  says_there {i} {c} {d} {r} l h =
      record {
        component = (e i l).0 ∙ h.component;
        property = subst (Column d) (sym (e i l).1) h.property;
        cell = subst (λ (x : ℕ). Cell x (get_or p (4 * i + 3) 0) (some r)) (sym (e i l).2) (subst (λ (x : ℕ). Cell (get_or q (4 * i + 2) 0) x (some r)) (sym (e i l).3) h.cell);
      }

  same_there : {i j : ℕ} → i < m → j < m → Same p i j → Same q i j
  same_there {i} {j} l k h =
      record {
        cell_1 = sym (e i l).0 ∙ h.cell_1 ∙ (e j k).0;
        cell_2 = sym (e i l).1 ∙ h.cell_2 ∙ (e j k).1;
        cell_3 = sym (e i l).2 ∙ h.cell_3 ∙ (e j k).2;
        cell_4 = sym (e i l).3 ∙ h.cell_4 ∙ (e j k).3;
      }

  pub asked_there : {f : List ℕ} {t : Table} {now : ℕ} → 4 * m ≤ length p → Asked f t now q m → Asked f t now p m
  asked_there room h =
      record {
        few = h.few;
        room = room;
        once = λ i j l k s. h.once i j l k (same_there (omega arith) k s);
        rows = record {
          asked = λ i l. (let z = h.rows.asked i l in (z.0, z.1, z.2, says_there l z.3, z.4));
          all = λ c d r z. (let y = h.rows.all c d r z in (y.0, y.1, says_there y.1 y.2));
        };
      }
