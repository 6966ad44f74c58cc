-- Laws: a row's expression is judged by the typer; one row more; and from the rows to the expressions of the guideline. By what the row asks for.
use Rattle.std.specs.Prelude.{ℕ, zero, suc, ◌+◌, ◌*◌, ◌≤◌, ◌<◌, ◌≡◌, refl, Bool, true, false, cond, not, ◌⊎◌, List, [], ◌∷◌, eqb, length, get_or, take, Option, Some, None}
use Rattle.std.proofs.Common.{sym, ap, subst, ◌∙◌, inl, inr, ⊎_elim, arith, eqb-true}
use Rattle.std.proofs.Math.Option.{Option as Maybe, none, some}
use Rattle.std.proofs.Math.Decide.{dec_lt}
use Rattle.std.proofs.lemmas.List.{length-map}
use Rattle.paper_expressions.specs.Expressions.{Expr, Atom, IntegerLit, FloatLit, StringLit, Paren, Listing, Apply}
use Rattle.paper_expressions.specs.View.{View, Item, At}
use Rattle.paper_expressions.proofs.Laws.Tests.{two}
use Rattle.paper_expressions.proofs.Laws.Search.{Reflects, of_yes, of_no, true_reflects, false_reflects, at_one}
use Rattle.paper_expressions.proofs.Laws.Parentheses.{bare}
use Rattle.paper_tokens.specs.Tokens.{“=”}
use Rattle.paper_guideline.specs.Structure.{Name, Outermost, DataItem, TopLevel, data_items}
use Rattle.paper_guideline.specs.Limits.{data_item_limit, depth_limit}
use Rattle.paper_guideline.specs.Parts.{condition, wording, assigned_to, Typed, expressions}
use Rattle.paper_guideline.specs.Refusals.{declared_items, Fitting}
use Rattle.paper_guideline.proofs.Laws.AnswerLaws.{names_apart}
use Rattle.parts.specs.Texts.{text_at_fn}
use Rattle.parts.specs.Part.{Table, size, Ends}
use Rattle.parts.specs.Items.{Items}
use Rattle.parts.specs.ItemLaws.{at_index, index_of}
use Rattle.expression_reader.specs.Reads.{within_depth}
use Rattle.guideline_rows.specs.Rows.{Row, a_task, a_data_item, with_expression, with_name, with_answer, a_postcondition, an_assignment, kind-of, name_of, expression_of, flatten}
use Rattle.guideline_rows.specs.Sizes.{end_of, start_of}
use Rattle.guideline_rows.specs.InLimits.{Stood}
use Rattle.guideline_rows.specs.RowLaws.{stands, kind_cell, start_cell, end_cell, name_spelt, expression_held}
use Rattle.row_names.specs.Pieces.{at_map, map_at}
use Rattle.row_names.specs.Selected.{kept_at, kept_of, kept_rank, kept_index}
use Rattle.row_names.specs.Agreement.{row_named}
use Rattle.row_tests.specs.Table.{row_limit, cell_of}
use Rattle.row_tests.specs.EncodedSheet.{cell_is}
use Rattle.row_tests.specs.Least.{Least, nearer, least_as, least_more}
use Rattle.typer.specs.declared.fitting.Role as Code
use Rattle.typer.specs.Fitting as Typer
use Typer.{Asked, asks_condition, asks_wording, asks_assigned, Fits}
use Rattle.types.specs.Roles.{wording_kind, rooted, asks, role_of}
use Rattle.types.specs.RoleLaws.{asked_all, from_root, to_root}
use Rattle.types.specs.Columns.{Holding, Gathers}
use Rattle.types.specs.Judged.{Misfit, ToldOf, Given, Judged, JudgedWith, Unfit, Unfits, AllMisfits, Judges}

nothing : {A B : Type 0} {x : A} → none ≡ some x → B
nothing e = absurd (let z : ◌≡◌ {A = ℕ} 0 1 = cc in omega arith)

-- ---- the expression of a row

-- what is asked of a row is of its expression
asked_expression : (r : Row) {x : Typed} → asks r ≡ some x → (expression_of r ≡ some x.expression) × (x.attached ≡ 0)
asked_expression (a_task k n) e = nothing e
asked_expression (a_data_item n d) e = nothing e
asked_expression (with_expression k p o) {x} e =
    let z : record { expression = o; role = cond (wording_kind k) wording condition; attached = 0 } ≡ x = cc in (ap (λ (y : Typed). some y.expression) z, sym (ap (λ (y : Typed). y.attached) z))
asked_expression (with_name k p n) e = nothing e
asked_expression (with_answer k p b) e = nothing e
asked_expression (a_postcondition p) e = nothing e
asked_expression (an_assignment a) {x} e =
    let z : record { expression = a.value; role = assigned_to a.target; attached = 0 } ≡ x = cc in (ap (λ (y : Typed). some y.expression) z, sym (ap (λ (y : Typed). y.attached) z))

unasked : (r : Row) → asks r ≡ none → expression_of r ≡ none
unasked (a_task k n) e = refl
unasked (a_data_item n d) e = refl
unasked (with_expression k p x) e = nothing (sym e)
unasked (with_name k p n) e = refl
unasked (with_answer k p b) e = refl
unasked (a_postcondition p) e = refl
unasked (an_assignment a) e = nothing (sym e)

some_size : (e : Expr) → 0 < size e
some_size (Atom a) = omega arith
some_size (IntegerLit n) = omega arith
some_size (FloatLit n) = omega arith
some_size (StringLit s) = omega arith
some_size (Paren e) = some_size e
some_size (Listing es) = omega arith
some_size (Apply o es) = omega arith

module _ {x : List ℕ} {n : ℕ} {t : Table} {g : List TopLevel} (given : Given x n t g) {j : ℕ} {r : Row} (h : At (flatten g) j r) where
  below : j < n
  below = let c = given.count in omega (arith, index_of h)

  stood : Stood x t j r
  stood = stands given.encoded h

  cell-of : (c : ℕ) → cell_of x j c ≡ get_or x (j * 8 + c) 0
  cell-of c = cell_is x j c (let u = below in let f = given.few_rows in omega arith)

  pub start_is : {o : Outermost} → expression_of r ≡ some o → cell_of x j 5 ≡ o.start
  start_is e = cell-of 5 ∙ start_cell stood ∙ ap start_of e

  end_none : expression_of r ≡ none → cell_of x j 6 ≡ 0
  end_none e = cell-of 6 ∙ end_cell stood ∙ ap (end_of stood.u) e

  end_some : {o : Outermost} → expression_of r ≡ some o → ¬ (cell_of x j 6 ≡ 0)
  end_some {o} e q = let z : stood.u + size o.tree ≡ 0 = sym (cell-of 6 ∙ end_cell stood ∙ ap (end_of stood.u) e) ∙ q in omega (arith, some_size o.tree)

-- the role by the cells is the row's
role-of : (x b : List ℕ) (j : ℕ) (r : Row) {y : Typed} → asks r ≡ some y → cell_of x j 0 ≡ kind-of r → (kind-of r ≡ “=” → (m : Name) × (name_of r ≡ some m))
    → ((m : Name) → name_of r ≡ some m → text_at_fn b (cell_of x j 2) ≡ m.spelt) → Asked b (role_of x j) y.role
role-of x b j (a_task k n) e c f s = nothing e
role-of x b j (a_data_item n d) e c f s = nothing e
role-of x b j (with_expression k p o) {y} e c f s =
    let z : record { expression = o; role = cond (wording_kind k) wording condition; attached = 0 } ≡ y = cc in
    subst (λ (w : Typed). Asked b (role_of x j) w.role) z
    (subst (λ (w : ℕ). Asked b (cond (eqb w “=”) (Code.TheVariants.Assigned (cell_of x j 2)) (cond (wording_kind w) Code.TheVariants.Wording Code.TheVariants.Condition)) (cond (wording_kind k) wording condition)) (sym c)
    (⊎_elim (λ (q : eqb k “=” ≡ true). nothing (f (eqb-true k “=” q)).1) (λ (q : eqb k “=” ≡ false). rw q (by (wording_kind k))) (two (eqb k “=”))))
  where
    by : (w : Bool) → Asked b (cond w Code.TheVariants.Wording Code.TheVariants.Condition) (cond w wording condition)
    by true = asks_wording
    by false = asks_condition
role-of x b j (with_name k p n) e c f s = nothing e
role-of x b j (with_answer k p a) e c f s = nothing e
role-of x b j (a_postcondition p) e c f s = nothing e
role-of x b j (an_assignment a) {y} e c f s =
    let z : record { expression = a.value; role = assigned_to a.target; attached = 0 } ≡ y = cc in
    subst (λ (w : Typed). Asked b (role_of x j) w.role) z (rw c (asks_assigned (s a.target refl)))

-- ---- what the code finds of a row

module _ (x : List ℕ) (t : Table) (names types : List ℕ) (j : ℕ) where
  pub unfit_none : {e : ℕ} → e ≡ cell_of x j 6 → e ≡ 0 → Unfits x t names types j false
  unfit_none q z n g given items u = of_no (λ f. end_some given f.at (asked_expression f.row f.asked).0 (sym q ∙ z))

  pub unfit_by : {e : ℕ} {role : Code.Role} {f : Bool} → e ≡ cell_of x j 6 → ¬ (e ≡ 0) → role ≡ role_of x j → Fits t names types 0 e depth_limit role f → Unfits x t names types j (not f)
  unfit_by {e} {role} {f} q z er fits n g given items u =
      let c = given.count in
      let a = at_index (flatten g) j (omega arith) in
      go a.0 a.1 (asks a.0) refl
    where
      judged : {b : Bool} (r : Row) (h : At (flatten g) j r) (y : Typed) → asks r ≡ some y → Reflects (Fitting (declared_items g) y y.role) b → Reflects (Unfit g j) (not b)
      judged r h y s (of_yes p) = of_no (λ k.
          let same : k.row ≡ r = at_one k.at h in
          let w : some k.x ≡ some y = sym k.asked ∙ ap asks same ∙ s in
          let v : y ≡ k.x = cc in
          k.misfit (subst (λ (m : Typed). Fitting (declared_items g) m m.role) v p))
      judged r h y s (of_no m) = of_yes (record { row = r; x = y; at = h; asked = s; misfit = m })

      holds : (r : Row) (h : At (flatten g) j r) (y : Typed) → asks r ≡ some y → Typer.Given t names types 0 e depth_limit role (declared_items g) y
      holds r h y s =
          let o = asked_expression r s in
          let k = stood given h in
          record {
            apart = names_apart g given.names;
            items = items;
            attached = o.1;
            ends = subst (λ (m : ℕ). Ends t m (bare y.expression.tree)) (sym (q ∙ cell-of given h 6)) (expression_held k o.0 (given.limits.texts h o.0));
            within = within_depth depth_limit y.expression.tree (given.limits.depths h o.0);
            asked = subst (λ (m : Code.Role). Asked t.bytes m y.role) (sym er)
                (role-of x t.bytes j r s (cell-of given h 0 ∙ kind_cell k) (λ w. row_named g h (rw w refl)) (λ m w. ap (text_at_fn t.bytes) (cell-of given h 2) ∙ name_spelt k w (given.limits.names h w)));
          }

      go : (r : Row) → At (flatten g) j r → (o : Maybe Typed) → asks r ≡ o → Reflects (Unfit g j) (not f)
      go r h none s = absurd (z (q ∙ end_none given h (unasked r s)))
      go r h (some y) s = judged r h y s (fits (declared_items g) y (holds r h y s))

-- ---- one row more

module _ (x : List ℕ) (t : Table) (names types : List ℕ) where
  pub misfits_none : AllMisfits x t names types 0 None
  misfits_none n g given items u j h = let z = h.0 in omega arith

  module _ {g : List TopLevel} where
    last_row : {i : ℕ} (j : ℕ) → (j < i + 1) × Unfit g j → ((j < i) × Unfit g j) ⊎ (j ≡ i)
    last_row {i} j h = go (dec_lt j i)
      where
        go : Dec (j < i) → ((j < i) × Unfit g j) ⊎ (j ≡ i)
        go (yes l) = inl (l, h.1)
        go (no l) = inr (let z = h.0 in omega arith)

    wider : {i : ℕ} (j : ℕ) → (j < i) × Unfit g j → (j < i + 1) × Unfit g j
    wider j h = (let z = h.0 in omega arith, h.1)

  pub judges_yes : (j : ℕ) (best : Option ℕ) {q : Bool} {p : ℕ} {r : Option ℕ} → Unfits x t names types j q → q ≡ true → p ≡ cell_of x j 5 → r ≡ nearer best p → Judges x t names types j best r
  judges_yes j best {p = p} f e ep er h n g given items u =
      subst (Least (λ i. (i < j + 1) × Unfit g i) (λ i. cell_of x i 5)) (sym (er ∙ ap (nearer best) ep))
      (least_more (λ i. (i < j) × Unfit g i) (λ i. (i < j + 1) × Unfit g i) (λ i. cell_of x i 5) j best wider last_row
      (omega arith, true_reflects (f n g given items (omega arith)) e) (h n g given items (omega arith)))

  pub judges_no : (j : ℕ) (best : Option ℕ) {q : Bool} → Unfits x t names types j q → q ≡ false → Judges x t names types j best best
  judges_no j best f e h n g given items u =
      least_as (λ i. (i < j) × Unfit g i) (λ i. (i < j + 1) × Unfit g i) (λ i. cell_of x i 5) best wider
      (λ i k. ⊎_elim (λ y. y) (λ s. absurd (false_reflects (f n g given items (omega arith)) e (subst (Unfit g) s k.1))) (last_row i k)) (h n g given items (omega arith))

-- ---- the expressions of the guideline and the rows

module _ {x : List ℕ} {n : ℕ} {t : Table} {g : List TopLevel} (given : Given x n t g) where
  to_row : {p : ℕ} → Misfit g p → (j : ℕ) × (j < n) × Unfit g j × (cell_of x j 5 ≡ p)
  to_row m =
      let k = kept_at asks (flatten g) m.i (rooted m.x) (subst (λ (l : List Typed). At l m.i (rooted m.x)) (sym (asked_all g)) (at_map rooted m.at)) in
      let r = kept_index asks k.1 in (
        k.0,
        below given r.1,
        record { row = r.0; x = rooted m.x; at = r.1; asked = r.2; misfit = λ f. m.misfit (from_root m.x f) },
        start_is given r.1 (asked_expression r.0 r.2).0 ∙ sym m.there,
      )

  from_row : {j : ℕ} → Unfit g j → Misfit g (cell_of x j 5)
  from_row u =
      let k = kept_of asks u.at u.asked in
      let m = map_at rooted (expressions g) (subst (λ (l : List Typed). At l k.0 u.x) (asked_all g) (kept_rank asks k.1)) in
      record {
        i = k.0;
        x = m.from;
        at = m.at;
        misfit = λ f. u.misfit (subst (λ (y : Typed). Fitting (declared_items g) y y.role) (sym m.is) (to_root m.from f));
        there = start_is given u.at (asked_expression u.row u.asked).0 ∙ ap (λ (y : Typed). y.expression.start) m.is;
      }

  told : (r : Option ℕ) → Least (λ j. (j < n) × Unfit g j) (λ j. cell_of x j 5) r → ToldOf g r
  told (Some p) h = (
    subst (Misfit g) (sym h.0.2) (from_row h.0.1.1),
    λ q m. let y = to_row m in let z = h.1 y.0 (y.1, y.2) in let e = y.3 in omega arith,
  )
  told None h = λ q m. let y = to_row m in h y.0 (y.1, y.2)

-- ---- the whole

pub judged_with : (x : List ℕ) (n : ℕ) (t : Table) (names types : List ℕ) (m : ℕ) (r : Option ℕ) → AllMisfits x t (take m names) types n r → JudgedWith x n t names types m r
judged_with x n t names types m r f g given items = told given r (f n g given items (omega arith))

take_long : (m : ℕ) (l : List ℕ) → m ≤ length l → length (take m l) ≡ m
take_long zero l h = refl
take_long (suc m) [] h = absurd (omega arith)
take_long (suc m) (c ∷ l) h = ap suc (take_long m l (omega arith))

take_at : (m : ℕ) (l : List ℕ) (d : ℕ) → d < m → get_or (take m l) d 0 ≡ get_or l d 0
take_at zero l d h = absurd (omega arith)
take_at (suc m) [] d h = refl
take_at (suc m) (c ∷ l) zero h = refl
take_at (suc m) (c ∷ l) (suc d) h = take_at m l d (omega arith)

columns_hold : {b l k : List ℕ} {v : View} {m : ℕ} → m ≤ length l → m ≤ length k → Holding b l k v.items m → Items b (take m l) k v
columns_hold {b} {l} {k} {v} {m} u w h = record {
  number = sym (take_long m l u ∙ h.count);
  named = λ {i = d} p. ap (text_at_fn b) (take_at m l d (inside p)) ∙ h.named p (let z = inside p in omega arith) (let z = inside p in omega arith);
  typed = λ {i = d} p. h.typed p (let z = inside p in omega arith) (let z = inside p in omega arith);
}
  where
    inside : {d : ℕ} {y : Item} → At v.items d y → d < m
    inside p = let c = h.count in omega (arith, index_of p)

pub too_long : (x : List ℕ) (n : ℕ) (t : Table) → row_limit < n → Judged x n t None
too_long x n t l g given = absurd (let f = given.few_rows in omega arith)

-- what is gathered of the rows of a guideline: no more items than the limit, and columns that hold them
module _ {x : List ℕ} {n : ℕ} (t : Table) {l k l' k' : List ℕ} {m : ℕ} (h : Gathers x n l k l' k' m) {g : List TopLevel} (given : Given x n t g) where
  held : Holding t.bytes l' k' (declared_items g).items m
  held = h.held g t given.encoded given.limits given.count

  pub few_gathered : m ≤ data_item_limit
  few_gathered =
      let c = held.count in
      let a = length-map {B = Item} (data_items g) (λ (d : DataItem). record { name = d.named.spelt; declared = d.declared; value = none }) in
      let f = given.few_items in
      omega arith

  pub gathered_items : length l ≡ data_item_limit → length k ≡ data_item_limit → Items t.bytes (take m l') k' (declared_items g)
  gathered_items el ek =
      let a = h.names_long in
      let b = h.types_long in
      let u = few_gathered in
      columns_hold (omega arith) (omega arith) held

pub too_many : {x : List ℕ} {n : ℕ} (t : Table) {l k l' k' : List ℕ} {m : ℕ} → Gathers x n l k l' k' m → data_item_limit < m → Judged x n t None
too_many t h u g given = absurd (let f = few_gathered t h given in omega arith)

pub concluded : {x : List ℕ} {n : ℕ} (t : Table) {l k l' k' : List ℕ} {m : ℕ} (r : Option ℕ) → Gathers x n l k l' k' m → length l ≡ data_item_limit → length k ≡ data_item_limit
    → JudgedWith x n t l' k' m r → Judged x n t r
concluded t r h el ek f g given = f g given (gathered_items t h given el ek)

-- at most one answer
pub one_told : (g : List TopLevel) (r s : Option ℕ) → ToldOf g r → ToldOf g s → r ≡ s
one_told g (Some p) (Some q) h k = ap Some (let a = h.1 q k.0 in let b = k.1 p h.0 in let e : p ≡ q = omega arith in e)
one_told g (Some p) None h k = absurd (k p h.0)
one_told g None (Some q) h k = absurd (h q k.0)
one_told g None None h k = refl
