-- Law: exactly one clause of 9.5 and of 9.6 fits, and gives one answer; at most one of 9.7. By the first name that is alike.
use Rattle.std.specs.Prelude.{◌≡◌, refl, Bool, true, false, List, [], ◌∷◌, ℕ}
use Rattle.std.proofs.Common.{sym, ap, subst, ◌∙◌}
use Rattle.std.proofs.Math.Option.{Option, none, some}
use Rattle.paper_expressions.specs.Bytes.{Alike}
use Rattle.paper_expressions.specs.Clauses.{Clause, §9·5-2, §9·5-3, §9·6-1, §9·6-3}
use Rattle.paper_expressions.specs.View.{View, Item, Task, At, ResolveData, resolve_data_2, resolve_data_3, ParentPlan, IsAncestor, ancestor_1, ancestor_2, Ancestry, is_ancestor, ancestor_3}
use Rattle.paper_expressions.specs.View.{Named, Sole, Below, SoleBelow, ResolveTask, resolve_task_1, resolve_task_2, resolve_task_3, Apart}
use Rattle.paper_expressions.proofs.Laws.Search.{Same, ExactlyOne, Reflects, of_yes, of_no, reflects_iff, no_clash, alikeb, alike_reflects, index_f, Looked, found, missing, looked}

-- ---- 9.7

pub ancestor_one : {v : View} {t1 t2 : ℕ} {c d : Clause} → IsAncestor v t1 t2 c → IsAncestor v t1 t2 d → c ≡ d
ancestor_one (ancestor_1 h) (ancestor_1 k) = refl
ancestor_one (ancestor_1 h) (ancestor_2 n g k) = absurd (n h)
ancestor_one (ancestor_2 n g h) (ancestor_1 k) = absurd (n k)
ancestor_one (ancestor_2 n g h) (ancestor_2 m f k) = refl

-- in every view at most one of the three clauses fits, with one answer
pub ancestry_same : {v : View} {t1 t2 : ℕ} {c d : Clause} {a b : Bool} → Ancestry v t1 t2 c a → Ancestry v t1 t2 d b → Same c a d b
ancestry_same (is_ancestor h) (is_ancestor k) = record { clause = ancestor_one h k; value = refl }
ancestry_same (is_ancestor h) (ancestor_3 n) = absurd (n _ h)
ancestry_same (ancestor_3 n) (is_ancestor k) = absurd (n _ k)
ancestry_same (ancestor_3 n) (ancestor_3 m) = record { clause = refl; value = refl }

module _ (v : View) (T : ℕ) (a : List ℕ) where
  -- ---- 9.5

  abbrev pub resolve_data_f : Option ℕ
  resolve_data_f = index_f (λ x. alikeb x.name a) v.items

  abbrev pub data_clause : Option ℕ → Clause
  data_clause (some d) = §9·5-2
  data_clause none = §9·5-3

  -- in every view a clause fits
  pub data_fits : ResolveData v T a (data_clause resolve_data_f) resolve_data_f
  data_fits = go resolve_data_f (looked (λ (x : Item). Alike x.name a) (λ x. alikeb x.name a) (λ x. alike_reflects x.name a) v.items)
    where
      go : (o : Option ℕ) → Looked (λ (x : Item). Alike x.name a) v.items o → ResolveData v T a (data_clause o) o
      go o (found h k) = resolve_data_2 h k
      go o (missing m) = resolve_data_3 m

  -- in every view at most one clause fits; where the names are apart, with one answer
  pub data_clauses : {c d : Clause} {o p : Option ℕ} → ResolveData v T a c o → ResolveData v T a d p → c ≡ d
  data_clauses (resolve_data_2 h k) (resolve_data_2 h' k') = refl
  data_clauses (resolve_data_2 h k) (resolve_data_3 m) = absurd (m _ _ h k)
  data_clauses (resolve_data_3 m) (resolve_data_2 h k) = absurd (m _ _ h k)
  data_clauses (resolve_data_3 m) (resolve_data_3 m') = refl

  data_answers : Apart v → {c d : Clause} {o p : Option ℕ} → ResolveData v T a c o → ResolveData v T a d p → o ≡ p
  data_answers apart (resolve_data_2 h k) (resolve_data_2 h' k') = ap some (apart.items h h' (k ∙ sym k'))
  data_answers apart (resolve_data_2 h k) (resolve_data_3 m) = absurd (m _ _ h k)
  data_answers apart (resolve_data_3 m) (resolve_data_2 h k) = absurd (m _ _ h k)
  data_answers apart (resolve_data_3 m) (resolve_data_3 m') = refl

  pub data_same : Apart v → {c d : Clause} {o p : Option ℕ} → ResolveData v T a c o → ResolveData v T a d p → Same c o d p
  data_same apart h k = record { clause = data_clauses h k; value = data_answers apart h k }

  pub data_one : Apart v → ExactlyOne (ResolveData v T a)
  data_one apart = record { clause = _; value = _; fits = data_fits; only = λ h. data_same apart h data_fits }

  -- ---- 9.6

  -- in every view at most one clause fits, with one answer
  pub task_same : {c d : Clause} {o p : Option ℕ} → ResolveTask v T a c o → ResolveTask v T a d p → Same c o d p
  task_same (resolve_task_1 h) (resolve_task_1 k) = record { clause = refl; value = ap some (k.only _ h.named) }
  task_same (resolve_task_1 h) (resolve_task_2 n k) = absurd (n _ h)
  task_same (resolve_task_1 h) (resolve_task_3 n m) = absurd (n _ h)
  task_same (resolve_task_2 n h) (resolve_task_1 k) = absurd (n _ k)
  task_same (resolve_task_2 n h) (resolve_task_2 n' k) = record { clause = refl; value = ap some (k.only _ _ h.below).1 }
  task_same (resolve_task_2 n h) (resolve_task_3 n' m) = absurd (m _ _ h)
  task_same (resolve_task_3 n m) (resolve_task_1 k) = absurd (n _ k)
  task_same (resolve_task_3 n m) (resolve_task_2 n' k) = absurd (m _ _ k)
  task_same (resolve_task_3 n m) (resolve_task_3 n' m') = record { clause = refl; value = refl }

  -- a name row, alike to A
  abbrev pub NameRow : Option (List ℕ) → Type 0
  NameRow o = (n : List ℕ) × (o ≡ some n) × Alike n a

  abbrev pub nameb : Option (List ℕ) → Bool
  nameb none = false
  nameb (some n) = alikeb n a

  name_reflects : (o : Option (List ℕ)) → Reflects (NameRow o) (nameb o)
  name_reflects none = of_no (λ h. let e = h.1 in no_clash (cc))
  name_reflects (some n) = reflects_iff (λ h. (n, refl, h)) (λ h. let e : h.0 ≡ n = (let q = h.1 in cc) in subst (λ (x : List ℕ). Alike x a) e h.2) (alike_reflects n a)

  abbrev pub resolve_task_f : Option ℕ
  resolve_task_f = index_f (λ t. nameb t.name) v.tasks

  abbrev pub task_clause : Option ℕ → Clause
  task_clause (some c) = §9·6-1
  task_clause none = §9·6-3

  -- where the names are apart a clause fits
  pub task_fits : Apart v → ResolveTask v T a (task_clause resolve_task_f) resolve_task_f
  task_fits apart = go resolve_task_f (looked (λ (t : Task). NameRow t.name) (λ t. nameb t.name) (λ t. name_reflects t.name) v.tasks)
    where
      named : {c : ℕ} {t : Task} → At v.tasks c t → NameRow t.name → Named v a c
      named h k = record { task = _; name = k.0; at = h; row = k.1; alike = k.2 }

      row_of : {c : ℕ} (n : Named v a c) → NameRow n.task.name
      row_of n = (n.name, n.row, n.alike)

      go : (o : Option ℕ) → Looked (λ (t : Task). NameRow t.name) v.tasks o → ResolveTask v T a (task_clause o) o
      go o (found h k) = resolve_task_1 (record { named = named h k; only = λ d n. apart.tasks n.at h n.row k.1 (n.alike ∙ sym k.2) })
      go o (missing m) = resolve_task_3 (λ d s. m d s.named.task s.named.at (row_of s.named)) (λ p c s. let n = s.below.named in m c n.task n.at (row_of n))

  pub task_one : Apart v → ExactlyOne (ResolveTask v T a)
  task_one apart = record { clause = _; value = _; fits = task_fits apart; only = λ h. task_same h (task_fits apart) }
