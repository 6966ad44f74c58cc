-- 8.3.4: the contract of confirming a task, and that the code's cases meet it. By the plan's number of tasks, and the one row that is written.
use Rattle.std.specs.Prelude.{ℕ, ◌<◌, ◌≡◌, refl, Bool, true, false, ◌||◌, List, eqb, get_or}
use Rattle.std.proofs.Common.{arith, sym, ap, subst, ◌∙◌, eq-eqb, eqb-true}
use Rattle.std.proofs.Math.Option.{Option, some}
use Rattle.paper_expressions.proofs.Laws.Search.{no_clash}
use Rattle.paper_rows.specs.Table.{task, Component, ◌№◌, Property, confirmed, RowValue, truth_row}
use Rattle.paper_calls.specs.Calls.{Guideline, loaded, Unready, confirm_task, confirm_7, confirm_8, confirm_done, ConfirmTask, confirm_2, refuses, done}
use Rattle.paper_calls.proofs.Laws.CallLaws.{confirm_mild}
use Rattle.paper_calls.proofs.Laws.TotalLaws.{confirms}
use Rattle.state.specs.Layout.{confirmed_column}
use Rattle.holding.specs.Holding.{Holds}
use Rattle.holding.specs.Shown.{worked, kept}
use Rattle.replying.specs.declared.Reply.{Reply}
use Rattle.replying.specs.Replying.{published, holds_loaded, Called, Replies}
use Rattle.replying.specs.Ready.{ready_f, replies_7, replies_refused, replies_done}
use Rattle.replying.specs.Trues.{Trues, put_true, trues_none, trues_more, trues_elsewhere, Only, holds_trues}

abbrev pub Confirms : ℕ → List ℕ → List ℕ → List ℕ → Reply → Type 0
Confirms T f s s' r = (x b : List ℕ) (w : List (List Bool)) → Replies (confirm_task T) x b f w s b s' (published r)

pub confirm_unready : (T : ℕ) (f s : List ℕ) {r : Bool} → r ≡ ready_f s → r ≡ false → (x b : List ℕ) (w : List (List Bool)) → Replies (confirm_task T) x b f w s b s (refuses 7 0 0)
confirm_unready T f s e k x b w = replies_7 (sym e ∙ k) (λ st u. confirm_7 u)

-- what is no task
pub confirm_none : (T : ℕ) (f s : List ℕ) {r : Bool} {n : ℕ} → r ≡ ready_f s → r ≡ true → n ≡ get_or f 0 0 → ¬ ((T < n) × (T < 32)) → (x b : List ℕ) (w : List (List Bool)) → Replies (confirm_task T) x b f w s b s (refuses 8 0 0)
confirm_none T f s {n = n} e k q l x b w =
    replies_refused 8 (sym e ∙ k) (λ g h u. confirm_8 u (λ i. (let z = worked h in let y = z.number in let j : T < n = subst (λ (m : ℕ). T < m) (sym q) ((z.ids T).0 i) in l (j, omega arith))))

abbrev this : ℕ → ℕ → Bool
this T U = eqb U T || false

is_this : (T U : ℕ) → this T U ≡ true → U ≡ T
is_this T U e = go (eqb U T) refl e
  where
    go : (a : Bool) → eqb U T ≡ a → a || false ≡ true → U ≡ T
    go true i j = eqb-true U T i
    go false i j = absurd (no_clash (cc))

only_confirm : (T : ℕ) → T < 32 → Only (ConfirmTask T) confirmed (this T)
only_confirm T l =
    record {
      of = λ c q o h. of h;
      all = λ U m e. subst (λ (y : ℕ). ConfirmTask T (task № y) confirmed (some (truth_row true))) (sym (is_this T U e)) confirm_2;
    }
  where
    of : {c : Component} {q : Property} {o : Option RowValue} → ConfirmTask T c q o → (U : ℕ) × (c ≡ task № U) × (q ≡ confirmed) × (o ≡ some (truth_row true)) × (U < 32) × (this T U ≡ true)
    of confirm_2 = (T, refl, refl, refl, l, ap (λ (y : Bool). y || false) (eq-eqb T T refl))

pub confirm_set : (T : ℕ) (f s : List ℕ) {s' : List ℕ} {r : Bool} {n : ℕ} → r ≡ ready_f s → r ≡ true → n ≡ get_or f 0 0 → T < n → T < 32 → s' ≡ put_true s 136 T
    → (x b : List ℕ) (w : List (List Bool)) → Replies (confirm_task T) x b f w s b s' done
confirm_set T f s {s'} e k q l m p x b w =
    replies_done (sym e ∙ k) (trues_elsewhere confirmed_column marks) (λ g h u. called g h u)
  where
    marks : Trues s 136 (this T) s'
    marks = trues_more T m p (trues_none s 136)

    called : (g : Guideline) → Holds g.structure x b f w s g.table g.flag g.time → ¬ Unready (loaded g) → Called (confirm_task T) x b f w s' done (loaded g)
    called g h u =
        let id = ((worked h).ids T).1 (subst (λ (y : ℕ). T < y) q l) in
        let t = confirms T g.table in
        record { after = _; calls = confirm_done u id t.1; holds = holds_loaded (holds_trues h confirmed_column marks (only_confirm T m) (confirm_mild (kept h) id) t.1) }
