-- From load's answer, the plan and the opened state to its reply; and that only one reply fits, with every cell.
use Rattle.std.specs.Prelude.{ℕ, ◌≤◌, ◌<◌, ◌≡◌, refl, Bool, true, false, ◌||◌, List, length, get_or, ltb, Result, Ok, Err}
use Rattle.std.proofs.Common.{arith, sym, ap, subst, ◌∙◌, ltb-false, lt-ltb, le-ltb}
use Rattle.std.proofs.lemmas.List.{length-map}
use Rattle.paper_expressions.proofs.Laws.Tests.{or_r}
use Rattle.paper_expressions.proofs.Laws.Search.{no_clash}
use Rattle.paper_guideline.specs.Structure.{TopLevel, tasks}
use Rattle.paper_guideline.specs.Refusals as Refusals
use Rattle.paper_guideline.proofs.Laws.RefusalLaws.{one_answer}
use Rattle.paper_guideline.proofs.Laws.StageTwin.{one_read}
use Rattle.paper_rows.specs.Bare.{bare_guideline, bare_task}
use Rattle.paper_rows.proofs.Laws.LoadLaws.{lawful}
use Rattle.paper_rows.proofs.Laws.BareLaws.{bare_tasks, bare_lawful}
use Rattle.parts.specs.Part.{Table, table}
use Rattle.guideline_rows.specs.Rows.{flatten}
use Rattle.guideline_rows.specs.Encoded.{Encoded}
use Rattle.guideline_rows.specs.LimitLaws.{in_limits}
use Rattle.guideline_rows.specs.OneEncoding.{AsLong, one_encoding}
use Rattle.stages.specs.Judged.{is_short}
use Rattle.reading.specs.Laws.{same_refusal}
use Rattle.stages.specs.Judged as Stages
use Rattle.stages.specs.declared.Refused.{Refused}
use Rattle.answering.specs.Reply as Answering
use Rattle.answering.specs.Stages.{never_both, swapped}
use Rattle.opening.specs.Opened.{Opened, Opens, one_opened}
use Rattle.row_tests.specs.Table.{row_limit}
use Rattle.plan.specs.Filled.{Filled, Fills}
use Rattle.plan.specs.Laws.One.{one_filled}
use Rattle.plan_law.specs.Encodes.{reads}
use Rattle.plan_law.specs.Loaded.{unbroken, bounded_loaded, few_loaded, short_loaded}
use Rattle.plan_law.specs.TaskColumns.{tasks_told}
use Rattle.plan_law.specs.Law.{fit_loaded}
use Rattle.load.specs.declared.Reply.{Reply}
use Rattle.load.specs.Loads.{Lent, few, short_f, Emptied, Outcome, Prepared, Turned, Replied}

-- ---- whether a table is short

or_none : (a b : Bool) → b ≡ false → (a || b) ≡ a
or_none true b e = refl
or_none false b e = e

-- so long that none is too short
pub enough : (p b s : ℕ) → few p b s ≡ false → (1640 ≤ p) × (65536 ≤ b) × (2952 ≤ s)
enough p b s e = go (ltb p 1640) (ltb b 65536) (ltb s 2952) refl refl refl e
  where
    go : (i j k : Bool) → ltb p 1640 ≡ i → ltb b 65536 ≡ j → ltb s 2952 ≡ k → (i || (j || k)) ≡ false → (1640 ≤ p) × (65536 ≤ b) × (2952 ≤ s)
    go false false false x y z h = (ltb-false p 1640 x, ltb-false b 65536 y, ltb-false s 2952 z)
    go false false true x y z h = absurd (no_clash (cc))
    go false true k x y z h = absurd (no_clash (cc))
    go true j k x y z h = absurd (no_clash (cc))

-- what the code finds out
pub few_first : (p b s : ℕ) → p < 1640 → true ≡ few p b s
few_first p b s l = sym (rw (lt-ltb p 1640 l))

pub few_second : (p b s : ℕ) → b < 65536 → true ≡ few p b s
few_second p b s l = sym (or_r (ltb p 1640) (ltb b 65536 || ltb s 2952) (rw (lt-ltb b 65536 l)))

pub few_third : (p b s : ℕ) → 1640 ≤ p → 65536 ≤ b → ltb s 2952 ≡ few p b s
few_third p b s l m = sym (rw (le-ltb p 1640 l, le-ltb b 65536 m))

-- ---- the number of tasks

pub bare_number : (g : List TopLevel) → length (tasks (bare_guideline g)) ≡ length (tasks g)
bare_number g = ap length (bare_tasks g) ∙ length-map (tasks g) bare_task

module _ {S : Type 0} {text : List ℕ} {g : List TopLevel} {x q b f : List ℕ} {w : List (List Bool)} {n : ℕ} (answers : Refusals.Answers S text Refusals.loads) (read : Refusals.Read text g) (encoded : Encoded (flatten g) x (table q b))
    (count : n ≡ length (flatten g)) (filled : Filled x n b f w) where
  tasks_counted : get_or f 0 0 ≡ length (tasks g)
  tasks_counted =
      let l = few_loaded answers read in
      let m : n ≤ row_limit = omega arith in
      let r = reads g b encoded (in_limits read (unbroken answers)) count m (short_loaded answers read) (λ i k. refl) in
      (tasks_told (bare_lawful (lawful answers read)) (bounded_loaded answers read).sized.few_tasks r filled.held).number ∙ bare_number g

  few_tasks : length (tasks g) ≤ 32
  few_tasks = let k = (bounded_loaded answers read).sized.few_tasks in let e = bare_number g in omega arith

-- ---- accepted

module _ (a : Lent) {text : List ℕ} {x q b : List ℕ} {r : Result ℕ Refused} (long_enough : few (length a.plan) (length a.parts.bytes) (length a.state) ≡ false)
    (answered : Answering.Answered text a.rows a.parts x (table q b) r) where
  told_as : {z : Refusals.Answer} → Refusals.Answers (Stages.Short a.rows a.parts) text z → Refusals.Answers (short_f a ≡ true) text z
  told_as h = let e = or_none (is_short (length a.rows) (length a.parts.cells) (length a.parts.bytes)) _ long_enough in swapped (λ k. e ∙ k) (λ k. sym e ∙ k) h

  pub taken : {n : ℕ} {f : List ℕ} {w : List (List Bool)} {s : List ℕ} → r ≡ Ok n → Prepared x n b a.plan a.state f w s
      → Replied text a (record { rows = x; parts = table q b; plan = f; waits = w; state = s }) Reply.Done
  taken {n} {f} {w} {s} e p =
      let h = subst (Answering.Reply text a.rows a.parts x (table q b)) e answered.reply in
      let y = told_as h.answers in
      let o = enough (length a.plan) (length a.parts.bytes) (length a.state) long_enough in
      let filled = p.fills.1 (fit_loaded y h.read h.encoded h.count) o.0 in
      let c = tasks_counted y h.read h.encoded h.count filled in
      let l = few_tasks y h.read h.encoded h.count filled in
      record {
        outcome = record {
          guideline = h.guideline;
          read = h.read;
          answers = y;
          long = h.long;
          encoded = h.encoded;
          plan_long = p.fills.0;
          filled = subst (λ (k : ℕ). Filled x k b f w) h.count filled;
          state_long = p.opens.size;
          opened = subst (λ (k : ℕ). Opened k s) c (p.opens.opened (omega arith) o.2);
        };
      }

  pub turned_away : {v : Refused} {f : List ℕ} {w : List (List Bool)} {s : List ℕ} → r ≡ Err v → Emptied a.plan a.state f w s
      → Replied text a (record { rows = x; parts = table q b; plan = f; waits = w; state = s }) (Reply.Refused v.number v.place)
  turned_away e z =
      let h = subst (Answering.Reply text a.rows a.parts x (table q b)) e answered.reply in
      record { outcome = (told_as h.0, record { rows = h.1.rows; cells = h.1.parts; bytes = h.1.bytes; rest = z }) }

pub prepared : {x : List ℕ} {n : ℕ} {b f s f' : List ℕ} {w' : List (List Bool)} {k : ℕ} {s' : List ℕ} → Fills x n b f f' w' → k ≡ get_or f' 0 0 → Opens s k s' → Prepared x n b f s f' w' s'
prepared {s = s} {s' = s'} h e o = record { fills = h; opens = subst (λ (k : ℕ). Opens s k s') e o }

-- ---- a short table

-- what loads has no short table
pub never_short : {S : Type 0} {text : List ℕ} → Refusals.Answers S text Refusals.loads → ¬ S
never_short {text = text} (Refusals.is_loaded r none) s = none Refusals.limit_stage (length text) (Refusals.short_table s)

module _ {text x z : List ℕ} {t u : Table} {r : Result ℕ Refused} (answered : Answering.Answered text x t z u r) (short : Stages.Short x t) where
  pub not_taken : {n p : ℕ} → r ≡ Ok n → Turned text (Reply.Refused 6 p)
  not_taken e = absurd (never_short (subst (Answering.Reply text x t z u) e answered.reply).answers short)

  pub refused_short : {v : Refused} → r ≡ Err v → Turned text (Reply.Refused v.number v.place)
  refused_short e = record { told = λ k y. swapped (λ v. y) (λ v. short) (subst (Answering.Reply text x t z u) e answered.reply).0 }

pub too_short : (a : Lent) {text : List ℕ} {x q b f : List ℕ} {w : List (List Bool)} {s : List ℕ} (r : Reply) → few (length a.plan) (length a.parts.bytes) (length a.state) ≡ true
    → Stages.Empty a.rows a.parts x (table q b) → Emptied a.plan a.state f w s → Turned text r → Replied text a (record { rows = x; parts = table q b; plan = f; waits = w; state = s }) r
too_short a Reply.Done e z y h = absurd (h.told true refl)
too_short a (Reply.Refused n p) e z y h =
    record {
      outcome = (h.told (short_f a) (or_r (is_short (length a.rows) (length a.parts.cells) (length a.parts.bytes)) _ e), record { rows = z.rows; cells = z.parts; bytes = z.bytes; rest = y });
    }

-- ---- only one reply fits

same_lent : {x y q r b c f g : List ℕ} {v w : List (List Bool)} {s u : List ℕ} → x ≡ y → q ≡ r → b ≡ c → f ≡ g → v ≡ w → s ≡ u
    → ◌≡◌ {A = Lent} (record { rows = x; parts = table q b; plan = f; waits = v; state = s }) (record { rows = y; parts = table r c; plan = g; waits = w; state = u })
same_lent a b c d e f = cc

same_reply : (text : List ℕ) (a b c : Lent) (r s : Reply) → Outcome text a b r → Outcome text a c s → (r ≡ s) × (b ≡ c)
same_reply text a b c Reply.Done Reply.Done h k =
    let e = one_read h.read k.read in
    let l : AsLong b.rows c.rows b.parts c.parts = record { cells = h.long.cells ∙ sym k.long.cells; parts = h.long.parts ∙ sym k.long.parts; bytes = h.long.bytes ∙ sym k.long.bytes } in
    let o = one_encoding l (subst (λ (g : List TopLevel). Encoded (flatten g) b.rows b.parts) e h.encoded) k.encoded in
    let f0 : Filled c.rows (length (flatten k.guideline)) c.parts.bytes b.plan b.waits =
    subst (λ (g : List TopLevel). Filled c.rows (length (flatten g)) c.parts.bytes b.plan b.waits) e
    (subst (λ (t : Table). Filled c.rows (length (flatten h.guideline)) t.bytes b.plan b.waits) o.1
    (subst (λ (x : List ℕ). Filled x (length (flatten h.guideline)) b.parts.bytes b.plan b.waits) o.0 h.filled)) in
    let f1 = one_filled (h.plan_long ∙ sym k.plan_long) f0 k.filled in
    let s1 = one_opened (h.state_long ∙ sym k.state_long) (subst (λ (g : List TopLevel). Opened (length (tasks g)) b.state) e h.opened) k.opened in
    (refl, same_lent o.0 (ap (λ (t : Table). t.cells) o.1) (ap (λ (t : Table). t.bytes) o.1) f1.0 f1.1 s1)
same_reply text a b c Reply.Done (Reply.Refused m p) h k = never_both h.answers k.0
same_reply text a b c (Reply.Refused m p) Reply.Done h k = never_both k.answers h.0
same_reply text a b c (Reply.Refused n p) (Reply.Refused m q) h k =
    let y = h.1 in
    let z = k.1 in (
      same_refusal Reply.Refused (one_answer h.0 k.0),
      same_lent (y.rows ∙ sym z.rows) (y.cells ∙ sym z.cells) (y.bytes ∙ sym z.bytes) (y.rest.plan ∙ sym z.rest.plan) (y.rest.waits ∙ sym z.rest.waits) (y.rest.state ∙ sym z.rest.state),
    )

pub one_reply : {text : List ℕ} {a b c : Lent} {r s : Reply} → Replied text a b r → Replied text a c s → (r ≡ s) × (b ≡ c)
one_reply {text} {a} {b} {c} {r} {s} h k = same_reply text a b c r s h.outcome k.outcome
