-- What is claimed of a run in every turn, and that the first turn and each next one meet it; at the end it is the run's contract. By the tests of the call in their order, and the published run.
use Rattle.std.specs.Prelude.{ℕ, zero, suc, ◌<◌, ◌≤◌, ◌≡◌, refl, Bool, true, false, List, [], ◌∷◌, eqb, length, replicate}
use Rattle.std.proofs.Common.{arith, sym, ap, subst, ◌∙◌}
use Rattle.std.proofs.lemmas.List.{length-replicate, get_or-replicate}
use Rattle.paper_expressions.specs.View.{At, at_first, at_later}
use Rattle.paper_expressions.proofs.Laws.Search.{no_clash}
use Rattle.paper_engine.specs.Cycle as Cycle
use Cycle.{Ending, quiet, bounded, exception, ends}
use Rattle.paper_calls.specs.Calls as Calls
use Calls.{State, loaded, run, Calls, run_7, run_6_bound, run_6_lent, run_done, cycle_limit, changes_least, ran, refuses, Leaves, left_blank, left_as_it_was}
use Rattle.replying.specs.Replying.{Holding, holds_none, holds_loaded, Called, Replies}
use Rattle.replying.specs.Ready.{ready_f, replies_7, replies_refused, ready_loaded, not_empty, not_unready, is_ready}
use Rattle.asking.specs.Asks.{SameRows, asked_there}
use Rattle.change_rows.specs.declared.Row.{Row}
use Rattle.change_rows.specs.declared.Asked.{Asked}
use Rattle.change_rows.specs.Blank.{blank, Blanked, all_blank, none_blank}
use Rattle.change_rows.specs.Numbers.{Appended, Taken, back}
use Rattle.running.specs.declared.Turn.{Turn}
use Rattle.running.specs.Run as Running
use Running.{Turned, Ends, Nexts, AskedNow}
use Rattle.runs.specs.declared.Ran.{Ran}
use Rattle.runs.specs.Run.{published, reported, Runs, RunsAlone}

-- ---- definitions

-- b, s and the n rows o where the run began, b', s' and the rows z where the turn u stands; o' the rows when they are cleared
pub record Claims (bound : ℕ) (x b f : List ℕ) (w : List (List Bool)) (s : List ℕ) (n : ℕ) (b' s' : List ℕ) (u : Turn) : Type 0 where
  pub within : u.lent ≤ n
  pub goes : u.going ≡ true → (bound ≤ cycle_limit) × (ready_f s ≡ true) × (changes_least ≤ n) × Turned bound n x b f w s b' s' u
  pub ended : u.going ≡ false → (o z o' : List Row) → length o ≡ n → length z ≡ n → (u.lent ≡ 0 → z ≡ o) → Blanked u.lent z o' → (r : Ran) → published r ≡ reported u.ending u.cycles → Runs bound x b f w s b' s' o o' r

-- ---- a run that is refused

module _ (bound : ℕ) (x b f : List ℕ) (w : List (List Bool)) (s : List ℕ) (n : ℕ) (u : Turn) (i : ℕ) (told : (u.going ≡ false) × (u.ending ≡ i) × (u.lent ≡ 0)) where
  refused_claims : {y : Calls.Reply} → reported i u.cycles ≡ y → ((o : List Row) → length o ≡ n → Replies (run bound (length o)) x b f w s b s y) → ((o : List Row) → Leaves blank y o o) → Claims bound x b f w s n b s u
  refused_claims {y} e replies leaves =
      record {
        within = (let z = told.2 in omega arith);
        goes = λ z. absurd (no_clash (let a = told.0 in cc));
        ended = λ z o rs o' l m untouched h r k. (
            let same : published r ≡ y = k ∙ ap (λ (j : ℕ). reported j u.cycles) told.1 ∙ e in
            let stays : o' ≡ o = none_blank (subst (λ (j : ℕ). Blanked j rs o') told.2 h) ∙ untouched told.2 in
            record { replies = subst (Replies (run bound (length o)) x b f w s b s) (sym same) (replies o l); leaves = subst (λ (v : List Row). Leaves blank (published r) o v) (sym stays) (subst (λ (v : Calls.Reply). Leaves blank v o o) (sym same) (leaves o)) });
      }

module _ (bound : ℕ) (x b f : List ℕ) (w : List (List Bool)) (s : List ℕ) (n : ℕ) (u : Turn) {a : Bool} (ready : a ≡ ready_f s) where
  pub claims_unready : (u.going ≡ false) × (u.ending ≡ 7) × (u.lent ≡ 0) → a ≡ false → Claims bound x b f w s n b s u
  claims_unready told k = refused_claims bound x b f w s n u 7 told refl (λ o l. replies_7 (sym ready ∙ k) (λ st z. run_7 z)) (λ o. left_as_it_was)

  pub claims_beyond : (u.going ≡ false) × (u.ending ≡ 6) × (u.lent ≡ 0) → a ≡ true → cycle_limit < bound → Claims bound x b f w s n b s u
  claims_beyond told k l = refused_claims bound x b f w s n u 6 told refl (λ o e. replies_refused 6 (sym ready ∙ k) (λ g h z. run_6_bound z l)) (λ o. left_as_it_was)

  pub claims_short : (u.going ≡ false) × (u.ending ≡ 6) × (u.lent ≡ 0) → a ≡ true → n < changes_least → Claims bound x b f w s n b s u
  claims_short told k l = refused_claims bound x b f w s n u 6 told refl (λ o e. replies_refused 6 (sym ready ∙ k) (λ g h z. run_6_lent z (subst (λ (m : ℕ). m < changes_least) (sym e) l))) (λ o. left_as_it_was)

-- ---- a run that is accepted

blanks : (n i : ℕ) (y : Row) → At (replicate n blank) i y → y ≡ blank
blanks zero i y h = none_there h
  where
    none_there : {i : ℕ} {y : Row} → At {A = Row} [] i y → y ≡ blank
    none_there = elim [ ]
blanks (suc n) zero y h = first h
  where
    first : {l : List Row} {z v : Row} → At (z ∷ l) zero v → v ≡ z
    first at_first = refl
blanks (suc n) (suc i) y h = blanks n i y (later h)
  where
    later : {l : List Row} {z v : Row} {j : ℕ} → At (z ∷ l) (suc j) v → At l j v
    later (at_later q) = q

-- an ending, by its code
abbrev ending_by : Bool → Bool → Ending
ending_by true b = quiet
ending_by false true = bounded
ending_by false false = exception

abbrev ending_of_fn : ℕ → Ending
ending_of_fn n = ending_by (eqb n 1) (eqb n 2)

known : (e : Ending) → ending_of_fn (Running.ending_code e) ≡ e
known quiet = refl
known bounded = refl
known exception = refl

told_by : (e : Ending) (k : ℕ) → reported (Running.ending_code e) k ≡ ran (ends e k)
told_by quiet k = refl
told_by bounded k = refl
told_by exception k = refl

module _ (bound : ℕ) (x b f : List ℕ) (w : List (List Bool)) (s : List ℕ) (n : ℕ) (b' s' : List ℕ) (u : Turn) (l : bound ≤ cycle_limit) (ready : ready_f s ≡ true) (m : changes_least ≤ n) (turned : Turned bound n x b f w s b' s' u) where
  module _ (end : Ends bound x b f w s b' s' u) (o : List Row) (size : length o ≡ n) where
    abbrev reply : Calls.Reply
    reply = ran (ends end.how u.cycles)

    called : {st : State} → Holding x b f w s st → Called (run bound (length o)) x b' f w s' reply st
    called (holds_none h) = not_empty s (ready_loaded s ready) h
    called (holds_loaded {g} h) =
        let c = end.ran g.structure g.table g.flag g.time h in
        let e : end.how ≡ c.published.ending = sym (known end.how) ∙ ap ending_of_fn (sym end.its ∙ c.its_ending) ∙ known c.published.ending in
        let i : Calls (run bound (length o)) (loaded g) (ran c.published) (loaded (record { structure = g.structure; table = c.t'; flag = c.flag'; time = g.time })) = run_done (not_unready (is_ready ready h)) l (subst (λ (y : ℕ). changes_least ≤ y) (sym size) m) c.runs in
        record {
          after = _;
          calls = subst (λ (y : Cycle.Report). Calls (run bound (length o)) (loaded g) (ran y) (loaded (record { structure = g.structure; table = c.t'; flag = c.flag'; time = g.time })))
              (sym (ap (λ (y : Ending). ends y u.cycles) e ∙ ap (ends c.published.ending) c.its_cycles)) i;
          holds = holds_loaded c.holds;
        }

    replied : Replies (run bound (length o)) x b f w s b' s' reply
    replied = record { called = λ st h. called h; elsewhere = turned.elsewhere; refused = λ e. absurd (no_clash (cc)) }

    left : (o' : List Row) → o' ≡ replicate (length o) blank → Leaves blank reply o o'
    left o' e = subst (Leaves blank reply o) (sym e) (left_blank (length-replicate (length o) blank) (blanks (length o)))

    accepted : (z o' : List Row) → length z ≡ n → Blanked u.lent z o' → (r : Ran) → published r ≡ reported u.ending u.cycles → Runs bound x b f w s b' s' o o' r
    accepted z o' e h r told =
        let same : published r ≡ reply = told ∙ ap (λ (j : ℕ). reported j u.cycles) end.its ∙ told_by end.how u.cycles in
        let all : o' ≡ replicate (length o) blank = all_blank (subst (λ (j : ℕ). Blanked j z o') (turned.all_lent ∙ sym e) h) ∙ ap (λ (j : ℕ). replicate j blank) (e ∙ sym size) in
        record { replies = subst (Replies (run bound (length o)) x b f w s b' s') (sym same) replied; leaves = subst (λ (y : Calls.Reply). Leaves blank y o o') (sym same) (left o' all) }

  pub claims_turned : Claims bound x b f w s n b' s' u
  claims_turned =
      record {
        within = (let z = turned.all_lent in omega arith);
        goes = λ z. (l, ready, m, turned);
        ended = λ z o rs o' size e untouched h r told. accepted (turned.ended z) o size rs o' e h r told;
      }

-- ---- the next turn: the rows that are taken back are those that were appended

same_rows : (m : ℕ) (q p : List ℕ) (ys zs : List Row) → Appended m q ys zs → Taken m zs p → SameRows m p q
same_rows m q p ys zs h k i l =
    let e = back m q p ys zs h k i l in
    (ap (λ (r : Row). r.component) e, ap (λ (r : Row). r.property) e, ap (λ (r : Row). r.tag) e, ap (λ (r : Row). r.number) e)

module _ (bound : ℕ) (x b f : List ℕ) (w : List (List Bool)) (s : List ℕ) (n : ℕ) (b₁ s₁ : List ℕ) (u : Turn) (claims : Claims bound x b f w s n b₁ s₁ u) (going : u.going ≡ true) where
  pub few : u.asked.n ≤ 576
  few = ((claims.goes going).3.goes going).few

  pub below : u.cycles < bound
  below = ((claims.goes going).3.goes going).below

  pub limited : u.cycles < 256
  limited = let a = below in let c = (claims.goes going).0 in omega arith

  pub room : u.asked.n ≤ n
  room = let a = few in let c = (claims.goes going).2 in omega arith

  pub least : changes_least ≤ n
  least = (claims.goes going).2

  next_turned : (a : Asked) (ys zs : List Row) (b' s' : List ℕ) (v : Turn) → Appended u.asked.n u.asked.cells ys zs → (a.n ≡ u.asked.n) × Taken u.asked.n zs a.cells
      → Nexts bound u.lent x f w b₁ s₁ a.cells a.n u.cycles b' s' v → Turned bound n x b f w s b' s' v
  next_turned a ys zs b' s' v h k next =
      let g = claims.goes going in
      let t = g.3.goes going in
      let same = same_rows u.asked.n u.asked.cells a.cells ys zs h k.1 in
      let asks : AskedNow x b₁ f w s₁ a.cells u.asked.n = λ gl tb flag time hd. asked_there same (let z = k.1.size in let y = few in omega arith) (t.asks gl tb flag time hd) in
      let more = next b s t.below (λ e. t.some_row (sym k.0 ∙ e)) (subst (AskedNow x b₁ f w s₁ a.cells) (sym k.0) asks) t.on g.3.elsewhere in
      subst (λ (j : ℕ). Turned bound j x b f w s b' s' v) g.3.all_lent more

  pub next_lent : (a : Asked) (ys zs : List Row) (b' s' : List ℕ) (v : Turn) → Appended u.asked.n u.asked.cells ys zs → (a.n ≡ u.asked.n) × Taken u.asked.n zs a.cells
      → Nexts bound u.lent x f w b₁ s₁ a.cells a.n u.cycles b' s' v → v.lent ≡ n
  next_lent a ys zs b' s' v h k next = (next_turned a ys zs b' s' v h k next).all_lent

  pub claims_next : (a : Asked) (ys zs : List Row) (b' s' : List ℕ) (v : Turn) → Appended u.asked.n u.asked.cells ys zs → (a.n ≡ u.asked.n) × Taken u.asked.n zs a.cells
      → Nexts bound u.lent x f w b₁ s₁ a.cells a.n u.cycles b' s' v → Claims bound x b f w s n b' s' v
  claims_next a ys zs b' s' v h k next = let g = claims.goes going in claims_turned bound x b f w s n b' s' v g.0 g.1 g.2 (next_turned a ys zs b' s' v h k next)

  -- the rows as they were asked for
  pub claims_straight : (b' s' : List ℕ) (v : Turn) → Nexts bound u.lent x f w b₁ s₁ u.asked.cells u.asked.n u.cycles b' s' v → Claims bound x b f w s n b' s' v
  claims_straight b' s' v next =
      let g = claims.goes going in
      let t = g.3.goes going in
      let more = next b s t.below t.some_row t.asks t.on g.3.elsewhere in
      claims_turned bound x b f w s n b' s' v g.0 g.1 g.2 (subst (λ (j : ℕ). Turned bound j x b f w s b' s' v) g.3.all_lent more)

-- ---- with rows of its own

pub claims_alone : (bound : ℕ) (x b f : List ℕ) (w : List (List Bool)) (s : List ℕ) (n : ℕ) (b' s' : List ℕ) (u : Turn) (r : Ran) → Claims bound x b f w s n b' s' u → u.going ≡ false → published r ≡ reported u.ending u.cycles
    → RunsAlone bound n x b f w s b' s' r
claims_alone bound x b f w s n b' s' u r claims stopped told =
    let o : List Row = replicate n blank in
    let size : length o ≡ n = length-replicate n blank in
    let blanked : Blanked u.lent o o = record { size = refl; first = λ j l. get_or-replicate n j blank blank (let c = claims.within in omega arith); others = λ j l. refl } in
    subst (λ (j : ℕ). RunsAlone bound j x b f w s b' s' r) size (claims.ended stopped o o o size size (λ z. refl) blanked r told).replies
