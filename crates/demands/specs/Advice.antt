-- The premises are met, and a promise is kept: over any tables that are long enough, calls that meet their contracts tell the fluke of README as it is worked from its bytes. By the one reply that each published call has.
use Rattle.std.specs.Prelude.{ℕ, ◌≡◌, refl, Bool, false, List}
use Rattle.std.proofs.Common.{sym, subst}
use Rattle.std.proofs.Math.Option.{some}
use Rattle.paper_expressions.specs.Bytes.{bytes}
use Rattle.paper_expressions.specs.Values.{one, text}
use Rattle.paper_expressions.proofs.Laws.Search.{no_clash}
use Rattle.paper_engine.specs.Cycle.{ends, quiet}
use Rattle.paper_calls.specs.Calls as Calls
use Calls.{State, empty, done, ran, row, shows_value, refuses, Call, load, run, set_engine_time, confirm_task, add_data_value, read_row, Calls}
use Rattle.paper_calls.proofs.Laws.CallLaws.{one_call}
use Rattle.paper_worked.specs.Fluke.{fluke_text, depths, Fluke}
use Rattle.paper_worked.proofs.FlukeLaws.{worked_fluke}
use Rattle.load.specs.declared.Reply.{Reply}
use Rattle.load.specs.declared.Reply.TheVariants as Load
use Rattle.load.specs.Loads.{Lent, short_f, Replied}
use Rattle.replying.specs.Replying.{Holding}
use Rattle.loaded.specs.Loaded.{published, load_leaves}
use Rattle.demands.specs.Reached.{On, after}

-- the tables hold the state
abbrev Held : Lent → State → Type 0
Held a s = Holding a.parts.cells a.parts.bytes a.plan a.waits a.state s

-- a call by its contract, from tables to tables
pub record Leads (c : Call) (a a' : Lent) (r : Calls.Reply) : Type 0 where
  pub bytes : List ℕ
  pub state : List ℕ
  pub meets : On c a bytes state r
  pub leaves : a' ≡ after a bytes state

-- where the published call is known, so is this one
record Follows (a' : Lent) (r q : Calls.Reply) (st : State) : Type 0 where
  pub reply : r ≡ q
  pub holds : Held a' st

follow : {c : Call} {a a' : Lent} {r q : Calls.Reply} {st st' : State} → Held a st → Leads c a a' r → Calls c st q st' → Follows a' r q st'
follow {a = a} {st = st} {st'} h l k =
    let m = l.meets.called st h in
    let e = one_call m.calls k in
    record { reply = e.replies; holds = subst (λ (x : Lent). Held x st') (sym l.leaves) (subst (Held (after a l.bytes l.state)) e.states m.holds) }

-- the replies, one after the other
pub record Told (r0 : Reply) (r1 r2 r3 r4 r5 r6 r7 : Calls.Reply) : Type 0 where
  pub loads : r0 ≡ Load.Done
  pub clock : r1 ≡ done
  pub asks : r2 ≡ ran (ends quiet 2)
  pub answers : r3 ≡ done
  pub begins : r4 ≡ ran (ends quiet 2)
  pub confirms : r5 ≡ done
  pub finishes : r6 ≡ ran (ends quiet 2)
  pub risk : r7 ≡ row (shows_value (one (text (bytes "high"))))

is_done : (r : Reply) → published r ≡ done → r ≡ Load.Done
is_done Load.Done e = refl
is_done (Load.Refused n p) e = absurd (no_clash (cc))

-- the risk is high, however the calls are built that meet their contracts
pub advice : {a0 a1 a2 a3 a4 a5 a6 a7 a8 : Lent} {r0 : Reply} {r1 r2 r3 r4 r5 r6 r7 : Calls.Reply} → short_f a0 ≡ false → Replied fluke_text a0 a1 r0
    → Leads (set_engine_time 7) a1 a2 r1 → Leads (run 256 1024) a2 a3 r2 → Leads (add_data_value 0 (some depths)) a3 a4 r3 → Leads (run 256 1024) a4 a5 r4
    → Leads (confirm_task 2) a5 a6 r5 → Leads (run 256 1024) a6 a7 r6 → Leads (read_row 1 1 42) a7 a8 r7 → Told r0 r1 r2 r3 r4 r5 r6 r7
advice {a1 = a1} {r0 = r0} long l0 l1 l2 l3 l4 l5 l6 l7 =
    let w = worked_fluke in
    let m = load_leaves l0 empty in
    let e = one_call (subst (λ (short : Bool). Calls (load fluke_text short) empty (published r0) m.after) long m.calls) w.loads in
    let k1 = follow (subst (Held a1) e.states m.holds) l1 w.clock in
    let k2 = follow k1.holds l2 w.asks in
    let k3 = follow k2.holds l3 w.answers in
    let k4 = follow k3.holds l4 w.begins in
    let k5 = follow k4.holds l5 w.confirms in
    let k6 = follow k5.holds l6 w.finishes in
    let k7 = follow k6.holds l7 w.risk in
    record { loads = is_done r0 e.replies; clock = k1.reply; asks = k2.reply; answers = k3.reply; begins = k4.reply; confirms = k5.reply; finishes = k6.reply; risk = k7.reply }
