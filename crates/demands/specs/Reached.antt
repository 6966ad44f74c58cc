-- The tables that a series of public calls leaves. Definitions only.
-- Document 01: "A series of calls starts from an empty guideline, and each call is given the guideline, state and tables (the Changes table aside) as the call before left them".
use Rattle.std.specs.Prelude.{ℕ, ◌≡◌, Bool, List, get_or}
use Rattle.paper_calls.specs.Calls as Calls
use Calls.{Call}
use Rattle.paper_calls.proofs.Laws.TotalLaws.{NotLoad}
use Rattle.load.specs.declared.Reply.{Reply}
use Rattle.load.specs.Loads.{Lent, Replied}
use Rattle.replying.specs.Replying.{Replies}

-- the lent tables after a call other than load: the text bytes and the state may have changed
abbrev pub after : Lent → List ℕ → List ℕ → Lent
after a bytes state =
    record { rows = a.rows; parts = record { cells = a.parts.cells; bytes = bytes }; plan = a.plan; waits = a.waits; state = state }

-- a call other than load, by its contract: given these tables, it leaves these bytes and this state, and replies so
abbrev pub On : Call → Lent → List ℕ → List ℕ → Calls.Reply → Type 0
On c a bytes state r = Replies c a.parts.cells a.parts.bytes a.plan a.waits a.state bytes state r

pub data Reached : Lent → Type 0 where
  -- an empty guideline
  from_empty : {a : Lent} → get_or a.state 0 0 ≡ 0 → Reached a
  -- a load, by its contract: any text
  by_load : {text : List ℕ} {a a' : Lent} {r : Reply} → Reached a → Replied text a a' r → Reached a'
  -- any other call, by its contract
  by_call : {c : Call} {a : Lent} {bytes state : List ℕ} {r : Calls.Reply} → Reached a → NotLoad c → On c a bytes state r → Reached (after a bytes state)
