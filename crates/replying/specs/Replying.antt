-- The contract of every call but load: of every state that the lent tables hold, the published reply, and tables that hold the state which the call leaves. Definitions only.
use Rattle.std.specs.Prelude.{ℕ, ◌≡◌, Bool, List, get_or}
use Rattle.paper_calls.specs.Calls as Calls
use Calls.{Guideline, State, empty, loaded, Call, Calls}
use Rattle.holding.specs.Holding.{Holds}
pub use Rattle.holding.specs.Elsewhere.{state_end, texts_end, Elsewhere}
use Rattle.replying.specs.declared.Reply.{Reply}
use Rattle.replying.specs.declared.Reply.TheVariants.{Done, Refused}

-- the reply that the code's answer stands for
abbrev pub published : Reply → Calls.Reply
published Done = Calls.done
published (Refused n) = Calls.refuses n 0 0

-- x the parts, b the text bytes, f the plan, w who waits for whom, s the state. Of an empty guideline every call is refused but load: one cell tells it
pub data Holding (x b f : List ℕ) (w : List (List Bool)) (s : List ℕ) : State → Type 0 where
  holds_none : get_or s 0 0 ≡ 0 → Holding x b f w s empty
  holds_loaded : {g : Guideline} → Holds g.structure x b f w s g.table g.flag g.time → Holding x b f w s (loaded g)

-- the call c in the state st has the reply r, and the tables after it hold the state that it leaves
pub record Called (c : Call) (x b' f : List ℕ) (w : List (List Bool)) (s' : List ℕ) (r : Calls.Reply) (st : State) : Type 0 where
  pub after : State
  pub calls : Calls c st r after
  pub holds : Holding x b' f w s' after

pub record Replies (c : Call) (x b f : List ℕ) (w : List (List Bool)) (s b' s' : List ℕ) (r : Calls.Reply) : Type 0 where
  pub called : (st : State) → Holding x b f w s st → Called c x b' f w s' r st
  pub elsewhere : Elsewhere b s b' s'
  -- "and change no byte"
  pub refused : {n p k : ℕ} → r ≡ Calls.refuses n p k → (b' ≡ b) × (s' ≡ s)
