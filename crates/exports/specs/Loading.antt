-- Load for other languages: its contract, of the reply that the numbers tell and of every lent cell and byte; and that only one outcome fits. By load's own contract, and the bytes of who waits for whom.
use Rattle.std.specs.Prelude.{ℕ, ◌≡◌, refl, Bool, false, List, [], length, replicate}
use Rattle.std.proofs.Common.{sym, ap, subst}
use Rattle.std.proofs.lemmas.List.{get_or-replicate}
use Rattle.square.specs.Square.{square_of, IsSquare, Packed, unpacked, one_packed}
use Rattle.load.specs.declared.Reply.{Reply}
use Rattle.load.specs.Loads.{Lent, lent, Outcome as Leaves, Replied}
use Rattle.load.specs.LoadsLaws.{one_reply}
use Rattle.loaded.specs.Loaded.{published}
use Rattle.exports.specs.declared.Outcome.{Outcome}
use Rattle.exports.specs.Outcomes.{Tells, one_outcome}

-- ---- definitions

-- a the lent tables before, of which those of who waits for whom are not read; after it rows, parts, plan, the bytes of who waits for whom, texts and state
pub record Loads (text : List ℕ) (a : Lent) (x q f v b s : List ℕ) (o : Outcome) : Type 0 where
  pub reply : Reply
  pub tells : Tells (published reply) o
  pub replied : Replied text a (lent x q f (square_of v) b s) reply
  pub packed : Packed (square_of v) v

-- ---- what the code finds out

square_left : (text : List ℕ) (a a' : Lent) (r : Reply) → Leaves text a a' r → IsSquare a'.waits
square_left text a a' Reply.Done h = let m = h.filled.marked in (m.long, m.wide)
square_left text a a' (Reply.Refused n p) h = subst IsSquare (sym h.1.rest.waits) (refl, λ i l. ap length (get_or-replicate 32 i (replicate 32 false) [] l))

pub loads_told : {text : List ℕ} {a : Lent} (x q f : List ℕ) {v : List ℕ} (b s : List ℕ) (w : List (List Bool)) (r : Reply) (o : Outcome) → Replied text a (lent x q f w b s) r → Packed w v → Tells (published r) o → Loads text a x q f v b s o
loads_told {text} {a} x q f {v} b s w r o h p t =
    let e = sym (unpacked (square_left text a (lent x q f w b s) r h.outcome) p) in
    record { reply = r; tells = t; replied = subst (λ (y : List (List Bool)). Replied text a (lent x q f y b s) r) e h; packed = subst (λ (y : List (List Bool)). Packed y v) e p }

-- ---- one outcome, with every cell and byte

pub record Same (x q f v b s x' q' f' v' b' s' : List ℕ) (o o' : Outcome) : Type 0 where
  pub outcome : o ≡ o'
  pub rows : x ≡ x'
  pub parts : q ≡ q'
  pub plan : f ≡ f'
  pub waits : v ≡ v'
  pub texts : b ≡ b'
  pub state : s ≡ s'

pub one_load : {text : List ℕ} {a : Lent} {x q f v b s x' q' f' v' b' s' : List ℕ} {o o' : Outcome} → Loads text a x q f v b s o → Loads text a x' q' f' v' b' s' o' → Same x q f v b s x' q' f' v' b' s' o o'
one_load {v = v} {v' = v'} {o = o} {o' = o'} h k =
    let z = one_reply h.replied k.replied in
    let e = z.1 in
    record {
      outcome = one_outcome o o' (subst (λ (r : Reply). Tells (published r) o) z.0 h.tells) k.tells;
      rows = ap (λ (t : Lent). t.rows) e;
      parts = ap (λ (t : Lent). t.parts.cells) e;
      plan = ap (λ (t : Lent). t.plan) e;
      waits = one_packed (subst (λ (y : List (List Bool)). Packed y v) (ap (λ (t : Lent). t.waits) e) h.packed) k.packed;
      texts = ap (λ (t : Lent). t.parts.bytes) e;
      state = ap (λ (t : Lent). t.state) e;
    }
