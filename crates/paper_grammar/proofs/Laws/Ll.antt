-- Grammars in which each alternative begins with a token or is empty, the machine that reads them from left to right with a stack of symbols, and the rule that makes one token enough to go by.
use Rattle.std.specs.Prelude.{ℕ, ◌≡◌, Bool, true, false, cond, ◌&&◌, ◌||◌, not, eqb}
use Rattle.std.proofs.Math.Option.{Option, none, some}
use mathlib.Core.List.{List, [], ◌∷◌, ◌++◌, Memᴰ}

pub data Sym (Nt : Type 0) : Type 0 where
  T : ℕ → Sym Nt
  N : Nt → Sym Nt

-- an alternative: its first token, and what follows that
infixr 20 ◌⇒◌
pub data Alt (Nt : Type 0) : Type 0 where
  ◌⇒◌ : ℕ → List (Sym Nt) → Alt Nt

pub record Grammar (Nt : Type 0) : Type 0 where
  pub alts : Nt → List (Alt Nt)
  pub empty : Nt → Bool

-- accepted, or refused with this much left
pub data Out : Type 0 where
  accept : Out
  refuse : List ℕ → Out

pub data Next (Nt : Type 0) : Type 0 where
  stop : Next Nt
  go : List (Sym Nt) → Next Nt

module _ {Nt : Type 0} where
  abbrev pub find : ℕ → List (Alt Nt) → Option (List (Sym Nt))
  find k [] = none
  find k ((j ⇒ β) ∷ bs) = cond (eqb k j) (some β) (find k bs)

  abbrev pub choose : Option (List (Sym Nt)) → List (Sym Nt) → Next Nt → Next Nt
  choose (some β) st n = go (β ++ st)
  choose none st n = n

  abbrev pub after : Next Nt → Out → (List (Sym Nt) → Out) → Out
  after stop o f = o
  after (go q) o f = f q

module _ {Nt : Type 0} (G : Grammar Nt) where
  -- the leftmost derivations
  pub data Der : List (Sym Nt) → List ℕ → Type 0 where
    end : Der [] []
    tok : {k : ℕ} {α : List (Sym Nt)} {w : List ℕ} → Der α w → Der (T k ∷ α) (k ∷ w)
    alt : {X : Nt} {k : ℕ} {α β : List (Sym Nt)} {w : List ℕ} → Memᴰ (k ⇒ β) (G.alts X) → Der (β ++ α) w → Der (N X ∷ α) (k ∷ w)
    skip : {X : Nt} {α : List (Sym Nt)} {w : List ℕ} → G.empty X ≡ true → Der α w → Der (N X ∷ α) w

  -- what the stack becomes at a token
  abbrev pub adv : List (Sym Nt) → ℕ → Next Nt
  adv [] k = stop
  adv (T j ∷ st) k = cond (eqb k j) (go st) stop
  adv (N X ∷ st) k = choose (find k (G.alts X)) st (cond (G.empty X) (adv st k) stop)

  abbrev pub blank : List (Sym Nt) → Bool
  blank [] = true
  blank (T k ∷ st) = false
  blank (N X ∷ st) = G.empty X && blank st

  abbrev pub run : List (Sym Nt) → List ℕ → Out
  run st [] = cond (blank st) accept (refuse [])
  run st (k ∷ r) = after (adv st k) (refuse (k ∷ r)) (λ q. run q r)

-- The rule that makes one token enough to go by: computed, from what may follow each symbol.
abbrev pub is_in : ℕ → List ℕ → Bool
is_in k [] = false
is_in k (j ∷ js) = eqb k j || is_in k js

abbrev pub subset : List ℕ → List ℕ → Bool
subset [] F = true
subset (k ∷ ks) F = is_in k F && subset ks F

module _ {Nt : Type 0} where
  abbrev pub has : ℕ → List (Alt Nt) → Bool
  has k [] = false
  has k ((j ⇒ β) ∷ bs) = eqb k j || has k bs

  abbrev pub distinct : List (Alt Nt) → Bool
  distinct [] = true
  distinct ((j ⇒ β) ∷ bs) = not (has j bs) && distinct bs

  abbrev pub firsts_in : List (Alt Nt) → List ℕ → Bool
  firsts_in [] F = true
  firsts_in ((j ⇒ β) ∷ bs) F = is_in j F && firsts_in bs F

  abbrev pub apart : List (Alt Nt) → List ℕ → Bool
  apart [] F = true
  apart ((j ⇒ β) ∷ bs) F = not (is_in j F) && apart bs F

module _ {Nt : Type 0} (G : Grammar Nt) (follow : Nt → List ℕ) where
  -- what can begin β, or follow it where it may be empty, is in F
  abbrev pub within : List ℕ → List (Sym Nt) → List ℕ → Bool
  within F [] f = subset f F
  within F (T k ∷ β) f = is_in k F
  within F (N Z ∷ β) f = firsts_in (G.alts Z) F && (not (G.empty Z) || within F β f)

  abbrev pub good_seq : List (Sym Nt) → List ℕ → Bool
  good_seq [] f = true
  good_seq (T k ∷ β) f = good_seq β f
  good_seq (N Y ∷ β) f = within (follow Y) β f && good_seq β f

  abbrev pub good_alts : List (Alt Nt) → List ℕ → Bool
  good_alts [] f = true
  good_alts ((j ⇒ β) ∷ bs) f = good_seq β f && good_alts bs f

  abbrev pub lawful : Nt → Bool
  lawful X = distinct (G.alts X) && (good_alts (G.alts X) (follow X) && (not (G.empty X) || apart (G.alts X) (follow X)))
