-- What the parts of the machine do, in the terms of Ll. Definitions only.
use Rattle.std.specs.Prelude.{Option, Some, None, ℕ, ◌+◌, ◌≤◌, ◌≡◌, Bool, false, cond, ◌&&◌, List, [], ◌∷◌, map, length, drop, eqb}
use Rattle.paper_grammar.proofs.Laws.Ll.{Sym, T, N, stop, go, accept, refuse, adv, run}
use Rattle.paper_grammar.proofs.Laws.Form.{G}
use Rattle.grammar.specs.declared.Answer.{Answer}
use Rattle.grammar.specs.declared.Answer.TheVariants.{Accepted, Refused, Unread}
use Rattle.grammar.specs.Tables.{sym_of, choice_of}

-- s is passed over at k: it may be empty, and no alternative of it begins with k
abbrev pub passed : ℕ → Sym ℕ → Bool
passed k (T j) = false
passed k (N x) = eqb (choice_of x k) 0 && G.empty x

abbrev pub past : ℕ → List (Sym ℕ) → List (Sym ℕ)
past k [] = []
past k (s ∷ st) = cond (passed k s) (past k st) (s ∷ st)

-- one token, with the bytes `st` on the stack from top on; then the stack is `out`
abbrev pub Stepped : List ℕ → ℕ → ℕ → List ℕ → Option ℕ → Type 0
Stepped st k top out None = adv G (map sym_of st) k ≡ stop
Stepped st k top out (Some t) = ((length out ≡ 32768) × (top ≤ t + 7) × (t ≤ 32768)) × (adv G (map sym_of st) k ≡ go (map sym_of (drop t out)))

-- all tokens w, with the symbols S still to come
abbrev pub Ends : List (Sym ℕ) → List ℕ → Answer → Type 0
Ends S w Accepted = run G S w ≡ accept
Ends S w (Refused i) = (i ≤ length w) × (run G S w ≡ refuse (drop i w))
Ends S w Unread = ⊥
