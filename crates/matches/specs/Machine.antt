-- The machine of the code, and what it takes. What it has to do with the rules of section 2 is in proofs/Cert.antt. Definitions only.
use Rattle.std.specs.Prelude.{ℕ, ◌+◌, ◌-◌, ◌*◌, ◌≤◌, ◌<◌, ◌≡◌, Bool, true, List, [], ◌∷◌, ◌++◌, eqb, get_or, length}
use Rattle.paper_expressions.specs.Bytes.{bytes}
use Rattle.paper_tokens.specs.Lexical.{part}
use Rattle.matches.specs.Kinds.{fine_of}

-- the state after a byte of a kind: 20 kinds for each of 35 states, each state written as its number counted from 48
unfoldable pub delta : List ℕ
delta =
    bytes "00000000000000000000"
    ++ bytes "07700080000000000000"
    ++ bytes "0009:000000000000000"
    ++ bytes "000;<=00000000000000"
    ++ bytes "000000000000>0000000"
    ++ bytes "00000000?00000000000"
    ++ bytes "000000000@0000000000"
    ++ bytes "07770000000000000000"
    ++ bytes "888888AB888888888888"
    ++ bytes "00090000000000000000"
    ++ bytes "00090000000000000000"
    ++ bytes "000;0C00000000000000"
    ++ bytes "000;0=00000000000000"
    ++ bytes "000D0000000000000000"
    ++ bytes ">>>>>>>E>>>>A>>>>>>>"
    ++ bytes "00000000?00000000000"
    ++ bytes "0000000000F000000000"
    ++ bytes "00000000000000000000"
    ++ bytes "8888888B888888888888"
    ++ bytes "00:G0000000000000000"
    ++ bytes "00:D0000000000000000"
    ++ bytes ">>>>>>>E>>>>>>>>>>>>"
    ++ bytes "0000000000H000000000"
    ++ bytes "00:G0000000000000000"
    ++ bytes "HHHHHHHHHHIHHHHHHHHH"
    ++ bytes "HHHHHHHHHHJHHHHHHHHH"
    ++ bytes "HHHHHHHHHAJHHHHHHHHH"
    ++ bytes "0000LL000LL00MNOPQRL"
    ++ bytes "00000000000000000000"
    ++ bytes "0000000000000L000000"
    ++ bytes "00000000000000L00000"
    ++ bytes "0000000000000000L000"
    ++ bytes "000000000000000L0L00"
    ++ bytes "0000000000000000L000"
    ++ bytes "0000000000000000L000"

-- the states that have a whole match behind them
unfoldable pub accepts : List ℕ
accepts = bytes "00000001010000010101100100001111110"

-- where each rule starts
unfoldable pub starts : List ℕ
starts = 27 ∷ 1 ∷ 2 ∷ 3 ∷ 4 ∷ 5 ∷ 6 ∷ []

unfoldable pub next_of : ℕ → ℕ → ℕ
next_of q k = get_or delta (q * 20 + k) 0 - 48

unfoldable pub acc_of : ℕ → Bool
acc_of q = eqb (get_or accepts q 0) 49

-- from a state over some bytes
unfoldable pub run : ℕ → List ℕ → ℕ
run q [] = q
run q (b ∷ w) = run (next_of q (fine_of b)) w

-- the n bytes at this place are there, at least one, and rule r takes them for a whole match
pub record Takes (t : List ℕ) (at r n : ℕ) : Type 0 where
  pub is_rule : r < 7
  pub some_bytes : 0 < n
  pub inside : at + n ≤ length t
  pub accepts : acc_of (run (get_or starts r 0) (part t at n)) ≡ true
