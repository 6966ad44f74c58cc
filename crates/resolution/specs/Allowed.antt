-- The allowed types of each operator as letters. Definitions only; their law is in proofs/AllowedLaws.antt.
use Rattle.std.specs.Prelude.{cond, [], ℕ, List, eqb}
use Rattle.paper_expressions.specs.Bytes.{bytes}

-- the functions and prefix operators, by the tens of their numbers
abbrev pub function_of : ℕ → List ℕ
function_of f =
    cond (eqb f 8) (bytes "I  IR  R")
    (cond (eqb f 9) (bytes "T  BR  Bt  Br  BB  B")
    (cond (eqb f 10) (bytes "B  B")
    (cond (eqb f 11) (bytes "r  It  I")
    (cond (eqb f 12) (bytes "i  Ir  R")
    (cond (eqb f 13) (bytes "i  Ir  Rt  T")
    (cond (eqb f 14) (bytes "Ii IIr RIt T")
    (cond (eqb f 15) (bytes "T  B")
    [])))))))

-- by the tens of an operator's number
abbrev pub list_of : ℕ → List ℕ
list_of f =
    cond (eqb f 1) (bytes "II IRR R")
    (cond (eqb f 2) (bytes "RR R")
    (cond (eqb f 3) (bytes "RR BTT Brr Btt B")
    (cond (eqb f 4) (bytes "BB B")
    (cond (eqb f 5) (bytes "tT BrR B")
    (cond (eqb f 6) (bytes "Tt BRr B")
    (cond (eqb f 7) (bytes "BBBBBIIIBRRRBTTTBiiiBrrrBttt")
    (function_of f)))))))
