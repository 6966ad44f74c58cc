-- What the small program writes for an answer, worked: one statement over the rows, computed.
use Prim.Native.String.{String}
use Rattle.std.specs.Prelude.{ℕ, ◌≡◌, refl, false, List, [], ◌∷◌, map, pos, negsuc}
use Rattle.paper_expressions.specs.Bytes.{bytes}
use Rattle.paper_expressions.specs.Values.{unknown, truth, integer, real, text, one, sequence}
use Rattle.paper_expressions.specs.Types.{Text, Integer, Real, SetofInteger, SetofAnything, TruthValue}
use Rattle.paper_guideline.specs.Line.{LineAnswer, refused, gives, answer_written}

pub answers_written : map answer_written
    (gives Integer (one (integer (pos 3)))
    ∷ gives Real (one (real (pos 10000)))
    ∷ refused 3
    ∷ refused 10
    ∷ gives Real (one (real (negsuc 332)))
    ∷ gives Real (one (real (pos 0)))
    ∷ gives Real (one (integer (pos 2)))
    ∷ gives Integer (one unknown)
    ∷ gives Integer (one (integer (negsuc 1999999)))
    ∷ gives Text (one (text []))
    ∷ gives TruthValue (one (truth false))
    ∷ gives SetofInteger (sequence (integer (pos 1) ∷ unknown ∷ []))
    ∷ gives SetofAnything (sequence [])
    ∷ [])
    ≡ map bytes
    ("integer 3"
    ∷ "real 10.000"
    ∷ "refused 3"
    ∷ "refused 10"
    ∷ "real -0.333"
    ∷ "real 0.000"
    ∷ "real 2"
    ∷ "integer unknown"
    ∷ "integer -2000000"
    ∷ "text "
    ∷ "truth_value false"
    ∷ "setof_integer [1, unknown]"
    ∷ "setof_anything []"
    ∷ [])
answers_written = refl
