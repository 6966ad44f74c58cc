-- The types of atoms and constants, by kind and load. Definitions only; the law that they are the rules' is in proofs/LeavesLaws.antt.
use Rattle.std.specs.Prelude.{◌≡◌, cond, List, ℕ, ◌<◌, eqb, get_or}
use Rattle.paper_expressions.specs.Bytes.{bytes}
use Rattle.paper_expressions.specs.View.{View}
use Rattle.paper_expressions.specs.Expressions.{Expr, Atom, HasType}
use Rattle.parts.specs.Codes.{kind}
use Rattle.parts.specs.Texts.{text_at_fn}
use Rattle.parts.specs.Part.{Load}
use Rattle.parts.specs.Items.{Items}
use Rattle.resolution.specs.Letters.{Outcome}

-- 4.3, by the number of the declared type
abbrev pub inferred_of : ℕ → ℕ
inferred_of d = get_or (bytes " TITRRRRtir") d 0

-- r is the type of the atom, in the task T, whose name has the handle h
abbrev pub AtomTyped : List ℕ → List ℕ → List ℕ → ℕ → ℕ → ℕ → Type 0
AtomTyped b names types T h r = (v : View) → Items b names types v → Outcome (HasType v T (Atom (text_at_fn b h))) r

-- r is the type of the atom or constant with the kind k and the load x
abbrev pub LeafTyped : List ℕ → List ℕ → List ℕ → ℕ → ℕ → ℕ → ℕ → Type 0
LeafTyped b names types T k x r = (v : View) (e : Expr) → Items b names types v → k ≡ kind e → k < 5 → Load b e x → Outcome (HasType v T e) r

-- the letter of each kind, given the atom's
abbrev pub leaf_of : ℕ → ℕ → ℕ
leaf_of k a = cond (eqb k 1) a (cond (eqb k 2) 73 (cond (eqb k 3) 82 (cond (eqb k 4) 84 0)))
