-- What the code answers of what was read, and what it leaves in the cells and bytes. Definitions only.
use Rattle.std.specs.Prelude.{ℕ, ◌+◌, ◌≡◌, true, false, cond, List, eqb, ltb, ℤ, pos, get_or, set, length}
use Rattle.paper_expressions.specs.Values as paper
use Rattle.paper_expressions.specs.Values.{Scalar}
use Rattle.typed_value.specs.Lexemes.{blankb, past, after_of, fine}
use Rattle.typed_value.specs.Elements.{Found, found, wrong}
use Rattle.typed_value.specs.Values.{next_of}
use Rattle.typed_value.specs.Cells.{tag_of, number_of, text_put, tags_put, numbers_put, texts_put, tags_with, numbers_with, texts_with}
use Rattle.typed_value.specs.declared.elements.Element.{Element}
use Rattle.typed_value.specs.declared.steps.Step.{Step}
use Rattle.typed_value.specs.declared.steps.Slip.{Slip}
use Rattle.typed_value.specs.declared.steps.Slip.TheVariants.{Fine, Separator, Behind}
use Rattle.typed_value.specs.declared.lists.Turn.{Turn}
use Rattle.typed_value.specs.declared.Typed.{Typed}
use Rattle.typed_value.specs.declared.Typed.TheVariants.{Value, Wrong}

-- the i-th element
abbrev pub element_of : ℕ → Found Scalar → Element
element_of i (found x p) = record { tag = tag_of x; number = number_of i x; place = p; slip = Fine }
element_of i (wrong k p) = record { tag = 0; number = pos 0; place = p; slip = k }

-- and its bytes
abbrev pub text_after : ℕ → Found Scalar → List ℕ → List ℕ
text_after i (found x p) b = text_put i x b
text_after i (wrong k p) b = b

-- the place behind it, and what is wrong there
abbrev pub step_of : Found Scalar → Step
step_of (found x p) = record { place = p; slip = Fine }
step_of (wrong k p) = record { place = p; slip = k }

-- it is put to its cells and bytes
pub record ElementPut (i : ℕ) (o : Found Scalar) (t : List ℕ) (n : List ℤ) (b t' : List ℕ) (n' : List ℤ) (b' : List ℕ) : Type 0 where
  pub tags : t' ≡ set t (1 + i) (element_of i o).tag
  pub numbers : n' ≡ set n (1 + i) (element_of i o).number
  pub bytes : b' ≡ text_after i o b

-- what stands behind an element, and whether another follows
abbrev pub behind_of : List ℕ → ℕ → Turn
behind_of s p =
    cond (eqb (get_or s (past blankb s p) 0) 93) (record { place = after_of s (past blankb s p); slip = Fine; more = false })
    (cond (eqb (get_or s (past blankb s p) 0) 44) (record { place = next_of s (past blankb s p); slip = Fine; more = true })
    (record { place = past blankb s p; slip = Separator; more = false }))

abbrev pub turn_of : List ℕ → Found Scalar → Turn
turn_of s (found x p) = behind_of s p
turn_of s (wrong k p) = record { place = p; slip = k; more = false }

-- the elements of a list from the i-th on: where it is one, they stand in the cells and bytes
pub data ListRead (i : ℕ) (t : List ℕ) (n : List ℤ) (b t' : List ℕ) (n' : List ℤ) (b' : List ℕ) (r : Step) : Found (List Scalar) → Type 0 where
  list_found : {l : List Scalar} {p : ℕ} → r ≡ record { place = p; slip = Fine } → t' ≡ set (tags_put i l t) 0 (i + length l + 1) → n' ≡ numbers_put i l n → b' ≡ texts_put i l b
      → ListRead i t n b t' n' b' r (found l p)
  list_wrong : {k : Slip} {p : ℕ} → r ≡ record { place = p; slip = k } → ListRead i t n b t' n' b' r (wrong k p)

-- a value
pub data ValueRead (t : List ℕ) (n : List ℤ) (b t' : List ℕ) (n' : List ℤ) (b' : List ℕ) (r : Step) : Found paper.Value → Type 0 where
  value_found : {v : paper.Value} {p : ℕ} → r ≡ record { place = p; slip = Fine } → t' ≡ tags_with v t → n' ≡ numbers_with v n → b' ≡ texts_with v b → ValueRead t n b t' n' b' r (found v p)
  value_wrong : {k : Slip} {p : ℕ} → r ≡ record { place = p; slip = k } → ValueRead t n b t' n' b' r (wrong k p)

-- nothing but blanks may stand behind it
abbrev pub ended_of : List ℕ → Slip → ℕ → Typed
ended_of s k p = cond (fine k) (cond (ltb (past blankb s p) (length s)) (Wrong Behind (past blankb s p)) Value) (Wrong k p)

-- what is answered in the end: of a value every cell and byte is told, of what is wrong the slip and its place
pub data ReadAs (t : List ℕ) (n : List ℤ) (b t' : List ℕ) (n' : List ℤ) (b' : List ℕ) : Typed → Found paper.Value → Type 0 where
  read_value : {v : paper.Value} {p : ℕ} → t' ≡ tags_with v t → n' ≡ numbers_with v n → b' ≡ texts_with v b → ReadAs t n b t' n' b' Value (found v p)
  read_wrong : {k : Slip} {p : ℕ} → ReadAs t n b t' n' b' (Wrong k p) (wrong k p)
