-- Tokens that are an expression by themselves, and what the part of such a token says. With the laws that tie them to what is read.
use Rattle.std.specs.Prelude.{ℕ, ◌+◌, ◌*◌, ◌≤◌, ◌<◌, ◌≡◌, true, false, List, leb, nat_abs, length}
use Rattle.std.proofs.Common.{sym, ap, subst, ◌∙◌, ⊎_elim, arith, leb-true, leb-false}
use Rattle.paper_expressions.proofs.Laws.Tests.{two}
use Rattle.paper_expressions.specs.Limits as Values
use Values.{integer_limit, real_limit}
use Rattle.paper_expressions.proofs.Laws.Functors.{functor_f}
use Rattle.paper_expressions.specs.Expressions.{Expr, Atom, IntegerLit, FloatLit, StringLit}
use Rattle.paper_tokens.specs.Lexical.{Token, atom, integer, float, double_quoted_string, part, inner}
use Rattle.paper_tokens.specs.Terminals.{Terminal, name}
use Rattle.paper_tokens.specs.Terminals
use Rattle.paper_tokens.specs.Literals.{whole, thousandths}
use Rattle.paper_guideline.specs.Limits.{guideline_limit}
use Rattle.paper_guideline.specs.Refusals.{TokenBreach, long_name, long_text, large_integer, large_real}
use Rattle.paper_tokens.proofs.Laws.TerminalLaws.{terminal_is, one_terminal, atom-kind}
use Rattle.parts.specs.Codes.{code, kind}
use Rattle.parts.specs.Texts.{cells, text_at_fn, text_of, literal}
use Rattle.parts.specs.Part.{Load, OpLoad}
use Rattle.leaves.specs.declared.Word.{Word}
use Rattle.leaves.specs.Cells.{part_cells, length_cells}
use Rattle.leaves.specs.Numbers as N
use Rattle.leaves.specs.Names.{functor_code, unknown_load, known_load, code_from}

-- the token t alone is the expression
pub data Leaf (t : Token) : Expr → Type 0 where
  an_atom : t.rule ≡ atom → Leaf t (Atom (name t))
  an_integer : t.rule ≡ integer → Leaf t (IntegerLit (whole t.bytes))
  a_float : t.rule ≡ float → Leaf t (FloatLit (thousandths t.bytes))
  a_string : t.rule ≡ double_quoted_string → Leaf t (StringLit (name t))

-- the kind and the load of the part that the expression is
pub record Says (text : List ℕ) (e : Expr) (r : Word) : Type 0 where
  pub kind : r.kind ≡ kind e
  pub load : Load text e r.load

-- a token's bytes in a text, within the limits
pub record Read (text : List ℕ) (k at n : ℕ) (t : Token) : Type 0 where
  pub terminal : Terminal t k
  pub bytes : t.bytes ≡ part text at n
  pub clean : ¬ TokenBreach t
  pub short : length text ≤ guideline_limit

abbrev pub SaysLeaf : List ℕ → ℕ → ℕ → ℕ → Word → Type 0
SaysLeaf text k at n r = (t : Token) (e : Expr) → Read text k at n t → Leaf t e → Says text e r

-- an atom as a functor name
pub record SaysFunctor (text w : List ℕ) (r : Word) : Type 0 where
  pub kind : r.kind ≡ code (functor_f w)
  pub load : OpLoad text (functor_f w) r.load

abbrev pub SaysHead : List ℕ → ℕ → ℕ → Word → Type 0
SaysHead text at n r = (t : Token) (k : ℕ) → Read text k at n t → t.rule ≡ atom → SaysFunctor text (name t) r

-- ---- the terminals of a leaf

pub atom_range : {t : Token} {k : ℕ} → t.rule ≡ atom → Terminal t k → (95 ≤ k) × (k ≤ 97)
atom_range {t} r h =
    subst (λ (j : ℕ). (95 ≤ j) × (j ≤ 97)) (terminal_is h)
    (atom-kind t r (λ (j : ℕ). (95 ≤ j) × (j ≤ 97)) (omega arith, omega arith) (omega arith, omega arith) (omega arith, omega arith))

-- ---- limits

within : (n m : ℕ) → ¬ (m < n) → n ≤ m
within n m h = ⊎_elim (λ (e : leb n m ≡ true). leb-true n m e) (λ (e : leb n m ≡ false). absurd (h (leb-false n m e))) (two (leb n m))

module _ {text : List ℕ} {k at n : ℕ} {t : Token} (g : Read text k at n t) (room : at + n ≤ length text) where
  pub bytes_are : t.bytes ≡ cells text at n
  bytes_are = g.bytes ∙ part_cells text at n room

  -- the text between the quotes, by its handle
  text_is : (i m x : ℕ) → cells text i m ≡ inner (cells text at n) → i + m ≤ length text → length (name t) ≤ Values.text_limit
      → (i ≤ 16384 → m < 64 → x ≡ i * 64 + m) → text_at_fn text x ≡ name t
  text_is i m x e r l h =
      let c : name t ≡ cells text i m = ap inner bytes_are ∙ sym e in
      let d = ap length c ∙ length_cells text i m in
      let s = g.short in
      ap (text_at_fn text) (h (omega arith) (omega arith)) ∙ text_of text i m (omega arith) ∙ sym c

  pub atom_text : (i m x : ℕ) → cells text i m ≡ inner (cells text at n) → i + m ≤ length text → t.rule ≡ atom
      → (i ≤ 16384 → m < 64 → x ≡ i * 64 + m) → text_at_fn text x ≡ name t
  atom_text i m x e r q h = text_is i m x e r (within (length (name t)) Values.text_limit (λ b. g.clean (long_name q b))) h

  string_text : (i m x : ℕ) → cells text i m ≡ inner (cells text at n) → i + m ≤ length text → t.rule ≡ double_quoted_string
      → (i ≤ 16384 → m < 64 → x ≡ i * 64 + m) → text_at_fn text x ≡ name t
  string_text i m x e r q h = text_is i m x e r (within (length (name t)) Values.text_limit (λ b. g.clean (long_text q b))) h

  pub says_atom : {e : Expr} (w : Word) (i m : ℕ) → 95 ≤ k → k ≤ 97 → cells text i m ≡ inner (cells text at n) → i + m ≤ length text
      → (i ≤ 16384 → m < 64 → w.load ≡ i * 64 + m) → w.kind ≡ 1 → Leaf t e → Says text e w
  says_atom w i m l u c r h q (an_atom x) = record { kind = q; load = atom_text i m w.load c r x h }
  says_atom w i m l u c r h q (an_integer x) = absurd (omega (arith, one_terminal g.terminal (Terminals.an_integer x)))
  says_atom w i m l u c r h q (a_float x) = absurd (omega (arith, one_terminal g.terminal (Terminals.a_float x)))
  says_atom w i m l u c r h q (a_string x) = absurd (omega (arith, one_terminal g.terminal (Terminals.a_string x)))

  pub says_string : {e : Expr} (w : Word) (i m : ℕ) → k ≡ 100 → cells text i m ≡ inner (cells text at n) → i + m ≤ length text
      → (i ≤ 16384 → m < 64 → w.load ≡ i * 64 + m) → w.kind ≡ 4 → Leaf t e → Says text e w
  says_string w i m l c r h q (an_atom x) = absurd (omega (arith, atom_range x g.terminal))
  says_string w i m l c r h q (an_integer x) = absurd (omega (arith, one_terminal g.terminal (Terminals.an_integer x)))
  says_string w i m l c r h q (a_float x) = absurd (omega (arith, one_terminal g.terminal (Terminals.a_float x)))
  says_string w i m l c r h q (a_string x) = record { kind = q; load = string_text i m w.load c r x h }

  pub says_integer : {e : Expr} (w : Word) → k ≡ 98 → w.load ≡ N.signed (N.digits 0) (cells text at n) → w.kind ≡ 2 → Leaf t e → Says text e w
  says_integer w l h q (an_atom x) = absurd (omega (arith, atom_range x g.terminal))
  says_integer w l h q (an_integer x) = record {
    kind = q;
    load = ap literal (h ∙ ap (N.signed (N.digits 0)) (sym bytes_are))
        ∙ N.integer_load t.bytes (within (nat_abs (whole t.bytes)) integer_limit (λ b. g.clean (large_integer x b)));
  }
  says_integer w l h q (a_float x) = absurd (omega (arith, one_terminal g.terminal (Terminals.a_float x)))
  says_integer w l h q (a_string x) = absurd (omega (arith, one_terminal g.terminal (Terminals.a_string x)))

  pub says_float : {e : Expr} (w : Word) → k ≡ 99 → w.load ≡ N.signed (N.fixed 0) (cells text at n) → w.kind ≡ 3 → Leaf t e → Says text e w
  says_float w l h q (an_atom x) = absurd (omega (arith, atom_range x g.terminal))
  says_float w l h q (an_integer x) = absurd (omega (arith, one_terminal g.terminal (Terminals.an_integer x)))
  says_float w l h q (a_float x) = record {
    kind = q;
    load = ap literal (h ∙ ap (N.signed (N.fixed 0)) (sym bytes_are))
        ∙ N.float_load t.bytes (within (nat_abs (thousandths t.bytes)) real_limit (λ b. g.clean (large_real x b)));
  }
  says_float w l h q (a_string x) = absurd (omega (arith, one_terminal g.terminal (Terminals.a_string x)))

  -- no other terminal is a leaf's
  pub no_leaf : {e : Expr} → ¬ (k ≡ 98) → ¬ (k ≡ 99) → ¬ (k ≡ 100) → ((95 ≤ k) × (k ≤ 97) → ⊥) → Leaf t e → ⊥
  no_leaf a b c d (an_atom x) = d (atom_range x g.terminal)
  no_leaf a b c d (an_integer x) = a (one_terminal g.terminal (Terminals.an_integer x))
  no_leaf a b c d (a_float x) = b (one_terminal g.terminal (Terminals.a_float x))
  no_leaf a b c d (a_string x) = c (one_terminal g.terminal (Terminals.a_string x))

  -- ---- a functor name

  pub head_known : (w : Word) (i m : ℕ) → cells text i m ≡ inner (cells text at n) → w.kind ≡ code_from (cells text i m) 0 13
      → ¬ (w.kind ≡ 250) → w.load ≡ 0 → SaysFunctor text (name t) w
  head_known w i m c h x z =
      let e : w.kind ≡ code (functor_f (name t)) = h ∙ functor_code (cells text i m) ∙ ap (λ (v : List ℕ). code (functor_f v)) (c ∙ ap inner (sym bytes_are)) in
      record { kind = e; load = known_load text (functor_f (name t)) w.load (λ q. x (e ∙ q)) z }

  pub head_unknown : (w : Word) (i m : ℕ) → cells text i m ≡ inner (cells text at n) → i + m ≤ length text → w.kind ≡ code_from (cells text i m) 0 13
      → w.kind ≡ 250 → (i ≤ 16384 → m < 64 → w.load ≡ i * 64 + m) → t.rule ≡ atom → SaysFunctor text (name t) w
  head_unknown w i m c r h x z a =
      let e : w.kind ≡ code (functor_f (name t)) = h ∙ functor_code (cells text i m) ∙ ap (λ (v : List ℕ). code (functor_f v)) (c ∙ ap inner (sym bytes_are)) in
      record { kind = e; load = unknown_load text (name t) w.load (sym e ∙ x) (atom_text i m w.load c r a z) }
