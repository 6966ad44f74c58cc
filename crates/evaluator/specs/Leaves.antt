-- The values of atoms and constants, by kind and load. Law: they are those of 9.1, 1 to 3. By the clause that fits.
use Rattle.std.specs.Prelude.{◌≡◌, refl, false, List, ℕ, ◌≤◌, ◌<◌, ℤ, nat_abs, length}
use Rattle.std.proofs.Common.{sym, ap, subst, ◌∙◌, arith, le-leb}
use Rattle.std.proofs.Math.Option.{Option, none, some}
use Rattle.paper_expressions.specs.Bytes.{Alike}
use Rattle.paper_expressions.specs.Limits.{integer_limit, real_limit}
use Rattle.paper_expressions.specs.Values as paper
use Rattle.paper_expressions.specs.Values.{one}
use Rattle.paper_expressions.specs.Clauses.{Clause}
use Rattle.paper_expressions.specs.View.{View, Item, At, resolve_data_2, resolve_data_3, Apart}
use Rattle.paper_expressions.specs.Expressions.{Expr, Atom, IntegerLit, FloatLit, StringLit, Paren, Listing, Apply}
use Rattle.paper_expressions.specs.Evaluation.{EvaluateData, data_2, data_3, Evaluates, atom_data, atom_text, number_integer, number_float, string}
use Rattle.paper_expressions.proofs.Laws.Search.{at_one}
use Rattle.paper_expressions.proofs.Laws.WithinLimits.{Modest, integer_modest, float_modest}
use Rattle.parts.specs.Codes.{kind}
use Rattle.parts.specs.CodeRange.{operator_code}
use Rattle.parts.specs.Texts.{text_at_fn}
use Rattle.parts.specs.Part.{Load}
use Rattle.parts.specs.Items.{Found}
use Rattle.parts.specs.ItemLaws.{resolved, unresolved}
use Rattle.values.specs.declared.scalar.Scalar.TheVariants.{Text}
use Rattle.values.specs.declared.value.Value.{Value}
use Rattle.values.specs.Meaning.{handle_of, meaning, meaning_v, integer_of, real_of_fn}
use Rattle.operators.specs.Comes.{single_is}
use Rattle.evaluator.specs.Columns.{scalar_at, shown, ShowsItems, ItemOf}

-- r is the value of the atom whose name has the handle h
abbrev pub AtomOf : List ℕ → List ℕ → List ℕ → List ℕ → ℕ → Value → Type 0
AtomOf b names tags nums h r =
    (τ : View) (T : ℕ) (cs : List Clause) (w : paper.Value) → Apart τ → ShowsItems b names tags nums τ
    → Evaluates τ T (Atom (text_at_fn b h)) cs w → meaning_v b r ≡ w

-- r is the value of the atom or constant with the kind k and the load x
abbrev pub LeafOf : List ℕ → List ℕ → List ℕ → List ℕ → ℕ → ℕ → Value → Type 0
LeafOf b names tags nums k x r =
    (τ : View) (T : ℕ) (e : Expr) (cs : List Clause) (w : paper.Value) → Apart τ → ShowsItems b names tags nums τ → k ≡ kind e → k < 5 → Load b e x → Modest e
    → Evaluates τ T e cs w → meaning_v b r ≡ w

-- ---- atoms

-- the name is that of the i-th item
pub atom_item : (b names tags nums : List ℕ) (h i : ℕ) (r : Value) → Found b names h i → i < length names → ItemOf tags nums i r → AtomOf b names tags nums h r
atom_item b names tags nums h i r f l y τ T cs w apart s ev =
    let x = resolved s.items f l in
    y b ∙ s.values x.1 ∙ go x.0 x.1 x.2 ev
  where
    none_held : (x : Item) (o : Option paper.Value) → ((v : paper.Value) → ¬ (o ≡ some v)) → shown o ≡ one paper.unknown
    none_held x none n = refl
    none_held x (some v) n = absurd (n v refl)

    held : (x : Item) → At τ.items i x → {c : Clause} {u : paper.Value} → EvaluateData τ T i c u → shown x.value ≡ u
    held x a (data_2 k e) = ap (λ (z : Item). shown z.value) (at_one a k) ∙ ap shown e
    held x a (data_3 n) = none_held x x.value (λ v. n x v a)

    go : (x : Item) → At τ.items i x → Alike x.name (text_at_fn b h) → {ds : List Clause} {u : paper.Value} → Evaluates τ T (Atom (text_at_fn b h)) ds u → shown x.value ≡ u
    go x a q {u} (atom_data {c} (resolve_data_2 k p) g) = held x a (subst (λ (d : ℕ). EvaluateData τ T d c u) (apart.items k a (p ∙ sym q)) g)
    go x a q (atom_text (resolve_data_3 m)) = absurd (m i x a q)

-- no item has the name
pub atom_itself : (b names tags nums : List ℕ) (h i : ℕ) (r : Value) → Found b names h i → length names ≤ i → (r.many ≡ false) × (r.one ≡ Text (handle_of h)) → AtomOf b names tags nums h r
atom_itself b names tags nums h i r f l y τ T cs w apart s (atom_data (resolve_data_2 {d} {x} a k) g) = absurd (unresolved s.items f l d x a k)
atom_itself b names tags nums h i r f l y τ T cs w apart s (atom_text q) = single_is b r y

-- ---- by the kind

integer_within : (b : List ℕ) (z : ℤ) → nat_abs z ≤ integer_limit → meaning b (integer_of z) ≡ paper.integer z
integer_within b z h = rw (le-leb (nat_abs z) integer_limit h)

real_within : (b : List ℕ) (z : ℤ) → nat_abs z ≤ real_limit → meaning b (real_of_fn z) ≡ paper.real z
real_within b z h = rw (le-leb (nat_abs z) real_limit h)

pub leaf_atom : (b names tags nums : List ℕ) (k x : ℕ) (r : Value) → k ≡ 1 → AtomOf b names tags nums x r → LeafOf b names tags nums k x r
leaf_atom b names tags nums k x r y f τ T (Atom a) cs w apart s e l h m ev = f τ T cs w apart s (subst (λ (n : List ℕ). Evaluates τ T (Atom n) cs w) (sym h) ev)
leaf_atom b names tags nums k x r y f τ T (IntegerLit n) cs w apart s e l h m ev = absurd (omega arith)
leaf_atom b names tags nums k x r y f τ T (FloatLit n) cs w apart s e l h m ev = absurd (omega arith)
leaf_atom b names tags nums k x r y f τ T (StringLit n) cs w apart s e l h m ev = absurd (omega arith)
leaf_atom b names tags nums k x r y f τ T (Paren n) cs w apart s e l h m ev = absurd h
leaf_atom b names tags nums k x r y f τ T (Listing es) cs w apart s e l h m ev = absurd (omega arith)
leaf_atom b names tags nums k x r y f τ T (Apply o es) cs w apart s e l h m ev = let c = operator_code o in absurd (omega arith)

pub leaf_constant : (b names tags nums : List ℕ) (k x : ℕ) (r : Value) → ¬ (k ≡ 1) → (r.many ≡ false) × (r.one ≡ scalar_at k x) → LeafOf b names tags nums k x r
leaf_constant b names tags nums k x r y v τ T e cs w apart s q l h m ev = single_is b r v ∙ ap one (ap (λ (j : ℕ). meaning b (scalar_at j x)) q) ∙ go e q h m ev
  where
    go : (f : Expr) → k ≡ kind f → Load b f x → Modest f → {ds : List Clause} {u : paper.Value} → Evaluates τ T f ds u → one (meaning b (scalar_at (kind f) x)) ≡ u
    go (Atom a) j h m ev = absurd (y j)
    go (IntegerLit n) j h (integer_modest m) number_integer = ap one (ap (λ (z : ℤ). meaning b (integer_of z)) h ∙ integer_within b n m)
    go (FloatLit n) j h (float_modest m) number_float = ap one (ap (λ (z : ℤ). meaning b (real_of_fn z)) h ∙ real_within b n m)
    go (StringLit a) j h m string = ap (λ (z : List ℕ). one (paper.text z)) h
    go (Paren n) j h m ev = absurd h
    go (Listing es) j h m ev = absurd (omega arith)
    go (Apply o es) j h m ev = let c = operator_code o in absurd (omega arith)
