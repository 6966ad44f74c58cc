-- The type of a list or an application, from what is gathered of its operands; and the law that it is the rules'. By the two kinds.
use Rattle.std.specs.Prelude.{◌≡◌, refl, false, cond, List, Option, Some, None, ℕ, suc, ◌/◌, ◌≤◌, ◌<◌, eqb, ltb, length}
use Rattle.std.proofs.Common.{sym, ap, subst, arith, ne_eqb, lt-ltb, le-ltb}
use Rattle.std.proofs.Math.Decide.{dec_lt}
use Rattle.paper_expressions.specs.Types.{Ty}
use Rattle.paper_expressions.specs.View.{View, Apart}
use Rattle.paper_expressions.specs.Operators.{Op}
use Rattle.paper_expressions.specs.Expressions.{Expr, Exprs, Atom, IntegerLit, FloatLit, StringLit, Paren, Listing, Apply, Listed, Applied, HasType, rule_8_9, rule_10, HaveTypes, types_none, types_more}
use Rattle.paper_expressions.proofs.Laws.Typing.{types_only}
use Rattle.parts.specs.Codes.{code, kind}
use Rattle.parts.specs.CodeRange.{operator_code}
use Rattle.parts.specs.Part.{number_of, operands}
use Rattle.typer.specs.declared.lists.Summary.{Summary}
use Rattle.resolution.specs.Letters.{Outcome, none, outcome_iff}
use Rattle.resolution.specs.Resolution.{resolve_of}
use Rattle.resolution.specs.Allowed.{list_of}
use Rattle.resolution.proofs.AllowedLaws.{applied, unapplied}
use Rattle.typer.specs.Lists.{list_typed}
use Rattle.typer.specs.Summary.{summary, Summed, all_typed, not_all, summary_list, three, summary_slots}

abbrev pub compound_of : ℕ → ℕ → Option Summary → ℕ
compound_of k n None = 0
compound_of k n (Some s) =
    cond (eqb k 5) s.list
    (cond (ltb 3 n) 0
    (resolve_of (three s) (list_of (k / 10))))

module _ (v : View) (T : ℕ) where
  types_length : {es : Exprs} {ts : List Ty} → HaveTypes v T es ts → number_of es ≡ length ts
  types_length types_none = refl
  types_length (types_more h hs) = ap suc (types_length hs)

  module _ (apart : Apart v) where
    same_types : {es : Exprs} {ts us : List Ty} → HaveTypes v T es ts → HaveTypes v T es us → us ≡ ts
    same_types h k = cc (types_only v T apart h, types_only v T apart k)

    listing_back : {es : Exprs} {ts : List Ty} → HaveTypes v T es ts → (t : Ty) → HasType v T (Listing es) t → Listed ts t
    listing_back hs t (rule_8_9 {ts = us} ks h) = subst (λ (x : List Ty). Listed x t) (same_types hs ks) h

    apply_back : {o : Op} {es : Exprs} {ts : List Ty} → HaveTypes v T es ts → (t : Ty) → HasType v T (Apply o es) t → Applied o ts t
    apply_back {o} hs t (rule_10 {ts = us} ks h) = subst (λ (x : List Ty). Applied o x t) (same_types hs ks) h

    listing_typed : (es : Exprs) (n : ℕ) (s : Option Summary) → Summed v T es s → Outcome (HasType v T (Listing es)) (compound_of 5 n s)
    listing_typed es n s (all_typed {ts} hs e) =
        rw (e, summary_list ts) (outcome_iff (λ t h. rule_8_9 hs h) (listing_back hs) (list_typed ts))
    listing_typed es n s (not_all f e) = rw e (none (λ t h. elim h [ rule_8_9 ks k ↦ f _ ks ]))

    apply_typed : (o : Op) (es : Exprs) (s : Option Summary) → Summed v T es s → Outcome (HasType v T (Apply o es)) (compound_of (code o) (number_of es) s)
    apply_typed o es s (not_all f e) = rw e (none (λ t h. elim h [ rule_10 ks k ↦ f _ ks ]))
    apply_typed o es s (all_typed {ts} hs e) =
        let five : eqb (code o) 5 ≡ false = ne_eqb (code o) 5 (λ x. let r = operator_code o in absurd (omega arith)) in
        rw (e, five) (go (dec_lt 3 (number_of es)))
      where
        go : Dec (3 < number_of es) → Outcome (HasType v T (Apply o es)) (cond (ltb 3 (number_of es)) 0 (resolve_of (three (summary ts)) (list_of (code o / 10))))
        go (yes m) = rw (lt-ltb 3 (number_of es) m) (none (λ t h. unapplied o ts (let l = types_length hs in omega arith) t (apply_back hs t h)))
        go (no m) =
            let few : number_of es ≤ 3 = omega arith in
            rw (le-ltb 3 (number_of es) few, summary_slots ts)
            (outcome_iff (λ t h. rule_10 hs h) (apply_back hs) (applied o ts (let l = types_length hs in omega arith)))

    pub compound_typed : (e : Expr) (k n : ℕ) (s : Option Summary) → k ≡ kind e → ¬ (k < 5) → n ≡ number_of (operands e) → Summed v T (operands e) s
        → Outcome (HasType v T e) (compound_of k n s)
    compound_typed (Atom a) k n s x l y h = absurd (omega arith)
    compound_typed (IntegerLit z) k n s x l y h = absurd (omega arith)
    compound_typed (FloatLit z) k n s x l y h = absurd (omega arith)
    compound_typed (StringLit z) k n s x l y h = absurd (omega arith)
    compound_typed (Paren e) k n s x l y h = absurd (omega arith)
    compound_typed (Listing es) k n s x l y h = subst (λ (m : ℕ). Outcome (HasType v T (Listing es)) (compound_of m n s)) (sym x) (listing_typed es n s h)
    compound_typed (Apply o es) k n s x l y h =
        subst (λ (m : ℕ). Outcome (HasType v T (Apply o es)) (compound_of m n s)) (sym x)
        (subst (λ (m : ℕ). Outcome (HasType v T (Apply o es)) (compound_of (code o) m s)) (sym y) (apply_typed o es s h))
