-- Laws: what was read is given, or nothing is. By what reading answered.
use Rattle.std.specs.Prelude.{ℕ, ◌≡◌, List, ℤ, pos, replicate}
use Rattle.std.proofs.Common.{subst}
use Rattle.paper_expressions.proofs.Laws.Search.{no_clash}
use Rattle.paper_expressions.specs.Values as paper
use Rattle.adding.specs.Add.{Adds}
use Rattle.typed_value.specs.Elements.{Found}
use Rattle.typed_value.specs.Cells.{numbers_of_fn, bytes_of}
use Rattle.typed_value.specs.Readings.{ReadAs, read_value, read_wrong}
use Rattle.typed_value.specs.declared.steps.Slip.{Slip}
use Rattle.typed_value.specs.declared.Typed.{Typed}
use Rattle.typed_value.specs.declared.Typed.TheVariants.{Value, Wrong}
use Rattle.advise.specs.CallsTold.{CellsGiven, GivenBy, unread, added}

module _ (item : ℕ) (b f s : List ℕ) {o : Found paper.Value} {q : Typed} {t : List ℕ} {n : List ℤ} {v : List ℕ} (h : ReadAs (replicate 21 0) (replicate 21 (pos 0)) (replicate 1280 0) t n v q o) where
  pub given_as : (b' s' : List ℕ) → q ≡ Value → CellsGiven item t n v b f s b' s' → GivenBy item b f s o b' s'
  given_as b' s' e a = by h e
    where
      by : {o : Found paper.Value} {q : Typed} → ReadAs (replicate 21 0) (replicate 21 (pos 0)) (replicate 1280 0) t n v q o → q ≡ Value → GivenBy item b f s o b' s'
      by read_wrong e = absurd (no_clash (cc))
      by (read_value {v = w} x y z) e =
          added (
            a.0,
            subst (λ (k : List ℕ). Adds item k (numbers_of_fn w) (bytes_of w) b f s b' s' a.0) x
                (subst (λ (k : List ℤ). Adds item t k (bytes_of w) b f s b' s' a.0) y
                (subst (λ (k : List ℕ). Adds item t n k b f s b' s' a.0) z a.1)),
          )

  pub unread_as : {k : Slip} {p : ℕ} → q ≡ Wrong k p → GivenBy item b f s o b s
  unread_as e = by h e
    where
      by : {o : Found paper.Value} {q : Typed} {k : Slip} {p : ℕ} → ReadAs (replicate 21 0) (replicate 21 (pos 0)) (replicate 1280 0) t n v q o → q ≡ Wrong k p → GivenBy item b f s o b s
      by (read_value x y z) e = absurd (no_clash (cc))
      by read_wrong e = unread
