-- Law: a functor name means exactly one operator. By the first name of the table that is the same.
use Rattle.std.specs.Prelude.{◌≡◌, refl, Bool, true, false, cond, List, [], ◌∷◌, ℕ}
use Rattle.std.proofs.Common.{sym, ap, subst, ◌∙◌}
use Rattle.paper_expressions.specs.View.{At, at_first, at_later}
use Rattle.paper_expressions.specs.Operators.{Op, no_such, Name, ◌means◌, functors, Functor, of_section_11, of_no_section}
use Rattle.paper_expressions.proofs.Laws.Search.{Reflects, of_yes, of_no, sameb, same_reflects}

abbrev pub meant_f : List ℕ → List Name → Op
meant_f n [] = no_such n
meant_f n ((m means o) ∷ l) = cond (sameb m n) o (meant_f n l)

abbrev pub functor_f : List ℕ → Op
functor_f n = meant_f n functors

pub data Meant (n : List ℕ) (l : List Name) : Op → Type 0 where
  listed : {i : ℕ} {o : Op} → At l i (n means o) → Meant n l o
  unlisted : ((i : ℕ) (o : Op) → ¬ At l i (n means o)) → Meant n l (no_such n)

not_listed : {n m : List ℕ} {o : Op} {l : List Name} → ¬ (m ≡ n) → ((i : ℕ) (p : Op) → ¬ At l i (n means p)) → (i : ℕ) (p : Op) → ¬ At ((m means o) ∷ l) i (n means p)
not_listed e f i p at_first = e refl
not_listed e f i p (at_later {i = k} h) = f k p h

meant : (n : List ℕ) (l : List Name) → Meant n l (meant_f n l)
meant n [] = unlisted (λ i o h. elim h [ ])
meant n ((m means o) ∷ l) = go (sameb m n) (meant_f n l) (same_reflects m n) (meant n l)
  where
    go : (b : Bool) (p : Op) → Reflects (m ≡ n) b → Meant n l p → Meant n ((m means o) ∷ l) (cond b o p)
    go b p (of_yes e) h = listed (subst (λ (x : List ℕ). At ((m means o) ∷ l) 0 (x means o)) e at_first)
    go b p (of_no e) (listed h) = listed (at_later h)
    go b p (of_no e) (unlisted f) = unlisted (not_listed e f)

as_functor : {n : List ℕ} {o : Op} → Meant n functors o → Functor n o
as_functor (listed h) = of_section_11 h
as_functor (unlisted f) = of_no_section f

pub functor_fits : (n : List ℕ) → Functor n (functor_f n)
functor_fits n = as_functor (meant n functors)

-- each name of the table is found
in_table : {i : ℕ} {n : List ℕ} {o : Op} → At functors i (n means o) → functor_f n ≡ o
in_table at_first = refl
in_table (at_later at_first) = refl
in_table (at_later (at_later at_first)) = refl
in_table (at_later (at_later (at_later at_first))) = refl
in_table (at_later (at_later (at_later (at_later at_first)))) = refl
in_table (at_later (at_later (at_later (at_later (at_later at_first))))) = refl
in_table (at_later (at_later (at_later (at_later (at_later (at_later at_first)))))) = refl
in_table (at_later (at_later (at_later (at_later (at_later (at_later (at_later at_first))))))) = refl
in_table (at_later (at_later (at_later (at_later (at_later (at_later (at_later (at_later at_first)))))))) = refl
in_table (at_later (at_later (at_later (at_later (at_later (at_later (at_later (at_later (at_later at_first))))))))) = refl
in_table (at_later (at_later (at_later (at_later (at_later (at_later (at_later (at_later (at_later (at_later at_first)))))))))) = refl
in_table (at_later (at_later (at_later (at_later (at_later (at_later (at_later (at_later (at_later (at_later (at_later at_first))))))))))) = refl
in_table (at_later (at_later (at_later (at_later (at_later (at_later (at_later (at_later (at_later (at_later (at_later (at_later at_first)))))))))))) = refl
in_table {n = n} {o = o} (at_later (at_later (at_later (at_later (at_later (at_later (at_later (at_later (at_later (at_later (at_later (at_later (at_later {i = i} x91))))))))))))) = elim x91 [ ]

no_other : {n : List ℕ} {o : Op} → Functor n o → ((i : ℕ) (p : Op) → ¬ At functors i (n means p)) → o ≡ no_such n
no_other (of_section_11 h) f = absurd (f _ _ h)
no_other (of_no_section g) f = refl

pub functor_only : {n : List ℕ} {o : Op} → Functor n o → functor_f n ≡ o
functor_only (of_section_11 h) = in_table h
functor_only {n} (of_no_section f) = no_other (functor_fits n) f

pub one_functor : {n : List ℕ} {o p : Op} → Functor n o → Functor n p → o ≡ p
one_functor h k = sym (functor_only h) ∙ functor_only k
