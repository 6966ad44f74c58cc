-- Law: whether a value is of a type is decided, and a test that tells of a view that it is sound.
use Rattle.std.specs.Prelude.{◌≡◌, refl, Bool, true, false, ◌&&◌, List, [], ◌∷◌, ℕ, suc}
use Rattle.std.proofs.Common.{sym, ap, subst, ◌∙◌}
use Rattle.std.proofs.Math.Bool as Bool
use Rattle.std.proofs.Math.Option.{Option, none, some}
use Rattle.paper_expressions.specs.Bytes.{Alike}
use Rattle.paper_expressions.specs.Values.{Scalar, unknown, truth, integer, real, text, Value, one, sequence}
use Rattle.paper_expressions.specs.Types.{Ty, Text, Integer, Real, SetofText, SetofReal, SetofInteger, SetofAnything, TruthValue, inferred, OfScalar, unknown_of_any, truth_of, integer-of, integer_counts_as_real, real_of, text_of}
use Rattle.paper_expressions.specs.Types.{element_text, element_integer, element_real, EachOf, each_none, each_more, Of, of_scalar, of_list, of_empty}
use Rattle.paper_expressions.specs.View.{View, Item, Task, At, at_first, at_later, Apart, Sound}
use Rattle.paper_expressions.proofs.Laws.Search.{no_clash, reflects_true, alikeb, alike_reflects}

-- ---- whether a value is of a type

abbrev pub scalar? : (s : Scalar) (t : Ty) → Dec (OfScalar s t)
scalar? unknown t = yes unknown_of_any
scalar? (truth b) Text = no (λ h. elim h [ ])
scalar? (truth b) Integer = no (λ h. elim h [ ])
scalar? (truth b) Real = no (λ h. elim h [ ])
scalar? (truth b) SetofText = no (λ h. elim h [ ])
scalar? (truth b) SetofReal = no (λ h. elim h [ ])
scalar? (truth b) SetofInteger = no (λ h. elim h [ ])
scalar? (truth b) SetofAnything = no (λ h. elim h [ ])
scalar? (truth b) TruthValue = yes truth_of
scalar? (integer n) Text = no (λ h. elim h [ ])
scalar? (integer n) Integer = yes integer-of
scalar? (integer n) Real = yes integer_counts_as_real
scalar? (integer n) SetofText = no (λ h. elim h [ ])
scalar? (integer n) SetofReal = no (λ h. elim h [ ])
scalar? (integer n) SetofInteger = no (λ h. elim h [ ])
scalar? (integer n) SetofAnything = no (λ h. elim h [ ])
scalar? (integer n) TruthValue = no (λ h. elim h [ ])
scalar? (real n) Text = no (λ h. elim h [ ])
scalar? (real n) Integer = no (λ h. elim h [ ])
scalar? (real n) Real = yes real_of
scalar? (real n) SetofText = no (λ h. elim h [ ])
scalar? (real n) SetofReal = no (λ h. elim h [ ])
scalar? (real n) SetofInteger = no (λ h. elim h [ ])
scalar? (real n) SetofAnything = no (λ h. elim h [ ])
scalar? (real n) TruthValue = no (λ h. elim h [ ])
scalar? (text s) Text = yes text_of
scalar? (text s) Integer = no (λ h. elim h [ ])
scalar? (text s) Real = no (λ h. elim h [ ])
scalar? (text s) SetofText = no (λ h. elim h [ ])
scalar? (text s) SetofReal = no (λ h. elim h [ ])
scalar? (text s) SetofInteger = no (λ h. elim h [ ])
scalar? (text s) SetofAnything = no (λ h. elim h [ ])
scalar? (text s) TruthValue = no (λ h. elim h [ ])

pub each_parts : {t : Ty} {s : Scalar} {l : List Scalar} → EachOf t (s ∷ l) → OfScalar s t × EachOf t l
each_parts (each_more h k) = (h, k)

abbrev pub each-of? : (t : Ty) (l : List Scalar) → Dec (EachOf t l)
each-of? t [] = yes each_none
each-of? t (s ∷ l) = go (scalar? s t) (each-of? t l)
  where
    go : Dec (OfScalar s t) → Dec (EachOf t l) → Dec (EachOf t (s ∷ l))
    go (yes h) (yes k) = yes (each_more h k)
    go (yes h) (no n) = no (λ k. n (each_parts k).1)
    go (no n) k = no (λ h. n (each_parts h).0)

pub of_one : {s : Scalar} {t : Ty} → Of (one s) t → OfScalar s t
of_one (of_scalar h) = h

pub of_texts : {l : List Scalar} → Of (sequence l) SetofText → EachOf Text l
of_texts (of_list element_text h) = h

pub of_integers : {l : List Scalar} → Of (sequence l) SetofInteger → EachOf Integer l
of_integers (of_list element_integer h) = h

pub of_reals : {l : List Scalar} → Of (sequence l) SetofReal → EachOf Real l
of_reals (of_list element_real h) = h

-- from one decision to another
abbrev pub dec_iff : {P Q : Type 0} → (P → Q) → (Q → P) → Dec P → Dec Q
dec_iff f g (yes p) = yes (f p)
dec_iff f g (no n) = no (λ q. n (g q))

pub no_text_list : {l : List Scalar} → ¬ Of (sequence l) Text
no_text_list (of_list e k) = elim e [ ]

pub no_integer_list : {l : List Scalar} → ¬ Of (sequence l) Integer
no_integer_list (of_list e k) = elim e [ ]

pub no_real_list : {l : List Scalar} → ¬ Of (sequence l) Real
no_real_list (of_list e k) = elim e [ ]

pub no_truth_list : {l : List Scalar} → ¬ Of (sequence l) TruthValue
no_truth_list (of_list e k) = elim e [ ]

pub more_of_anything : {s : Scalar} {l : List Scalar} → ¬ Of (sequence (s ∷ l)) SetofAnything
more_of_anything (of_list e k) = elim e [ ]

abbrev pub anything? : (l : List Scalar) → Dec (Of (sequence l) SetofAnything)
anything? [] = yes of_empty
anything? (s ∷ l) = no more_of_anything

abbrev pub of? : (w : Value) (t : Ty) → Dec (Of w t)
of? (one s) t = dec_iff of_scalar of_one (scalar? s t)
of? (sequence l) Text = no no_text_list
of? (sequence l) Integer = no no_integer_list
of? (sequence l) Real = no no_real_list
of? (sequence l) SetofText = dec_iff (of_list element_text) of_texts (each-of? Text l)
of? (sequence l) SetofReal = dec_iff (of_list element_real) of_reals (each-of? Real l)
of? (sequence l) SetofInteger = dec_iff (of_list element_integer) of_integers (each-of? Integer l)
of? (sequence l) SetofAnything = anything? l
of? (sequence l) TruthValue = no no_truth_list

-- ---- a test that tells of a view that it is sound

abbrev pub told : {P : Type 0} → Dec P → Bool
told (yes p) = true
told (no n) = false

pub told_so : {P : Type 0} (d : Dec P) → told d ≡ true → P
told_so (yes p) e = p
told_so (no n) e = absurd (no_clash (cc))

pub and_left : (a b : Bool) → (a && b) ≡ true → a ≡ true
and_left true b e = refl
and_left false b e = e

pub and_right : (a b : Bool) → (a && b) ≡ true → b ≡ true
and_right true b e = e
and_right false b e = absurd (no_clash (cc))

module _ {A : Type 0} where
  abbrev pub everyb : (A → Bool) → List A → Bool
  everyb p [] = true
  everyb p (x ∷ l) = p x && everyb p l

  pub every_at : (p : A → Bool) {l : List A} {i : ℕ} {x : A} → At l i x → everyb p l ≡ true → p x ≡ true
  every_at p (at_first {x} {l}) e = and_left (p x) (everyb p l) e
  every_at p (at_later {y} {l} h) e = every_at p h (and_right (p y) (everyb p l) e)

abbrev pub clashb : Option (List ℕ) → Option (List ℕ) → Bool
clashb none o = false
clashb (some a) none = false
clashb (some a) (some b) = alikeb a b

module _ {A : Type 0} (name : A → Option (List ℕ)) where
  abbrev pub namesb : List A → Bool
  namesb [] = true
  namesb (x ∷ l) = everyb (λ y. Bool.not (clashb (name x) (name y))) l && namesb l

  pub clash : {x y : A} {a b : List ℕ} → name x ≡ some a → name y ≡ some b → Alike a b → ¬ (Bool.not (clashb (name x) (name y)) ≡ true)
  clash {a} {b} h k e n = no_clash (cc (rw (h, k, reflects_true (alike_reflects a b) e) at n))

  pub names_apart : {l : List A} {i j : ℕ} {x y : A} {a b : List ℕ} → At l i x → At l j y → namesb l ≡ true → name x ≡ some a → name y ≡ some b → Alike a b → i ≡ j
  names_apart at_first at_first e p q s = refl
  names_apart (at_first {x} {l}) (at_later k) e p q s = absurd (clash p q s (every_at (λ y. Bool.not (clashb (name x) (name y))) k (and_left (everyb (λ y. Bool.not (clashb (name x) (name y))) l) (namesb l) e)))
  names_apart (at_later h) (at_first {x = y} {l}) e p q s = absurd (clash q p (sym s) (every_at (λ z. Bool.not (clashb (name y) (name z))) h (and_left (everyb (λ z. Bool.not (clashb (name y) (name z))) l) (namesb l) e)))
  names_apart (at_later {y = z} {l} h) (at_later k) e p q s = ap suc (names_apart h k (and_right (everyb (λ y. Bool.not (clashb (name z) (name y))) l) (namesb l) e) p q s)

abbrev pub item_name : Item → Option (List ℕ)
item_name x = some x.name

abbrev pub task_name : Task → Option (List ℕ)
task_name x = x.name

abbrev pub apartb : View → Bool
apartb v = namesb item_name v.items && namesb task_name v.tasks

pub apart_if : (v : View) → apartb v ≡ true → Apart v
apart_if v e =
    let f = and_left (namesb item_name v.items) (namesb task_name v.tasks) e in
    let g = and_right (namesb item_name v.items) (namesb task_name v.tasks) e in
    record { items = λ h k s. names_apart item_name h k f refl refl s; tasks = λ h k p q s. names_apart task_name h k g p q s }

abbrev pub value_fits : Ty → Option Value → Bool
value_fits t none = true
value_fits t (some w) = told (of? w t)

pub value_of : (t : Ty) {o : Option Value} {w : Value} → value_fits t o ≡ true → o ≡ some w → Of w t
value_of t {w} e k = told_so (of? w t) (rw k at e)

abbrev pub typedb : Item → Bool
typedb x = value_fits (inferred x.declared) x.value

abbrev pub soundb : View → Bool
soundb v = apartb v && everyb typedb v.items

pub sound_if : (v : View) → soundb v ≡ true → Sound v
sound_if v e =
    record {
      apart = apart_if v (and_left (apartb v) (everyb typedb v.items) e);
      typed = λ {i} {x} h k. value_of (inferred x.declared) (every_at typedb h (and_right (apartb v) (everyb typedb v.items) e)) k;
    }
