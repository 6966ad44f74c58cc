-- Law: an expression has at most one type, and whether it has one is decided. By a function, typeF, tied to the rules both ways.
use Rattle.std.specs.Prelude.{◌≡◌, refl, List, [], ◌∷◌, ℕ}
use Rattle.std.proofs.Common.{sym, ap, subst, ◌∙◌}
use Rattle.std.proofs.Math.Option.{Option, none, some}
use Rattle.paper_expressions.specs.Bytes.{folded}
use Rattle.paper_expressions.specs.Types.{Ty, Ty-discrete, Text, Integer, Real, SetofText, SetofReal, SetofInteger, SetofAnything, TruthValue, Promotes, promotion_1, promotion_2, promotion_3a, promotion_3b, promotion_3c, inferred}
use Rattle.paper_expressions.specs.Clauses.{Clause}
use Rattle.paper_expressions.specs.View.{View, Item, At, ResolveData, resolve_data_2, resolve_data_3, Apart}
use Rattle.paper_expressions.specs.Operators.{Allowed, ◌⇒◌, Op, no_such, allowed}
use Rattle.paper_expressions.specs.Expressions.{Expr, Exprs, Atom, IntegerLit, FloatLit, StringLit, Paren, Listing, Apply, ε, ◌▸◌, Each, all_none, all_more, TextType, text_type, IntegerType, integer_type, IntegerOrReal, integer_or, or_real}
use Rattle.paper_expressions.specs.Expressions.{Listed, rule_8, rule_9a, rule_9b, rule_9c, Among, here, there, Unique, Reaches, reaches_none, reaches_same, reaches_by, First, first, next, Applied, rule_10a, rule_10b}
use Rattle.paper_expressions.specs.Expressions.{HasType, rule_1b, rule_1c, rule_2, rule_3, rule_4, rule_5, rule_8_9, rule_10, HaveTypes, types_none, types_more}
use Rattle.paper_expressions.proofs.Laws.Search.{no_clash, Same, at_f, at_only}
use Rattle.paper_expressions.proofs.Laws.Resolve.{resolve_data_f, data_fits, data_same}

-- ---- at most one type for a list, and for an application

first_one : {ts : List Ty} {list : List Allowed} {t u : Ty} → First ts list t → First ts list u → t ≡ u
first_one (first h) (first k) = refl
first_one (first h) (next k g) = absurd (k h)
first_one (next h f) (first k) = absurd (h k)
first_one (next h f) (next k g) = first_one f g

applied_one : {o : Op} {ts : List Ty} {t u : Ty} → Applied o ts t → Applied o ts u → t ≡ u
applied_one (rule_10a {t} h) (rule_10a {t = u} k) = k.only t h.allows
applied_one (rule_10a h) (rule_10b k g) = absurd (k _ h)
applied_one (rule_10b h f) (rule_10a k) = absurd (h _ k)
applied_one (rule_10b h f) (rule_10b k g) = first_one f g

listed_one : {ts : List Ty} {t u : Ty} → Listed ts t → Listed ts u → t ≡ u
listed_one rule_8 rule_8 = refl
listed_one (rule_9a h) (rule_9a k) = refl
listed_one (rule_9a h) (rule_9b k k') = absurd (k h)
listed_one (rule_9a h) (rule_9c k k' k'') = absurd (k h)
listed_one (rule_9b h h') (rule_9a k) = absurd (h k)
listed_one (rule_9b h h') (rule_9b k k') = refl
listed_one (rule_9b h h') (rule_9c k k' k'') = absurd (k' h')
listed_one (rule_9c h h' h'') (rule_9a k) = absurd (h k)
listed_one (rule_9c h h' h'') (rule_9b k k') = absurd (h' k')
listed_one (rule_9c h h' h'') (rule_9c k k' k'') = refl

-- the one type with a property, or that there is none
pub data Search (P : Ty → Type 0) : Type 0 where
  has : (t : Ty) → P t → Search P
  has_none : ((t : Ty) → ¬ P t) → Search P

-- ---- promotion

pub from_integer : {u : Ty} → Promotes Integer u → u ≡ Real
from_integer promotion_1 = refl

pub from_integers : {u : Ty} → Promotes SetofInteger u → u ≡ SetofReal
from_integers promotion_2 = refl

abbrev pub from_anything : (u : Ty) → Dec (Promotes SetofAnything u)
from_anything Text = no (λ h. elim h [ ])
from_anything Integer = no (λ h. elim h [ ])
from_anything Real = no (λ h. elim h [ ])
from_anything SetofText = yes promotion_3a
from_anything SetofReal = yes promotion_3c
from_anything SetofInteger = yes promotion_3b
from_anything SetofAnything = no (λ h. elim h [ ])
from_anything TruthValue = no (λ h. elim h [ ])

abbrev pub promotes? : (t u : Ty) → Dec (Promotes t u)
promotes? Text u = no (λ h. elim h [ ])
promotes? Integer u = go (Ty-discrete u Real)
  where
    go : Dec (u ≡ Real) → Dec (Promotes Integer u)
    go (yes e) = yes (subst (Promotes Integer) (sym e) promotion_1)
    go (no n) = no (λ h. n (from_integer h))
promotes? Real u = no (λ h. elim h [ ])
promotes? SetofText u = no (λ h. elim h [ ])
promotes? SetofReal u = no (λ h. elim h [ ])
promotes? SetofInteger u = go (Ty-discrete u SetofReal)
  where
    go : Dec (u ≡ SetofReal) → Dec (Promotes SetofInteger u)
    go (yes e) = yes (subst (Promotes SetofInteger) (sym e) promotion_2)
    go (no n) = no (λ h. n (from_integers h))
promotes? SetofAnything u = from_anything u
promotes? TruthValue u = no (λ h. elim h [ ])

pub rest_reaches : {t u : Ty} {ts us : List Ty} → Reaches (t ∷ ts) (u ∷ us) → Reaches ts us
rest_reaches (reaches_same r) = r
rest_reaches (reaches_by p r) = r

pub head_reaches : {t u : Ty} {ts us : List Ty} → ¬ (t ≡ u) → ¬ Promotes t u → ¬ Reaches (t ∷ ts) (u ∷ us)
head_reaches n m (reaches_same r) = n refl
head_reaches n m (reaches_by p r) = m p

abbrev pub reaches? : (ts us : List Ty) → Dec (Reaches ts us)
reaches? [] [] = yes reaches_none
reaches? [] (u ∷ us) = no (λ h. elim h [ ])
reaches? (t ∷ ts) [] = no (λ h. elim h [ ])
reaches? (t ∷ ts) (u ∷ us) = go (Ty-discrete t u) (promotes? t u) (reaches? ts us)
  where
    go : Dec (t ≡ u) → Dec (Promotes t u) → Dec (Reaches ts us) → Dec (Reaches (t ∷ ts) (u ∷ us))
    go e p (no n) = no (λ h. n (rest_reaches h))
    go (yes e) p (yes r) = yes (subst (λ (x : Ty). Reaches (t ∷ ts) (x ∷ us)) e (reaches_same r))
    go (no n) (yes p) (yes r) = yes (reaches_by p r)
    go (no n) (no m) (yes r) = no (head_reaches n m)

-- ---- rule 10

pub no_first : {ts us : List Ty} {u : Ty} {rest : List Allowed} → ¬ Reaches ts us → ((t : Ty) → ¬ First ts rest t) → (t : Ty) → ¬ First ts ((us ⇒ u) ∷ rest) t
no_first n m t (first h) = n h
no_first n m t (next h f) = m t f

abbrev pub first? : (ts : List Ty) (l : List Allowed) → Search (First ts l)
first? ts [] = has_none (λ t h. elim h [ ])
first? ts ((us ⇒ u) ∷ rest) = go (reaches? ts us) (first? ts rest)
  where
    go : Dec (Reaches ts us) → Search (First ts rest) → Search (First ts ((us ⇒ u) ∷ rest))
    go (yes r) s = has u (first r)
    go (no n) (has t f) = has t (next n f)
    go (no n) (has_none f) = has_none (no_first n f)

pub nothing_is_cons : {u : Ty} {us : List Ty} → ¬ ([] ≡ u ∷ us)
nothing_is_cons e = no_clash (cc)

pub cons_is_nothing : {t : Ty} {ts : List Ty} → ¬ (t ∷ ts ≡ [])
cons_is_nothing e = no_clash (cc)

pub cons_same : {t u : Ty} {ts us : List Ty} → t ≡ u → ts ≡ us → t ∷ ts ≡ u ∷ us
cons_same e f = cc

pub heads_same : {t u : Ty} {ts us : List Ty} → t ∷ ts ≡ u ∷ us → t ≡ u
heads_same e = cc

pub tails_same : {t u : Ty} {ts us : List Ty} → t ∷ ts ≡ u ∷ us → ts ≡ us
tails_same e = cc

abbrev pub same-list? : (ts us : List Ty) → Dec (ts ≡ us)
same-list? [] [] = yes refl
same-list? [] (u ∷ us) = no nothing_is_cons
same-list? (t ∷ ts) [] = no cons_is_nothing
same-list? (t ∷ ts) (u ∷ us) = go (Ty-discrete t u) (same-list? ts us)
  where
    go : Dec (t ≡ u) → Dec (ts ≡ us) → Dec (t ∷ ts ≡ u ∷ us)
    go (yes e) (yes f) = yes (cons_same e f)
    go (yes e) (no n) = no (λ f. n (tails_same f))
    go (no n) f = no (λ g. n (heads_same g))

pub among_cases : {ts us : List Ty} {t u : Ty} {rest : List Allowed} → ¬ (ts ≡ us) → Among (ts ⇒ t) ((us ⇒ u) ∷ rest) → Among (ts ⇒ t) rest
among_cases n here = absurd (n refl)
among_cases n (there h) = h

abbrev pub exact? : (ts : List Ty) (l : List Allowed) → Search (λ t. Among (ts ⇒ t) l)
exact? ts [] = has_none (λ t h. elim h [ ])
exact? ts ((us ⇒ u) ∷ rest) = go (same-list? ts us) (exact? ts rest)
  where
    go : Dec (ts ≡ us) → Search (λ t. Among (ts ⇒ t) rest) → Search (λ t. Among (ts ⇒ t) ((us ⇒ u) ∷ rest))
    go (yes e) s = has u (subst (λ (x : List Ty). Among (x ⇒ u) ((us ⇒ u) ∷ rest)) (sym e) here)
    go (no n) (has t h) = has t (there h)
    go (no n) (has_none f) = has_none (λ t h. f t (among_cases n h))

pub only_cases : {ts us : List Ty} {u t : Ty} {rest : List Allowed} → u ≡ t → ((x : Ty) → Among (ts ⇒ x) rest → x ≡ t) → (x : Ty) → Among (ts ⇒ x) ((us ⇒ u) ∷ rest) → x ≡ t
only_cases e f x here = e
only_cases e f x (there h) = f x h

abbrev pub only? : (ts : List Ty) (t : Ty) (l : List Allowed) → Dec ((u : Ty) → Among (ts ⇒ u) l → u ≡ t)
only? ts t [] = yes (λ u h. elim h [ ])
only? ts t ((us ⇒ u) ∷ rest) = go (same-list? ts us) (Ty-discrete u t) (only? ts t rest)
  where
    go : Dec (ts ≡ us) → Dec (u ≡ t) → Dec ((x : Ty) → Among (ts ⇒ x) rest → x ≡ t) → Dec ((x : Ty) → Among (ts ⇒ x) ((us ⇒ u) ∷ rest) → x ≡ t)
    go d e (no n) = no (λ f. n (λ x h. f x (there h)))
    go (yes d) (yes e) (yes f) = yes (only_cases e f)
    go (yes d) (no e) (yes f) = no (λ g. e (g u (subst (λ (x : List Ty). Among (x ⇒ u) ((us ⇒ u) ∷ rest)) (sym d) here)))
    go (no d) e (yes f) = yes (λ x h. f x (among_cases d h))

abbrev pub unique? : (ts : List Ty) (l : List Allowed) → Search (Unique ts l)
unique? ts l = go (exact? ts l)
  where
    check : (t : Ty) → Among (ts ⇒ t) l → Dec ((u : Ty) → Among (ts ⇒ u) l → u ≡ t) → Search (Unique ts l)
    check t h (yes f) = has t (record { allows = h; only = f })
    check t h (no n) = has_none (λ u k. n (λ x m. k.only x m ∙ sym (k.only t h)))

    go : Search (λ t. Among (ts ⇒ t) l) → Search (Unique ts l)
    go (has t h) = check t h (only? ts t l)
    go (has_none f) = has_none (λ t h. f t h.allows)

pub no_applied : {o : Op} {ts : List Ty} → ((t : Ty) → ¬ Unique ts (allowed o) t) → ((t : Ty) → ¬ First ts (allowed o) t) → (t : Ty) → ¬ Applied o ts t
no_applied n m t (rule_10a h) = n t h
no_applied n m t (rule_10b h f) = m t f

abbrev pub applied? : (o : Op) (ts : List Ty) → Search (Applied o ts)
applied? o ts = go (unique? ts (allowed o)) (first? ts (allowed o))
  where
    go : Search (Unique ts (allowed o)) → Search (First ts (allowed o)) → Search (Applied o ts)
    go (has t h) s = has t (rule_10a h)
    go (has_none n) (has t f) = has t (rule_10b n f)
    go (has_none n) (has_none m) = has_none (no_applied n m)

-- ---- rules 8 and 9

abbrev pub each? : (P : Ty → Type 0) → ((t : Ty) → Dec (P t)) → (ts : List Ty) → Dec (Each P ts)
each? P d [] = yes all_none
each? P d (t ∷ ts) = go (d t) (each? P d ts)
  where
    parts : Each P (t ∷ ts) → P t × Each P ts
    parts (all_more p ps) = (p, ps)

    go : Dec (P t) → Dec (Each P ts) → Dec (Each P (t ∷ ts))
    go (yes p) (yes ps) = yes (all_more p ps)
    go (yes p) (no n) = no (λ h. n (parts h).1)
    go (no n) d = no (λ h. n (parts h).0)

abbrev pub text? : (t : Ty) → Dec (TextType t)
text? Text = yes text_type
text? Integer = no (λ h. elim h [ ])
text? Real = no (λ h. elim h [ ])
text? SetofText = no (λ h. elim h [ ])
text? SetofReal = no (λ h. elim h [ ])
text? SetofInteger = no (λ h. elim h [ ])
text? SetofAnything = no (λ h. elim h [ ])
text? TruthValue = no (λ h. elim h [ ])

abbrev pub integer? : (t : Ty) → Dec (IntegerType t)
integer? Text = no (λ h. elim h [ ])
integer? Integer = yes integer_type
integer? Real = no (λ h. elim h [ ])
integer? SetofText = no (λ h. elim h [ ])
integer? SetofReal = no (λ h. elim h [ ])
integer? SetofInteger = no (λ h. elim h [ ])
integer? SetofAnything = no (λ h. elim h [ ])
integer? TruthValue = no (λ h. elim h [ ])

abbrev pub number? : (t : Ty) → Dec (IntegerOrReal t)
number? Text = no (λ h. elim h [ ])
number? Integer = yes integer_or
number? Real = yes or_real
number? SetofText = no (λ h. elim h [ ])
number? SetofReal = no (λ h. elim h [ ])
number? SetofInteger = no (λ h. elim h [ ])
number? SetofAnything = no (λ h. elim h [ ])
number? TruthValue = no (λ h. elim h [ ])

pub no_list : {t : Ty} {ts : List Ty} → ¬ Each TextType (t ∷ ts) → ¬ Each IntegerType (t ∷ ts) → ¬ Each IntegerOrReal (t ∷ ts) → (u : Ty) → ¬ Listed (t ∷ ts) u
no_list n m l u (rule_9a h) = n h
no_list n m l u (rule_9b h h') = m h'
no_list n m l u (rule_9c h h' h'') = l h''

abbrev pub listed? : (ts : List Ty) → Search (Listed ts)
listed? [] = has SetofAnything rule_8
listed? (t ∷ ts) = go (each? TextType text? (t ∷ ts)) (each? IntegerType integer? (t ∷ ts)) (each? IntegerOrReal number? (t ∷ ts))
  where
    go : Dec (Each TextType (t ∷ ts)) → Dec (Each IntegerType (t ∷ ts)) → Dec (Each IntegerOrReal (t ∷ ts)) → Search (Listed (t ∷ ts))
    go (yes h) d e = has SetofText (rule_9a h)
    go (no n) (yes h) e = has SetofInteger (rule_9b n h)
    go (no n) (no m) (yes h) = has SetofReal (rule_9c n m h)
    go (no n) (no m) (no l) = has_none (no_list n m l)

-- ---- expressions

-- the type found
abbrev pub found_f : {P : Ty → Type 0} → Search P → Option Ty
found_f (has t h) = some t
found_f (has_none n) = none

found_has : {P : Ty → Type 0} {t : Ty} (s : Search P) → found_f s ≡ some t → P t
found_has {P} {t} (has u h) e = let f : u ≡ t = cc in subst P f h
found_has (has_none n) e = absurd (no_clash (cc))

found_only : {P : Ty → Type 0} {t : Ty} → ((u : Ty) → P u → u ≡ t) → P t → (s : Search P) → found_f s ≡ some t
found_only one p (has u h) = ap some (one u h)
found_only one p (has_none n) = absurd (n _ p)

abbrev pub item_type : Option Item → Option Ty
item_type none = none
item_type (some x) = some (inferred x.declared)

abbrev pub listing_type : Option (List Ty) → Option Ty
listing_type none = none
listing_type (some ts) = found_f (listed? ts)

abbrev pub apply_type : Op → Option (List Ty) → Option Ty
apply_type o none = none
apply_type o (some ts) = found_f (applied? o ts)

abbrev pub more_types : Option Ty → Option (List Ty) → Option (List Ty)
more_types none us = none
more_types (some t) none = none
more_types (some t) (some ts) = some (t ∷ ts)

module _ (v : View) (T : ℕ) where
  abbrev pub atom_type : Option ℕ → Option Ty
  atom_type none = some Text
  atom_type (some d) = item_type (at_f v.items d)

  abbrev mutual
    pub type_f : Expr → Option Ty
    type_f (Atom a) = atom_type (resolve_data_f v T a)
    type_f (IntegerLit n) = some Integer
    type_f (FloatLit n) = some Real
    type_f (StringLit s) = some Text
    type_f (Paren e) = type_f e
    type_f (Listing es) = listing_type (types_f es)
    type_f (Apply o es) = apply_type o (types_f es)

    pub types_f : Exprs → Option (List Ty)
    types_f ε = some []
    types_f (e ▸ es) = more_types (type_f e) (types_f es)

  -- ---- a type that the rules give is the function's

  mutual
    pub type_only : Apart v → {e : Expr} {t : Ty} → HasType v T e t → type_f e ≡ some t
    type_only apart (rule_1b {a} h k e) = rw ((data_same v T a apart (data_fits v T a) (resolve_data_2 h k)).value, at_only h) (ap some e)
    type_only apart (rule_1c {a} m) = rw (data_same v T a apart (data_fits v T a) (resolve_data_3 m)).value
    type_only apart rule_2 = refl
    type_only apart rule_3 = refl
    type_only apart rule_4 = refl
    type_only apart (rule_5 h) = type_only apart h
    type_only apart (rule_8_9 {ts} hs h) = rw (types_only apart hs) (found_only (λ u k. listed_one k h) h (listed? ts))
    type_only apart (rule_10 {o} {ts} hs h) = rw (types_only apart hs) (found_only (λ u k. applied_one k h) h (applied? o ts))

    pub types_only : Apart v → {es : Exprs} {ts : List Ty} → HaveTypes v T es ts → types_f es ≡ some ts
    types_only apart types_none = refl
    types_only apart (types_more h hs) = rw (type_only apart h, types_only apart hs)

  -- at most one type
  pub one_type : Apart v → {e : Expr} {t u : Ty} → HasType v T e t → HasType v T e u → t ≡ u
  one_type apart h k = cc (type_only apart h, type_only apart k)

  -- ---- and the function's type is one that the rules give

  atom_has : {a : List ℕ} {t : Ty} {c : Clause} (o : Option ℕ) → ResolveData v T a c o → atom_type o ≡ some t → HasType v T (Atom a) t
  atom_has {t} o (resolve_data_2 {x} h k) e = let f : inferred x.declared ≡ t = cc (at_only h) in rule_1b h k f
  atom_has {a} {t} o (resolve_data_3 m) e = let f : Text ≡ t = cc in subst (HasType v T (Atom a)) f (rule_1c m)

  listing_has : {es : Exprs} {t : Ty} (o : Option (List Ty)) → ((ts : List Ty) → o ≡ some ts → HaveTypes v T es ts) → listing_type o ≡ some t → HasType v T (Listing es) t
  listing_has none f e = absurd (no_clash (cc))
  listing_has (some ts) f e = rule_8_9 (f ts refl) (found_has (listed? ts) e)

  apply_has : {op : Op} {es : Exprs} {t : Ty} (o : Option (List Ty)) → ((ts : List Ty) → o ≡ some ts → HaveTypes v T es ts) → apply_type op o ≡ some t → HasType v T (Apply op es) t
  apply_has none f e = absurd (no_clash (cc))
  apply_has {op} (some ts) f e = rule_10 (f ts refl) (found_has (applied? op ts) e)

  more_have : {e : Expr} {es : Exprs} {ts : List Ty} (o : Option Ty) (p : Option (List Ty)) → ((t : Ty) → o ≡ some t → HasType v T e t)
      → ((us : List Ty) → p ≡ some us → HaveTypes v T es us) → more_types o p ≡ some ts → HaveTypes v T (e ▸ es) ts
  more_have none p f g k = absurd (no_clash (cc))
  more_have (some t) none f g k = absurd (no_clash (cc))
  more_have {e} {es} {ts} (some t) (some us) f g k = let q : t ∷ us ≡ ts = cc in subst (HaveTypes v T (e ▸ es)) q (types_more (f t refl) (g us refl))

  mutual
    pub type_has : (e : Expr) {t : Ty} → type_f e ≡ some t → HasType v T e t
    type_has (Atom a) k = atom_has (resolve_data_f v T a) (data_fits v T a) k
    type_has (IntegerLit n) {t} k = let f : Integer ≡ t = cc in subst (HasType v T (IntegerLit n)) f rule_2
    type_has (FloatLit n) {t} k = let f : Real ≡ t = cc in subst (HasType v T (FloatLit n)) f rule_3
    type_has (StringLit s) {t} k = let f : Text ≡ t = cc in subst (HasType v T (StringLit s)) f rule_4
    type_has (Paren e) k = rule_5 (type_has e k)
    type_has (Listing es) k = listing_has (types_f es) (λ ts q. types_have es q) k
    type_has (Apply o es) k = apply_has (types_f es) (λ ts q. types_have es q) k

    pub types_have : (es : Exprs) {ts : List Ty} → types_f es ≡ some ts → HaveTypes v T es ts
    types_have ε {ts} k = let f : [] ≡ ts = cc in subst (HaveTypes v T ε) f types_none
    types_have (e ▸ es) k = more_have (type_f e) (types_f es) (λ t q. type_has e q) (λ us q. types_have es q) k

  -- whether an expression has a type is decided
  pub typing : Apart v → (e : Expr) → Search (HasType v T e)
  typing apart e = go (type_f e) refl
    where
      go : (o : Option Ty) → type_f e ≡ o → Search (HasType v T e)
      go (some t) k = has t (type_has e k)
      go none k = has_none (λ t h. no_clash (cc (type_only apart h)))

-- ---- the type stays while items keep their names and declared types, whatever their values

pub record SameItems (v w : View) : Type 0 where
  pub to : {i : ℕ} {x : Item} → At v.items i x → (y : Item) × At w.items i y × (y.name ≡ x.name) × (y.declared ≡ x.declared)
  pub back : {i : ℕ} {y : Item} → At w.items i y → (x : Item) × At v.items i x × (x.name ≡ y.name)

module _ (v w : View) (T : ℕ) (same : SameItems v w) where
  mutual
    pub type_kept : {e : Expr} {t : Ty} → HasType v T e t → HasType w T e t
    type_kept (rule_1b h k e) = let y = same.to h in rule_1b y.1 (ap folded y.2 ∙ k) (ap inferred y.3 ∙ e)
    type_kept (rule_1c m) = rule_1c (λ d y h k. let x = same.back h in m d x.0 x.1 (ap folded x.2 ∙ k))
    type_kept rule_2 = rule_2
    type_kept rule_3 = rule_3
    type_kept rule_4 = rule_4
    type_kept (rule_5 h) = rule_5 (type_kept h)
    type_kept (rule_8_9 hs h) = rule_8_9 (types_kept hs) h
    type_kept (rule_10 hs h) = rule_10 (types_kept hs) h

    pub types_kept : {es : Exprs} {ts : List Ty} → HaveTypes v T es ts → HaveTypes w T es ts
    types_kept types_none = types_none
    types_kept (types_more h hs) = types_more (type_kept h) (types_kept hs)

-- ---- document 01: a functor name that section 11 doesn't have has no type

no_such_reached : {ts : List Ty} {t : Ty} {n : List ℕ} → ¬ Applied (no_such n) ts t
no_such_reached (rule_10a u) = elim u.allows [ ]
no_such_reached (rule_10b n f) = elim f [ ]

pub no_such_untyped : {v : View} {T : ℕ} {n : List ℕ} {es : Exprs} {t : Ty} → ¬ HasType v T (Apply (no_such n) es) t
no_such_untyped (rule_10 hs h) = no_such_reached h
