-- What reading a row answers, as numbers by document 01, and the value that is shown in its one form; and that a reply has only one such answer. By the cases of what is shown.
use Rattle.std.specs.Prelude.{ℕ, ◌+◌, ◌*◌, ◌≤◌, ◌≡◌, refl, Bool, true, false, List, length, get_or}
use Rattle.std.proofs.Common.{sym, subst, ◌∙◌}
use Rattle.std.proofs.Math.Option.{Option, none, some}
use Rattle.paper_expressions.specs.Values.{Value}
use Rattle.paper_expressions.proofs.Laws.Search.{no_clash}
use Rattle.paper_rows.specs.Table.{Kind, task, data_item, candidate, argument, parameter, source, warning_condition, Component, ◌№◌}
use Rattle.paper_calls.specs.Calls as Calls
use Calls.{no_row, there, shows_value, shows_state, shows_class, shows_type, shows_time, shows_component, Reply, done, ran, row, refuses}
use Rattle.paper_calls.specs.Numbers.{state_number, class_number, type_number, shown_number}
use Rattle.state.specs.Cell.{state_of}
use Rattle.state.specs.Items.{Bounded, Holds}
use Rattle.values.specs.declared.value.Value as code
use Rattle.values.specs.Meaning.{meaning_v}
use Rattle.items.specs.Encode.{Encodes}
use Rattle.blank.specs.Zeros.{zeros, zero_at}
use Rattle.row_shown.specs.declared.Shown.{Shown}
use Rattle.row_shown.specs.declared.Shown.TheVariants.{NoRow, There, OfValue, OfState, OfClass, OfType, OfTime, OfComponent, Refused}
use Rattle.row_shown.specs.declared.Row.{Row}
use Rattle.row_shown.specs.Shown.{class_of, type_of, kind-of, reply_of, published_row}
use Rattle.row_numbers.specs.declared.Answer.{Answer}

-- ---- the numbers of a reply

-- the rank of a kind (Table)
abbrev pub kind_number : Kind → ℕ
kind_number task = 0
kind_number data_item = 1
kind_number candidate = 2
kind_number argument = 3
kind_number parameter = 4
kind_number source = 5
kind_number warning_condition = 6

abbrev pub component_kind : Component → ℕ
component_kind (k № n) = kind_number k

abbrev pub component_number : Component → ℕ
component_number (k № n) = n

abbrev pub first_shown : Calls.Shown → ℕ
first_shown no_row = 0
first_shown there = 0
first_shown (shows_value w) = 0
first_shown (shows_state s) = state_number s
first_shown (shows_class c) = class_number c
first_shown (shows_type d) = type_number d
first_shown (shows_time n) = n
first_shown (shows_component c) = component_kind c

abbrev pub second_shown : Calls.Shown → ℕ
second_shown no_row = 0
second_shown there = 0
second_shown (shows_value w) = 0
second_shown (shows_state s) = 0
second_shown (shows_class c) = 0
second_shown (shows_type d) = 0
second_shown (shows_time n) = 0
second_shown (shows_component c) = component_number c

abbrev pub value_shown : Calls.Shown → Option Value
value_shown no_row = none
value_shown there = none
value_shown (shows_value w) = some w
value_shown (shows_state s) = none
value_shown (shows_class c) = none
value_shown (shows_type d) = none
value_shown (shows_time n) = none
value_shown (shows_component c) = none

-- of a reply that shows a row; another has none
abbrev pub shown_of : {A : Type 0} → (Calls.Shown → A) → A → Reply → A
shown_of f z done = z
shown_of f z (ran r) = z
shown_of f z (row s) = f s
shown_of f z (refuses n p k) = z

abbrev pub number_of : Reply → ℕ
number_of done = 0
number_of (ran r) = 0
number_of (row s) = 0
number_of (refuses n p k) = n

pub record Numbers (r : Reply) (a : Answer) : Type 0 where
  pub number : a.number ≡ number_of r
  pub shown : a.shown ≡ shown_of shown_number 0 r
  pub first : a.first ≡ shown_of first_shown 0 r
  pub second : a.second ≡ shown_of second_shown 0 r

-- ---- the value that is shown: u the cells and q the bytes of its one form, whose texts have their places from 0 on; zeros where none is shown

abbrev pub value_of : Reply → Option Value
value_of r = shown_of value_shown none r

abbrev pub Form : List ℕ → List ℕ → Reply → Type 0
Form u q r = Bounded (value_of r) → Holds u 0 17 q 0 0 (value_of r)

pub record Tells (b : List ℕ) (r : Row) (u q : List ℕ) (a : Answer) : Type 0 where
  pub cells_long : length u ≡ 34
  pub bytes_long : length q ≡ 768
  pub numbers : Numbers (published_row b r) a
  pub form : Form u q (published_row b r)

-- ---- the steps

abbrev pub Numbered : Shown → Answer → Type 0
Numbered s a = (b : List ℕ) (v : code.Value) → Numbers (reply_of b s v) a

abbrev pub valueb : Shown → Bool
valueb NoRow = false
valueb There = false
valueb OfValue = true
valueb (OfState n) = false
valueb (OfClass n) = false
valueb (OfType n) = false
valueb (OfTime n) = false
valueb (OfComponent k n) = false
valueb (Refused n) = false

abbrev pub Written : List ℕ → Row → List ℕ → List ℕ → Type 0
Written b r u q = 34 ≤ length u → 768 ≤ length q → Form u q (published_row b r)

-- ---- what the code finds out

-- an answer with these numbers, where they are those of the case t
pub numbered : (s t : Shown) {n c x y : ℕ} {a : Answer} → s ≡ t → (a.number ≡ n) × (a.shown ≡ c) × (a.first ≡ x) × (a.second ≡ y)
    → ((b : List ℕ) (v : code.Value) → (n ≡ number_of (reply_of b t v)) × (c ≡ shown_of shown_number 0 (reply_of b t v)) × (x ≡ shown_of first_shown 0 (reply_of b t v)) × (y ≡ shown_of second_shown 0 (reply_of b t v))) → Numbered s a
numbered s t {a = a} e m h = subst (λ (z : Shown). Numbered z a) (sym e) (λ b v. let k = h b v in record { number = m.0 ∙ k.0; shown = m.1 ∙ k.1; first = m.2 ∙ k.2; second = m.3 ∙ k.3 })

all_zero : (u q : List ℕ) → ((j : ℕ) → get_or u j 0 ≡ 0) → ((j : ℕ) → get_or q j 0 ≡ 0) → Bounded none → Holds u 0 17 q 0 0 none
all_zero u q f g h = record { limited = h; shape = f 0; there = f 17; tags = λ j i. f (1 + j); numbers = λ j i. f (18 + j); bytes = λ j k i l. g (0 + 48 * j + k) }

no_value : (b : List ℕ) (s : Shown) (v : code.Value) → valueb s ≡ false → value_of (reply_of b s v) ≡ none
no_value b NoRow v e = refl
no_value b There v e = refl
no_value b OfValue v e = absurd (no_clash (cc))
no_value b (OfState n) v e = refl
no_value b (OfClass n) v e = refl
no_value b (OfType n) v e = refl
no_value b (OfTime n) v e = refl
no_value b (OfComponent k n) v e = refl
no_value b (Refused n) v e = refl

pub written_none : (b : List ℕ) (r : Row) (c d : List ℕ) {t : Bool} {u q : List ℕ} → t ≡ valueb r.shown → t ≡ false → u ≡ zeros c → q ≡ zeros d → Written b r u q
written_none b r c d {t} {u} {q} e f g h l m =
    let z = no_value b r.shown r.value (sym e ∙ f) in
    subst (λ (o : Option Value). Bounded o → Holds u 0 17 q 0 0 o) (sym z) (all_zero u q (zero_at u c g) (zero_at q d h))

a_value : (b : List ℕ) (s : Shown) (v : code.Value) → valueb s ≡ true → value_of (reply_of b s v) ≡ some (meaning_v b v)
a_value b NoRow v e = absurd (no_clash (cc))
a_value b There v e = absurd (no_clash (cc))
a_value b OfValue v e = refl
a_value b (OfState n) v e = absurd (no_clash (cc))
a_value b (OfClass n) v e = absurd (no_clash (cc))
a_value b (OfType n) v e = absurd (no_clash (cc))
a_value b (OfTime n) v e = absurd (no_clash (cc))
a_value b (OfComponent k n) v e = absurd (no_clash (cc))
a_value b (Refused n) v e = absurd (no_clash (cc))

pub written_value : (b : List ℕ) (r : Row) {t : Bool} {u q : List ℕ} → t ≡ valueb r.shown → t ≡ true → Encodes b r.value 0 u q → Written b r u q
written_value b r {t} {u} {q} e f g l m =
    let z = a_value b r.shown r.value (sym e ∙ f) in
    subst (λ (o : Option Value). Bounded o → Holds u 0 17 q 0 0 o) (sym z) (λ h. g l m (h (meaning_v b r.value) refl))

-- ---- one answer

abbrev made : ℕ → ℕ → ℕ → ℕ → Answer
made n s x y = record { number = n; shown = s; first = x; second = y }

pub one_answer : {r : Reply} (a c : Answer) → Numbers r a → Numbers r c → a ≡ c
one_answer a c h k =
    let i = h.number ∙ sym k.number in
    let j = h.shown ∙ sym k.shown in
    let m = h.first ∙ sym k.first in
    let n = h.second ∙ sym k.second in
    let z : made a.number a.shown a.first a.second ≡ made c.number c.shown c.first c.second = cc in
    z
