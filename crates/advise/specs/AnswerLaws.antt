-- Laws: what the code finds out of a line and its command, and a line more. By the tests, and the constructors.
use Rattle.std.specs.Prelude.{ℕ, ◌-◌, ◌≤◌, ◌<◌, ◌≡◌, Bool, true, false, not, ◌&&◌, List, [], eqb, length, get_or, take, drop}
use Rattle.std.proofs.Common.{sym, ap, subst, ◌∙◌, lt-ltb, le-ltb}
use Rattle.commands.specs.Commands.{command_of}
use Rattle.commands.specs.declared.Command.{Command}
use Rattle.commands.specs.declared.Command.TheVariants.{Give, Run, RunFor, Confirm, Trigger, Time, Later, Earlier}
use Rattle.typed_lines.specs.declared.lines.Held.{Held}
use Rattle.advise.specs.CallsTold.{later_of, earlier_of, TimeSet, TaskConfirmed, TriggerSent, ValueGiven}
use Rattle.advise.specs.RunTold.{RunTold}
use Rattle.advise.specs.Answer.{between, showsb, quitb, overb, Obeys, gives, runs, runs_for, confirms, triggers, sets, goes_on, goes_back, shows, Answers, Turned, past, too_long, answered, Talks, one_more, Talked}

module _ (line : List ℕ) (from to : ℕ) where
  pub none_past : length line < to → [] ≡ between line from to
  none_past l = rw (lt-ltb (length line) to l)

  pub none_back : to ≤ length line → to < from → [] ≡ between line from to
  none_back l m = rw (le-ltb (length line) to l, lt-ltb to from m)

  pub all_between : to ≤ length line → from ≤ to → take (to - from) (drop from line) ≡ between line from to
  all_between l m = rw (le-ltb (length line) to l, le-ltb to from m)

pub over_ended : (h : Held) → h.long ≡ false → h.ended ≡ true → eqb h.bytes 0 ≡ overb h
over_ended h e f = ap (λ (d : Bool). d && eqb h.bytes 0) (sym f) ∙ ap (λ (l : Bool). not l && (h.ended && eqb h.bytes 0)) (sym e)

module _ {z x f : List ℕ} {w : List (List Bool)} {line b s : List ℕ} {c : Command} where
  told : {d : Command} {b' s' : List ℕ} → c ≡ d → Obeys z x f w line b s d b' s' → Obeys z x f w line b s c b' s'
  told {b'} {s'} e h = subst (λ (k : Command). Obeys z x f w line b s k b' s') (sym e) h

  pub as_given : {from to at : ℕ} {name b' s' : List ℕ} → c ≡ Give from to at → name ≡ between line from to → ValueGiven line at z f name b s b' s' → Obeys z x f w line b s c b' s'
  as_given {at} {b'} {s'} e n h = told e (gives (subst (λ (v : List ℕ). ValueGiven line at z f v b s b' s') n h))

  pub as_run : {b' s' : List ℕ} → c ≡ Run → RunTold 256 x b f w s b' s' → Obeys z x f w line b s c b' s'
  as_run e h = told e (runs h)

  pub as_run_for : {n : ℕ} {b' s' : List ℕ} → c ≡ RunFor n → RunTold n x b f w s b' s' → Obeys z x f w line b s c b' s'
  as_run_for e h = told e (runs_for h)

  pub as_confirmed : {from to : ℕ} {name s' : List ℕ} → c ≡ Confirm from to → name ≡ between line from to → TaskConfirmed z b f name s s' → Obeys z x f w line b s c b s'
  as_confirmed {s'} e n h = told e (confirms (subst (λ (v : List ℕ). TaskConfirmed z b f v s s') n h))

  pub as_triggered : {from to : ℕ} {name s' : List ℕ} → c ≡ Trigger from to → name ≡ between line from to → TriggerSent name b f s s' → Obeys z x f w line b s c b s'
  as_triggered {s'} e n h = told e (triggers (subst (λ (v : List ℕ). TriggerSent v b f s s') n h))

  pub as_set : {n : ℕ} {s' : List ℕ} → c ≡ Time n → TimeSet n s s' → Obeys z x f w line b s c b s'
  as_set e h = told e (sets h)

  pub as_later : {n : ℕ} {s' : List ℕ} → c ≡ Later n → TimeSet (later_of (get_or s 2 0) n) s s' → Obeys z x f w line b s c b s'
  as_later e h = told e (goes_on h)

  pub as_earlier : {n : ℕ} {s' : List ℕ} → c ≡ Earlier n → TimeSet (earlier_of (get_or s 2 0) n) s s' → Obeys z x f w line b s c b s'
  as_earlier e h = told e (goes_back h)

  pub as_shown : {d : Command} → c ≡ d → showsb d ≡ true → Obeys z x f w line b s c b s
  as_shown e h = shows (ap showsb e ∙ h)

pub answered_as : {z x f : List ℕ} {w : List (List Bool)} {line b s b' s' : List ℕ} {c : Command} {q : Bool} → c ≡ command_of line → Obeys z x f w line b s c b' s' → q ≡ quitb c → Answers z x f w line b s b' s' (not q)
answered_as {z} {x} {f} {w} {line} {b} {s} {b'} {s'} e h k = record { obeys = subst (λ (d : Command). Obeys z x f w line b s d b' s') e h; goes_on = ap not (k ∙ ap quitb e) }

module _ {z x f : List ℕ} {w : List (List Bool)} {b s b₁ s₁ : List ℕ} (t : Talks z x f w b s b₁ s₁ true) {buffer : List ℕ} {end : ℕ} {long : Bool} where
  pub talks_on : {b' s' : List ℕ} {more : Bool} → Turned z x f w buffer end long b₁ s₁ b' s' more → more ≡ true → Talks z x f w b s b' s' true
  talks_on (past l) e = t
  talks_on (too_long l h) e = t
  talks_on {b'} {s'} (answered l h a) e = subst (λ (m : Bool). Talks z x f w b s b' s' m) e (one_more t a)

  pub talks_last : {b' s' : List ℕ} {more : Bool} → Turned z x f w buffer end long b₁ s₁ b' s' more → Talked z x f w b s b' s'
  talks_last (past l) = record { more = true; talks = t }
  talks_last (too_long l h) = record { more = true; talks = t }
  talks_last {more} (answered l h a) = record { more = more; talks = one_more t a }
