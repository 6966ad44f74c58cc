-- A call that is known by another name, and the line that it stands in.
use Rattle.std.specs.Prelude.{◌≡◌, List, ℕ, ℤ, pos, length, replicate}
use Rattle.std.proofs.Common.{sym, ap, subst}
use Rattle.script.specs.declared.calls.Call.{Call}
use Rattle.script.specs.declared.calls.Line.{Line}
use Rattle.script.specs.Places.{line_of}
use Rattle.script.specs.Values.{line_numbers, line_bytes, LineRead}
use Rattle.transcript_values.specs.Literals.{room_at}
use Rattle.replay.specs.Rows.{Buffer, buffer, with_room}
use Rattle.replay.specs.Calls.{Tables, CallAnswered, LineAnswered}

pub as_call : {s tags : List ℕ} {numbers : List ℤ} {given : List ℕ} {c d : Call} {t t' : Tables} {x y : Buffer} → d ≡ c → CallAnswered s tags numbers given c t t' x y → CallAnswered s tags numbers given d t t' x y
as_call {s} {tags} {numbers} {given} {c} {d} {t} {t'} {x} {y} e h = subst (λ (z : Call). CallAnswered s tags numbers given z t t' x y) (sym e) h

pub line_answered : {s : List ℕ} {at : ℕ} {tags : List ℕ} {numbers : List ℤ} {given : List ℕ} {l : Line} {t t' : Tables} {out out' : List ℕ} {o from p : ℕ}
    → LineRead s at (replicate 21 0) (replicate 21 (pos 0)) (replicate 1280 0) tags numbers given l → from ≡ room_at (length out) o
    → CallAnswered s tags numbers given l.call t t' (buffer out from) (buffer out' p) → LineAnswered s at t t' out out' o (record { next = l.next; o = p })
line_answered {s} {at} {tags} {numbers} {given} {l} {t} {t'} {out} {out'} {o} {from} {p} r e h = record {
  behind = ap (λ (z : Line). z.next) r.line_is;
  answered =
      subst (λ (z : List ℕ). CallAnswered s z (line_numbers s at (replicate 21 (pos 0))) (line_bytes s at (replicate 1280 0)) (line_of s at).call t t' (with_room (buffer out o)) (buffer out' p)) r.tags_are
      (subst (λ (z : List ℤ). CallAnswered s tags z (line_bytes s at (replicate 1280 0)) (line_of s at).call t t' (with_room (buffer out o)) (buffer out' p)) r.numbers_are
      (subst (λ (z : List ℕ). CallAnswered s tags numbers z (line_of s at).call t t' (with_room (buffer out o)) (buffer out' p)) r.bytes_are
      (subst (λ (z : Line). CallAnswered s tags numbers given z.call t t' (with_room (buffer out o)) (buffer out' p)) r.line_is
      (subst (λ (z : ℕ). CallAnswered s tags numbers given l.call t t' (buffer out z) (buffer out' p)) e h))));
}
