-- `into_blank`: the columns are filled, and blank again where the text is refused.
use Rattle.tokens.proofs.Endings.{out_early, out_late, accepted}
use Rattle.tokens.proofs.Columns.{blank_again}
use Rattle.tokens.proofs.into_blank.Goals as goal

pub returns-in-Err : goal.returns-in-Err
returns-in-Err c =
    let z = c.requires in
    let out = out_early c.in-Err.ensures in
    (c.if-not-room.ensures, record { refused = out.refused; stage = out.stage; kinds_are = z.0; places_are = z.1; lengths_are = z.2 })

pub returns-in-Err-late : goal.returns-in-Err-late
returns-in-Err-late c =
    let f = c.fill-stop.ensures in
    let e = c.in_default.ensures in
    let out = out_late f e.0 c.in-Err-late.ensures in
    let a = c.clear.ensures in (
      c.if-not-room.ensures,
      record {
        refused = out.refused;
        stage = out.stage;
        kinds_are = blank_again _ _ a.kinds_after f.upto.kinds_length;
        places_are = blank_again _ _ a.places_after f.upto.places_length;
        lengths_are = blank_again _ _ a.lengths_after f.upto.lengths_length;
      },
    )

pub returns : goal.returns
returns c =
    let v = c.in_default-late.ensures in
    (c.if-not-room.ensures, accepted c.fill-stop.ensures c.in_default.ensures.0 v.0 v.1 v.2)
