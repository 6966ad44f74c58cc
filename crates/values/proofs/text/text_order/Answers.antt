-- `text_order`: each return tells the order that the bytes at i, or the ends of the texts, settle.
use Rattle.std.proofs.Common.{◌<◌, ◌≡◌, ap, sym, ◌∙◌, arith, Less, Equal, Greater}
use Rattle.std.proofs.lemmas.Cmp.{ranked}
use Rattle.paper_expressions.specs.Bytes.{fold}
use Rattle.values.specs.Meaning.{bytes_of}
use Rattle.values.proofs.Texts.{longer, shorter, level, greater, less, next, text_long, text_byte}
use Rattle.values.proofs.text.text_order.Goals as goal

pub returns-then-h-i : goal.returns-then-h-i
returns-then-h-i c =
    let a = c.args in
    let i = c.loop-i.i in
    let m = text_long a.bytes.now a.g.at a.g.len in
    let n = text_long a.bytes.now a.h.at a.h.len in
    longer (bytes_of a.bytes.now a.g) (bytes_of a.bytes.now a.h) i c.loop-i.invariant (omega arith) (omega arith)

pub returns-in-Greater : goal.returns-in-Greater
returns-in-Greater c =
    let a = c.args in
    let i = c.loop-i.i in
    let m = text_long a.bytes.now a.g.at a.g.len in
    let n = text_long a.bytes.now a.h.at a.h.len in
    let x = c.letter.ensures ∙ ap fold (sym (text_byte a.bytes.now a.g.at a.g.len i (omega arith))) in
    let y = c.letter-in-loop-i.ensures ∙ ap fold (sym (text_byte a.bytes.now a.h.at a.h.len i (omega arith))) in
    let z : c.letter-in-loop-i.result < c.letter.result = ranked c.letter.result c.letter-in-loop-i.result Greater c.in-Greater.ensures in
    greater (bytes_of a.bytes.now a.g) (bytes_of a.bytes.now a.h) i c.loop-i.invariant (omega arith) (omega arith) (omega arith)

pub returns-in-Less : goal.returns-in-Less
returns-in-Less c =
    let a = c.args in
    let i = c.loop-i.i in
    let m = text_long a.bytes.now a.g.at a.g.len in
    let n = text_long a.bytes.now a.h.at a.h.len in
    let x = c.letter.ensures ∙ ap fold (sym (text_byte a.bytes.now a.g.at a.g.len i (omega arith))) in
    let y = c.letter-in-loop-i.ensures ∙ ap fold (sym (text_byte a.bytes.now a.h.at a.h.len i (omega arith))) in
    let z : c.letter.result < c.letter-in-loop-i.result = ranked c.letter.result c.letter-in-loop-i.result Less c.in-Less.ensures in
    less (bytes_of a.bytes.now a.g) (bytes_of a.bytes.now a.h) i c.loop-i.invariant (omega arith) (omega arith) (omega arith)

pub loop-i-preserved : goal.loop-i-preserved
loop-i-preserved c =
    let a = c.args in
    let i = c.loop-i.i in
    let m = text_long a.bytes.now a.g.at a.g.len in
    let n = text_long a.bytes.now a.h.at a.h.len in
    let x = c.letter.ensures ∙ ap fold (sym (text_byte a.bytes.now a.g.at a.g.len i (omega arith))) in
    let y = c.letter-in-loop-i.ensures ∙ ap fold (sym (text_byte a.bytes.now a.h.at a.h.len i (omega arith))) in
    let z : c.letter.result ≡ c.letter-in-loop-i.result = ranked c.letter.result c.letter-in-loop-i.result Equal c.in-Equal.ensures in
    next (bytes_of a.bytes.now a.g) (bytes_of a.bytes.now a.h) i c.loop-i.invariant (omega arith) (omega arith) (omega arith) (omega arith)

pub returns-then-g-h : goal.returns-then-g-h
returns-then-g-h c =
    let a = c.args in
    let m = text_long a.bytes.now a.g.at a.g.len in
    let n = text_long a.bytes.now a.h.at a.h.len in
    shorter (bytes_of a.bytes.now a.g) (bytes_of a.bytes.now a.h) c.loop-i.i c.loop-i.invariant (omega arith) (omega arith)

pub returns-else-g-h : goal.returns-else-g-h
returns-else-g-h c =
    let a = c.args in
    let m = text_long a.bytes.now a.g.at a.g.len in
    let n = text_long a.bytes.now a.h.at a.h.len in
    level (bytes_of a.bytes.now a.g) (bytes_of a.bytes.now a.h) c.loop-i.i c.loop-i.invariant (omega arith) (omega arith)
