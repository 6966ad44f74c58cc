-- `comp_scalars`: the order of two texts is never unknown; the other arms compute.
use Rattle.std.proofs.Common.{sym, ap₂, ◌∙◌}
use Rattle.paper_expressions.specs.Bytes.{folded}
use Rattle.values.specs.Meaning.{bytes_of}
use Rattle.values.proofs.Texts.{told}
use Rattle.comparison.proofs.Signs.{scalars}
use Rattle.comparison.proofs.comparing.comp_scalars.Goals as goal

pub returns-in-Text-Text : goal.returns-in-Text-Text
returns-in-Text-Text c =
    let bs = c.args.bytes.now in
    let w = c.in-Text-Text in
    c.text_order.ensures ∙ sym (told _ _ _ (folded (bytes_of bs w.g)) (folded (bytes_of bs w.h))) ∙ sym (ap₂ (scalars bs) w.is-0 w.is-1)
