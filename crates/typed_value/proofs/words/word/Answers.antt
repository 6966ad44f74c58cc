-- `word`: word by word.
use mir.Syntax.{w64}
use mir.Facts.{to_z-of_z}
use mathlib.Core.Path.{refl, sym, ap, ◌∙◌}
use mathlib.Core.Bool.{true, false}
use Rattle.paper_expressions.specs.Values as paper
use Rattle.typed_value.specs.Elements.{word_from}
use Rattle.typed_value.specs.ReadingLaws.{as_found, is_answer, no_answer}
use Rattle.typed_value.specs.declared.elements.Element.{Element}
use borrow.Author.Rules.{sfits_of}
use borrow.Author.Rules.{rules}
use Rattle.typed_value.proofs.words.word.Goals as goal

pub returns-then-is_word : goal.returns-then-is_word
unfolding word_from
returns-then-is_word c =
    let e = ap (λ (x : Element). x.place) c.found.ensures in (
      search rules,
      rw (← c.word_end-to.ensures.1, sym c.is_word.ensures ∙ c.if-is_word.true) (as_found paper.unknown c.args.i c.found.ensures refl refl),
      rw (← c.word_end-to.ensures.1, sym c.is_word.ensures ∙ c.if-is_word.true) refl,
    )

pub returns-then-is_word-2 : goal.returns-then-is_word-2
unfolding word_from
returns-then-is_word-2 c =
    let e = ap (λ (x : Element). x.place) c.found-then-is_word-2.ensures in (
      search rules,
      rw (← c.word_end-to.ensures.1, sym c.is_word.ensures ∙ c.if-is_word.false, sym c.is_word-2.ensures ∙ c.if-is_word-2.true) (as_found (paper.truth true) c.args.i c.found-then-is_word-2.ensures refl refl),
      rw (← c.word_end-to.ensures.1, sym c.is_word.ensures ∙ c.if-is_word.false, sym c.is_word-2.ensures ∙ c.if-is_word-2.true) refl,
    )

pub returns-then-is_word-3 : goal.returns-then-is_word-3
unfolding word_from
returns-then-is_word-3 c =
    let e = ap (λ (x : Element). x.place) c.found-then-is_word-3.ensures in (
      search rules,
      rw (← c.word_end-to.ensures.1, sym c.is_word.ensures ∙ c.if-is_word.false, sym c.is_word-2.ensures ∙ c.if-is_word-2.false, sym c.is_word-3.ensures ∙ c.if-is_word-3.true) (as_found (paper.truth false) c.args.i c.found-then-is_word-3.ensures refl refl),
      rw (← c.word_end-to.ensures.1, sym c.is_word.ensures ∙ c.if-is_word.false, sym c.is_word-2.ensures ∙ c.if-is_word-2.false, sym c.is_word-3.ensures ∙ c.if-is_word-3.true) refl,
    )

pub returns-then-is_answer : goal.returns-then-is_answer
unfolding word_from
returns-then-is_answer c =
    let a = c.args in
    let e = ap (λ (x : Element). x.place) c.found-then-is_answer.ensures in
    let h = is_answer a.s.now a.at c.word_end-to.result a.i a.bytes.now c.found-then-is_answer.ensures (to_z-of_z {w = w64} (sfits_of c.copy.type_inv) ∙ c.copy.ensures.0) c.copy.ensures.1 (sym c.is_answer.ensures ∙ c.if-is_answer.true) in (
      search rules,
      rw (← c.word_end-to.ensures.1, sym c.is_word.ensures ∙ c.if-is_word.false, sym c.is_word-2.ensures ∙ c.if-is_word-2.false, sym c.is_word-3.ensures ∙ c.if-is_word-3.false) h.0,
      rw (← c.word_end-to.ensures.1, sym c.is_word.ensures ∙ c.if-is_word.false, sym c.is_word-2.ensures ∙ c.if-is_word-2.false, sym c.is_word-3.ensures ∙ c.if-is_word-3.false) h.1,
    )

pub returns : goal.returns
unfolding word_from
returns c =
    let a = c.args in
    let e = ap (λ (x : Element). x.place) c.wrong.ensures in
    let h = no_answer a.s.now a.at c.word_end-to.result a.i c.wrong.result a.bytes.now c.wrong.ensures (sym c.is_answer.ensures ∙ c.if-is_answer.false) in (
      search rules,
      rw (← c.word_end-to.ensures.1, sym c.is_word.ensures ∙ c.if-is_word.false, sym c.is_word-2.ensures ∙ c.if-is_word-2.false, sym c.is_word-3.ensures ∙ c.if-is_word-3.false) h.0,
      rw (← c.word_end-to.ensures.1, sym c.is_word.ensures ∙ c.if-is_word.false, sym c.is_word-2.ensures ∙ c.if-is_word-2.false, sym c.is_word-3.ensures ∙ c.if-is_word-3.false) h.1,
    )
