-- `put_text`: its tag, its shape, its handle and its bytes.
use Rattle.std.proofs.Common.{ℕ, ◌+◌, ◌*◌, length, set, sym, ap, ◌∙◌, w64, ℤ, pos}
use mir.Facts.{to_z-of_z}
use borrow.Author.Rules.{sfits_of}
use Rattle.blocks.specs.Blocks.{cells_long}
use Rattle.typed_value.specs.Texts.{kept_of_fn}
use Rattle.typed_value.specs.Cells.{tags_with, numbers_with, texts_with}
use Rattle.typed_value.proofs.ones.put_text.Goals as goal

pub returns : goal.returns
unfolding tags_with numbers_with texts_with
returns c =
    let a = c.args in (
      c.put_tag.ensures,
      c.put_number.ensures
          ∙ ap (λ (z : ℤ). set a.numbers.now 1 z) (to_z-of_z {w = w64} (sfits_of c.copy.type_inv) ∙ c.copy.ensures.0 ∙ ap (λ (m : ℕ). pos (64 * 0 * 64 + m)) (sym (cells_long a.s.now 0 (kept_of_fn (length a.s.now))))),
      c.copy.ensures.1,
    )
