-- `choice` searches the symbol's own part of the alternatives: where it starts and ends is in the table.
use Rattle.std.proofs.Common.{ℕ, ◌+◌, ◌≡◌, List, get_or, arith, ap, subst, ◌∙◌, MatchOption}
use Rattle.grammar.proofs.TableLaws.{row_at, row_bounds, row_choice, no_choice}
use Rattle.grammar.proofs.choice.Goals as goal

pub seek-requires-clause-from_le_to : goal.seek-requires-clause-from_le_to
seek-requires-clause-from_le_to c =
    let x = c.args.x in
    row_bounds x c.if-x-lt-SYMBOLS.true _ _
    (c.from.ensures ∙ ap (λ (l : List ℕ). get_or l x 0) c.requires ∙ row_at x (omega arith))
    (c.from-then-x-lt-SYMBOLS.ensures ∙ ap (λ (l : List ℕ). get_or l (x + 1) 0) c.requires ∙ row_at (x + 1) (omega arith))

pub returns-then-x-lt-SYMBOLS : goal.returns-then-x-lt-SYMBOLS
returns-then-x-lt-SYMBOLS c =
    let x = c.args.x in
    subst (λ (n : ℕ). MatchOption c.seek.result (n ≡ 0) (λ a. n ≡ a + 1))
    (row_choice x c.if-x-lt-SYMBOLS.true _ _
    (c.from.ensures ∙ ap (λ (l : List ℕ). get_or l x 0) c.requires ∙ row_at x (omega arith))
    (c.from-then-x-lt-SYMBOLS.ensures ∙ ap (λ (l : List ℕ). get_or l (x + 1) 0) c.requires ∙ row_at (x + 1) (omega arith)) c.args.k)
    c.seek.ensures

pub returns-else-x-lt-SYMBOLS : goal.returns-else-x-lt-SYMBOLS
returns-else-x-lt-SYMBOLS c = no_choice c.args.x c.args.k c.if-x-lt-SYMBOLS.false
