-- `kind`: each arm by what its rule tells.
use Rattle.std.proofs.Common.{◌≡◌, arith}
use Rattle.lexer.proofs.Arms.{inside, tells_symbol, tells_atom, atom_long, tells_integer, tells_float, tells_string, tells_white, tells_comment}
use Rattle.lexer.proofs.kind.Goals as goal

pub atom-requires : goal.atom-requires
atom-requires c = (c.requires.0, inside c.args.text.now c.args.at c.args.best c.requires.0 c.requires.1, atom_long c.args.text.now c.args.at c.args.best c.requires.0 c.requires.1 c.in-1.is)

pub returns-in-0 : goal.returns-in-0
returns-in-0 c = tells_symbol c.args.text.now c.args.at c.args.best c.requires.0 c.requires.1 _ c.in-0.is c.word.ensures

pub returns-in-1 : goal.returns-in-1
returns-in-1 c = tells_atom c.args.text.now c.args.at c.args.best c.requires.0 c.requires.1 _ c.in-1.is c.atom.ensures

pub returns-in-2 : goal.returns-in-2
returns-in-2 c = tells_integer c.args.text.now c.args.at c.args.best c.requires.0 c.requires.1 c.in-2.is

pub returns-in-3 : goal.returns-in-3
returns-in-3 c = tells_float c.args.text.now c.args.at c.args.best c.requires.0 c.requires.1 c.in-3.is

pub returns-in-4 : goal.returns-in-4
returns-in-4 c = tells_string c.args.text.now c.args.at c.args.best c.requires.0 c.requires.1 c.in-4.is

pub returns-in-5 : goal.returns-in-5
returns-in-5 c = tells_white c.args.text.now c.args.at c.args.best c.requires.0 c.requires.1 c.in-5.is

pub returns-in_default : goal.returns-in_default
returns-in_default c =
    let l = (c.requires.1.is c.requires.0).is_rule in
    let e : c.args.best.rule ≡ 6 = omega arith in
    tells_comment c.args.text.now c.args.at c.args.best c.requires.0 c.requires.1 e
