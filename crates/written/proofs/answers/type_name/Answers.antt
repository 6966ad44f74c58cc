-- `type_name`: each arm writes the name of the type that has its letter.
use Rattle.paper_expressions.specs.Types.{Text, Integer, Real, SetofText, SetofReal, SetofInteger, SetofAnything, TruthValue}
use Rattle.written.specs.Named.{named}
use Rattle.written.proofs.answers.type_name.Goals as goal

pub returns-in-84 : goal.returns-in-84
returns-in-84 c = named Text c.in-84.is c.word.ensures

pub returns-in-73 : goal.returns-in-73
returns-in-73 c = named Integer c.in-73.is c.word-in-73.ensures

pub returns-in-82 : goal.returns-in-82
returns-in-82 c = named Real c.in-82.is c.word-in-82.ensures

pub returns-in-116 : goal.returns-in-116
returns-in-116 c = named SetofText c.in-116.is c.word-in-116.ensures

pub returns-in-114 : goal.returns-in-114
returns-in-114 c = named SetofReal c.in-114.is c.word-in-114.ensures

pub returns-in-105 : goal.returns-in-105
returns-in-105 c = named SetofInteger c.in-105.is c.word-in-105.ensures

pub returns-in-97 : goal.returns-in-97
returns-in-97 c = named SetofAnything c.in-97.is c.word-in-97.ensures

pub returns-in-66 : goal.returns-in-66
returns-in-66 c = named TruthValue c.in-66.is c.word-in-66.ensures
