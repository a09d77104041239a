use Rattle.std.proofs.Common.{◌-◌, length}
use Rattle.utd_lexer.specs.Reading.{SoFar}
use Rattle.utd_lexer.proofs.reading.front_of.Given as goal

abbrev pub invariant-text : goal.invariant-text
invariant-text l = SoFar l.fn.start l.text l.at l.place l.list.items

abbrev pub decreases-text : goal.decreases-text
decreases-text l = length l.text - l.at
