use Rattle.std.proofs.Common.{◌≡◌, ◌-◌, length, drop, encode_utf8_all}
use Rattle.utd_lexer.specs.Reading.{SoFar}
use Rattle.utd_lexer.proofs.reading.read_all.Given as goal

-- what is left of the bytes is that of the characters
abbrev pub invariant-text : goal.invariant-text
invariant-text l = record {
  so_far : SoFar l.fn.start l.chars l.at l.place l.list.items;
  left : l.left ≡ encode_utf8_all (drop l.at l.chars);
}

abbrev pub decreases-text : goal.decreases-text
decreases-text l = length l.chars - l.at
