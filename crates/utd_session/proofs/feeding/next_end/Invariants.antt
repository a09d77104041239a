use Rattle.std.proofs.Common.{◌≤◌, ◌-◌, ℕ, List, ◌++◌, length, take}
use Rattle.point_core.specs.declared.fault.Place.{Place}
use Rattle.utd_lexer.specs.Cutting.{Since}
use Rattle.utd_session.specs.Statements.{NoEnd}
use Rattle.utd_session.proofs.feeding.next_end.Given as goal

abbrev pub invariant-byte : goal.invariant-byte
invariant-byte l = record {
  within : l.at ≤ length l.piece;
  none : (place : Place) (bytes : List ℕ) → Since l.initial.cutter bytes → NoEnd place bytes (take l.at l.piece);
  since : (bytes : List ℕ) → Since l.initial.cutter bytes → Since l.cutter (bytes ++ take l.at l.piece);
}

abbrev pub decreases-byte : goal.decreases-byte
decreases-byte l = length l.piece - l.at
