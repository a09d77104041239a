use Rattle.std.proofs.Common.{◌≡◌, map}
use Rattle.tree_core.specs.Relvars.{read_relvars}
use Rattle.meaning_core.specs.Declarations.{read_declaration}
use Rattle.assign_core.specs.Databases.{declared}
use Rattle.assign_core.specs.Parts.{Begins}
use Rattle.assign_core.proofs.appending.append_all.Given as goal

abbrev pub invariant-loop-declaration : goal.invariant-loop-declaration
invariant-loop-declaration l = record {
  can : (goal.iterator-loop-declaration).can_next l.declaration-iterator;
  ends : (goal.iterator-loop-declaration).is_finite l.declaration-iterator;
  state : read_relvars l.relvars ≡ declared (read_relvars l.initial.relvars) (map read_declaration l.yielded);
  begins : Begins l.initial.relvars l.relvars;
}
