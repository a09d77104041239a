use Rattle.std.proofs.Common.{◌≡◌, [], drop}
use Rattle.utd_syntax.specs.Read.{read_name_list}
use Rattle.declaration_typing.specs.Constraints.{positions_there}
use Rattle.declaration_typing.proofs.references.positions_there.Given as goal

abbrev pub invariant-loop-word : goal.invariant-loop-word
invariant-loop-word l =
    positions_there l.heading l.there l.positions.items (read_name_list (drop l.word-index l.fn.words)) ≡ positions_there l.heading l.there [] (read_name_list l.fn.words)
