use Rattle.std.proofs.Common.{◌≡◌, ◌∷◌, drop}
use Rattle.utd_syntax.specs.Read.{read_renaming, read_renaming_list}
use Rattle.node_typing.specs.Projections.{new_names_once}
use Rattle.node_typing.proofs.renamings.new_names_once.Given as goal

abbrev pub invariant-loop-renaming : goal.invariant-loop-renaming
invariant-loop-renaming l =
    new_names_once l.names (read_renaming_list (drop l.renaming-index l.more)) ≡ new_names_once l.names (read_renaming l.first ∷ read_renaming_list l.more)
