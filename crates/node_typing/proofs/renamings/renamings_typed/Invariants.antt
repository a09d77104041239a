use Rattle.std.proofs.Common.{◌≡◌, [], ◌∷◌, drop}
use Rattle.utd_syntax.specs.Read.{read_renaming, read_renaming_list}
use Rattle.node_typing.specs.Projections.{renamings_typed}
use Rattle.node_typing.proofs.renamings.renamings_typed.Given as goal

abbrev pub invariant-loop-renaming : goal.invariant-loop-renaming
invariant-loop-renaming l =
    renamings_typed l.list l.pairs.items (read_renaming_list (drop l.renaming-index l.more)) ≡ renamings_typed l.list [] (read_renaming l.first ∷ read_renaming_list l.more)
