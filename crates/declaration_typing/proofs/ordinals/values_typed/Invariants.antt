use Rattle.std.proofs.Common.{◌≡◌, [], ◌∷◌, drop}
use Rattle.utd_syntax.specs.Read.{read_name, read_name_list}
use Rattle.declaration_typing.specs.Ordinals.{values_typed}
use Rattle.declaration_typing.proofs.ordinals.values_typed.Given as goal

abbrev pub invariant-loop-word : goal.invariant-loop-word
invariant-loop-word l =
    values_typed l.values.keys (read_name_list (drop l.word-index l.more)) ≡ values_typed [] (read_name l.first ∷ read_name_list l.more)
