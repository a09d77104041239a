use Rattle.std.proofs.Common.{◌≡◌, drop}
use Rattle.utd_syntax.specs.Read.{read_name_list}
use Rattle.declaration_typing.specs.Constraints.{kept_by}
use Rattle.declaration_typing.proofs.lists.kept_by.Given as goal

abbrev pub invariant-loop-word : goal.invariant-loop-word
invariant-loop-word l = kept_by l.heading l.key (read_name_list (drop l.word-index l.words)) ≡ kept_by l.heading l.key (read_name_list l.words)
