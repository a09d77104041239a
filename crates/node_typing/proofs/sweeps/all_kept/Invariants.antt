use Rattle.std.proofs.Common.{◌≡◌, drop}
use Rattle.utd_syntax.specs.Read.{read_name_list}
use Rattle.node_typing.specs.Sweeps.{all_kept}
use Rattle.node_typing.proofs.sweeps.all_kept.Given as goal

abbrev pub invariant-loop-word : goal.invariant-loop-word
invariant-loop-word l = all_kept l.list (read_name_list (drop l.word-index l.words)) ≡ all_kept l.list (read_name_list l.words)
