use Rattle.std.proofs.Common.{◌≡◌, take}
use Rattle.u_summarize.specs.Groups.{labels_in}
use Rattle.u_summarize.proofs.ranks.copied_labels.Given as goal

abbrev pub invariant-loop-row : goal.invariant-loop-row
invariant-loop-row l = l.list.items ≡ labels_in (take l.row-index l.rows)
