use Rattle.std.proofs.Common.{map, ap, ◌∙◌}
use Rattle.value_core.specs.Plain.{plain}
use Rattle.scalar_core.specs.Expressions.{read}
use Rattle.change_rows.proofs.RowFilterLemmas.{typed_for_none}
use Rattle.change_rows.proofs.safety.has_value.Goals as goal

pub eval-requires : goal.eval-requires
eval-requires c = typed_for_none (read c.args.e.now) c.make-row.result c.requires.closed c.requires.typed (c.make-row.ensures ∙ ap (map plain) c.new.ensures.items)
