use Rattle.std.proofs.Common.{◌∙◌}
use Rattle.base_core.specs.Sets.{put}
use Rattle.value_core.specs.Values.{row_cmp}
use Rattle.assign_core.proofs.InTurnLemmas.{none_first}
use Rattle.assign_core.proofs.marking.exchange_next.Goals as goal

pub returns-in-None-clause-rows : goal.returns-in-None-clause-rows
returns-in-None-clause-rows g c =
    c.place.ensures.rows ∙ none_first (put row_cmp c.args.row c.args.rows.now.items) c.args.gone.now c.in-None.ensures.cases
