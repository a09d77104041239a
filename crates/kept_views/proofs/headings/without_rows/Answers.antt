use Rattle.std.proofs.Common.{false, ◌∙◌}
use Rattle.kept_views.proofs.FilterLemmas.{none_kept}
use Rattle.kept_views.proofs.headings.without_rows.Goals as goal

pub selection-requires : goal.selection-requires
selection-requires c = (λ x. false, c.new.ensures.items ∙ none_kept c.args.r.now.rows)
