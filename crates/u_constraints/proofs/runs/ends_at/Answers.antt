use Rattle.std.proofs.Common.{sym, ap, ◌∙◌}
use Rattle.value_core.specs.Attributes.{span_of}
use Rattle.u_set.proofs.ApartLemmas.{value_there}
use Rattle.u_constraints.proofs.runs.ends_at.Goals as goal

pub returns : goal.returns
returns c =
    let is = value_there c.args.at c.values-values.result.now c.args.row.now c.index-values-at.result c.values-values.ensures c.requires c.index-values-at.is in
    c.ends_of.ensures ∙ c.interval_of-interval.ensures.numbers ∙ ap span_of (sym is)
