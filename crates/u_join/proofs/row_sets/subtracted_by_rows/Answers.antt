use Rattle.std.proofs.Common.{subst, ap}
use Rattle.value_core.specs.Values.{Heading}
use Rattle.relation_core.specs.Parts.{attributes_at}
use Rattle.u_set.specs.Boxes.{AreIntervals}
use Rattle.u_join.proofs.SameHeadingLemmas.{both_kinds, unmatched_meant}
use Rattle.u_join.proofs.row_sets.subtracted_by_rows.Goals as goal

pub unmatched_by_rows-requires-clause-kinds : goal.unmatched_by_rows-requires-clause-kinds
unmatched_by_rows-requires-clause-kinds c = both_kinds c.args.left.now c.args.right.now c.heading-ours.ensures.relation c.heading-theirs.ensures.relation c.requires.heading

pub unmatched_by_rows-requires-clause-same : goal.unmatched_by_rows-requires-clause-same
unmatched_by_rows-requires-clause-same c = ap (λ (h : Heading). attributes_at c.args.commalist.now h) c.requires.heading

pub unmatched_by_rows-requires-clause-right : goal.unmatched_by_rows-requires-clause-right
unmatched_by_rows-requires-clause-right c = subst (λ (h : Heading). AreIntervals h c.args.commalist.now) c.requires.heading c.requires.intervals

pub returns : goal.returns
returns c =
    unmatched_meant c.args.left.now c.args.right.now c.heading-ours.ensures.relation c.heading-theirs.ensures.relation c.requires.heading c.args.commalist.now c.requires.intervals
    c.unmatched_by_rows.result c.unmatched_by_rows.ensures
