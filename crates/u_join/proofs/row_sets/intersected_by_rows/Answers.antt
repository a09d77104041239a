use Rattle.std.proofs.Common.{subst, ap}
use Rattle.value_core.specs.Values.{Heading}
use Rattle.relation_core.specs.Parts.{attributes_at}
use Rattle.u_set.specs.Boxes.{AreIntervals}
use Rattle.u_join.proofs.SameHeadingLemmas.{both_kinds, matched_meant}
use Rattle.u_join.proofs.row_sets.intersected_by_rows.Goals as goal

pub matched_by_rows-requires-clause-kinds : goal.matched_by_rows-requires-clause-kinds
matched_by_rows-requires-clause-kinds c = both_kinds c.args.left.now c.args.right.now c.heading-ours.ensures.relation c.heading-theirs.ensures.relation c.requires.heading

pub matched_by_rows-requires-clause-same : goal.matched_by_rows-requires-clause-same
matched_by_rows-requires-clause-same c = ap (λ (h : Heading). attributes_at c.args.commalist.now h) c.requires.heading

pub matched_by_rows-requires-clause-right : goal.matched_by_rows-requires-clause-right
matched_by_rows-requires-clause-right c = subst (λ (h : Heading). AreIntervals h c.args.commalist.now) c.requires.heading c.requires.intervals

pub returns : goal.returns
returns c =
    matched_meant c.args.left.now c.args.right.now c.heading-ours.ensures.relation c.heading-theirs.ensures.relation c.requires.heading c.args.commalist.now c.requires.intervals
    c.matched_by_rows.result c.matched_by_rows.ensures
