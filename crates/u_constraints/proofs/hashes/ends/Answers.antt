use Rattle.std.proofs.Common.{◌<◌, length, arith}
use Rattle.value_core.specs.declared.kind.Kind.TheVariants.{Span}
use Rattle.relation_core.proofs.AgreementLemmas.{length_of_fit}
use Rattle.relation_core.proofs.HashLemmas.{row_long}
use Rattle.u_constraints.proofs.FitLemmas.{row_fits, value_fits}
use Rattle.u_constraints.proofs.hashes.ends.Goals as goal

pub end_hash-requires-clause-within : goal.end_hash-requires-clause-within
end_hash-requires-clause-within c k d l =
    let within : c.loop-row.row-index < length c.rows-rows.result.now = omega arith in
    (row_long c.args.r.now c.rows-rows.result.now c.loop-row.row-index c.row-item.result c.args.positions.now c.rows-rows.ensures.relation c.rows-rows.ensures.rows within c.row-item.is c.requires.within) k d l

pub end_hash-requires-clause-at : goal.end_hash-requires-clause-at
end_hash-requires-clause-at c =
    let within : c.loop-row.row-index < length c.rows-rows.result.now = omega arith in
    let size = length_of_fit c.args.r.now.heading c.row-item.result (row_fits c.args.r.now c.rows-rows.result.now c.loop-row.row-index c.row-item.result c.rows-rows.ensures.relation c.rows-rows.ensures.rows within c.row-item.is) in
    let at = c.requires.at in
    omega (arith, size, at)

pub end_hash-requires-clause-interval : goal.end_hash-requires-clause-interval
end_hash-requires-clause-interval c =
    let within : c.loop-row.row-index < length c.rows-rows.result.now = omega arith in
    let fits = row_fits c.args.r.now c.rows-rows.result.now c.loop-row.row-index c.row-item.result c.rows-rows.ensures.relation c.rows-rows.ensures.rows within c.row-item.is in
    let over = c.requires.interval in
    (over.0, value_fits c.args.r.now.heading c.row-item.result c.args.at (Span over.0) fits c.requires.at over.1)
