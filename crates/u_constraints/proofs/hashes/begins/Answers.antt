use Rattle.std.proofs.Common.{◌<◌, length, arith}
use Rattle.relation_core.proofs.AgreementLemmas.{length_of_fit}
use Rattle.relation_core.proofs.HashLemmas.{row_long}
use Rattle.u_constraints.proofs.FitLemmas.{row_fits}
use Rattle.u_constraints.proofs.hashes.begins.Goals as goal

pub begin_hash-requires-clause-within : goal.begin_hash-requires-clause-within
begin_hash-requires-clause-within c k d l =
    let within : c.loop-row.row-index < length c.rows-rows.result.now = omega arith in
    (row_long c.args.r.now c.rows-rows.result.now c.loop-row.row-index c.row-item.result c.args.positions.now c.rows-rows.ensures.relation c.rows-rows.ensures.rows within c.row-item.is c.requires.within) k d l

pub begin_hash-requires-clause-at : goal.begin_hash-requires-clause-at
begin_hash-requires-clause-at c =
    let within : c.loop-row.row-index < length c.rows-rows.result.now = omega arith in
    let size = length_of_fit c.args.r.now.heading c.row-item.result (row_fits c.args.r.now c.rows-rows.result.now c.loop-row.row-index c.row-item.result c.rows-rows.ensures.relation c.rows-rows.ensures.rows within c.row-item.is) in
    let at = c.requires.at in
    omega (arith, size, at)
