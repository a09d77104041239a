use Rattle.std.proofs.Common.{◌<◌, subst, sym}
use Rattle.std.specs.List.{All}
use Rattle.cell_packing.specs.declared.Piece.{Piece}
use Rattle.cell_sweep.proofs.OneSideLemmas.{rows_some, one_side_rows, one_side_sorted}
use Rattle.cell_sweep.specs.Runs.{AreRuns}
use Rattle.cell_sweep.proofs.RunLemmas.{runs_packed, runs_sorted}
use Rattle.cell_sweep.proofs.one_side.on_first_side.Goals as goal

pub join-requires : goal.join-requires
join-requires g c = subst (All (λ (p : Piece _). p.begin < p.end)) (sym c.in_ok-pieces.ensures) (rows_some c.args.rows.items)

pub returns-clause-rows : goal.returns-clause-rows
returns-clause-rows g c = one_side_rows g.P.Label.order g.met.P.Label.total g.met.P.Label.separates c.args.rows.items c.in_ok-pieces.pieces.items c.in_ok-runs.runs.items c.in_ok-packed.packed.items c.in_ok-pieces.ensures c.in_ok-runs.ensures.apart c.in_ok-runs.ensures.covers c.in_ok-packed.ensures

pub returns-clause-sorted : goal.returns-clause-sorted
returns-clause-sorted g c = one_side_sorted g.P.Label.order g.met.P.Label.total g.met.P.Label.separates c.args.rows.items c.in_ok-pieces.pieces.items c.in_ok-runs.runs.items c.in_ok-packed.packed.items c.in_ok-pieces.ensures c.in_ok-runs.ensures.apart c.in_ok-runs.ensures.covers c.in_ok-packed.ensures

pub returns-then-are_runs-clause-rows : goal.returns-then-are_runs-clause-rows
returns-then-are_runs-clause-rows g c = runs_packed g.P.Label.order g.met.P.Label.total g.met.P.Label.separates c.args.rows.items (subst (AreRuns g.P.Label.order) c.as_slice.ensures.value (c.are_runs.ensures c.if-are_runs.true))

pub returns-then-are_runs-clause-sorted : goal.returns-then-are_runs-clause-sorted
returns-then-are_runs-clause-sorted g c = runs_sorted g.P.Label.order g.met.P.Label.total g.met.P.Label.separates c.args.rows.items (subst (AreRuns g.P.Label.order) c.as_slice.ensures.value (c.are_runs.ensures c.if-are_runs.true))
