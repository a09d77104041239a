use Rattle.std.proofs.Common.{◌<◌, subst, sym}
use Rattle.std.specs.List.{All}
use Rattle.cell_packing.specs.declared.Piece.{Piece}
use Rattle.cell_sweep.specs.declared.bare.NoLabel.{NoLabel}
use Rattle.cell_sweep.specs.Rows.{sides_of}
use Rattle.cell_sweep.proofs.TwoSidesLemmas.{bare_some}
use Rattle.cell_sweep.proofs.runs.runs_of.Goals as goal

pub join-requires : goal.join-requires
join-requires c = subst (All (λ (x : Piece NoLabel). x.begin < x.end)) (sym c.in_ok-pieces.ensures) (bare_some (sides_of c.args.boxes.now) c.args.live.now)
