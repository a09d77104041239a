use Rattle.std.proofs.lemmas.List.Elements.{All-same}
use Rattle.std.proofs.lemmas.List.Sorted.{All-permutation}
use Rattle.u_constraints.specs.Covers.{IsRun}
use Rattle.u_constraints.specs.declared.runs.Run.{Run}
use Rattle.u_constraints.proofs.runs.sought_runs.Goals as goal

pub returns : goal.returns
returns c =
    let label = c.args.side.label.now in
    let at = c.args.side.at in
    let rows = c.args.rows.now in
    c.joined.ensures at rows
    (All-same (λ (r : Run). IsRun label at rows r.row.now r.begin r.end) c.as_slice.result.now c.sort_by.new.self.items c.as_slice.ensures.value
    (All-permutation (λ (r : Run). IsRun label at rows r.row.now r.begin r.end) c.in_ok-list.list.items c.sort_by.new.self.items c.sort_by.ensures.permutation (c.in_ok-list.ensures label)))
