use Rattle.std.proofs.Common.{◌<◌, ◌-◌, length, arith, sym, subst}
use Rattle.std.proofs.lemmas.Bool.Decides.{nat_tests}
use Rattle.relation_core.specs.Agreement.{part_of}
use Rattle.u_constraints.specs.Covers.{IsRun}
use Rattle.u_constraints.specs.declared.runs.Run.{Run}
use Rattle.u_constraints.proofs.CoverLemmas.{covered_by_run}
use Rattle.u_constraints.proofs.runs.is_in_run.Goals as goal

pub returns-then-has_points_of : goal.returns-then-has_points_of
returns-then-has_points_of c at rows all t =
    let run : Run = c.index-runs-count.result in
    let asked : Run = c.args.asked.now in
    let theirs = c.args.theirs.now in
    let count = c.partition_point-count.result in
    let l : count - 1 < length c.args.runs.now = grind (arith, nat_tests) in
    let one : IsRun theirs at rows run.row.now run.begin run.end =
    subst (λ (r : Run). IsRun theirs at rows r.row.now r.begin r.end) (sym c.index-runs-count.is) (all (count - 1) run l) in
    covered_by_run theirs at rows run.row.now run.begin run.end (part_of c.args.own.now asked.row.now) (asked.begin, asked.end) one
    (c.has_points_of.ensures.begin c.if-has_points_of.true) (c.has_points_of.ensures.end c.if-has_points_of.true) (c.agree.ensures t)
