use Rattle.std.proofs.Common.{◌≡◌, ◌++◌, List, [], ◌∷◌, sym, subst}
use Rattle.std.specs.List.{All}
use Rattle.std.proofs.lemmas.List.Elements.{All-push}
use Rattle.u_constraints.specs.Covers.{IsRun}
use Rattle.u_constraints.specs.declared.runs.Run.{Run}
use Rattle.u_constraints.proofs.CoverLemmas.{own_run}
use Rattle.u_constraints.proofs.runs.add_marked.Goals as goal

pub returns-in_ok-push : goal.returns-in_ok-push
returns-in_ok-push c label rows m all =
    let run : Run = c.run_of.result in
    let items : c.push.new.self.items ≡ c.args.list.now.items ++ run ∷ [] = c.in_ok-push.ensures.items in
    subst (λ (items : List Run). All (λ (r : Run). IsRun label c.args.side.at rows r.row.now r.begin r.end) items) (sym items)
    (All-push (λ (r : Run). IsRun label c.args.side.at rows r.row.now r.begin r.end) c.args.list.now.items run all
    (own_run label c.args.side.at rows c.args.row.now run.row.now run.begin run.end c.run_of.ensures.row c.run_of.ensures.ends m))
