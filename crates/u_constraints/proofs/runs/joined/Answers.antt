use Rattle.std.proofs.Common.{◌≡◌, ◌++◌, List, [], ◌∷◌, sym, subst}
use Rattle.std.specs.List.{All}
use Rattle.std.proofs.lemmas.List.Elements.{All-push}
use Rattle.u_constraints.specs.Covers.{IsRun}
use Rattle.u_constraints.specs.declared.runs.Run.{Run}
use Rattle.u_constraints.proofs.runs.joined.Goals as goal

pub loop-next-preserved : goal.loop-next-preserved
loop-next-preserved c at rows all =
    let w = c.loop-next.invariant at rows all in
    let next : Run = c.next-item.result in
    c.in_ok-run.ensures.runs at rows w.0 w.1
    (subst (λ (r : Run). IsRun c.args.label.now at rows r.row.now r.begin r.end) (sym c.next-item.is) (all c.loop-next.next-index next c.loop-next-test.true))

pub returns : goal.returns
returns c at rows all =
    let w = c.loop-next.invariant at rows all in
    let label = c.args.label.now in
    let items : c.push.new.self.items ≡ c.loop-next.done.items ++ c.loop-next.run ∷ [] = c.in_ok-push.ensures.items in
    subst (λ (rs : List Run). All (λ (r : Run). IsRun label at rows r.row.now r.begin r.end) rs) (sym items)
    (All-push (λ (r : Run). IsRun label at rows r.row.now r.begin r.end) c.loop-next.done.items c.loop-next.run w.0 w.1)
