use Rattle.std.proofs.Common.{List, length, map, ap, sym, subst, ◌∙◌, arith, None, replicate}
use Rattle.value_core.specs.Values.{Row}
use Rattle.tree_core.specs.Relvars.{Entries, read_entry, read_relvars}
use Rattle.relvar_logs.specs.Changes.{Changes}
use Rattle.assign_core.specs.Checks.{AllChecked}
use Rattle.assign_core.specs.Targets.{entries_before}
use Rattle.assign_core.specs.Turnovers.{renewed_at}
use Rattle.assign_core.proofs.AdditionLemmas.{few_turned}
use Rattle.assign_core.proofs.AssignedLemmas.{kept_checked}
use Rattle.assign_core.proofs.ChangeLemmas.{none_are, none_changed}
use Rattle.assign_core.proofs.TurnoverLemmas.{over_admitted, told_admitted, cost_admitted}
use Rattle.assign_core.proofs.addition.admit_rows.Goals as goal

pub check_turnover-requires-clause-checked : goal.check_turnover-requires-clause-checked
check_turnover-requires-clause-checked g c =
    let s = c.args.target.relvars.now in
    let raw = s.list.entries in
    let es = map read_entry raw in
    let none : Changes = replicate (length raw) None in
    subst (λ (z : Entries). AllChecked z z) (none_changed es (length raw)) (kept_checked (read_relvars s) none c.requires.kept (none_are raw))

pub returns-then-not-are_few-clause-admitted : goal.returns-then-not-are_few-clause-admitted
returns-then-not-are_few-clause-admitted g c =
    let t = c.args.target in
    let x = c.args.rows.now in
    let out = ap (λ (r : List Row). length r) (sym c.rows.ensures.rows) in
    let into = ap (λ (r : List Row). length r) (sym c.rows-2.ensures.rows) in
    let few = c.rows-2.ensures.relation.few in
    over_admitted (renewed_at t.at x (entries_before t))
    (few_turned (entries_before t) t.name.now t.at t.value.now x c.args.none.now (length t.relvars.now.list.entries) (length c.rows.result.now) (length c.rows-2.result.now) _ c.requires.turnover c.requires.counted c.requires.none
    out into (omega (arith, into, few)) (sym c.if-not-are_few.true ∙ c.are_few.ensures))

pub returns-clause-admitted : goal.returns-clause-admitted
returns-clause-admitted g c =
    let t = c.args.target in
    let x = c.args.rows.now in
    let out = ap (λ (r : List Row). length r) (sym c.rows.ensures.rows) in
    let into = ap (λ (r : List Row). length r) (sym c.rows-2.ensures.rows) in
    let few = c.rows-2.ensures.relation.few in
    told_admitted (renewed_at t.at x (entries_before t)) c.check_turnover.result
    (few_turned (entries_before t) t.name.now t.at t.value.now x c.args.none.now (length t.relvars.now.list.entries) (length c.rows.result.now) (length c.rows-2.result.now) _ c.requires.turnover c.requires.counted c.requires.none
    out into (omega (arith, into, few)) (sym c.if-not-are_few.false ∙ c.are_few.ensures))
    c.check_turnover.ensures.told

pub returns-clause-cost : goal.returns-clause-cost
returns-clause-cost g c =
    let t = c.args.target in
    let x = c.args.rows.now in
    let out = ap (λ (r : List Row). length r) (sym c.rows.ensures.rows) in
    let into = ap (λ (r : List Row). length r) (sym c.rows-2.ensures.rows) in
    let few = c.rows-2.ensures.relation.few in
    let all = cost_admitted (renewed_at t.at x (entries_before t))
    (few_turned (entries_before t) t.name.now t.at t.value.now x c.args.none.now (length t.relvars.now.list.entries) (length c.rows.result.now) (length c.rows-2.result.now) _ c.requires.turnover c.requires.counted c.requires.none
    out into (omega (arith, into, few)) (sym c.if-not-are_few.false ∙ c.are_few.ensures)) in
    let taken = c.check_turnover.ensures.cost in
    omega (arith, all, taken)
