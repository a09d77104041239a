use Rattle.std.proofs.Common.{◌≡◌, ◌-◌, suc, sym, ap, ◌∙◌, arith, false}
use Rattle.std.specs.Ordering.{is_lt}
use Rattle.value_core.specs.Values.{row_cmp}
use Rattle.row_removal.proofs.LeavingLemmas.{near_stop}
use Rattle.row_removal.proofs.removal.near_end.Goals as goal

pub returns-else-is_lt-clause-behind : goal.returns-else-is_lt-clause-behind
returns-else-is_lt-clause-behind c =
    let rows = c.args.rows.now in
    let end = c.loop-end.end in
    let test = c.loop-end-test.true in
    let within = c.loop-end.invariant.within in
    let some = c.loop-end.invariant.some (omega (arith, test)) in
    let one : end ≡ suc (end - 1) = omega (arith, some) in
    let other : is_lt (row_cmp c.index-rows-end.result c.args.row.now) ≡ false = ap is_lt (sym c.cmp.ensures) ∙ (sym c.is_lt.ensures ∙ c.if-is_lt.false) in
    near_stop rows c.args.row.now c.index-rows-end.result (end - 1) end c.requires one within c.index-rows-end.is other
