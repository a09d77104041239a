use Rattle.std.proofs.Common.{sym}
use Rattle.assign_core.proofs.DifferenceLemmas.{only_found}
use Rattle.assign_core.proofs.differences.only_one.Goals as goal

pub returns-in-Some : goal.returns-in-Some
returns-in-Some c =
    only_found c.args.new c.with_both.result c.in_ok-at.at c.in-Some.name.now c.in-Some.relvar.now c.index-new-at.result c.in_ok-at.ensures.within c.in_ok-at.ensures.alone
    (sym c.in-Some.ensures.entry) c.with_both.ensures
