use Rattle.std.proofs.Common.{◌≡◌, true, get_or, take, sym, ◌∙◌}
use Rattle.value_core.specs.Headings.{has_name}
use Rattle.value_core.proofs.HeadingLemmas.{repeat_found}
use Rattle.value_core.proofs.heading.first_repeat.Goals as goal

pub returns-then-has_name : goal.returns-then-has_name
returns-then-has_name c =
    let old : has_name (take c.loop-at.at c.args.list.now) (get_or c.args.list.now c.loop-at.at c.index-list-at.result).0 ≡ true = cc in
    sym (repeat_found c.args.list.now c.loop-at.at c.index-list-at.result c.loop-at-test.true old) ∙ c.loop-at.invariant
