use Rattle.std.proofs.Common.{◌≡◌, ◌&&◌, not, subst}
use Rattle.std.specs.Result.{IfOk}
use Rattle.base_core.specs.Sets.{is_within}
use Rattle.value_core.specs.RowPacking.{unpacked}
use Rattle.value_core.specs.Values.{row_cmp}
use Rattle.eval_using.proofs.SameLemmas.{same_turned}
use Rattle.eval_using.proofs.comparing.properly_holds.Goals as goal

pub returns-clause-answer : goal.returns-clause-answer
returns-clause-answer g c =
    let left = unpacked c.args.commalist.now c.args.left.now.rows in
    let right = unpacked c.args.commalist.now c.args.right.now.rows in
    subst (λ s. IfOk c.is_properly_within.result (λ b. b ≡ s)) (λ t. is_within row_cmp right left && not (same_turned right left t)) c.is_properly_within.ensures.answer
