use Rattle.std.proofs.Common.{◌≡◌, ℕ, Bool, List, length, arith}
use Rattle.std.proofs.lemmas.Bool.Decides.{nat_tests}
use Rattle.base_core.specs.Sets.{is_within}
use Rattle.value_core.specs.RowPacking.{unpacked}
use Rattle.value_core.specs.Values.{row_cmp}
use Rattle.u_set.proofs.PackedLemmas.{told_of_list}
use Rattle.u_set.proofs.row_comparison.within_on_one.Goals as goal

pub returns : goal.returns
returns c =
    let one : length c.args.commalist.now ≡ 1 = grind (arith, nat_tests) in
    let answer : List ℕ → Bool = λ ps. is_within row_cmp (unpacked ps c.args.left.now.rows) (unpacked ps c.args.right.now.rows) in
    told_of_list answer c.args.commalist.now one c.within_at.result c.within_at.ensures
