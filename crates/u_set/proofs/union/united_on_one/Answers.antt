use Rattle.std.proofs.Common.{◌≡◌, ℕ, List, refl, length, get_or, ◌++◌, ◌∙◌, arith}
use Rattle.std.proofs.lemmas.Bool.Decides.{nat_tests}
use Rattle.value_core.specs.RowPacking.{packed, unpacked}
use Rattle.value_core.specs.Values.{Row}
use Rattle.relation_core.specs.Operators.{united}
use Rattle.u_set.proofs.CoalescingLemmas.{given, answer_moved, united_given}
use Rattle.u_set.proofs.union.united_on_one.Goals as goal

pub returns : goal.returns
returns c =
    let left = c.args.left.now in
    let right = c.args.right.now in
    let commalist = c.args.commalist.now in
    let one : length c.args.commalist.now ≡ 1 = grind (arith, nat_tests) in
    let i : ℕ = get_or commalist 0 0 in
    let same : c.in_ok-heading.heading ≡ c.args.left.now.heading = c.in_ok-heading.ensures ∙ c.heading.ensures.heading in
    let items : c.in_ok-rows.rows.items ≡ c.args.left.now.rows ++ c.args.right.now.rows = c.in_ok-rows.ensures.rows in
    let lists : given c.in_ok-heading.heading i c.in_ok-rows.rows.items ≡ given left.heading i (left.rows ++ right.rows) = λ t. given (same t) i (items t) in
    let rows : List Row = packed commalist (united (unpacked commalist left.rows) (unpacked commalist right.rows)) in
    let are : given c.in_ok-heading.heading i c.in_ok-rows.rows.items ≡ packed commalist (united (unpacked commalist left.rows) (unpacked commalist right.rows)) =
    lists ∙ united_given left right c.in_ok-rows.ensures.left c.in_ok-rows.ensures.right c.requires.heading commalist i one refl c.requires.intervals in
    answer_moved c.in_ok-heading.heading left.heading (given c.in_ok-heading.heading i c.in_ok-rows.rows.items) rows same are c.coalesced.result c.coalesced.ensures.answer
