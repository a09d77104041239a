use Rattle.std.proofs.Common.{◌≡◌, ◌<◌, ℕ, length, get_or, ap, arith, subst, sym}
use Rattle.std.proofs.lemmas.List.Sums.{sum_by_more_le}
use Rattle.std.proofs.lemmas.Result.{err_from_is_err_and}
use Rattle.base_core.proofs.ListLemmas.{In-get_or}
use Rattle.base_core.proofs.MemberLemmas.{has-In}
use Rattle.base_core.proofs.SetLemmas.{In}
use Rattle.value_core.specs.Order.{row_total, row_separates}
use Rattle.value_core.specs.Values.{Row, row_cmp}
use Rattle.kept_views.specs.Touched.{group_cost, left_of, right_of}
use Rattle.kept_views.proofs.NarrowLemmas.{group_of_all}
use Rattle.kept_views.proofs.moving.groups_moved.Goals as goal

pub returns-in_err-add_group-clause-moves : goal.returns-in_err-add_group-clause-moves
returns-in_err-add_group-clause-moves g c =
    let keys = c.args.keys.now in
    let i = c.loop-key.key-index in
    let within : i < length keys = omega arith in
    let key : Row = c.key-item.result in
    let there : In key keys = subst (λ (k : Row). In k keys) (sym c.key-item.is) (In-get_or keys i key within) in
    let p = err_from_is_err_and c.from_residual.result c.from_residual.ensures.1 in
    rw (p.1, p.2) (record { key = key; among = (has-In row_cmp row_total row_separates keys key).1 there; refused = c.in_err-add_group.ensures.added })

pub returns-in_err-add_group-clause-cost : goal.returns-in_err-add_group-clause-cost
returns-in_err-add_group-clause-cost g c =
    let f : Row → ℕ = group_cost c.args.rule.now (left_of c.args.groups.after) (right_of c.args.groups.after) in
    let keys = c.args.keys.now in
    let i = c.loop-key.key-index in
    let within : i < length keys = omega arith in
    let one = c.add_group.ensures.cost in
    let so_far = c.loop-key.invariant.cost in
    let all = sum_by_more_le f keys i c.key-item.result within in
    let here : f c.key-item.result ≡ f (get_or keys i c.key-item.result) = ap f c.key-item.is in
    omega (arith, one, so_far, all, here)

pub add_group-requires-clause-group : goal.add_group-requires-clause-group
add_group-requires-clause-group g c =
    let keys = c.args.keys.now in
    let i = c.loop-key.key-index in
    let within : i < length keys = omega arith in
    let key : Row = c.key-item.result in
    let there : In key keys = subst (λ (k : Row). In k keys) (sym c.key-item.is) (In-get_or keys i key within) in
    group_of_all c.args.rule.now keys c.args.groups.view.now.rows (left_of c.args.groups.after) (right_of c.args.groups.after) c.args.groups.sorted.now key ((has-In row_cmp row_total row_separates keys key).1 there) c.requires.sorted
