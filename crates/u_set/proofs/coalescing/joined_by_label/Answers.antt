use Rattle.std.proofs.Common.{map}
use Rattle.u_set.specs.Coalescing.{AreJoined}
use Rattle.u_set.proofs.ApartLemmas.{if_ok}
use Rattle.u_set.proofs.CoalescingLemmas.{each_fits, joined_moved}
use Rattle.u_set.proofs.coalescing.joined_by_label.Goals as goal

pub joined_in_turn-requires-clause-fit : goal.joined_in_turn-requires-clause-fit
joined_in_turn-requires-clause-fit c = each_fits c.args.heading.now (λ r. r.row) c.in_ok-list.list.items c.args.rows.items c.in_ok-list.ensures c.requires.fit

pub returns : goal.returns
returns c =
    let heading = c.args.heading.now in
    let rows = c.args.rows.items in
    let moved = map (λ r. r.row) c.in_ok-list.list.items in
    if_ok (λ v. AreJoined heading c.args.at moved v.items) (λ v. AreJoined heading c.args.at rows v.items) (λ v h. joined_moved heading c.args.at c.requires.interval rows moved v.items c.in_ok-list.ensures h) c.joined_in_turn.result c.joined_in_turn.ensures
