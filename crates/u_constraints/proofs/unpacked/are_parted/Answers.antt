use Rattle.std.proofs.Common.{◌≡◌, length, refl, arith, ◌∙◌}
use Rattle.std.proofs.lemmas.Bool.Decides.{nat_tests}
use Rattle.u_set.proofs.KeptLemmas.{one_intervals}
use Rattle.u_set.proofs.RelationLemmas.{relation_shaped}
use Rattle.meaning_core.proofs.IntervalLemmas.{intervals_of_list}
use Rattle.u_constraints.proofs.PartedKeyLemmas.{parted_key}
use Rattle.u_constraints.proofs.unpacked.are_parted.Goals as goal

pub are_apart-requires : goal.are_apart-requires
are_apart-requires c =
    let one : length c.args.commalist.now ≡ 1 = grind (arith, nat_tests) in
    one_intervals c.args.r.now.heading c.args.commalist.now _ one refl (intervals_of_list c.args.r.now.heading c.args.commalist.now c.requires.list)

pub returns : goal.returns
returns c = λ t.
    let r = c.args.r.now in
    let commalist = c.args.commalist.now in
    let intervals = intervals_of_list r.heading commalist c.requires.list in
    let one : length commalist ≡ 1 = grind (arith, nat_tests) in
    parted_key r.heading commalist r.rows (relation_shaped r c.in_ok-apart.ensures.relation commalist intervals) _ one refl c.args.key.now c.requires.lies
    c.as_slice.result.now (c.as_slice.ensures.value ∙ c.in_ok-label.ensures) (c.in_ok-apart.ensures.answer t)
