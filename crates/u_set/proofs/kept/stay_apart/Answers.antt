use Rattle.std.proofs.Common.{◌≡◌, refl, length, arith, ◌∙◌}
use Rattle.std.proofs.lemmas.Bool.Decides.{nat_tests}
use Rattle.u_set.specs.Apart.{outside}
use Rattle.u_set.proofs.KeptLemmas.{one_intervals, both_kept}
use Rattle.u_set.proofs.kept.stay_apart.Goals as goal

pub are_both_apart-requires-clause-interval : goal.are_both_apart-requires-clause-interval
are_both_apart-requires-clause-interval c =
    let one : length c.args.commalist.now ≡ 1 = grind (arith, nat_tests) in
    one_intervals c.args.left.now.heading c.args.commalist.now _ one refl c.requires.intervals

pub returns : goal.returns
returns c = λ t.
    let outer = c.as_slice.ensures.value ∙ c.in_ok-label.ensures ∙ (λ i. outside c.args.commalist.now (c.attributes.ensures.list i)) ∙ (λ i. outside c.args.commalist.now (c.heading.ensures.heading i)) in
    let one : length c.args.commalist.now ≡ 1 = grind (arith, nat_tests) in
    both_kept c.args.left.now c.args.right.now c.in_ok-apart.ensures.left c.in_ok-apart.ensures.right c.requires.heading c.args.commalist.now _ one refl c.requires.intervals c.as_slice.result.now outer (c.in_ok-apart.ensures.chain t)
