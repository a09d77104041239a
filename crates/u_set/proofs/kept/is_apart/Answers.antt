use Rattle.std.proofs.Common.{◌≡◌, refl, length, arith, ◌∙◌}
use Rattle.std.proofs.lemmas.Bool.Decides.{nat_tests}
use Rattle.u_set.specs.Apart.{outside}
use Rattle.u_set.proofs.KeptLemmas.{one_intervals, one_kept}
use Rattle.u_set.proofs.kept.is_apart.Goals as goal

pub are_apart-requires : goal.are_apart-requires
are_apart-requires c =
    let one : length c.args.commalist.now ≡ 1 = grind (arith, nat_tests) in
    one_intervals c.args.r.now.heading c.args.commalist.now _ one refl c.requires

pub returns : goal.returns
returns c = λ t.
    let outer = c.as_slice.ensures.value ∙ c.in_ok-label.ensures ∙ (λ i. outside c.args.commalist.now (c.attributes.ensures.list i)) ∙ (λ i. outside c.args.commalist.now (c.heading.ensures.heading i)) in
    let one : length c.args.commalist.now ≡ 1 = grind (arith, nat_tests) in
    one_kept c.args.r.now c.in_ok-apart.ensures.relation c.args.commalist.now _ one refl c.requires c.as_slice.result.now outer (c.in_ok-apart.ensures.chain t)
