use Rattle.std.proofs.Common.{◌≡◌, ◌++◌, [], length, ap, arith}
use Rattle.std.proofs.lemmas.List.{length-append}
use Rattle.base_core.proofs.SetOperatorLemmas.{length-in_order}
use Rattle.value_core.specs.Values.{Heading, attribute_cmp}
use Rattle.node_typing.proofs.headings.heading_of_list.Goals as goal

pub heading_of-requires : goal.heading_of-requires
heading_of-requires c =
    let most = length-in_order attribute_cmp (c.args.list.now ++ []) in
    let both = length-append c.args.list.now [] in
    let same : length c.in_ok-attributes.attributes.entries ≡ length _ = ap (λ (l : Heading). length l) c.in_ok-attributes.ensures in
    omega (arith, most, both, same, c.requires)
