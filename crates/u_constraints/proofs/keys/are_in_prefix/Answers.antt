use Rattle.std.proofs.Common.{◌≡◌, ◌∙◌}
use Rattle.relation_core.specs.Parts.{projected}
use Rattle.u_constraints.proofs.SearchLemmas.{all_sought, in_order_too}
use Rattle.u_constraints.proofs.keys.are_in_prefix.Goals as goal

pub are_prefixes-requires : goal.are_prefixes-requires
are_prefixes-requires c = in_order_too c.args.other.now c.rows-rows.result.now c.rows-rows.ensures.rows c.rows-rows.ensures.relation

pub returns : goal.returns
returns c =
    let are : c.as_slice.result.now ≡ projected c.args.here.now c.args.r.now.rows = c.as_slice.ensures.value ∙ c.in_ok-keys.ensures.parts in
    c.are_prefixes.ensures
    ∙ all_sought c.args.here.now c.args.there.now c.args.r.now.rows c.as_slice.result.now c.rows-rows.result.now c.args.other.now c.rows-rows.ensures.relation c.rows-rows.ensures.rows
    c.requires.first c.requires.there c.requires.size are
