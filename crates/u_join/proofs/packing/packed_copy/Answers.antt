use Rattle.std.proofs.Common.{◌∙◌}
use Rattle.u_join.proofs.PackedOperandLemmas.{copy_packed, copy_few}
use Rattle.u_join.proofs.packing.packed_copy.Goals as goal

pub returns-in-Ok-clause-packed : goal.returns-in-Ok-clause-packed
returns-in-Ok-clause-packed c =
    copy_packed c.args.r.now c.rows-ours.ensures.relation c.args.at c.requires c.in_ok-heading.heading c.in_ok-rows.rows.items (c.in_ok-heading.ensures ∙ c.heading.ensures.heading) (c.in_ok-rows.ensures ∙ c.rows-ours.ensures.rows)
    c.in-Ok.answer c.in-Ok.ensures.answer

pub returns-in-Ok-clause-few : goal.returns-in-Ok-clause-few
returns-in-Ok-clause-few c = copy_few _ _ c.in-Ok.answer c.in-Ok.ensures.answer
