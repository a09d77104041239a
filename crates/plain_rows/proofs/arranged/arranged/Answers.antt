use Rattle.std.proofs.Common.{◌∙◌, ap, map}
use Rattle.value_core.specs.Headings.{position_of}
use Rattle.relation_core.specs.Agreement.{part_of}
use Rattle.plain_rows.proofs.ReadLemmas.{rows-in-order, rows-arranged}
use Rattle.plain_rows.proofs.arranged.arranged.Goals as goal

pub returns-then-ascend : goal.returns-then-ascend
returns-then-ascend c types parts h = rows-in-order types _ _ _ parts c.requires.plain c.requires.makes (c.ascend.ensures c.if-ascend.true) h

pub returns : goal.returns
returns c types parts h =
    let e = c.in_ok-places.ensures ∙ ap (λ z. map (λ a. position_of c.args.columns.now a.0) z) c.attributes.ensures.list in
    let m = c.in_ok-made.ensures ∙ ap (λ z. map (part_of z) c.args.rows.items) c.as_slice.ensures.value in
    rows-arranged _ _ _ _ _ e m
