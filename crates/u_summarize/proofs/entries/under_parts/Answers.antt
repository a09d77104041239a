use Rattle.std.proofs.Common.{◌≡◌, List, [], ◌∷◌, ◌++◌, sym, ap, ◌∙◌}
use Rattle.std.proofs.lemmas.List.{map_push}
use Rattle.value_core.specs.Values.{Row}
use Rattle.relation_core.specs.Agreement.{part_of}
use Rattle.cell_boxes.specs.Rows.{PlainCellBox}
use Rattle.u_summarize.specs.Entries.{part_row}
use Rattle.u_summarize.proofs.entries.under_parts.Goals as goal

pub loop-row-preserved : goal.loop-row-preserved
loop-row-preserved c =
    let by = c.args.by.now in
    let x = c.in-Some.row in
    let done = c.loop-row.yielded in
    let key : c.in_ok-key.key ≡ part_of by x.0 = c.in_ok-key.ensures ∙ ap (λ (w : PlainCellBox Row). part_of by w.0) c.row.view_is in
    let part : PlainCellBox Row = (part_of by x.0, x.1) in
    record {
      can = tt;
      ends = tt;
      parts = c.in_ok-push.ensures.items ∙ ap (λ (y : PlainCellBox Row). c.loop-row.parts.items ++ y ∷ []) (λ i. (key i, (c.row.view_is i).1))
          ∙ ap (λ (ys : List (PlainCellBox Row)). ys ++ part ∷ []) c.loop-row.invariant.parts ∙ sym (map_push (part_row by) done x);
    }
