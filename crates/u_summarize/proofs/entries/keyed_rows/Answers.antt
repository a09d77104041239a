use Rattle.std.proofs.Common.{List, map, length, sym, ap, ◌∙◌, subst}
use Rattle.std.proofs.lemmas.List.{length-map}
use Rattle.value_core.specs.Values.{Row}
use Rattle.cell_boxes.specs.Rows.{PlainCellBox}
use Rattle.u_summarize.specs.Entries.{Listed, part_row, numbered_row}
use Rattle.u_summarize.proofs.EntryLemmas.{keyed}
use Rattle.u_summarize.proofs.entries.keyed_rows.Goals as goal

pub arranged-requires : goal.arranged-requires
arranged-requires c =
    c.in_ok-parts.ensures.numbers.count ∙ sym (length-map c.args.rows.items (part_row c.args.by.now)) ∙ sym (ap length c.in_ok-parts.ensures.parts)

pub returns-clause-rows : goal.returns-clause-rows
returns-clause-rows c =
    let rows = c.args.rows.items in
    let by = c.args.by.now in
    let numbers = c.in_ok-parts.numbers.items in
    let own = c.in_ok-keys.ensures.rows in
    let made : Listed (numbered_row (map (part_row by) rows) numbers) (length (map (part_row by) rows)) own.entries =
    subst (λ (xs : List (PlainCellBox Row)). Listed (numbered_row xs numbers) (length xs) own.entries) c.in_ok-parts.ensures.parts own.listed in
    record {
      entries = own.entries;
      keyed = keyed rows numbers c.in_ok-parts.ensures.numbers by own.entries made;
      paired = own.paired;
    }
