use Rattle.std.proofs.Common.{ℕ, List, length, ap, ◌∙◌, subst}
use Rattle.value_core.specs.Values.{row_cmp}
use Rattle.cell_boxes.specs.Rows.{Ascend}
use Rattle.u_summarize.specs.Entries.{Listed, numbered_row}
use Rattle.u_summarize.proofs.EntryLemmas.{in_turn}
use Rattle.u_summarize.proofs.entries.arranged.Goals as goal

pub returns-then-stand_in_order-clause-rows : goal.returns-then-stand_in_order-clause-rows
returns-then-stand_in_order-clause-rows c = in_turn c.args.rows.items c.args.numbers.items c.requires

pub returns-then-stand_in_order-clause-order : goal.returns-then-stand_in_order-clause-order
returns-then-stand_in_order-clause-order c = subst (Ascend row_cmp) c.as_slice.ensures.value (c.stand_in_order.ensures c.if-stand_in_order.true)

pub with_numbers-requires : goal.with_numbers-requires
with_numbers-requires c = ap length c.as_slice-2.ensures.value ∙ c.requires

pub returns-clause-rows : goal.returns-clause-rows
returns-clause-rows c = record {
  entries = c.in_ok-list.list.items;
  listed = subst (λ (ns : List ℕ). Listed (numbered_row c.args.rows.items ns) (length c.args.rows.items) c.in_ok-list.list.items) c.as_slice-2.ensures.value c.in_ok-list.ensures;
  paired = c.in_ok-keys.ensures.paired;
}
