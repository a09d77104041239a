use Rattle.std.proofs.Common.{◌≡◌, length}
use Rattle.std.proofs.lemmas.List.Sorted.{All-permutation}
use Rattle.cell_sweep.proofs.MovedLemmas.{packed_moved}
use Rattle.cell_sweep.proofs.arranged.pack_arranged.Goals as goal

pub pack_rows-requires : goal.pack_rows-requires
pack_rows-requires g c = record {
  sides = All-permutation (λ x. length x.1 ≡ c.args.sides) c.args.rows.items c.arrange_unordered.new.items.items c.arrange_unordered.ensures c.requires.sides;
}

pub returns-clause-rows : goal.returns-clause-rows
returns-clause-rows g c = packed_moved c.args.sides c.args.rows.items c.arrange_unordered.new.items.items c.in_ok-packed.packed.items c.arrange_unordered.ensures c.in_ok-packed.ensures.rows
