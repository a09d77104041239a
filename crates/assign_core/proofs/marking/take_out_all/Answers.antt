use Rattle.std.proofs.Common.{List, [], ◌∷◌, take, sym, ap, subst, ◌∙◌}
use Rattle.std.specs.List.Sorted.{IsStrictlySortedBy}
use Rattle.value_core.specs.Values.{Row, row_cmp}
use Rattle.relation_core.specs.Operators.{subtracted}
use Rattle.u_constraints.proofs.GrowthLemmas.{all_left}
use Rattle.row_removal.proofs.RemovalLemmas.{taken_turn, sorted_taken, one_more}
use Rattle.assign_core.proofs.marking.take_out_all.Goals as goal

pub loop-row-init : goal.loop-row-init
loop-row-init g c = record {
  rows = all_left c.args.rows.now.items;
  hashes = c.requires.1;
}

pub take_out_one-requires : goal.take_out_one-requires
take_out_one-requires g c =
    let ascending = subst (λ (r : List Row). IsStrictlySortedBy row_cmp r) (sym c.loop-row.invariant.rows) (sorted_taken c.args.rows.now.items (take c.loop-row.row-index c.args.gone.now) c.requires.0) in
    (ascending, c.loop-row.invariant.hashes)

pub loop-row-preserved : goal.loop-row-preserved
loop-row-preserved g c =
    let rows = c.args.rows.now.items in
    let gone = c.args.gone.now in
    let i = c.loop-row.row-index in
    let row = c.row-item.result in
    record {
      rows = c.take_out_one.ensures.rows
          ∙ (ap (λ (rs : List Row). subtracted rs (row ∷ [])) c.loop-row.invariant.rows
          ∙ (taken_turn rows (take i gone) row c.requires.0
          ∙ ap (subtracted rows) (one_more gone i row c.loop-row-test.true c.row-item.is)));
      hashes = c.take_out_one.ensures.hashes;
    }
