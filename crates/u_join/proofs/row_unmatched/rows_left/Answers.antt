use Rattle.std.proofs.Common.{List, map, length, sym, subst, ap, ◌∙◌}
use Rattle.u_row.proofs.LabelLemmas.{map_twice}
use Rattle.u_join.specs.declared.standing.Standing.{Standing}
use Rattle.u_join.specs.RowPairs.{seen, Ascend, HaveOrder}
use Rattle.u_join.specs.Rests.{AreRuns, rest_row}
use Rattle.u_join.proofs.LeftRowLemmas.{all_of_type, rests_moved}
use Rattle.u_join.proofs.row_unmatched.rows_left.Goals as goal

pub rests_of-requires-clause-rights : goal.rests_of-requires-clause-rights
rests_of-requires-clause-rights c = subst (λ (xs : List Standing). HaveOrder seen xs) (sym c.as_slice.ensures.value) c.in_ok-runs.ensures.intervals

pub rests_of-requires-clause-right : goal.rests_of-requires-clause-right
rests_of-requires-clause-right c = subst (λ (xs : List Standing). Ascend seen xs) (sym c.as_slice.ensures.value) c.in_ok-runs.ensures.order

pub of_rests-requires : goal.of_rests-requires
of_rests-requires c =
    all_of_type seen c.args.point_type c.args.at c.args.left.now c.as_slice.result.now (length c.args.left.now) c.in_ok-parts.parts.items c.as_slice-2.result.now c.as_slice-2.ensures.value
    c.in_ok-parts.ensures c.requires.of_type

pub returns : goal.returns
returns c =
    let left = c.args.left.now in
    let right = c.args.right.now in
    let runs = subst (λ (xs : List Standing). AreRuns seen right xs) (sym c.as_slice.ensures.value) c.in_ok-runs.ensures in
    let parts = c.in_ok-parts.parts.items in (
      map seen parts,
      rests_moved seen right c.as_slice.result.now runs left (length left) (map seen parts) c.in_ok-parts.ensures,
      c.in_ok-rows.ensures
          ∙ ap (map (λ (z : Standing). rest_row c.args.point_type c.args.at (seen z))) c.as_slice-2.ensures.value
          ∙ sym (map_twice (rest_row c.args.point_type c.args.at) seen parts),
    )
