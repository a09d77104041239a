use Rattle.std.proofs.Common.{◌≡◌, List, length, drop, sym, ap, subst, ◌∙◌, arith}
use Rattle.std.specs.List.Sorted.{IsStrictlySortedBy}
use Rattle.std.specs.Vec.{vec_len, vec_capacity}
use Rattle.value_core.specs.Values.{Row, row_cmp}
use Rattle.value_core.proofs.PlacingLemmas.{sorted_union}
use Rattle.assign_core.specs.Exchanges.{HasRoom}
use Rattle.assign_core.proofs.HashedLemmas.{rows_long}
use Rattle.assign_core.proofs.HeldLemmas.{held_relation, many_in}
use Rattle.assign_core.proofs.room.let_many_in.Goals as goal

pub put_many-requires : goal.put_many-requires
put_many-requires g c =
    let h = c.args.held in
    let k = c.requires.1 in
    let come = c.take_rows-come.result in
    let items : length c.args.rows.now.come.rows ≡ length come.items = ap (λ (rs : List Row). length rs) (sym c.take_rows-come.ensures.rows) in
    let same : length c.args.rows.now.come.rows ≡ vec_len come = omega (arith, items) in (
      k.relation.ascending,
      (
        subst (λ (rs : List Row). IsStrictlySortedBy row_cmp rs) (sym c.take_rows-come.ensures.rows) c.take_rows-come.ensures.relation.ascending,
        (
          rows_long c.args.rows.now.come come.items g.heading c.take_rows-come.ensures.relation c.take_rows-come.ensures.rows (k.headed ∙ c.requires.0),
          subst (λ n. HasRoom h.empty (vec_len h.rows) (vec_capacity h.rows) n) same k.room,
        ),
      ),
    )

pub take_out-requires-clause-rows : goal.take_out-requires-clause-rows
take_out-requires-clause-rows g c =
    let h = c.args.held in
    subst (λ (rs : List Row). IsStrictlySortedBy row_cmp rs) (sym c.put_many.ensures) (sorted_union (drop h.empty h.rows.items) c.take_rows-come.result.items)

pub set_rows-requires : goal.set_rows-requires
set_rows-requires g c =
    held_relation c.args.value.now c.args.held c.args.rows.now c.take_out.new.rows.items c.requires.1 c.take_rows-come.ensures.relation
    (many_in c.args.held c.args.rows.now c.take_rows-come.result.items c.rows.result.now c.put_many.new.rows.items c.take_out.new.rows.items c.put_many.ensures
    c.take_rows-come.ensures.rows c.rows.ensures.rows c.take_out.ensures)
