use Rattle.std.proofs.Common.{◌≡◌, ◌≤◌, ◌+◌, List, length, option_map, sym, ap, subst, arith}
use Rattle.std.proofs.lemmas.Bool.Decides.{nat_tests}
use Rattle.value_core.specs.Values.{Heading, Row, most_rows}
use Rattle.meaning_core.specs.Typing.{IsListIf}
use Rattle.assign_core.specs.declared.new_rows.Coming.{Coming}
use Rattle.assign_core.specs.Arrivals.{way_of}
use Rattle.assign_core.specs.NewRows.{rows_then, IsListFor}
use Rattle.assign_core.proofs.RoomLemmas.{room_for}
use Rattle.assign_core.proofs.new_rows.has_room.Goals as goal

pub returns-then-is_one_at_most-clause-room : goal.returns-then-is_one_at_most-clause-room
returns-then-is_one_at_most-clause-room c = λ told headed listed.
    let value = c.args.value.now in
    let rows = c.args.rows.now in
    let list = option_map (λ l. l.now) c.in-Insert.commalist in
    let here : length c.rows.result.now ≡ length value.rows = ap (λ (r : List Row). length r) c.rows.ensures.rows in
    let there : length c.rows-2.result.now ≡ length rows.rows = ap (λ (r : List Row). length r) c.rows-2.ensures.rows in
    let both : length c.rows.result.now + length c.rows-2.result.now ≤ most_rows = grind (arith, nat_tests, told) in
    let is_list : IsListIf value.heading list = subst (λ (h : Heading). IsListIf h list) headed (subst (λ (w : Coming). IsListFor rows.heading (way_of w)) c.in-Insert.is listed) in
    subst (λ (w : Coming). length (rows_then (way_of w) value.rows rows.rows) ≤ most_rows) (sym c.in-Insert.is)
    (room_for value rows c.rows.ensures.relation c.rows-2.ensures.relation (sym headed) list (c.is_one_at_most.ensures c.if-is_one_at_most.true) is_list (omega (arith, here, there, both)))
