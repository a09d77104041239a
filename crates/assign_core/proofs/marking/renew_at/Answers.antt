use Rattle.std.proofs.Common.{◌≡◌, ◌<◌, ◌≤◌, length, refl, arith}
use Rattle.assign_core.proofs.PlaceLemmas.{turned_left, turned_right}
use Rattle.assign_core.proofs.marking.renew_at.Goals as goal

pub returns-then-from-to-clause-rows : goal.returns-then-from-to-clause-rows
returns-then-from-to-clause-rows c =
    let rows = c.args.rows.now.items in
    let long : c.args.rows.now.len ≡ length rows = omega arith in
    let within : c.args.places.to < length rows = omega (arith, c.requires.to) in
    turned_left rows _ c.slice_mut.result.now c.rotate_left.new.self c.args.places.from c.args.places.to c.args.rows.now.len c.args.row c.if-from-to.true within refl
    c.slice_mut.ensures.value c.rotate_left.ensures.after long

pub returns-else-from-to-clause-rows : goal.returns-else-from-to-clause-rows
returns-else-from-to-clause-rows c =
    let rows = c.args.rows.now.items in
    let long : c.args.rows.now.len ≡ length rows = omega arith in
    let within : c.args.places.from < length rows = omega (arith, c.requires.from) in
    let behind : c.args.places.to ≤ c.args.places.from = omega (arith, c.if-from-to.false) in
    turned_right rows _ c.slice_mut-else-from-to.result.now c.rotate_right.new.self c.args.places.from c.args.places.to c.args.rows.now.len c.args.row behind within refl
    c.slice_mut-else-from-to.ensures.value c.rotate_right.ensures.after long
