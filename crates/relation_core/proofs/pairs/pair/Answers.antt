use Rattle.std.proofs.Common.{◌≡◌, ◌<◌, ◌++◌, length, get_or, ap, sym, subst, arith}
use Rattle.std.proofs.lemmas.List.{length-map, length-append}
use Rattle.value_core.specs.Plain.{plain}
use Rattle.value_core.specs.Values.{Row}
use Rattle.value_core.specs.declared.value.Value.{Value}
use Rattle.relation_core.proofs.PairLemmas.{pair_more}
use Rattle.relation_core.proofs.pairs.pair.Goals as goal

pub loop-place-preserved : goal.loop-place-preserved
loop-place-preserved c =
    let i = c.loop-place.place-index in
    let lt : c.loop-place.place-index < length c.args.places.now = omega arith in
    let ours = c.values-ours.result.now in
    let theirs = c.values-theirs.result.now in
    let size = ap (λ (r : Row). length r) c.values-ours.ensures in
    let other = ap (λ (r : Row). length r) c.values-theirs.ensures in
    let a = length-map ours plain in
    let b = length-map theirs plain in
    let both = length-append ours theirs in
    let below = c.requires i 0 lt in
    let within : get_or c.args.places.now c.loop-place.place-index 0 < length (c.values-ours.result.now ++ c.values-theirs.result.now) = omega (arith, size, other, a, b, both, below) in
    let is = subst (λ (z : Value). z ≡ get_or (c.values-ours.result.now ++ c.values-theirs.result.now) (get_or c.args.places.now c.loop-place.place-index 0) z) (sym c.in_ok-copy.ensures)
    (c.value_at.ensures c.value_at.result.now) in
    pair_more ours theirs c.args.x.now c.args.y.now c.args.places.now i c.loop-place.values.items _ c.in_ok-copy.field-0 c.values-ours.ensures c.values-theirs.ensures lt within is c.loop-place.invariant
    c.in_ok-push.ensures.items
