use Rattle.std.proofs.Common.{◌≡◌, ◌+ℤ◌, ◌-ℤ◌, pos, ◌∷◌, ◌++◌, map, w64, to_z, of_z, arith, ap, sym, ◌∙◌, to_z-of_z}
use Rattle.std.specs.List.{flat_map}
use Rattle.std.proofs.lemmas.Int.{ints}
use Rattle.interval_core.specs.Members.{members}
use Rattle.cell_core.proofs.GridPointLemmas.{no_members, one_more_number}
use Rattle.cell_core.proofs.grid_points.with_each.Goals as goal

pub loop-n-init : goal.loop-n-init
loop-n-init c =
    let b = c.args.span.0 in
    let r = c.type_inv.span in
    let e : to_z w64 (of_z w64 b) ≡ b = grind (arith, ints, to_z-of_z) in
    let h = c.requires in
    record {
      low = omega (arith, ints);
      high = omega (arith, ints);
      last = grind (arith, ints, to_z-of_z);
      items = c.new-out.ensures.items ∙ ap (flat_map (λ p. map (λ ps. p ∷ ps) c.args.rest.now)) (sym (no_members b)) ∙ ap (λ z. flat_map (λ p. map (λ ps. p ∷ ps) c.args.rest.now) (members (b, z -ℤ pos 1))) (sym e);
    }

pub loop-n-preserved : goal.loop-n-preserved
loop-n-preserved c =
    let b = c.args.span.0 in
    let r = c.type_inv.span in
    let n = to_z w64 c.loop-n.n-bits in
    let low = c.loop-n.invariant.low in
    let below = c.loop-n-test.true in
    let e : to_z w64 (of_z w64 (n +ℤ pos 1)) ≡ n +ℤ pos 1 = grind (arith, ints, to_z-of_z) in
    let back : n ≡ to_z w64 (of_z w64 (n +ℤ pos 1)) -ℤ pos 1 = omega (arith, ints) in
    record {
      low = omega (arith, ints);
      high = omega (arith, ints);
      last = c.loop-n.invariant.last;
      items = one_more_number (λ p. map (λ ps. p ∷ ps) c.args.rest.now) b n c.loop-n.out.items c.push_with.new.out.items low c.loop-n.invariant.items c.in_ok-push_with.ensures ∙ ap (λ z. flat_map (λ p. map (λ ps. p ∷ ps) c.args.rest.now) (members (b, z))) back;
    }

pub returns : goal.returns
returns c =
    let b = c.args.span.0 in
    let n = to_z w64 c.loop-n.n-bits in
    let low = c.loop-n.invariant.low in
    let high = c.loop-n.invariant.high in
    let stop = c.loop-n-test.false in
    let last = c.loop-n.invariant.last in
    let e : n ≡ c.args.span.1 = omega (arith, ints) in
    one_more_number (λ p. map (λ ps. p ∷ ps) c.args.rest.now) b c.args.span.1 c.loop-n.out.items c.push_with-2.new.out.items c.requires (c.loop-n.invariant.items ∙ ap (λ z. flat_map (λ p. map (λ ps. p ∷ ps) c.args.rest.now) (members (b, z -ℤ pos 1))) e) (c.in_ok-push_with-2.ensures ∙ ap (λ z. c.loop-n.out.items ++ map (λ ps. z ∷ ps) c.args.rest.now) last)
