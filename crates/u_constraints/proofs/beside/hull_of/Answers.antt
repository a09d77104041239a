use Rattle.std.proofs.Common.{◌≡◌, ◌≤◌, ℤ, rules, length, List, arith, sym, ap₂, ◌∙◌, subst, take, ◌+◌}
use Rattle.std.specs.Int.{w64, int_min, int_max}
use Rattle.std.specs.List.{All}
use Rattle.std.proofs.lemmas.Int.{to_z-of_z}
use Rattle.std.proofs.lemmas.List.{take_all}
use Rattle.value_core.specs.Values.{Row}
use Rattle.interval_core.specs.Members.{Span}
use Rattle.u_set.specs.Apart.{HasInterval}
use Rattle.u_constraints.specs.Beside.{LiesWithin}
use Rattle.u_constraints.proofs.HullLemmas.{hull_more}
use mir.Val.{SFits}
use Rattle.u_constraints.proofs.beside.hull_of.Goals as goal

pub ends_at-begin-requires : goal.ends_at-begin-requires
ends_at-begin-requires c = subst (λ (x : Row). HasInterval c.args.at x) (sym c.row-item.is) (c.requires c.loop-row.row-index c.row-item.result c.loop-row-test.true)

pub loop-row-preserved : goal.loop-row-preserved
loop-row-preserved c =
    let hull : Span = c.loop-row.hull in
    let ends : Span = c.ends_at-begin.result in
    let low : ℤ = c.min.result in
    let high : ℤ = c.max.result in
    let low_fits : SFits w64 low = search rules in
    let high_fits : SFits w64 high = search rules in
    let first : SFits w64 hull.0 = search rules in
    let last : SFits w64 hull.1 = search rules in
    let begin : SFits w64 ends.0 = search rules in
    let end : SFits w64 ends.1 = search rules in
    let least : low ≡ int_min hull.0 ends.0 = c.min.ensures.value ∙ ap₂ int_min (to_z-of_z w64 hull.0 first) (to_z-of_z w64 ends.0 begin) in
    let greatest : high ≡ int_max hull.1 ends.1 = c.max.ensures.value ∙ ap₂ int_max (to_z-of_z w64 hull.1 last) (to_z-of_z w64 ends.1 end) in
    subst (λ (h : Span). All (LiesWithin c.args.at h) (take (c.loop-row.row-index + 1) c.args.rows.now)) (λ t. (sym (to_z-of_z w64 low low_fits) t, sym (to_z-of_z w64 high high_fits) t))
    (hull_more c.args.at c.args.rows.now c.loop-row.row-index c.row-item.result hull ends low high c.row-item.is c.loop-row-test.true c.loop-row.invariant c.ends_at-begin.ensures least greatest)

pub returns : goal.returns
returns c =
    let h = c.loop-row-test.false in
    let l : length c.args.rows.now ≤ c.loop-row.row-index = omega arith in
    subst (λ (zs : List Row). All (LiesWithin c.args.at c.loop-row.hull) zs) (take_all c.loop-row.row-index c.args.rows.now l) c.loop-row.invariant
