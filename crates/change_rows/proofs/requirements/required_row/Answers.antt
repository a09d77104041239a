use Rattle.std.proofs.Common.{◌≡◌, ◌<◌, length, get_or, arith, Option, option_map, Some, sym, ap, ◌∙◌}
use Rattle.value_core.specs.declared.value.Value.{Value}
use Rattle.value_core.specs.Plain.{plain}
use Rattle.scalar_core.specs.Expressions.{read}
use Rattle.change_rows.specs.Requirements.{required}
use Rattle.change_rows.proofs.RequirementLemmas.{required_more}
use Rattle.change_rows.proofs.requirements.required_row.Goals as goal

pub loop-position-preserved : goal.loop-position-preserved
loop-position-preserved c =
    let lt : c.loop-position.position-index < length c.args.positions.now = omega arith in
    let told : Some (plain c.in-Some.value) ≡ required (get_or c.args.positions.now c.loop-position.position-index 0) (read c.args.g.now) =
    ap (λ (o : Option Value). option_map plain o) (sym c.in-Some.is) ∙ c.in_ok-value.ensures in
    required_more (read c.args.g.now) c.args.positions.now c.loop-position.position-index c.in-Some.value c.loop-position.values.items c.push.new.self.items lt told c.loop-position.invariant
    c.in_ok-push-in-Some.ensures.items
