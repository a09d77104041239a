use Rattle.std.proofs.Common.{◌<◌, ◌≤◌, false, [], length, ◌∙◌, arith, refl, sym, subst, Err, Option}
use Rattle.std.proofs.lemmas.Result.{err_from_is_err_and}
use Rattle.point_core.specs.declared.fault.Place.{Place}
use Rattle.value_core.specs.declared.refuse.Refuse.{Refuse}
use Rattle.value_core.specs.Values.{Name}
use Rattle.tree_core.specs.Relvars.{read_relvars}
use Rattle.tree_core.specs.Trees.{Test, literal, is_empty}
use Rattle.assign_core.specs.Changes.{Tells}
use Rattle.assign_core.proofs.LeaningLemmas.{told_length, other_holds, read_length}
use Rattle.assign_core.proofs.RuleLemmas.{first_kept, first_here, all_kept, cost_kept, cost_here}
use Rattle.assign_core.proofs.rules.check_rules.Goals as goal

start : Place
start = record { line = 0; column = 0 }

none : Name × Test
none = ([], is_empty start (literal start [] []))

pub check_rule_at-requires-clause-within : goal.check_rule_at-requires-clause-within
check_rule_at-requires-clause-within g c =
    let s = read_relvars c.args.relvars.now in
    let long = told_length s.relvars c.args.told.now s.rules c.requires.others in
    let raw = read_length c.args.relvars.now.rules.entries in
    let at : c.loop-at.at < length c.args.told.now = omega arith in
    omega (arith, long, raw, at)

pub check_rule_at-requires-clause-holds : goal.check_rule_at-requires-clause-holds
check_rule_at-requires-clause-holds g c d e =
    let s = read_relvars c.args.relvars.now in
    let at : c.loop-at.at < length c.args.told.now = omega arith in
    other_holds s.relvars c.args.told.now s.rules c.loop-at.at false d c.requires.others at (sym e) refl

pub returns-in_err-check_rule_at-clause-told : goal.returns-in_err-check_rule_at-clause-told
returns-in_err-check_rule_at-clause-told g c =
    let s = read_relvars c.args.relvars.now in
    let long = told_length s.relvars c.args.told.now s.rules c.requires.others in
    let at : c.loop-at.at < length c.args.told.now = omega arith in
    let within : c.loop-at.at < length s.rules = omega (arith, long, at) in
    let refuse = c.in_err-check_rule_at.field-0.0 in
    let told = first_here s.relvars refuse s.rules c.loop-at.at none within (c.in_err-check_rule_at.ensures.told none) in
    let p = err_from_is_err_and c.from_residual.result c.from_residual.ensures.1 in
    rw (p.1, p.2) (subst (λ (o : Option Refuse). Tells (Err refuse) o) c.loop-at.invariant.told told)

pub returns-in_err-check_rule_at-clause-cost : goal.returns-in_err-check_rule_at-clause-cost
returns-in_err-check_rule_at-clause-cost g c =
    let s = read_relvars c.args.relvars.now in
    let long = told_length s.relvars c.args.told.now s.rules c.requires.others in
    let at : c.loop-at.at < length c.args.told.now = omega arith in
    let within : c.loop-at.at < length s.rules = omega (arith, long, at) in
    let one = c.check_rule_at.ensures.cost none in
    let left = cost_here s.relvars s.rules c.loop-at.at none within in
    let so_far = c.loop-at.invariant.cost in
    omega (arith, one, left, so_far)

pub loop-at-preserved : goal.loop-at-preserved
loop-at-preserved g c =
    let s = read_relvars c.args.relvars.now in
    let long = told_length s.relvars c.args.told.now s.rules c.requires.others in
    let at : c.loop-at.at < length c.args.told.now = omega arith in
    let within : c.loop-at.at < length s.rules = omega (arith, long, at) in
    let holds = c.in_ok-check_rule_at.ensures.told none in
    record {
      told = sym (first_kept s.relvars s.rules c.loop-at.at none within holds) ∙ c.loop-at.invariant.told;
      cost =
          let one = c.check_rule_at.ensures.cost none in
          let left = cost_kept s.relvars s.rules c.loop-at.at none within holds in
          let so_far = c.loop-at.invariant.cost in
          omega (arith, one, left, so_far);
    }

pub returns-clause-told : goal.returns-clause-told
returns-clause-told g c =
    let s = read_relvars c.args.relvars.now in
    let long = told_length s.relvars c.args.told.now s.rules c.requires.others in
    let end : length c.args.told.now ≤ c.loop-at.at = omega arith in
    sym c.loop-at.invariant.told ∙ all_kept s.relvars s.rules c.loop-at.at (omega (arith, long, end))
