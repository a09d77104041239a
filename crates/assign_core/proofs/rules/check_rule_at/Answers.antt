use Rattle.std.proofs.Common.{◌≤◌, ◌+◌, [], ◌∷◌, subst, sym, arith}
use Rattle.point_core.specs.declared.fault.Place.{Place}
use Rattle.value_core.specs.Values.{Name}
use Rattle.tree_core.specs.Relvars.{read_relvars}
use Rattle.tree_core.specs.Trees.{Test, literal, is_empty}
use Rattle.meaning_core.specs.WellMade.{IsTypedTestFor}
use Rattle.algebra_core.specs.Costs.{test_cost}
use Rattle.assign_core.specs.Breaches.{first_rule_broken}
use Rattle.assign_core.specs.Changes.{Tells}
use Rattle.assign_core.proofs.LeaningLemmas.{rule_entry, read_length}
use Rattle.assign_core.proofs.rules.check_rule_at.Goals as goal

start : Place
start = record { line = 0; column = 0 }

none : Name × Test
none = ([], is_empty start (literal start [] []))

pub check_rule-requires-clause-typed : goal.check_rule-requires-clause-typed
check_rule-requires-clause-typed g c =
    let s = read_relvars c.args.relvars.now in
    let raw = c.args.relvars.now.rules.entries in
    let here = rule_entry raw c.args.at c.in-Some.name.now c.in-Some.test.now none (sym c.in-Some.ensures.entry) in
    let long = read_length raw in
    let at = c.requires.within in
    subst (λ (r : Name × Test). IsTypedTestFor s r.1) here (c.requires.well_made.rules c.args.at none (omega (arith, long, at)))

pub returns-in-Some-clause-told : goal.returns-in-Some-clause-told
returns-in-Some-clause-told g c d =
    let s = read_relvars c.args.relvars.now in
    let here = rule_entry c.args.relvars.now.rules.entries c.args.at c.in-Some.name.now c.in-Some.test.now d (sym c.in-Some.ensures.entry) in
    subst (λ (r : Name × Test). Tells c.check_rule.result (first_rule_broken s.relvars (r ∷ []))) (sym here) c.check_rule.ensures.told

pub returns-in-Some-clause-cost : goal.returns-in-Some-clause-cost
returns-in-Some-clause-cost g c d =
    let s = read_relvars c.args.relvars.now in
    let here = rule_entry c.args.relvars.now.rules.entries c.args.at c.in-Some.name.now c.in-Some.test.now d (sym c.in-Some.ensures.entry) in
    subst (λ (r : Name × Test). c.check_rule.new.steps ≤ c.args.steps.now + test_cost s.relvars r.1) (sym here) c.check_rule.ensures.cost
