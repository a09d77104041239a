use Rattle.std.proofs.Common.{map, option_map}
use Rattle.tree_core.specs.Relvars.{read_entry}
use Rattle.tree_core.specs.Trees.{read_tree}
use Rattle.meaning_core.specs.WellMade.{sizes_of, headings_of}
use Rattle.relvar_logs.specs.Changes.{changed}
use Rattle.stored_views.proofs.MadeLemmas.{made_fits, rows_told, made_cost_told}
use Rattle.stored_views.proofs.MeantLemmas.{rule_means}
use Rattle.stored_views.proofs.OperandLemmas.{stored_operands, stored_rule}
use Rattle.stored_views.proofs.rows.rows_after.Goals as goal

pub rule_of-requires : goal.rule_of-requires
rule_of-requires g c =
    let es = map read_entry c.args.relvars.now.list.entries in
    stored_rule (sizes_of c.args.relvars.now.ordinals) es (read_tree c.args.tree.now) c.requires.stored.0 c.requires.stored.1

pub operands-requires-clause-operands : goal.operands-requires-clause-operands
operands-requires-clause-operands g c =
    let es = map read_entry c.args.relvars.now.list.entries in
    stored_operands (sizes_of c.args.relvars.now.ordinals) es (read_tree c.args.tree.now) c.requires.stored.0 c.requires.stored.1

pub made-requires : goal.made-requires
made-requires g c =
    let es = map read_entry c.args.relvars.now.list.entries in
    let all = changed c.args.changes.now es in
    let t = read_tree c.args.tree.now in
    let left = c.operands.result.0.now in
    let right = option_map (λ r. r.now) c.operands.result.1 in
    let is = rule_means (sizes_of c.args.relvars.now.ordinals) (headings_of es) all t left right c.operands.ensures.left c.operands.ensures.right c.requires.stored.0 c.operands.ensures.values in
    made_fits all t left right c.in_ok-rule.rule c.in_ok-rule.ensures is

pub returns-clause-rows : goal.returns-clause-rows
returns-clause-rows g c =
    let es = map read_entry c.args.relvars.now.list.entries in
    let all = changed c.args.changes.now es in
    let t = read_tree c.args.tree.now in
    let left = c.operands.result.0.now in
    let right = option_map (λ r. r.now) c.operands.result.1 in
    let is = rule_means (sizes_of c.args.relvars.now.ordinals) (headings_of es) all t left right c.operands.ensures.left c.operands.ensures.right c.requires.stored.0 c.operands.ensures.values in
    rows_told all t left right c.in_ok-rule.rule c.in_ok-rule.ensures c.made.result is c.made.ensures.rows

pub returns-clause-cost : goal.returns-clause-cost
returns-clause-cost g c =
    let es = map read_entry c.args.relvars.now.list.entries in
    let all = changed c.args.changes.now es in
    let t = read_tree c.args.tree.now in
    let left = c.operands.result.0.now in
    let right = option_map (λ r. r.now) c.operands.result.1 in
    made_cost_told all t left right c.in_ok-rule.rule c.in_ok-rule.ensures c.args.steps.now c.made.new.steps c.operands.ensures.values c.made.ensures.cost
