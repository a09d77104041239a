use Rattle.std.proofs.Common.{◌∙◌, Err, List, Ok, map, subst}
use Rattle.std.proofs.lemmas.Result.{err_from_is_err_and}
use Rattle.tree_core.specs.Items.{read_item}
use Rattle.tree_core.specs.declared.item.Item.{Item}
use Rattle.tree_core.specs.Relvars.{read_relvars}
use Rattle.assign_core.specs.Assignments.{assigned_in}
use Rattle.assign_core.specs.Items.{assignments_of}
use Rattle.utd_statement.specs.Answers.{unless_refused}
use Rattle.utd_statement.specs.Replies.{IsPerformed}
use Rattle.utd_statement.proofs.ChangingLemmas.{assigned_text, assigned_refused}
use Rattle.utd_statement.proofs.changing.assigned.Goals as goal

pub returns-in_err-perform-clause-performed : goal.returns-in_err-perform-clause-performed
returns-in_err-perform-clause-performed g c =
    let old = read_relvars c.args.database.now in
    let new = read_relvars c.perform.new.self in
    let refuse = c.in_err-perform.field-0.0 in
    let told = c.in_err-perform.ensures.performed in
    let p = err_from_is_err_and c.from_residual.result c.from_residual.ensures.1 in
    let refused = assigned_refused old told.0 new (assignments_of old.relvars (map read_item c.as_slice.result.now)) refuse told.1 told.2 in
    rw (p.1, p.2) (subst (λ (items : List Item). IsPerformed (Err refuse) old new (unless_refused old (assigned_in old (assignments_of old.relvars (map read_item items))))) (c.as_slice.ensures.value ∙ c.items.view_is) refused)

pub returns-clause-performed : goal.returns-clause-performed
returns-clause-performed g c =
    let old = read_relvars c.args.database.now in
    let new = read_relvars c.perform.new.self in
    let told = c.in_ok-perform.ensures.performed in
    let text = c.new.result in
    let done = assigned_text old told.0 new (assignments_of old.relvars (map read_item c.as_slice.result.now)) text c.new.ensures.items told.1 told.2 in
    subst (λ (items : List Item). IsPerformed (Ok text) old new (unless_refused old (assigned_in old (assignments_of old.relvars (map read_item items))))) (c.as_slice.ensures.value ∙ c.items.view_is) done
