use Rattle.std.proofs.Common.{length, map, sym, subst}
use Rattle.std.proofs.lemmas.Result.{err_from_is_err_and}
use Rattle.tree_core.specs.Items.{read_assignment, PlainAssignment}
use Rattle.tree_core.specs.Relvars.{read_relvars, read_entry}
use Rattle.tree_core.specs.Trees.{read_tree}
use Rattle.meaning_core.specs.WellMade.{IsTypedFor}
use Rattle.relvar_logs.specs.Changes.{Changes, AreChanges}
use Rattle.assign_core.specs.Insertions.{list_in}
use Rattle.assign_core.proofs.ChangeLemmas.{none_are}
use Rattle.assign_core.proofs.InsertionLemmas.{operand_typed, listed_if, fitting_told, stopped_told, cost_told, left_told, meant_told, headed_told}
use Rattle.assign_core.proofs.insertion.evaluate_operand.Goals as goal

pub source-requires-clause-typed : goal.source-requires-clause-typed
source-requires-clause-typed g c =
    let s = read_relvars c.args.relvars.now in
    let i = c.requires.insertion in
    let t = c.args.insertion.assignment.now in
    operand_typed s t.tree.place t.target i.nodes (list_in c.args.insertion) t.tree.heading (read_tree c.args.insertion.operand.now)
    (subst (λ (a : PlainAssignment). IsTypedFor s a.tree) i.is c.requires.typed.typed)

pub source-requires-clause-changes : goal.source-requires-clause-changes
source-requires-clause-changes g c =
    let raw = c.args.relvars.now.list.entries in
    subst (λ (cs : Changes). AreChanges cs (map read_entry raw)) (sym c.requires.none) (none_are raw)

pub returns-in_err-operand-clause-refused : goal.returns-in_err-operand-clause-refused
returns-in_err-operand-clause-refused g c =
    let raw = c.args.relvars.now.list.entries in
    let i = c.requires.insertion in
    let t = c.args.insertion.assignment.now in
    let p = err_from_is_err_and c.from_residual.result c.from_residual.ensures.1 in
    rw (p.1, p.2) (stopped_told (map read_entry raw) t.target c.base_at-at.result.0 c.base_at-at.result.1.now c.base_at-at.ensures.0 c.base_at-at.ensures.1 t.tree.place t.tree.heading i.nodes
    (read_tree c.args.insertion.operand.now) c.rows-rows.ensures.relation.few c.args.none.now (length raw) c.requires.none (list_in c.args.insertion) (read_assignment t) i.is
    c.in_err-operand.field-0.0 c.in_err-operand.ensures.value)

pub returns-in_err-operand-clause-cost : goal.returns-in_err-operand-clause-cost
returns-in_err-operand-clause-cost g c =
    let raw = c.args.relvars.now.list.entries in
    let i = c.requires.insertion in
    let t = c.args.insertion.assignment.now in
    cost_told (map read_entry raw) t.target c.base_at-at.result.0 c.base_at-at.result.1.now c.base_at-at.ensures.0 c.base_at-at.ensures.1 t.tree.place t.tree.heading i.nodes
    (read_tree c.args.insertion.operand.now) c.rows-rows.ensures.relation.few c.args.none.now (length raw) c.requires.none (list_in c.args.insertion) (read_assignment t) i.is
    c.args.steps.now c.source.new.steps c.source.ensures.cost

pub returns-clause-sum : goal.returns-clause-sum
returns-clause-sum g c =
    let raw = c.args.relvars.now.list.entries in
    let es = map read_entry raw in
    let i = c.requires.insertion in
    let t = c.args.insertion.assignment.now in
    let at = c.base_at-at.result.0 in
    let value = c.base_at-at.result.1.now in
    let operand = read_tree c.args.insertion.operand.now in
    let list = list_in c.args.insertion in
    let told = c.in_ok-operand.ensures.value in
    let few = c.rows-rows.ensures.relation.few in
    let first = c.base_at-at.ensures.1 in
    let fit = fitting_told es t.target at value c.base_at-at.ensures.0 first t.tree.place t.tree.heading i.nodes operand few c.args.none.now (length raw) c.requires.none list
    (read_assignment t) i.is (read_relvars c.args.relvars.now) c.requires.typed.typed c.requires.typed.headed in
    record {
      constraints = c.base_at-at.ensures.0;
      first = first;
      headed =
          headed_told es t.target at value c.base_at-at.ensures.0 first t.tree.place t.tree.heading i.nodes operand few c.args.none.now (length raw) c.requires.none list
          (read_assignment t) i.is c.in_ok-operand.operand fit told;
      relation = c.rows-rows.ensures.relation;
      listed = listed_if value.heading i.nodes list fit.listed;
      meant =
          meant_told es t.target at value c.base_at-at.ensures.0 first t.tree.place t.tree.heading i.nodes operand few c.args.none.now (length raw) c.requires.none list
          (read_assignment t) i.is c.in_ok-operand.operand c.rows-rows.ensures.relation.headed fit told;
    }

pub returns-clause-cost : goal.returns-clause-cost
returns-clause-cost g c =
    let raw = c.args.relvars.now.list.entries in
    let i = c.requires.insertion in
    let t = c.args.insertion.assignment.now in
    cost_told (map read_entry raw) t.target c.base_at-at.result.0 c.base_at-at.result.1.now c.base_at-at.ensures.0 c.base_at-at.ensures.1 t.tree.place t.tree.heading i.nodes
    (read_tree c.args.insertion.operand.now) c.rows-rows.ensures.relation.few c.args.none.now (length raw) c.requires.none (list_in c.args.insertion) (read_assignment t) i.is
    c.args.steps.now c.source.new.steps c.source.ensures.cost

pub returns-clause-left : goal.returns-clause-left
returns-clause-left g c =
    let raw = c.args.relvars.now.list.entries in
    let i = c.requires.insertion in
    let t = c.args.insertion.assignment.now in
    left_told (map read_entry raw) t.target c.base_at-at.result.0 c.base_at-at.result.1.now c.base_at-at.ensures.0 c.base_at-at.ensures.1 t.tree.place t.tree.heading i.nodes
    (read_tree c.args.insertion.operand.now) c.rows-rows.ensures.relation.few c.args.none.now (length raw) c.requires.none (list_in c.args.insertion) (read_assignment t) i.is
    c.in_ok-operand.operand c.args.steps.now c.source.new.steps c.in_ok-operand.ensures.value c.source.ensures.cost
