use Rattle.std.proofs.Common.{◌≡◌, map, sym, subst}
use Rattle.tree_core.specs.declared.relvar.Relvars.{Relvars}
use Rattle.tree_core.specs.Relvars.{Entries, read_entry, read_relvars}
use Rattle.tree_core.specs.Trees.{read_test}
use Rattle.meaning_core.specs.Declarations.{with_rule}
use Rattle.meaning_core.specs.WellMade.{IsWellMade}
use Rattle.assign_core.specs.Assignments.{constrained, IsDone}
use Rattle.assign_core.specs.Hashed.{AreHashed}
use Rattle.assign_core.proofs.RuleLemmas.{added_kept}
use Rattle.assign_core.proofs.StepLemmas.{added_step}
use Rattle.assign_core.proofs.StoredLemmas.{stored_same}
use Rattle.assign_core.proofs.database.Database.constrain.Goals as goal

pub add_rule-requires-clause-more : goal.add_rule-requires-clause-more
add_rule-requires-clause-more g c =
    subst (λ (r : Relvars). IsWellMade (with_rule c.args.name (read_test c.args.test) (read_relvars r))) (sym c.self.view_is) c.requires.well_made

pub returns-clause-done : goal.returns-clause-done
returns-clause-done g c =
    subst (λ (r : Relvars). IsDone c.add_rule.result (read_relvars r) (read_relvars c.add_rule.new.relvars) (constrained (read_relvars r) c.args.name (read_test c.args.test))) c.self.view_is
    c.add_rule.ensures.done

pub invariant_of-self : goal.invariant_of-self
invariant_of-self g c =
    let s = read_relvars c.self.inside.relvars in
    let made = subst (λ (r : Relvars). IsWellMade (with_rule c.args.name (read_test c.args.test) (read_relvars r))) (sym c.self.view_is) c.requires.well_made in
    let same : map read_entry c.self.inside.relvars.list.entries ≡ map read_entry c.add_rule.new.relvars.list.entries = λ i. map read_entry (sym c.add_rule.ensures.list i).entries in (
      added_kept c.add_rule.result s (read_relvars c.add_rule.new.relvars) c.args.name (read_test c.args.test) c.self.invariant.0 made c.add_rule.ensures.done,
      subst (λ (es : Entries). AreHashed c.self.inside.hashed es) same c.self.invariant.1,
      added_step c.add_rule.result s (read_relvars c.add_rule.new.relvars) c.args.name (read_test c.args.test) c.add_rule.ensures.done c.self.invariant.2,
      stored_same s (read_relvars c.add_rule.new.relvars) c.self.inside.stored.items (sym same) c.self.invariant.3,
    )
