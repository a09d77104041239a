use Rattle.std.proofs.Common.{◌≡◌, refl, sym, ap, subst}
use Rattle.std.specs.List.{IsDistinct}
use Rattle.std.specs.Str.{bytes_eq}
use Rattle.tree_core.specs.declared.relvar.Relvars.{Relvars}
use Rattle.tree_core.specs.Relvars.{Rules, read_relvars}
use Rattle.meaning_core.specs.Declarations.{without_rule}
use Rattle.assign_core.specs.Databases.{IsKept}
use Rattle.assign_core.proofs.NameLemmas.{rules_differ, names_of_rules}
use Rattle.assign_core.proofs.RuleLemmas.{without_rule_kept}
use Rattle.assign_core.proofs.StateLemmas.{rule_removed}
use Rattle.assign_core.proofs.StoredLemmas.{stored_same}
use Rattle.assign_core.proofs.database.Database.unconstrain.Goals as goal

left_is : (c : goal.After-drop) → read_relvars (record { list = c.self.inside.relvars.list; ordinals = c.self.inside.relvars.ordinals; rules = c.shift_remove.new.self; accepted = c.self.inside.relvars.accepted })
    ≡ without_rule c.args.name.now (read_relvars c.self.inside.relvars)
left_is c =
    let s = read_relvars c.self.inside.relvars in
    let rs = c.self.inside.relvars.rules.entries in
    let different = subst (IsDistinct bytes_eq) (names_of_rules rs) (rules_differ s c.self.invariant.0.well_made) in
    ap (λ (z : Rules). record { ordinals = s.ordinals; relvars = s.relvars; rules = z; accepted = s.accepted }) (rule_removed rs c.shift_remove.new.self.entries c.args.name.now different c.shift_remove.ensures.entries)

pub returns-clause-state : goal.returns-clause-state
returns-clause-state c =
    subst (λ (r : Relvars). read_relvars (record { list = c.self.inside.relvars.list; ordinals = c.self.inside.relvars.ordinals; rules = c.shift_remove.new.self; accepted = c.self.inside.relvars.accepted }) ≡ without_rule c.args.name.now (read_relvars r))
    c.self.view_is (left_is c)

pub invariant_of-self : goal.invariant_of-self
invariant_of-self c =
    (subst IsKept (sym (left_is c)) (without_rule_kept (read_relvars c.self.inside.relvars) c.args.name.now c.self.invariant.0), c.self.invariant.1, c.self.invariant.2, stored_same (read_relvars c.self.inside.relvars) _ c.self.inside.stored.items refl c.self.invariant.3)
