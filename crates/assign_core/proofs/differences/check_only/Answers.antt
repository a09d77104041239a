use Rattle.std.proofs.Common.{◌≡◌, ◌≤◌, ◌+◌, ◌∙◌, length, map, subst, sym, replicate, None}
use Rattle.tree_core.specs.Relvars.{Entries, read_entry, read_relvars}
use Rattle.assign_core.specs.Breaches.{first_broken}
use Rattle.relvar_logs.specs.Changes.{Changes}
use Rattle.assign_core.specs.Changes.{Tells}
use Rattle.assign_core.specs.Checks.{before, AllChecked}
use Rattle.assign_core.specs.Costs.{looked_at_all}
use Rattle.assign_core.specs.Turnovers.{after_turnover, before_turnover, IsKnown, IsMade, IsTurnover}
use Rattle.assign_core.specs.declared.turnover.Turnover.{Turnover}
use Rattle.assign_core.proofs.AssignedLemmas.{kept_checked}
use Rattle.assign_core.proofs.ChangeLemmas.{none_are, none_changed}
use Rattle.assign_core.proofs.DifferenceLemmas.{changed_only, first_placed, headed_placed}
use Rattle.assign_core.proofs.NameLemmas.{relvars_differ}
use Rattle.std.specs.List.{All}
use Rattle.std.proofs.lemmas.List.Elements.{All-nil}
use Rattle.relation_core.specs.Hashes.{AreHashesOf}
use Rattle.assign_core.proofs.differences.check_only.Goals as goal

pub difference-requires : goal.difference-requires
difference-requires g c =
    let o = c.args.only in
    headed_placed c.args.new.changes.now (before c.args.new) o.at o c.requires.only.constraints c.requires.changes c.requires.only.placed

pub check-requires-clause-checked : goal.check-requires-clause-checked
check-requires-clause-checked g c = kept_checked (read_relvars c.args.new.relvars.now) c.args.new.changes.now c.requires.kept c.requires.changes

pub check_turnover-requires-clause-turnover : goal.check_turnover-requires-clause-turnover
check_turnover-requires-clause-turnover g c =
    let o = c.args.only in
    let k = c.requires.only in
    let different = relvars_differ (read_relvars c.args.new.relvars.now) c.requires.kept.well_made in
    let d = c.in_ok-rows.ensures in
    subst IsTurnover (sym c.turnover_of-turnover.ensures)
    (record {
      constraints = k.constraints;
      first = first_placed c.args.new.changes.now (before c.args.new) o.at o k.constraints different k.placed;
      come = d.come;
      gone = d.gone;
      few = c.is_small.ensures c.if-not-is_small.false;
    })

pub check_turnover-requires-clause-made : goal.check_turnover-requires-clause-made
check_turnover-requires-clause-made g c = subst IsMade (sym c.turnover_of-turnover.ensures) c.in_ok-rows.ensures.is

pub check_turnover-requires-clause-known : goal.check_turnover-requires-clause-known
check_turnover-requires-clause-known g c =
    let none = c.as_slice.ensures.value ∙ c.new-hashes.ensures.items in
    subst (λ (t : Turnover). IsKnown t.value.now t.rows.now t.known) (sym c.turnover_of-turnover.ensures) (record {
      hashed = subst (All (AreHashesOf c.args.only.old.now.rows)) (sym none) (All-nil (AreHashesOf c.args.only.old.now.rows));
      packed = tt;
    })

pub check_turnover-requires-clause-held : goal.check_turnover-requires-clause-held
check_turnover-requires-clause-held g c = subst (λ (t : Turnover). first_broken (before_turnover t) ≡ None) (sym c.turnover_of-turnover.ensures) c.requires.kept.holds

pub check_turnover-requires-clause-checked : goal.check_turnover-requires-clause-checked
check_turnover-requires-clause-checked g c =
    let s = c.args.new.relvars.now in
    let raw = s.list.entries in
    let es = map read_entry raw in
    let none : Changes = replicate (length raw) None in
    subst (λ (t : Turnover). AllChecked (before_turnover t) (before_turnover t)) (sym c.turnover_of-turnover.ensures)
    (subst (λ (z : Entries). AllChecked z z) (none_changed es (length raw)) (kept_checked (read_relvars s) none c.requires.kept (none_are raw)))

pub returns-clause-told : goal.returns-clause-told
returns-clause-told g c =
    let o = c.args.only in
    let k = c.requires.only in
    let same = changed_only c.args.new.changes.now (before c.args.new) o.at o k.constraints c.in_ok-rows.rows k.alone k.placed c.in_ok-rows.ensures.is in
    subst (λ (z : Entries). Tells c.check_turnover.result (first_broken z)) (sym same)
    (subst (λ (t : Turnover). Tells c.check_turnover.result (first_broken (after_turnover t))) c.turnover_of-turnover.ensures c.check_turnover.ensures.told)

pub returns-clause-cost : goal.returns-clause-cost
returns-clause-cost g c =
    let o = c.args.only in
    let k = c.requires.only in
    let same = changed_only c.args.new.changes.now (before c.args.new) o.at o k.constraints c.in_ok-rows.rows k.alone k.placed c.in_ok-rows.ensures.is in
    subst (λ (z : Entries). c.check_turnover.new.steps ≤ c.args.steps.now + looked_at_all z z) (sym same)
    (subst (λ (t : Turnover). c.check_turnover.new.steps ≤ c.args.steps.now + looked_at_all (after_turnover t) (after_turnover t)) c.turnover_of-turnover.ensures c.check_turnover.ensures.cost)
