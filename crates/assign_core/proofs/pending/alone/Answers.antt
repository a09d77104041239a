use Rattle.std.proofs.Common.{◌≡◌, arith, length, sym, ap, subst, ◌∙◌, Some, None, replicate}
use Rattle.std.specs.Prelude.{slice_set}
use Rattle.std.proofs.lemmas.List.{length-replicate}
use Rattle.tree_core.specs.Relvars.{base, read_relvars}
use Rattle.relvar_logs.specs.Changes.{Changes, AreChanges}
use Rattle.relvar_logs.proofs.EntryLemmas.{entries_length}
use Rattle.assign_core.specs.Targets.{entries_before}
use Rattle.assign_core.proofs.AdditionLemmas.{value_ready}
use Rattle.assign_core.proofs.ChangeLemmas.{none_are, put_change}
use Rattle.assign_core.proofs.InsertionLemmas.{within}
use Rattle.assign_core.proofs.NameLemmas.{relvars_differ}
use Rattle.assign_core.proofs.pending.alone.Goals as goal

pub index_mut-requires : goal.index_mut-requires
index_mut-requires c =
    let t = c.args.target in
    let k = c.requires.target in
    let n = length t.relvars.now.list.entries in
    let none : Changes = replicate n None in
    let there = within (entries_before t) t.name.now t.at (base t.value.now k.constraints) k.first in
    let all = entries_length t.relvars.now.list.entries in
    let long : length c.in_ok-changes.changes.items ≡ n = ap (λ (cs : Changes). length cs) c.in_ok-changes.ensures ∙ length-replicate n None in
    omega (arith, there, all, long)

pub returns-clause-changes : goal.returns-clause-changes
returns-clause-changes c =
    let t = c.args.target in
    let k = c.requires.target in
    let es = entries_before t in
    let are = subst (λ (cs : Changes). AreChanges cs es) (sym c.in_ok-changes.ensures) (none_are t.relvars.now.list.entries) in
    put_change es c.in_ok-changes.changes.items t.name.now t.at (base t.value.now k.constraints) c.args.value are k.first c.requires.headed

pub returns-clause-made : goal.returns-clause-made
returns-clause-made c =
    let t = c.args.target in
    let es = entries_before t in
    let none = c.in_ok-changes.changes.items in
    let are = subst (λ (cs : Changes). AreChanges cs es) (sym c.in_ok-changes.ensures) (none_are t.relvars.now.list.entries) in
    value_ready t c.requires.target (relvars_differ (read_relvars t.relvars.now) c.requires.kept.well_made) none (length t.relvars.now.list.entries) c.args.value c.in_ok-changes.ensures are
