use Rattle.std.proofs.Common.{[], map, sym, subst, Some}
use Rattle.std.specs.Str.{bytes_eq}
use Rattle.value_core.specs.Values.{Name}
use Rattle.tree_core.specs.declared.relvar.Relvar.{Relvar}
use Rattle.tree_core.specs.Relvars.{read_entry, read_relvar}
use Rattle.meaning_core.specs.Names.{IsFirstAt}
use Rattle.meaning_core.specs.WellMade.{IsBase}
use Rattle.meaning_core.proofs.EntryLemmas.{named_first}
use Rattle.meaning_core.proofs.LookupLemmas.{found_at, none_passes}
use Rattle.assign_core.proofs.ChangeLemmas.{absent_changed}
use Rattle.assign_core.proofs.insertion.base_at.Goals as goal

pub unreachable-requires : goal.unreachable-requires
unreachable-requires c =
    let es = c.args.relvars.now.list.entries in
    let name = c.args.assignment.now.target in
    let x = c.in-Some-default-default-View in
    let told = x.ensures in
    let first = found_at es name x.field-0-1.now x.field-0-0 x.field-0-2.now (sym told.index) told.entry in
    subst (λ (r : Relvar). IsBase (Some (read_relvar r))) x.field-0-2-is (subst IsBase (named_first (map read_entry es) name x.field-0-0 (read_relvar x.field-0-2.now) first) c.requires.base)

pub unreachable-requires-in-Some-default-default-Log : goal.unreachable-requires-in-Some-default-default-Log
unreachable-requires-in-Some-default-default-Log c =
    let es = c.args.relvars.now.list.entries in
    let name = c.args.assignment.now.target in
    let x = c.in-Some-default-default-Log in
    let told = x.ensures in
    let first = found_at es name x.field-0-1.now x.field-0-0 x.field-0-2.now (sym told.index) told.entry in
    subst (λ (r : Relvar). IsBase (Some (read_relvar r))) x.field-0-2-is (subst IsBase (named_first (map read_entry es) name x.field-0-0 (read_relvar x.field-0-2.now) first) c.requires.base)

pub unreachable-requires-in-None : goal.unreachable-requires-in-None
unreachable-requires-in-None c =
    let es = c.args.relvars.now.list.entries in
    let name = c.args.assignment.now.target in
    subst IsBase (absent_changed es [] name (none_passes (bytes_eq name) (map (λ (e : Name × Relvar). e.0) es) (sym c.in-None.ensures.index))) c.requires.base

pub returns : goal.returns
returns c =
    let es = c.args.relvars.now.list.entries in
    let name = c.args.assignment.now.target in
    let x = c.in-Some-default-default-Base in
    let told = x.ensures in
    let first = found_at es name x.field-0-1.now x.at x.field-0-2.now (sym told.index) told.entry in
    (x.field-0-2-1, subst (λ (r : Relvar). IsFirstAt (map read_entry es) name x.at (read_relvar r)) x.field-0-2-is first)
