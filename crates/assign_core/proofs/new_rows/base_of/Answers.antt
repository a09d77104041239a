use Rattle.std.proofs.Common.{map, sym, subst}
use Rattle.tree_core.specs.declared.relvar.Relvar.{Relvar}
use Rattle.tree_core.specs.Relvars.{read_entry, read_relvar}
use Rattle.meaning_core.specs.Names.{IsFirstAt}
use Rattle.meaning_core.proofs.LookupLemmas.{found_at}
use Rattle.assign_core.proofs.new_rows.base_of.Goals as goal

pub returns-in-Some-default-default-Base : goal.returns-in-Some-default-default-Base
returns-in-Some-default-default-Base c =
    let es = c.args.relvars.now.list.entries in
    let name = c.args.target.now in
    let x = c.in-Some-default-default-Base in
    let told = x.ensures in
    let first = found_at es name x.field-0-1.now x.at x.field-0-2.now (sym told.index) told.entry in
    (x.field-0-2-1, subst (λ (r : Relvar). IsFirstAt (map read_entry es) name x.at (read_relvar r)) x.field-0-2-is first)
