use Rattle.std.proofs.Common.{[], ◌∷◌, map, sym, ◌∙◌, subst}
use Rattle.std.specs.List.{IsDistinct}
use Rattle.std.specs.Str.{bytes_eq}
use Rattle.value_core.specs.Values.{Name}
use Rattle.tree_core.specs.declared.relvar.Relvar.{Relvar}
use Rattle.tree_core.specs.Relvars.{read_entry, read_relvar}
use Rattle.meaning_core.proofs.LookupLemmas.{found_at, none_passes}
use Rattle.stored_views.proofs.WithoutLemmas.{without_none, without_one}
use Rattle.assign_core.proofs.DroppedLemmas.{none_named}
use Rattle.assign_core.proofs.NameLemmas.{names_of_keys}
use Rattle.assign_core.proofs.dropping.forget.Goals as goal

pub returns-in-Some : goal.returns-in-Some
returns-in-Some c =
    let es = c.args.relvars.now.list.entries in
    let name = c.args.name.now in
    let first = found_at es name c.in-Some.field-0-1.now c.in-Some.at c.in-Some.field-0-2.now (sym c.in-Some.ensures.index) c.in-Some.ensures.entry in
    let different = subst (IsDistinct bytes_eq) (sym (names_of_keys es)) c.requires in
    c.forget_rows.ensures ∙ sym (without_one name (map read_entry es) c.args.stored.now.items c.in-Some.at (read_relvar c.in-Some.field-0-2.now) different first)

pub returns-in-None : goal.returns-in-None
returns-in-None c =
    let es = c.args.relvars.now.list.entries in
    let name = c.args.name.now in
    sym (without_none (name ∷ []) (map read_entry es) c.args.stored.now.items
    (none_named es name (none_passes (bytes_eq name) (map (λ (e : Name × Relvar). e.0) es) (sym c.in-None.ensures.index))))
