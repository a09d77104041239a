use Rattle.std.proofs.Common.{[], subst}
use Rattle.std.specs.List.{IsDistinct}
use Rattle.std.specs.Str.{bytes_eq}
use Rattle.tree_core.specs.declared.declaration.Declaration.{Declaration}
use Rattle.tree_core.specs.Relvars.{read_relvars, base, view, derived, of_history}
use Rattle.tree_core.specs.Trees.{read_tree}
use Rattle.meaning_core.specs.Declarations.{read_declaration, with_declaration}
use Rattle.assign_core.specs.Parts.{names_in}
use Rattle.assign_core.proofs.NameLemmas.{new_name}
use Rattle.assign_core.proofs.appending.append.Goals as goal

pub append_relvar-requires : goal.append_relvar-requires
append_relvar-requires c =
    new_name c.args.relvars.now.list.entries c.in-Base.name (base (record { heading = c.in-Base.heading; rows = [] }) c.in-Base.constraints)
    (subst (λ (d : Declaration). IsDistinct bytes_eq (names_in (with_declaration (read_relvars c.args.relvars.now) (read_declaration d)).relvars)) c.in-Base.is c.requires)

pub append_relvar-requires-in-View : goal.append_relvar-requires-in-View
append_relvar-requires-in-View c =
    new_name c.args.relvars.now.list.entries c.in-View.name (view (read_tree c.in-View.tree) derived)
    (subst (λ (d : Declaration). IsDistinct bytes_eq (names_in (with_declaration (read_relvars c.args.relvars.now) (read_declaration d)).relvars)) c.in-View.is c.requires)

pub append_relvar-requires-in-HistoryView : goal.append_relvar-requires-in-HistoryView
append_relvar-requires-in-HistoryView c =
    new_name c.args.relvars.now.list.entries c.in-HistoryView.view (view (read_tree c.in-HistoryView.tree) (of_history (c.in-HistoryView.since, c.in-HistoryView.during)))
    (subst (λ (d : Declaration). IsDistinct bytes_eq (names_in (with_declaration (read_relvars c.args.relvars.now) (read_declaration d)).relvars)) c.in-HistoryView.is c.requires)
