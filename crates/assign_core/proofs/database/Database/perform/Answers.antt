use Rattle.std.proofs.Common.{sym, subst, refl}
use Rattle.std.proofs.lemmas.Result.{err_from_is_err_and}
use Rattle.std.specs.List.{All}
use Rattle.tree_core.specs.Items.{read_item}
use Rattle.tree_core.specs.Relvars.{State, read_relvars}
use Rattle.tree_core.specs.declared.item.Item.{Item}
use Rattle.meaning_core.specs.Updates.{IsTypedItem}
use Rattle.assign_core.proofs.ItemLemmas.{each-typed}
use Rattle.assign_core.proofs.database.Database.perform.Goals as goal

pub assignments-requires-clause-typed : goal.assignments-requires-clause-typed
assignments-requires-clause-typed g c =
    let old = read_relvars c.args.self.now in
    subst (λ (s : State). All (λ (i : Item). IsTypedItem s (read_item i)) c.args.items.now) (sym c.relvars.ensures.state) (each-typed old c.args.items.now c.requires.typed)

pub returns-in_err-list-clause-performed : goal.returns-in_err-list-clause-performed
returns-in_err-list-clause-performed g c =
    let p = err_from_is_err_and c.from_residual.result c.from_residual.ensures.1 in
    rw (p.1, p.2) (read_relvars c.args.self.now, (tt, refl), refl)
