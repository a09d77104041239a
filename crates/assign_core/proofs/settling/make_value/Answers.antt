use Rattle.std.proofs.Common.{◌≡◌, [], ◌∷◌, refl, sym, ap, subst, Some}
use Rattle.tree_core.specs.Relvars.{read_relvars}
use Rattle.meaning_core.specs.Names.{with_value}
use Rattle.relvar_logs.specs.Changes.{IsChange, IsSoAt}
use Rattle.assign_core.specs.Exchanges.{place_of, turned, AreValues, MayTurn}
use Rattle.assign_core.specs.declared.exchange.Change.{Change}
use Rattle.relvar_logs.proofs.EntryLemmas.{so_weaker}
use Rattle.assign_core.proofs.settling.make_value.Goals as goal

pub returns-in-Value : goal.returns-in-Value
returns-in-Value c =
    let was = c.args.change.now in (
      refl,
      subst (λ (z : Change). AreValues (z ∷ [])) (sym c.in-Value.is) tt,
      so_weaker (read_relvars c.args.relvars.now).relvars (place_of was) (MayTurn was) (λ r. MayTurn was r × (turned was r ≡ turned was r)) (λ r h. (h, refl)) c.requires.may,
    )

pub returns-in_ok-value-in-Rows : goal.returns-in_ok-value-in-Rows
returns-in_ok-value-in-Rows c =
    let value = c.in_ok-value-in-Rows.value in
    let es = (read_relvars c.args.relvars.now).relvars in (
      sym (ap place_of c.in-Rows.is),
      tt,
      subst (λ (z : Change). IsSoAt (place_of z) (λ r. IsChange (Some value) r × (with_value value r ≡ turned z r)) es) (sym c.in-Rows.is) c.in_ok-value-in-Rows.ensures,
    )
