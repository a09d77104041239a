use Rattle.std.proofs.Common.{sym, ◌∙◌, inl, inr, refl}
use Rattle.tree_core.specs.Relvars.{read_relvars}
use Rattle.assign_core.specs.Arrivals.{way_of}
use Rattle.assign_core.proofs.UnstoredLemmas.{if_unstored}
use Rattle.assign_core.proofs.assigning.bring_counted.Goals as goal

pub returns-then-has_stored-clause-brought : goal.returns-then-has_stored-clause-brought
returns-then-has_stored-clause-brought g c = (read_relvars c.args.relvars.now, (λ old at there given k. refl), refl)

pub returns-then-has_stored-clause-stored : goal.returns-then-has_stored-clause-stored
returns-then-has_stored-clause-stored g c = inl refl

pub returns-then-has_log-clause-beside : goal.returns-then-has_log-clause-beside
returns-then-has_log-clause-beside g c =
    if_unstored (way_of c.args.way) c.bring_beside.result (read_relvars c.args.relvars.now) c.args.target.now c.args.rows (sym c.has_stored.ensures ∙ c.if-has_stored.false) c.bring_beside.ensures.beside

pub returns-then-has_log-clause-stored : goal.returns-then-has_log-clause-stored
returns-then-has_log-clause-stored g c = inr c.bring_beside.ensures.unstored

pub returns-clause-beside : goal.returns-clause-beside
returns-clause-beside g c =
    if_unstored (way_of c.args.way) c.bring_alone.result (read_relvars c.args.relvars.now) c.args.target.now c.args.rows (sym c.has_stored.ensures ∙ c.if-has_stored.false) c.bring_alone.ensures.beside

pub returns-clause-stored : goal.returns-clause-stored
returns-clause-stored g c = inr c.bring_alone.ensures.unstored
