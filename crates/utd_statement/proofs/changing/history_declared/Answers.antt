use Rattle.std.proofs.Common.{List, sym, subst}
use Rattle.tree_core.specs.Relvars.{read_relvars}
use Rattle.meaning_core.specs.Declarations.{PlainDeclaration}
use Rattle.meaning_core.specs.WellMade.{IsWellMade}
use Rattle.since_during.specs.Histories.{declared_in}
use Rattle.since_during.proofs.HistoryMade.{history-made}
use Rattle.utd_statement.proofs.changing.history_declared.Goals as goal

pub declare_history-requires : goal.declare_history-requires
declare_history-requires c = c.requires.typed.given

pub declare-requires : goal.declare-requires
declare-requires c =
    let old = read_relvars c.args.database.now in
    subst (λ (list : List PlainDeclaration). IsWellMade (declared_in old list)) (sym c.in_ok-list.ensures) (history-made old c.args.history.now c.requires.kept.well_made c.requires.typed)
