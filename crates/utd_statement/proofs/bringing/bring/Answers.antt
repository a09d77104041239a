use Rattle.std.proofs.Common.{List, ap, subst}
use Rattle.value_core.specs.declared.list.OrdinalNames.{OrdinalNames}
use Rattle.tree_core.specs.Relvars.{State, read_relvars}
use Rattle.plain_rows.specs.Brought.{bringing_of, IsBrought}
use Rattle.utd_statement.proofs.BringingLemmas.{listed_so, tried_so}
use Rattle.utd_statement.proofs.bringing.bring.Goals as goal

pub put-done-requires-clause-list : goal.put-done-requires-clause-list
put-done-requires-clause-list g c =
    let plain = c.in-Some.plain in
    let s = read_relvars c.args.database.now in
    let brings = subst (λ (types : List OrdinalNames). IsBrought types c.args.text.now (bringing_of plain.way) plain.relvar plain.rows) (ap (λ (t : State). t.ordinals) c.relvars.ensures.state) c.in-Some.ensures in
    listed_so (record { line = 1; column = 1 }) c.args.text.now (bringing_of plain.way) plain.relvar plain.rows s brings

pub returns : goal.returns
returns g c = λ start.
    let plain = c.in-Some.plain in
    let s = read_relvars c.args.database.now in
    let put = c.put-done in
    let brings = subst (λ (types : List OrdinalNames). IsBrought types c.args.text.now (bringing_of plain.way) plain.relvar plain.rows) (ap (λ (t : State). t.ordinals) c.relvars.ensures.state) c.in-Some.ensures in
    tried_so start c.args.text.now (bringing_of plain.way) plain.relvar plain.rows s brings put.result c.told.result put.ensures.brought.0 (read_relvars put.new.database) c.args.steps.now put.new.steps
    c.told.ensures put.ensures.found put.ensures.beside put.ensures.brought.1 put.ensures.brought.2 put.ensures.stays put.ensures.none put.ensures.cost
