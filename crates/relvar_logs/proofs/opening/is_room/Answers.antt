use Rattle.std.proofs.Common.{arith, length}
use Rattle.tree_core.specs.Relvars.{heading_if, read_relvars, relvar_named}
use Rattle.meaning_core.specs.Declarations.{with_log}
use Rattle.meaning_core.specs.Logs.{new_log}
use Rattle.relvar_logs.proofs.OpeningLemmas.{first_counted, no_room, little_room, some_room}
use Rattle.relvar_logs.proofs.opening.is_room.Goals as goal

pub returns-then-count-room : goal.returns-then-count-room
returns-then-count-room g c =
    let s = read_relvars c.args.relvars.now in
    let d = g.declared in
    let new = new_log (heading_if (relvar_named s.relvars d.of)) s.accepted d in
    let all = (with_log s d).relvars in
    let counted = first_counted s.accepted all new d.of c.args.first.now c.stored.result.now c.rows-count.result.now c.requires.1.1 c.stored.ensures.rows c.rows-count.ensures.rows c.rows-count.ensures.relation in
    little_room c.args.rows (length c.rows-count.result.now) all s.relvars (d.name, new) counted c.in-Some.room c.in-Some.ensures.left (omega arith)

pub returns-else-count-room : goal.returns-else-count-room
returns-else-count-room g c =
    let s = read_relvars c.args.relvars.now in
    let d = g.declared in
    let new = new_log (heading_if (relvar_named s.relvars d.of)) s.accepted d in
    let all = (with_log s d).relvars in
    let counted = first_counted s.accepted all new d.of c.args.first.now c.stored.result.now c.rows-count.result.now c.requires.1.1 c.stored.ensures.rows c.rows-count.ensures.rows c.rows-count.ensures.relation in
    some_room c.args.rows (length c.rows-count.result.now) all s.relvars (d.name, new) counted c.in-Some.room c.in-Some.ensures.left c.in-Some.ensures.few (omega arith)

pub returns-in-None : goal.returns-in-None
returns-in-None g c =
    let s = read_relvars c.args.relvars.now in
    let d = g.declared in
    let new = new_log (heading_if (relvar_named s.relvars d.of)) s.accepted d in
    let all = (with_log s d).relvars in
    let counted = first_counted s.accepted all new d.of c.args.first.now c.stored.result.now c.rows-count.result.now c.requires.1.1 c.stored.ensures.rows c.rows-count.ensures.rows c.rows-count.ensures.relation in
    no_room c.args.rows (length c.rows-count.result.now) all s.relvars (d.name, new) counted c.in-None.ensures.left
