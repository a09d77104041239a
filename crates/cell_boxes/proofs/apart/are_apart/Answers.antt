use Rattle.std.proofs.Common.{◌≡◌, ◌↔◌, List, length, true, arith, subst, sym}
use Rattle.std.specs.List.{All}
use Rattle.cell_packing.specs.Covering.{Among}
use Rattle.cell_boxes.specs.Apartness.{AreApart}
use Rattle.cell_boxes.specs.Meetings.{Met, IsMeeting}
use Rattle.cell_boxes.specs.Rows.{PlainCellBox}
use Rattle.cell_boxes.proofs.ApartLemmas.{all_apart, own_apart}
use Rattle.cell_boxes.proofs.apart.are_apart.Goals as goal

pub returns-then-sides-eq1 : goal.returns-then-sides-eq1
returns-then-sides-eq1 g c =
    let e : c.args.sides ≡ 1 = omega arith in
    let o = g.P.Label.order in
    let rows = c.args.rows.now in
    let one = subst (λ n. All (λ (x : PlainCellBox _). length x.1 ≡ n) rows) e c.requires.sides in
    let w = c.all_follow.ensures in
    subst (λ n. (c.all_follow.result ≡ true) ↔ AreApart o n rows) (sym e) (all_apart o g.met.P.Label.total rows c.requires.order one c.all_follow.result w.yes w.no c.requires.cells)

pub returns : goal.returns
returns g c =
    let o = g.P.Label.order in
    let rows = c.args.rows.now in
    let w = c.are_own.ensures in
    let is = subst (λ (ms : List Met). (m : Met) → Among m ms ↔ IsMeeting o rows rows m) (sym c.as_slice.ensures.value) c.in_ok-meetings.ensures.members in
    own_apart o g.met.P.Label.total rows c.requires.order c.args.sides c.requires.sides c.as_slice.result.now is c.are_own.result w.yes w.no
