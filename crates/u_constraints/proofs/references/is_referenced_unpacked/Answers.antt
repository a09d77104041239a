use Rattle.std.proofs.Common.{◌≡◌, ◌≤◌, ◌+◌, length, map, List, sym, ap, ◌∙◌, subst, arith}
use Rattle.std.specs.Prelude.{IfOk}
use Rattle.value_core.specs.Values.{Row, Heading}
use Rattle.relation_core.specs.Parts.{projected}
use Rattle.cell_core.specs.Costs.{bound}
use Rattle.meaning_core.specs.WellMade.{AreAlike, AreDifferent}
use Rattle.u_row.specs.Kept.{unlisted}
use Rattle.u_constraints.specs.Constraints.{counterpart, is_referenced}
use Rattle.u_constraints.proofs.BoundLemmas.{bound_grows}
use Rattle.u_constraints.proofs.NearLemmas.{near_referred, near_fewer}
use Rattle.u_constraints.proofs.references.is_referenced_unpacked.Goals as goal

pub is_referenced_by_boxes-requires-2-clause-there : goal.is_referenced_by_boxes-requires-2-clause-there
is_referenced_by_boxes-requires-2-clause-there g c = subst (λ (h : Heading). AreDifferent h c.args.there.now) (sym c.in_ok-near.ensures.0) c.requires.there

pub is_referenced_by_boxes-requires-2-clause-alike : goal.is_referenced_by_boxes-requires-2-clause-alike
is_referenced_by_boxes-requires-2-clause-alike g c =
    subst (λ (h : Heading). AreAlike c.args.of.now.heading c.args.here.now h c.args.there.now) (sym c.in_ok-near.ensures.0) c.requires.alike

pub returns-clause-answer : goal.returns-clause-answer
returns-clause-answer g c =
    let commalist = c.args.commalist.now in
    let here = c.args.here.now in
    let there = c.args.there.now in
    let rows = c.args.of.now.rows in
    let same =
    ap (λ (others : List Row). is_referenced commalist here there rows others) c.in_ok-near.ensures.1
    ∙ near_referred c.args.of.now.heading c.args.other.now.heading here there commalist c.requires.alike c.requires.lies c.requires.here.different c.requires.there.different rows c.args.other.now.rows in
    subst (λ b. IfOk c.is_referenced_by_boxes-2.result (λ kept. kept ≡ b)) same c.is_referenced_by_boxes-2.ensures.answer

pub returns-clause-cost : goal.returns-clause-cost
returns-clause-cost g c =
    let rows = c.args.of.now.rows in
    let others = c.args.other.now.rows in
    let here = c.args.here.now in
    let there = c.args.there.now in
    let commalist = c.args.commalist.now in
    let less : length c.in_ok-near.near.rows ≤ length others =
    near_fewer (unlisted (map (counterpart here there) commalist) there) (projected (unlisted commalist here) rows) others c.in_ok-near.near.rows c.in_ok-near.ensures.1 in
    let grows : bound (length rows + length c.in_ok-near.near.rows) (length commalist) ≤ bound (length rows + length others) (length commalist) =
    bound_grows (length rows + length c.in_ok-near.near.rows) (length rows + length others) (length c.args.commalist.now) (omega (arith, less)) in
    let told = c.is_referenced_by_boxes-2.ensures.cost in
    omega (arith, grows, told)
