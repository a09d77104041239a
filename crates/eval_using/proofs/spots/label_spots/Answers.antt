use Rattle.std.proofs.Common.{ℕ, List, ◌∙◌, subst, map}
use Rattle.std.specs.Option.{IfSome}
use Rattle.value_core.specs.Values.{Row}
use Rattle.u_set.specs.Boxes.{others}
use Rattle.u_row.specs.Kept.{inner}
use Rattle.eval_using.specs.Columns.{ArePlaces}
use Rattle.eval_using.specs.Spots.{AreSpots}
use Rattle.eval_using.proofs.SpotLemmas.{if_some, if_ok, places_of_spots}
use Rattle.eval_using.proofs.spots.label_spots.Goals as goal

pub returns : goal.returns
returns c =
    let to = c.args.to.now in
    let at = c.args.at.now in
    let commalist = c.args.commalist.now in
    let by = c.args.by.now in
    let many = c.args.many in
    let part = c.as_slice.ensures.value ∙ c.in_ok-part.ensures in
    let places = c.as_slice-2.ensures.value ∙ c.in_ok-places.ensures in
    if_ok (λ o. IfSome o (λ v. AreSpots many c.as_slice.result.now c.as_slice-2.result.now v.items))
    (λ o. IfSome o (λ v. (rows : List Row) → ArePlaces v.items to at (inner commalist by) many rows (map (others commalist) rows))) c.spots_of.result
    (λ o. if_some (λ v. AreSpots many c.as_slice.result.now c.as_slice-2.result.now v.items)
    (λ v. (rows : List Row) → ArePlaces v.items to at (inner commalist by) many rows (map (others commalist) rows)) o
    (λ v h. places_of_spots to at commalist by many v.items (subst (λ (w : List ℕ × List ℕ). AreSpots many w.0 w.1 v.items) (λ t. (part t, places t)) h))) c.spots_of.ensures
