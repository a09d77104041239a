use Rattle.std.proofs.Common.{◌<◌, ◌≤◌, ◌≡◌, ◌^◌, List, length, map, arith, sym, subst}
use Rattle.std.specs.Option.{IfSome}
use Rattle.std.proofs.lemmas.List.{length-map}
use Rattle.value_core.specs.Values.{Row, most_rows}
use Rattle.tree_core.specs.Trees.{read_aggregate}
use Rattle.u_set.specs.Boxes.{others}
use Rattle.u_row.specs.Kept.{inner}
use Rattle.eval_using.specs.Columns.{AreColumns, ArePlaces, AreFigured}
use Rattle.eval_using.proofs.SummaryPartLemmas.{figured}
use Rattle.eval_using.proofs.SpotLemmas.{if_some, if_ok}
use Rattle.eval_using.proofs.parts.figure_parts.Goals as goal

pub returns-in-Some : goal.returns-in-Some
returns-in-Some c =
    let to = c.args.to.now in
    let at = c.args.of.at.now in
    let commalist = c.args.of.commalist.now in
    let part = inner commalist c.args.of.by.now in
    let gs = map read_aggregate c.args.of.aggregates.now in
    let rows = c.args.r.now.rows in
    let labels = map (others commalist) rows in
    let places = c.in-Some.places.items in
    let low : length rows ≤ most_rows = c.rows-rows.ensures.relation.few in
    let few : length rows < 2 ^ 63 = omega (arith, low) in
    let spots = subst (λ o. IfSome o (λ v. (rs : List Row) → ArePlaces v.items to at part (length c.args.of.aggregates.now) rs (map (others commalist) rs))) c.in-Some.is c.in_ok-places.ensures in
    let count = length-map c.args.of.aggregates.now read_aggregate in
    let there : ArePlaces places to at part (length gs) rows labels = subst (λ n. ArePlaces places to at part n rows labels) (sym count) (spots rows) in
    if_ok (λ o. IfSome o (λ p. AreColumns c.rows-rows.result.now gs p.columns.items × (p.places.items ≡ places)))
    (λ o. IfSome o (λ p. (length commalist ≡ 1) × AreFigured p.places.items to at part gs rows labels p.columns.items)) c.with_columns.result
    (λ o. if_some (λ p. AreColumns c.rows-rows.result.now gs p.columns.items × (p.places.items ≡ places))
    (λ p. (length commalist ≡ 1) × AreFigured p.places.items to at part gs rows labels p.columns.items) o
    (λ p h. (
      c.if-commalist-ne1.false,
      figured commalist p.places.items to at part gs rows p.columns.items c.requires.unnamed few
          (subst (λ (rs : List Row). AreColumns rs gs p.columns.items) c.rows-rows.ensures.rows h.0) (subst (λ ps. ArePlaces ps to at part (length gs) rows labels) (sym h.1) there),
    ))) c.with_columns.ensures
