use Rattle.std.proofs.Common.{◌≡◌, List, refl, map, ap, ◌∙◌, subst}
use Rattle.std.specs.List.Sorted.{IsPermutation}
use Rattle.std.proofs.lemmas.List.Sorted.{IsPermutation-map}
use Rattle.u_set.proofs.ApartLemmas.{rows_have_spans}
use Rattle.u_set.specs.Apart.{HasInterval}
use Rattle.u_join.specs.RowPairs.{Stood, stood, seen}
use Rattle.u_join.proofs.StandingLemmas.{all_held}
use Rattle.u_join.proofs.standing.rows_standing.Goals as goal

pub standing_rows-requires : goal.standing_rows-requires
standing_rows-requires c =
    all_held (HasInterval c.args.at) c.rows.result.now c.args.r.now.rows c.rows.ensures.rows (rows_have_spans c.args.r.now c.rows.ensures.relation c.args.r.now.heading refl c.args.at c.requires)

pub returns-clause-rows : goal.returns-clause-rows
returns-clause-rows c =
    let same : map seen c.in_ok-rows.rows.items ≡ map (stood c.args.key.now c.args.at) c.args.r.now.rows = c.in_ok-rows.ensures ∙ ap (map (stood c.args.key.now c.args.at)) c.rows.ensures.rows in
    subst (λ (xs : List Stood). IsPermutation xs (map seen c.in_ok-list.list.items)) same (IsPermutation-map seen c.in_ok-rows.rows.items c.in_ok-list.list.items c.in_ok-list.ensures.moved)
