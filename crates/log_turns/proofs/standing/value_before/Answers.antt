use Rattle.std.proofs.Common.{◌≡◌, ◌≤◌, List, length, map, filter, sym, ap, ◌∙◌, subst, IsTrue}
use Rattle.value_core.specs.Relations.{all_fit}
use Rattle.value_core.specs.Values.{Row, Heading, most_rows}
use Rattle.log_times.specs.Logs.{unstamped, is_standing}
use Rattle.log_times.specs.Turns.{without}
use Rattle.log_turns.proofs.StandingLemmas.{standing_fit, fewer_standing}
use Rattle.log_turns.proofs.standing.value_before.Goals as goal

pub of_few-requires-clause-fitting : goal.of_few-requires-clause-fitting
of_few-requires-clause-fitting c =
    let stored = c.stored.result.now in
    let relvar : c.in_ok-heading.heading ≡ without c.args.log.now.side c.stored.result.now.heading =
    c.in_ok-heading.ensures ∙ (c.heading.ensures.heading ∙ (c.requires ∙ ap (λ r. without c.args.log.now.side r.heading) (sym c.stored.ensures.rows))) in
    let items : c.in_ok-rows.rows.items ≡ map (unstamped c.args.log.now.side) (filter (is_standing c.args.log.now.side) c.stored.result.now.rows) =
    c.in_ok-rows.ensures ∙ (λ t. map (unstamped (c.side.ensures t)) (filter (is_standing (c.side.ensures t)) (c.rows.ensures.rows t))) in
    subst (λ (h : Heading). IsTrue (all_fit h c.in_ok-rows.rows.items)) (sym relvar)
    (subst (λ (l : List Row). IsTrue (all_fit (without c.args.log.now.side c.stored.result.now.heading) l)) (sym items)
    (standing_fit stored.heading c.args.log.now.side stored.rows c.rows.ensures.relation.fitting))

pub of_few-requires-clause-few : goal.of_few-requires-clause-few
of_few-requires-clause-few c =
    let items : c.in_ok-rows.rows.items ≡ map (unstamped c.args.log.now.side) (filter (is_standing c.args.log.now.side) c.stored.result.now.rows) =
    c.in_ok-rows.ensures ∙ (λ t. map (unstamped (c.side.ensures t)) (filter (is_standing (c.side.ensures t)) (c.rows.ensures.rows t))) in
    subst (λ (l : List Row). length l ≤ most_rows) (sym items) (fewer_standing most_rows c.args.log.now.side c.stored.result.now.rows c.rows.ensures.relation.few)
