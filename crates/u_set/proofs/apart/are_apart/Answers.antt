use Rattle.std.proofs.Common.{◌≡◌, ◌++◌, List, true, refl, map, ◌∙◌, subst}
use Rattle.std.specs.Result.{IfOk}
use Rattle.value_core.specs.Values.{Row}
use Rattle.u_set.specs.Apart.{HasInterval, AreApart, IsChain}
use Rattle.u_set.proofs.ApartLemmas.{if_ok, apart_from_chain, held_all, rows_have_spans}
use Rattle.u_set.proofs.apart.are_apart.Goals as goal

pub sorted_apart-requires : goal.sorted_apart-requires
sorted_apart-requires c =
    let items = c.in_ok-push_rows.ensures ∙ (λ t. map (λ r. r.row.now) (c.new-list.ensures.items t) ++ c.rows-rows.ensures.rows t) in
    held_all (λ r. r.row.now) (HasInterval c.args.at) c.push_rows.new.list.items c.args.r.now.rows items
    (rows_have_spans c.args.r.now c.rows-rows.ensures.relation c.args.r.now.heading refl c.args.at c.requires)

pub returns-clause-answer : goal.returns-clause-answer
returns-clause-answer c =
    let items = c.in_ok-push_rows.ensures ∙ (λ t. map (λ r. r.row.now) (c.new-list.ensures.items t) ++ c.rows-rows.ensures.rows t) in
    if_ok (λ b. b ≡ true → IsChain c.args.label.now c.args.at c.args.gap c.args.r.now.rows) (λ b. b ≡ true → AreApart c.args.label.now c.args.at c.args.gap c.args.r.now.rows)
    (λ b h t. apart_from_chain c.args.label.now c.args.at c.args.gap c.args.r.now.rows (h t)) c.sorted_apart.result
    (subst (λ (rows : List Row). IfOk c.sorted_apart.result (λ b. b ≡ true → IsChain c.args.label.now c.args.at c.args.gap rows)) items c.sorted_apart.ensures)
