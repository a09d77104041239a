use Rattle.std.proofs.Common.{List, ◌∙◌, sym, subst}
use Rattle.std.specs.List.{All}
use Rattle.value_core.specs.Values.{Row}
use Rattle.u_set.specs.Apart.{HasInterval, IsChain}
use Rattle.u_set.specs.declared.apart.Gap.TheVariants.{One}
use Rattle.u_set.specs.Coalescing.{IsFormByLabel}
use Rattle.u_set.proofs.ApartLemmas.{some_holds}
use Rattle.u_set.proofs.CoalescingLemmas.{all_have, all_moved, rows_moved, chain_packed, joined_chain, given_joined, form_packed}
use Rattle.u_set.proofs.coalescing.joined_rows.Goals as goal

pub stand_in_time-requires : goal.stand_in_time-requires
stand_in_time-requires c =
    subst (λ (rows : List Row). All (HasInterval c.args.at) rows) (sym c.as_slice.ensures.value) (all_have c.args.heading.now c.args.at c.requires.interval c.args.rows.items c.requires.fit)

pub returns-then-stand_in_time-clause-rows : goal.returns-then-stand_in_time-clause-rows
returns-then-stand_in_time-clause-rows c =
    let label = c.as_slice-2.ensures.value ∙ c.in_ok-label.ensures in
    let rows = c.as_slice.ensures.value in
    chain_packed c.args.heading.now c.args.at c.requires.interval c.args.rows.items c.requires.fit
    (subst (λ (T : Type 0). T) (λ t. IsChain (label t) c.args.at One (rows t)) (c.stand_in_time.ensures c.if-stand_in_time.true))

pub stand_in_time-requires-2 : goal.stand_in_time-requires-2
stand_in_time-requires-2 c =
    subst (λ (rows : List Row). All (HasInterval c.args.at) rows) (sym c.as_slice-4.ensures.value) (all_have c.args.heading.now c.args.at c.requires.interval c.in_ok-near.near.items c.in_ok-near.ensures.fit)

pub returns-then-stand_in_time-2-clause-rows : goal.returns-then-stand_in_time-2-clause-rows
returns-then-stand_in_time-2-clause-rows c =
    let label = c.as_slice-5.ensures.value ∙ c.in_ok-label.ensures in
    let rows = c.as_slice-4.ensures.value in
    joined_chain c.args.heading.now c.args.at c.requires.interval c.args.rows.items c.in_ok-near.near.items c.in_ok-near.ensures
    (subst (λ (T : Type 0). T) (λ t. IsChain (label t) c.args.at One (rows t)) (c.stand_in_time-2.ensures c.if-stand_in_time-2.true))

pub returns-clause-fit : goal.returns-clause-fit
returns-clause-fit c =
    let packed = c.in-Some.packed.items in
    let form = some_holds (λ v. IsFormByLabel c.args.heading.now c.args.at c.in_ok-near.near.items v.items) c.in_ok-packed.field-0 c.in-Some.packed c.in-Some.is c.in_ok-packed.ensures in
    all_moved c.args.heading.now packed c.in_ok-list.list.items c.in_ok-list.ensures form.joined.fit

pub returns-clause-rows : goal.returns-clause-rows
returns-clause-rows c =
    let heading = c.args.heading.now in
    let near = c.in_ok-near.near.items in
    let packed = c.in-Some.packed.items in
    let form = some_holds (λ v. IsFormByLabel heading c.args.at near v.items) c.in_ok-packed.field-0 c.in-Some.packed c.in-Some.is c.in_ok-packed.ensures in
    given_joined heading c.args.at c.requires.interval c.args.rows.items near c.in_ok-near.ensures ∙ form_packed heading c.args.at c.requires.interval near packed form ∙ rows_moved packed c.in_ok-list.list.items c.in_ok-list.ensures
