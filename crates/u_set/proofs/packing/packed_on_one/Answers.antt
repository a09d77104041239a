use Rattle.std.proofs.Common.{◌≡◌, ℕ, refl, length, get_or, ◌++◌, ◌∙◌, arith}
use Rattle.std.proofs.lemmas.Bool.Decides.{nat_tests}
use Rattle.value_core.specs.RowPacking.{packed}
use Rattle.u_set.proofs.CoalescingLemmas.{given, answer_moved, packed_given}
use Rattle.u_set.proofs.packing.packed_on_one.Goals as goal

pub returns : goal.returns
returns c =
    let r = c.args.r.now in
    let commalist = c.args.commalist.now in
    let one : length c.args.commalist.now ≡ 1 = grind (arith, nat_tests) in
    let i : ℕ = get_or commalist 0 0 in
    let same : c.in_ok-heading.heading ≡ c.args.r.now.heading = c.in_ok-heading.ensures ∙ c.heading.ensures.heading in
    let items : c.push_copies.new.list.items ≡ c.args.r.now.rows = c.in_ok-push_copies.ensures ∙ (λ t. c.in_ok-rows.ensures.items t ++ c.rows-own.ensures.rows t) in
    let lists : given c.in_ok-heading.heading i c.push_copies.new.list.items ≡ given r.heading i r.rows = λ t. given (same t) i (items t) in
    let are : given c.in_ok-heading.heading i c.push_copies.new.list.items ≡ packed commalist r.rows = lists ∙ packed_given r c.heading.ensures.relation commalist i one refl c.requires in
    answer_moved c.in_ok-heading.heading r.heading (given c.in_ok-heading.heading i c.push_copies.new.list.items) (packed commalist r.rows) same are c.coalesced.result c.coalesced.ensures.answer
