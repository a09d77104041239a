use Rattle.std.proofs.Common.{◌≡◌, length, Some, option_map, sym, ap, subst, ◌∙◌, arith}
use Rattle.std.proofs.lemmas.Bool.Decides.{nat_tests}
use Rattle.assign_core.specs.Arrivals.{IsOneAtMost}
use Rattle.assign_core.proofs.new_rows.is_one_at_most.Goals as goal

pub returns-in-Some : goal.returns-in-Some
returns-in-Some c = λ told.
    let own = c.as_slice.result.now in
    let is : option_map (λ l. l.now) c.args.commalist ≡ Some own = (λ t. option_map (λ l. l.now) (c.in-Some.is t)) ∙ ap Some (sym (c.as_slice.ensures.value ∙ c.list.view_is)) in
    let one : length own ≡ 1 = grind (arith, nat_tests, told) in
    subst IsOneAtMost (sym is) one
