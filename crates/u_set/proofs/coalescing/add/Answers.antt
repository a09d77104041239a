use Rattle.std.proofs.Common.{◌≡◌, ℕ, List, [], ◌∷◌, ◌++◌, ◌∙◌, subst}
use Rattle.std.specs.Bool.{IsTrue}
use Rattle.value_core.specs.Plain.{plain}
use Rattle.value_core.specs.Relations.{all_fit}
use Rattle.value_core.specs.Values.{Row}
use Rattle.relation_core.specs.Agreement.{part_of}
use Rattle.u_set.proofs.CoalescingLemmas.{within, all_less, one_row}
use Rattle.u_set.proofs.coalescing.add.Goals as goal

pub with_value-requires : goal.with_value-requires
with_value-requires c =
    let heading = c.args.heading.now in
    let fit = all_less heading c.pop.new.self.items c.in-Some.last (subst (λ (rows : List Row). IsTrue (all_fit heading rows)) c.in-Some.ensures.items c.requires.list) in
    within heading c.args.at c.requires.interval c.in-Some.last fit.1

pub returns-in_ok-push-in-Some-joining : goal.returns-in_ok-push-in-Some-joining
returns-in_ok-push-in-Some-joining c =
    let heading = c.args.heading.now in
    let x = c.in-Some.last in
    let y = c.args.row in
    let xs = c.pop.new.self.items in
    let fit = all_less heading xs x (subst (λ (rows : List Row). IsTrue (all_fit heading rows)) c.in-Some.ensures.items c.requires.list) in
    let labels = subst (λ (ps : List ℕ). part_of ps x ≡ part_of ps y) c.requires.label c.in-Some-joining.ensures.labels in
    one_row heading c.args.at c.requires.interval x y (plain c.in-Some-joining.value) fit.1 c.requires.row labels c.in-Some-joining.ensures.points xs c.args.list.now.items c.push.new.self.items fit.0 c.in-Some-joining.ensures.fits
    c.in-Some.ensures.items (c.in_ok-push-in-Some-joining.ensures.items ∙ (λ t. xs ++ c.with_value.ensures t ∷ []))
