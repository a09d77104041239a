use Rattle.std.proofs.Common.{rules, ◌≡◌, [], ℤ, ap, ◌∙◌, w64, to_z, of_z}
use Rattle.meaning_core.specs.Declarations.{counted}
use Rattle.relvar_logs.proofs.OpeningLemmas.{opened_ready, opened_state}
use Rattle.relvar_logs.proofs.opening.begin.Goals as goal

pub count-requires-clause-next : goal.count-requires-clause-next
count-requires-clause-next c =
    let old = c.args.relvars.now in
    let t = c.args.first in
    let number : to_z w64 (of_z w64 old.accepted) ≡ old.accepted = search rules in
    let before = c.in_ok-log.ensures ∙ ap (λ (n : ℤ). record { side = t.side; last = n; stored = record { heading = t.stored.heading; rows = [] } }) number in
    opened_ready old c.append.new.relvars c.args.declared t c.in_ok-log.log c.requires.ready before c.in_ok-append.ensures.ok c.append.ensures.ordinals c.append.ensures.rules c.append.ensures.accepted
    c.len.result c.deref_mut.result.now c.len.ensures.len c.requires.next (c.deref_mut.ensures.value ∙ c.in_ok-next.ensures)

pub returns-clause-ok : goal.returns-clause-ok
returns-clause-ok c =
    let old = c.args.relvars.now in
    let t = c.args.first in
    let number : to_z w64 (of_z w64 old.accepted) ≡ old.accepted = search rules in
    let before = c.in_ok-log.ensures ∙ ap (λ (n : ℤ). record { side = t.side; last = n; stored = record { heading = t.stored.heading; rows = [] } }) number in
    c.count.ensures.counted
    ∙ ap counted (opened_state old c.append.new.relvars c.args.declared t c.in_ok-log.log c.requires.ready before c.in_ok-append.ensures.ok c.append.ensures.ordinals c.append.ensures.rules c.append.ensures.accepted)
