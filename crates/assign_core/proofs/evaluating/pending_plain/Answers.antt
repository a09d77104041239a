use Rattle.std.proofs.Common.{◌≡◌, List, ap, refl, sym, subst}
use Rattle.value_core.specs.Values.{Row}
use Rattle.relation_core.specs.Answers.{under}
use Rattle.meaning_core.specs.Meanings.{limited}
use Rattle.assign_core.specs.Insertions.{sum_of}
use Rattle.assign_core.specs.Targets.{entries_after, entries_with}
use Rattle.assign_core.specs.Turnovers.{IsKnown}
use Rattle.assign_core.proofs.evaluating.pending_plain.Goals as goal

pub returns : goal.returns
returns c =
    let t = c.args.addition.target in
    let x = c.in_ok-rows.rows in
    let same : entries_after t x ≡ sum_of c.args.addition = ap (λ (rs : List Row). entries_with t (under t.value.now.heading (limited t.place rs))) c.in_ok-rows.ensures.rows in
    let known = subst (IsKnown t.value.now x) (sym c.known_of-known.ensures) (record { hashed = c.requires.hashed; packed = c.in_ok-rows.ensures.packed }) in
    (refl, c.requires.addition.target, c.in_ok-rows.ensures.exchange, known, sym same)
