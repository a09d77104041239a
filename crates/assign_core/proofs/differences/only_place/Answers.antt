use Rattle.std.proofs.Common.{◌≡◌, ◌≤◌, ◌+◌, ℕ, false, length, take, Option, is_some, sym, ap, subst, ◌∙◌, arith}
use Rattle.std.specs.Prelude.{slice_index_or}
use Rattle.assign_core.specs.Differences.{AreFound}
use Rattle.assign_core.proofs.DifferenceLemmas.{found_more, found_first, found_alone, found_within}
use Rattle.assign_core.proofs.differences.only_place.Goals as goal
use Rattle.assign_core.proofs.differences.only_place.Goals.{then-is_some+else-is_some-2, else-is_some}

pub loop-at-preserved : goal.loop-at-preserved
loop-at-preserved c =
    let cs = c.args.changes.now in
    let f = c.loop-at.found in
    let i = c.loop-at.at in
    let item = c.index-changes-at.result in
    elim c.if-is_some.branch [
      | then-is_some+else-is_some-2 w ↦
          let none = sym w.is_some-then-is_some.ensures ∙ w.if-is_some-2.false in
          subst (λ (g : Option ℕ). AreFound g (take (i + 1) cs)) (sym w.found-is) (found_first cs f i c.loop-at-test.true c.loop-at.invariant none)
      | else-is_some w ↦
          let nothing : is_some (slice_index_or cs i item) ≡ false = sym (ap is_some c.index-changes-at.is) ∙ (sym c.is_some.ensures ∙ w.if-is_some.false) in
          subst (λ (g : Option ℕ). AreFound g (take (i + 1) cs)) (sym w.found-is) (found_more cs f i item c.loop-at-test.true c.loop-at.invariant nothing)
    ]

pub returns-clause-within : goal.returns-clause-within
returns-clause-within c =
    let all : length c.args.changes.now ≤ c.loop-at.at = omega arith in
    found_within c.loop-at.found c.args.changes.now c.loop-at.at all c.loop-at.invariant

pub returns-clause-alone : goal.returns-clause-alone
returns-clause-alone c =
    let all : length c.args.changes.now ≤ c.loop-at.at = omega arith in
    found_alone c.loop-at.found c.args.changes.now c.loop-at.at all c.loop-at.invariant
