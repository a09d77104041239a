use Rattle.std.proofs.Common.{◌≡◌, length, sym, ◌∙◌, subst, arith}
use Rattle.std.specs.Result.{MatchResult}
use Rattle.std.proofs.lemmas.List.{nil_from_length}
use Rattle.value_core.specs.RowPacking.{packed, unpacked}
use Rattle.relation_core.specs.Agreement.{matched}
use Rattle.relation_core.specs.Answers.{IsAnswer, IsRefusal}
use Rattle.u_join.proofs.ListedLemmas.{same_count}
use Rattle.u_join.proofs.matches.matched.Goals as goal

pub returns-then-here-eq0-clause-rows : goal.returns-then-here-eq0-clause-rows
returns-then-here-eq0-clause-rows g c =
    let left = c.args.left.now in
    let right = c.args.right.now in
    let none : length c.args.here.now ≡ 0 = omega arith in
    let here = sym (nil_from_length c.args.here.now none) in
    let there = sym (nil_from_length c.args.there.now (same_count left.heading right.heading c.args.here.now c.args.there.now c.requires.same ∙ none)) in
    subst (λ T. T) (λ t. MatchResult c.matching.result (IsAnswer left.heading (packed (here t) (matched left.heading right.heading (unpacked (here t) left.rows) (unpacked (there t) right.rows))))
    (IsRefusal (packed (here t) (matched left.heading right.heading (unpacked (here t) left.rows) (unpacked (there t) right.rows))))) c.matching.ensures
