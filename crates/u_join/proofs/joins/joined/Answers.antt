use Rattle.std.proofs.Common.{◌≡◌, ◌≤◌, length, sym, ◌∙◌, subst, arith}
use Rattle.std.specs.Result.{MatchResult}
use Rattle.std.proofs.lemmas.List.{nil_from_length}
use Rattle.value_core.specs.RowPacking.{packed, unpacked}
use Rattle.value_core.specs.Headings.{most_attributes}
use Rattle.relation_core.specs.Answers.{IsAnswer, IsRefusal}
use Rattle.relation_core.specs.Joins.{joined}
use Rattle.u_join.proofs.ListedLemmas.{same_count}
use Rattle.u_join.proofs.joins.joined.Goals as goal

pub join-requires-clause-few : goal.join-requires-clause-few
join-requires-clause-few g c = subst (λ h. length h ≤ most_attributes) c.requires.heading c.requires.few

pub returns-then-commalist-eq0-clause-rows : goal.returns-then-commalist-eq0-clause-rows
returns-then-commalist-eq0-clause-rows g c =
    let left = c.args.left.now in
    let right = c.args.right.now in
    let none : length c.args.commalist.now ≡ 0 = omega arith in
    let count = same_count c.args.heading.now left.heading c.args.commalist.now c.args.here.now c.requires.listed ∙ none in
    let commalist = sym (nil_from_length c.args.commalist.now none) in
    let here = sym (nil_from_length c.args.here.now count) in
    let there = sym (nil_from_length c.args.there.now (same_count left.heading right.heading c.args.here.now c.args.there.now c.requires.same ∙ count)) in
    let whole = sym c.requires.heading in
    subst (λ T. T) (λ t. MatchResult c.join.result (IsAnswer (whole t) (packed (commalist t) (joined left.heading right.heading (unpacked (here t) left.rows) (unpacked (there t) right.rows))))
    (IsRefusal (packed (commalist t) (joined left.heading right.heading (unpacked (here t) left.rows) (unpacked (there t) right.rows))))) c.join.ensures.rows
