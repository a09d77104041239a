use Rattle.std.proofs.Common.{refl}
use Rattle.relation_core.specs.Joins.{joined_heading}
use Rattle.relation_core.specs.Operators.{united, intersected, subtracted}
use Rattle.kept_views.specs.declared.rule.KeptOp.TheVariants.{Union, Intersect, Minus, Join, Matching, NotMatching}
use Rattle.kept_views.proofs.AnswerLemmas.{as_pair, alike_rows, by_operator}
use Rattle.kept_views.proofs.making.of_two.Goals as goal

-- ---- Union

pub united-requires-clause-heading : goal.united-requires-clause-heading
united-requires-clause-heading g c = (as_pair c.args.op.now Union c.args.here.now c.args.there.now c.args.left.now.heading c.args.right.now.heading c.in-Union.is c.requires).heading

pub united-requires-clause-intervals : goal.united-requires-clause-intervals
united-requires-clause-intervals g c = (as_pair c.args.op.now Union c.args.here.now c.args.there.now c.args.left.now.heading c.args.right.now.heading c.in-Union.is c.requires).intervals

pub returns-in-Union-clause-rows : goal.returns-in-Union-clause-rows
returns-in-Union-clause-rows g c =
    let left = c.args.left.now in
    let right = c.args.right.now in
    by_operator c.args.op.now Union c.args.here.now c.args.there.now left.heading right.heading left.rows right.rows c.united.result c.in-Union.is left.heading _ refl
    (alike_rows united c.args.here.now c.args.there.now left.heading right.heading left.rows right.rows (as_pair c.args.op.now Union c.args.here.now c.args.there.now c.args.left.now.heading c.args.right.now.heading c.in-Union.is c.requires)) c.united.ensures.rows

-- ---- Intersect

pub intersected-requires-clause-heading : goal.intersected-requires-clause-heading
intersected-requires-clause-heading g c = (as_pair c.args.op.now Intersect c.args.here.now c.args.there.now c.args.left.now.heading c.args.right.now.heading c.in-Intersect.is c.requires).heading

pub intersected-requires-clause-intervals : goal.intersected-requires-clause-intervals
intersected-requires-clause-intervals g c = (as_pair c.args.op.now Intersect c.args.here.now c.args.there.now c.args.left.now.heading c.args.right.now.heading c.in-Intersect.is c.requires).intervals

pub returns-in-Intersect-clause-rows : goal.returns-in-Intersect-clause-rows
returns-in-Intersect-clause-rows g c =
    let left = c.args.left.now in
    let right = c.args.right.now in
    by_operator c.args.op.now Intersect c.args.here.now c.args.there.now left.heading right.heading left.rows right.rows c.intersected.result c.in-Intersect.is left.heading _ refl
    (alike_rows intersected c.args.here.now c.args.there.now left.heading right.heading left.rows right.rows (as_pair c.args.op.now Intersect c.args.here.now c.args.there.now c.args.left.now.heading c.args.right.now.heading c.in-Intersect.is c.requires)) c.intersected.ensures.rows

-- ---- Minus

pub subtracted-requires-clause-heading : goal.subtracted-requires-clause-heading
subtracted-requires-clause-heading g c = (as_pair c.args.op.now Minus c.args.here.now c.args.there.now c.args.left.now.heading c.args.right.now.heading c.in-Minus.is c.requires).heading

pub subtracted-requires-clause-intervals : goal.subtracted-requires-clause-intervals
subtracted-requires-clause-intervals g c = (as_pair c.args.op.now Minus c.args.here.now c.args.there.now c.args.left.now.heading c.args.right.now.heading c.in-Minus.is c.requires).intervals

pub returns-in-Minus-clause-rows : goal.returns-in-Minus-clause-rows
returns-in-Minus-clause-rows g c =
    let left = c.args.left.now in
    let right = c.args.right.now in
    by_operator c.args.op.now Minus c.args.here.now c.args.there.now left.heading right.heading left.rows right.rows c.subtracted.result c.in-Minus.is left.heading _ refl
    (alike_rows subtracted c.args.here.now c.args.there.now left.heading right.heading left.rows right.rows (as_pair c.args.op.now Minus c.args.here.now c.args.there.now c.args.left.now.heading c.args.right.now.heading c.in-Minus.is c.requires)) c.subtracted.ensures.rows

-- ---- Join

pub joined_rows-requires : goal.joined_rows-requires
joined_rows-requires g c = as_pair c.args.op.now Join c.args.here.now c.args.there.now c.args.left.now.heading c.args.right.now.heading c.in-Join.is c.requires

pub returns-in-Join-clause-rows : goal.returns-in-Join-clause-rows
returns-in-Join-clause-rows g c =
    let left = c.args.left.now in
    let right = c.args.right.now in
    by_operator c.args.op.now Join c.args.here.now c.args.there.now left.heading right.heading left.rows right.rows c.joined_rows.result c.in-Join.is (joined_heading left.heading right.heading) _ refl
    refl c.joined_rows.ensures.rows

-- ---- Matching

pub matched-requires-clause-kinds : goal.matched-requires-clause-kinds
matched-requires-clause-kinds g c = (as_pair c.args.op.now Matching c.args.here.now c.args.there.now c.args.left.now.heading c.args.right.now.heading c.in-Matching.is c.requires).kinds

pub matched-requires-clause-same : goal.matched-requires-clause-same
matched-requires-clause-same g c = (as_pair c.args.op.now Matching c.args.here.now c.args.there.now c.args.left.now.heading c.args.right.now.heading c.in-Matching.is c.requires).same

pub matched-requires-clause-left : goal.matched-requires-clause-left
matched-requires-clause-left g c = (as_pair c.args.op.now Matching c.args.here.now c.args.there.now c.args.left.now.heading c.args.right.now.heading c.in-Matching.is c.requires).first

pub matched-requires-clause-right : goal.matched-requires-clause-right
matched-requires-clause-right g c = (as_pair c.args.op.now Matching c.args.here.now c.args.there.now c.args.left.now.heading c.args.right.now.heading c.in-Matching.is c.requires).second

pub returns-in-Matching-clause-rows : goal.returns-in-Matching-clause-rows
returns-in-Matching-clause-rows g c =
    let left = c.args.left.now in
    let right = c.args.right.now in
    by_operator c.args.op.now Matching c.args.here.now c.args.there.now left.heading right.heading left.rows right.rows c.matched.result c.in-Matching.is left.heading _ refl
    refl c.matched.ensures.rows

-- ---- NotMatching

pub unmatched-requires-clause-kinds : goal.unmatched-requires-clause-kinds
unmatched-requires-clause-kinds g c = (as_pair c.args.op.now NotMatching c.args.here.now c.args.there.now c.args.left.now.heading c.args.right.now.heading c.in-NotMatching.is c.requires).kinds

pub unmatched-requires-clause-same : goal.unmatched-requires-clause-same
unmatched-requires-clause-same g c = (as_pair c.args.op.now NotMatching c.args.here.now c.args.there.now c.args.left.now.heading c.args.right.now.heading c.in-NotMatching.is c.requires).same

pub unmatched-requires-clause-left : goal.unmatched-requires-clause-left
unmatched-requires-clause-left g c = (as_pair c.args.op.now NotMatching c.args.here.now c.args.there.now c.args.left.now.heading c.args.right.now.heading c.in-NotMatching.is c.requires).first

pub unmatched-requires-clause-right : goal.unmatched-requires-clause-right
unmatched-requires-clause-right g c = (as_pair c.args.op.now NotMatching c.args.here.now c.args.there.now c.args.left.now.heading c.args.right.now.heading c.in-NotMatching.is c.requires).second

pub returns-in-NotMatching-clause-rows : goal.returns-in-NotMatching-clause-rows
returns-in-NotMatching-clause-rows g c =
    let left = c.args.left.now in
    let right = c.args.right.now in
    by_operator c.args.op.now NotMatching c.args.here.now c.args.there.now left.heading right.heading left.rows right.rows c.unmatched.result c.in-NotMatching.is left.heading _ refl
    refl c.unmatched.ensures.rows
