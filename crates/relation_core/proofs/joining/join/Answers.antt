use Rattle.std.proofs.Common.{◌≡◌, ◌<◌, ◌≤◌, List, length, arith, sym, subst, ap, ap₂, ◌∙◌, IsTrue, MatchResult}
use Rattle.std.proofs.lemmas.Result.{err_from_is_err_and}
use Rattle.value_core.specs.Values.{Row, Heading, Relation, most_rows, rows_of}
use Rattle.value_core.specs.Relations.{all_fit}
use Rattle.value_core.specs.declared.refuse.RowsRefuse.{RowsRefuse}
use Rattle.value_core.specs.declared.refuse.RowsRefuse.TheVariants.{TooMany, Memory}
use Rattle.relation_core.specs.Answers.{IsAnswer, IsRefusal}
use Rattle.relation_core.specs.Joins.{joined_heading, joined_pairs, joined}
use Rattle.relation_core.proofs.JoinLemmas.{all_joined, all_fit_joined, count_joined}
use Rattle.relation_core.proofs.joining.join.Goals as goal

abbrev relation_with : Heading → List Row → Relation
relation_with heading rows = record { heading = heading; rows = rows }

-- lists of one length are refused alike
refused : (rows others : List Row) → length rows ≡ length others → (e : RowsRefuse) → IsRefusal others e → IsRefusal rows e
refused rows others same TooMany h = subst (λ n. most_rows < n) (sym same) h
refused rows others same Memory h = h

joined_as : (left right o t made : Heading) → o ≡ left → t ≡ right → made ≡ joined_heading o t → made ≡ joined_heading left right
joined_as left right o t made ours theirs e = e ∙ ap₂ (λ (u v : Heading). joined_heading u v) ours theirs

pub returns-in_err-heading-clause-members : goal.returns-in_err-heading-clause-members
returns-in_err-heading-clause-members c z = all_joined c.args.left.now c.args.right.now c.heading.ensures.relation c.heading-2.ensures.relation c.requires.kinds z

pub returns-in_err-rows-clause-rows : goal.returns-in_err-rows-clause-rows
returns-in_err-rows-clause-rows c =
    let met = err_from_is_err_and c.from_residual-in_err-rows.result c.from_residual-in_err-rows.ensures.1 in
    let count = count_joined c.args.left.now c.args.right.now c.heading.ensures.relation c.heading-2.ensures.relation c.requires.kinds in
    let refusal : IsRefusal (joined c.args.left.now.heading c.args.right.now.heading c.args.left.now.rows c.args.right.now.rows) met.0 =
    refused (joined c.args.left.now.heading c.args.right.now.heading c.args.left.now.rows c.args.right.now.rows) (joined_pairs c.args.left.now.heading c.args.right.now.heading c.args.left.now.rows c.args.right.now.rows) count met.0
    (subst (λ e. IsRefusal (joined_pairs c.args.left.now.heading c.args.right.now.heading c.args.left.now.rows c.args.right.now.rows) e) (sym met.2) c.in_err-rows.ensures.pairs) in
    subst (λ z. MatchResult z (IsAnswer (joined_heading c.args.left.now.heading c.args.right.now.heading) (joined c.args.left.now.heading c.args.right.now.heading c.args.left.now.rows c.args.right.now.rows))
    (IsRefusal (joined c.args.left.now.heading c.args.right.now.heading c.args.left.now.rows c.args.right.now.rows))) (sym met.1) refusal

pub returns-in_err-rows-clause-members : goal.returns-in_err-rows-clause-members
returns-in_err-rows-clause-members c z = all_joined c.args.left.now c.args.right.now c.heading.ensures.relation c.heading-2.ensures.relation c.requires.kinds z

pub of_few-requires-clause-fitting : goal.of_few-requires-clause-fitting
of_few-requires-clause-fitting c =
    let head = joined_as c.args.left.now.heading c.args.right.now.heading c.heading.result.now c.heading-2.result.now c.in_ok-heading.heading c.heading.ensures.heading c.heading-2.ensures.heading c.in_ok-heading.ensures in
    subst (λ (h : Heading). IsTrue (all_fit h c.in_ok-rows.rows.items)) (sym head)
    (subst (λ (rows : List Row). IsTrue (all_fit (joined_heading c.args.left.now.heading c.args.right.now.heading) rows)) (sym c.in_ok-rows.ensures.pairs)
    (all_fit_joined c.args.left.now c.args.right.now c.heading.ensures.relation c.heading-2.ensures.relation c.requires.kinds))

pub returns-in_err-relation-clause-members : goal.returns-in_err-relation-clause-members
returns-in_err-relation-clause-members c z = all_joined c.args.left.now c.args.right.now c.heading.ensures.relation c.heading-2.ensures.relation c.requires.kinds z

pub returns-clause-rows : goal.returns-clause-rows
returns-clause-rows c =
    let head = joined_as c.args.left.now.heading c.args.right.now.heading c.heading.result.now c.heading-2.result.now c.in_ok-heading.heading c.heading.ensures.heading c.heading-2.ensures.heading c.in_ok-heading.ensures in
    let count = count_joined c.args.left.now c.args.right.now c.heading.ensures.relation c.heading-2.ensures.relation c.requires.kinds in
    let same = ap (λ (rows : List Row). length rows) c.in_ok-rows.ensures.pairs in
    let few : length (joined c.args.left.now.heading c.args.right.now.heading c.args.left.now.rows c.args.right.now.rows) ≤ most_rows = omega (arith, count, same, c.in_ok-rows.ensures.few) in
    record {
      few = few;
      is = c.in_ok-relation.ensures ∙ ap₂ relation_with head (ap (λ (rows : List Row). rows_of rows) c.in_ok-rows.ensures.pairs);
    }

pub returns-clause-members : goal.returns-clause-members
returns-clause-members c z = all_joined c.args.left.now c.args.right.now c.heading.ensures.relation c.heading-2.ensures.relation c.requires.kinds z
