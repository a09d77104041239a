use Rattle.std.proofs.Common.{◌≡◌, List, sym, ap, ap₂, subst, ◌∙◌, IsTrue, MatchResult}
use Rattle.base_core.specs.Sets.{is_set}
use Rattle.value_core.specs.Values.{Row, Heading, row_cmp, rows_of}
use Rattle.value_core.specs.Relations.{all_fit}
use Rattle.relation_core.specs.Answers.{IsAnswer, IsRefusal}
use Rattle.relation_core.specs.Merged.{merged}
use Rattle.relation_core.proofs.FilterLemmas.{rows_are_set}
use Rattle.relation_core.proofs.MergeLemmas.{merged_fits, merged-rows_of}
use Rattle.relation_core.proofs.sets.merge_relations.Goals as goal

pub merge-requires-clause-left : goal.merge-requires-clause-left
merge-requires-clause-left c = subst (λ (r : List Row). IsTrue (is_set row_cmp r)) (sym c.rows.ensures.rows) (rows_are_set c.args.left.now c.rows.ensures.relation)

pub merge-requires-clause-right : goal.merge-requires-clause-right
merge-requires-clause-right c = subst (λ (r : List Row). IsTrue (is_set row_cmp r)) (sym c.rows-2.ensures.rows) (rows_are_set c.args.right.now c.rows-2.ensures.relation)

pub relation-requires : goal.relation-requires
relation-requires c =
    let l = c.args.left.now in
    let r = c.args.right.now in
    let rows : c.in_ok-rows.rows.items ≡ merged c.args.keeps c.args.left.now.rows c.args.right.now.rows =
    c.in_ok-rows.ensures ∙ ap₂ (λ (u v : List Row). merged c.args.keeps u v) c.rows.ensures.rows c.rows-2.ensures.rows in
    let right : IsTrue (all_fit c.args.left.now.heading c.args.right.now.rows) = subst (λ (h : Heading). IsTrue (all_fit h c.args.right.now.rows)) (sym c.requires) c.rows-2.ensures.relation.fitting in
    subst (λ (h : Heading). IsTrue (all_fit h c.in_ok-rows.rows.items)) (sym c.heading.ensures.heading)
    (subst (λ (u : List Row). IsTrue (all_fit l.heading u)) (sym rows) (merged_fits c.args.keeps l.heading l.rows r.rows c.rows.ensures.relation.fitting right))

pub returns : goal.returns
returns c =
    let rows : c.in_ok-rows.rows.items ≡ merged c.args.keeps c.args.left.now.rows c.args.right.now.rows =
    c.in_ok-rows.ensures ∙ ap₂ (λ (u v : List Row). merged c.args.keeps u v) c.rows.ensures.rows c.rows-2.ensures.rows in
    let set : rows_of c.in_ok-rows.rows.items ≡ merged c.args.keeps c.args.left.now.rows c.args.right.now.rows =
    ap (λ (u : List Row). rows_of u) rows ∙ merged-rows_of c.args.keeps c.args.left.now.rows c.args.right.now.rows in
    record {
      relation = c.rows.ensures.relation;
      rows = subst (λ (u : List Row). MatchResult c.relation.result (IsAnswer c.args.left.now.heading u) (IsRefusal u)) set
          (subst (λ (h : Heading). MatchResult c.relation.result (IsAnswer h (rows_of c.in_ok-rows.rows.items)) (IsRefusal (rows_of c.in_ok-rows.rows.items))) c.heading.ensures.heading c.relation.ensures);
    }
