use Rattle.std.proofs.Common.{◌≡◌, ◌++◌, List, ℕ, ◌∙◌, ap, ap₂, true}
use Rattle.value_core.specs.declared.constraint.HistoryRule.{HistoryRule}
use Rattle.u_constraints.proofs.HistoryLemmas.{both_within, over_at, told_of_rows}
use Rattle.u_constraints.proofs.histories.is_touched.Goals as goal

pub sorted_ends-requires-clause-interval : goal.sorted_ends-requires-clause-interval
sorted_ends-requires-clause-interval c = over_at _ _ _ _ (ap (λ (h : HistoryRule). h.span_here) c.rule.view_is) c.requires.8

pub begins-requires-clause-within : goal.begins-requires-clause-within
begins-requires-clause-within c =
    let there : c.as_slice-6.result.now ≡ c.args.rule.now.key_there ++ c.args.rule.now.all_there =
    c.as_slice-6.ensures.value ∙ c.in_ok-there.ensures
    ∙ ap₂ (λ (is js : List ℕ). is ++ js) (c.as_slice-3.ensures.value ∙ ap (λ (h : HistoryRule). h.key_there) c.rule.view_is) (c.as_slice-4.ensures.value ∙ ap (λ (h : HistoryRule). h.all_there) c.rule.view_is) in
    both_within _ _ _ _ there c.requires.1.within c.requires.4.within

pub returns : goal.returns
returns c =
    let here : c.as_slice-5.result.now ≡ c.args.rule.now.key_here ++ c.args.rule.now.all_here =
    c.as_slice-5.ensures.value ∙ c.in_ok-here.ensures
    ∙ ap₂ (λ (is js : List ℕ). is ++ js) (c.as_slice.ensures.value ∙ ap (λ (h : HistoryRule). h.key_here) c.rule.view_is) (c.as_slice-2.ensures.value ∙ ap (λ (h : HistoryRule). h.all_here) c.rule.view_is) in
    let there : c.as_slice-6.result.now ≡ c.args.rule.now.key_there ++ c.args.rule.now.all_there =
    c.as_slice-6.ensures.value ∙ c.in_ok-there.ensures
    ∙ ap₂ (λ (is js : List ℕ). is ++ js) (c.as_slice-3.ensures.value ∙ ap (λ (h : HistoryRule). h.key_there) c.rule.view_is) (c.as_slice-4.ensures.value ∙ ap (λ (h : HistoryRule). h.all_there) c.rule.view_is) in
    told_of_rows _ _ _ _ _ _ _ _ true c.args.of.now.rows c.args.other.now.rows _ _ _ _ _ here there
    (ap (λ (h : HistoryRule). h.span_here) c.rule.view_is)
    (ap (λ (h : HistoryRule). h.point_there) c.rule.view_is)
    c.in_ok-ends.ensures.hashes c.in_ok-begins.ensures.hashes c.as_slice-7.ensures.value c.as_slice-8.ensures.value c.is_any_reached.ensures
