use Rattle.std.proofs.Common.{◌≡◌, ◌≤◌, length, None, rules, arith, true}
use Rattle.std.specs.Ordering.{is_lt}
use Rattle.std.specs.List.Sorted.{IsSorted}
use Rattle.std.proofs.lemmas.List.Sorted.{ranks_by, answers_always}
use Rattle.value_core.specs.Values.{attribute_cmp, is_heading}
use Rattle.value_core.specs.Headings.{first_repeat, most_attributes}
use Rattle.value_core.proofs.HeadingLemmas.{attribute_total, heading_from_sorted}
use Rattle.value_core.proofs.heading.Heading.make.Goals as goal

-- the names differ, and the sort has put them in order
ordered : (c : goal.In_ok-sort_by) → is_heading c.sort_by.new.self.items ≡ true
ordered c =
    let new : first_repeat c.args.list.items ≡ None = cc in
    let few : length c.sort_by.new.self.items ≤ most_attributes = omega arith in
    let up : IsSorted attribute_cmp c.sort_by.new.self.items =
    c.in_ok-sort_by.ensures.sorted (λ a b. is_lt (attribute_cmp a b)) (ranks_by attribute_total (λ x. x)) (answers_always _ _ _ (λ f a r g' h. search rules)) in
    heading_from_sorted c.args.list.items c.sort_by.new.self.items new c.sort_by.ensures.permutation up few

pub invariant_of-result : goal.invariant_of-result
invariant_of-result c = ordered c

pub returns : goal.returns
returns c = record { different = cc; same = c.sort_by.ensures.permutation; ordered = ordered c }
