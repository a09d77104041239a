use Rattle.std.proofs.Common.{ℕ, List, ap, ◌∙◌}
use Rattle.std.specs.Ordering.{nat_cmp}
use Rattle.base_core.specs.Sets.{in_order}
use Rattle.relation_core.proofs.HashLemmas.{hashes_from_sort}
use Rattle.u_constraints.proofs.pass.sorted_hashes.Goals as goal

pub returns-clause-hashes : goal.returns-clause-hashes
returns-clause-hashes c =
    let hashes = hashes_from_sort c.in_ok-list.list.items c.sort.new.self.items c.dedup.new.self.items c.sort.ensures.permutation c.in_ok-sort.ensures.sorted c.dedup.ensures.filtered in
    hashes.0 ∙ ap (λ (ms : List ℕ). in_order nat_cmp ms) c.in_ok-list.ensures

pub returns-clause-sorted : goal.returns-clause-sorted
returns-clause-sorted c = (hashes_from_sort c.in_ok-list.list.items c.sort.new.self.items c.dedup.new.self.items c.sort.ensures.permutation c.in_ok-sort.ensures.sorted c.dedup.ensures.filtered).1
