use Rattle.std.proofs.Common.{List, map, subst}
use Rattle.std.specs.List.Sorted.{IsPermutation}
use Rattle.std.proofs.lemmas.List.Sorted.{IsPermutation-map, IsPermutation-trans}
use Rattle.value_core.specs.Values.{Row}
use Rattle.u_set.proofs.coalescing.by_label.Goals as goal

pub returns : goal.returns
returns c =
    let given = c.in_ok-list.list.items in
    let arranged = c.arrange.new.items.items in
    let last = c.sort_by.new.self.items in
    subst (λ (rows : List Row). IsPermutation rows (map (λ r. r.row) last)) c.in_ok-list.ensures
    (IsPermutation-map (λ r. r.row) given last (IsPermutation-trans given arranged last c.arrange.ensures c.sort_by.ensures.permutation))
