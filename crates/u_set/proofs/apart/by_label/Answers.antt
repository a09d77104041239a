use Rattle.std.proofs.lemmas.List.Sorted.{IsPermutation-map, IsPermutation-trans}
use Rattle.u_set.proofs.apart.by_label.Goals as goal

pub returns : goal.returns
returns c =
    let given = c.args.rows.items in
    let merged = c.sort_by.new.self.items in
    let arranged = c.arrange.new.items.items in
    let last = c.sort_by-2.new.self.items in
    IsPermutation-map (λ r. r.row.now) given last
    (IsPermutation-trans given arranged last (IsPermutation-trans given merged arranged c.sort_by.ensures.permutation c.arrange.ensures) c.sort_by-2.ensures.permutation)
