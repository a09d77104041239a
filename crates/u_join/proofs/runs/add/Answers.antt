use Rattle.std.proofs.Common.{◌≡◌, [], ◌∷◌, ◌++◌, sym, ap, ◌∙◌, arith, w64, to_z, of_z}
use Rattle.std.specs.Int.{int_max}
use Rattle.std.proofs.lemmas.Int.{ints, to_z-of_z}
use Rattle.std.proofs.lemmas.List.{append-nil}
use Rattle.value_core.specs.Order.{row_separates}
use Rattle.u_join.specs.RowPairs.{seen}
use Rattle.u_join.proofs.RunLemmas.{added_behind, added_within}
use Rattle.u_join.proofs.runs.add.Goals as goal

pub returns-in_ok-push-in-Some-2 : goal.returns-in_ok-push-in-Some-2
returns-in_ok-push-in-Some-2 c =
    added_behind seen c.args.runs.now.items c.args.row c.push-then-are_apart.new.self.items
    (c.in_ok-push-in-Some-2.ensures.items ∙ ap (λ ys. ys ++ c.args.row ∷ []) (c.in_ok-push-in-Some.ensures.items ∙ sym c.in-Some.ensures.items))
    c.requires.order c.requires.intervals c.requires.interval c.requires.up

pub returns-in_ok-push-in-Some-3 : goal.returns-in_ok-push-in-Some-3
returns-in_ok-push-in-Some-3 c =
    let last = c.in-Some.last in
    let row = c.args.row in
    let end : to_z w64 (of_z w64 row.end) ≡ row.end = grind (arith, ints, to_z-of_z) in
    let meet = c.are_apart.ensures c.if-are_apart.false in
    added_within seen c.pop.new.self.items last row c.lengthened.result c.args.runs.now.items c.push-else-are_apart.new.self.items c.in-Some.ensures.items c.in_ok-push-in-Some-3.ensures.items
    (c.lengthened.ensures ∙ (λ t. ((seen last).0, (seen last).1, ((seen last).2.0, int_max (seen last).2.1 (end t))))) c.requires.order c.requires.intervals c.requires.up (row_separates (seen last).1 (seen row).1 meet.0) meet.1

pub returns-in_ok-push-in-None : goal.returns-in_ok-push-in-None
returns-in_ok-push-in-None c =
    added_behind seen c.args.runs.now.items c.args.row c.push-in-None.new.self.items
    (c.in_ok-push-in-None.ensures.items ∙ ap (λ ys. ys ++ c.args.row ∷ []) (sym (c.in-None.ensures.items ∙ append-nil c.pop.new.self.items)))
    c.requires.order c.requires.intervals c.requires.interval c.requires.up
