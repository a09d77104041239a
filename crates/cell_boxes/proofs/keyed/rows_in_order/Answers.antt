use Rattle.std.proofs.Common.{◌≡◌, length, rules}
use Rattle.std.specs.Ordering.{is_lt}
use Rattle.std.proofs.lemmas.List.Sorted.{All-permutation, IsPermutation-trans, answers_always, ranks_by}
use Rattle.cell_sweep.specs.Rows.{key_cmp, key_total}
use Rattle.cell_boxes.specs.Rows.{PlainCellBox}
use Rattle.cell_sweep.proofs.MovedLemmas.{among_moved}
use Rattle.cell_boxes.proofs.RowLemmas.{ascend_from_sorted}
use Rattle.cell_boxes.proofs.keyed.rows_in_order.Goals as goal

pub returns-clause-same : goal.returns-clause-same
returns-clause-same g c = among_moved c.args.rows.items c.sort_by.new.self.items (IsPermutation-trans _ _ _ c.arrange_unordered.ensures c.in_ok-sort_by.ensures.permutation)

pub returns-clause-order : goal.returns-clause-order
returns-clause-order g c =
    let order = key_cmp g.P.Label.order in
    ascend_from_sorted g.P.Label.order g.met.P.Label.total c.sort_by.new.self.items
    (c.in_ok-sort_by.ensures.sorted (λ a b. is_lt (order a b)) (ranks_by (key_total g.met.P.Label.total) (λ x. x)) (answers_always _ _ _ (λ f a r g' h. search rules)))

pub returns-clause-sides : goal.returns-clause-sides
returns-clause-sides g c = λ k h. All-permutation (λ (x : PlainCellBox _). length x.1 ≡ k) c.args.rows.items c.sort_by.new.self.items (IsPermutation-trans _ _ _ c.arrange_unordered.ensures c.in_ok-sort_by.ensures.permutation) h
