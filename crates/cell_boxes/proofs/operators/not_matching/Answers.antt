use Rattle.std.proofs.Common.{◌≡◌, ℕ, ◌↔◌, List, length, subst, sym, ◌∙◌}
use Rattle.std.specs.List.{All}
use Rattle.std.specs.Ordering.{nat_cmp}
use Rattle.cell_packing.specs.Covering.{Among}
use Rattle.cell_boxes.specs.Answers.{IsUnmatched, IsPackedRow, IsPackedCover, IsBoxOf, IsBoxOfKeyed}
use Rattle.cell_boxes.specs.Outside.{IsRest}
use Rattle.cell_boxes.specs.Rows.{Ascend, PlainCellBox}
use Rattle.cell_boxes.proofs.NumberLemmas.{count_numbered, sides_numbered, numbered_box, numbered_unmatched}
use Rattle.cell_boxes.proofs.OperatorLemmas.{packed_same, cover_same}
use Rattle.cell_boxes.proofs.operators.not_matching.Goals as goal

pub packed_rest-requires-clause-left : goal.packed_rest-requires-clause-left
packed_rest-requires-clause-left g c = sides_numbered c.args.sides c.in_ok-keys.keys.items c.in_ok-lefts.lefts.items c.in_ok-lefts.ensures.left_boxes (c.in_ok-keys.ensures.sides c.args.sides c.requires.left)

pub packed_rest-requires-clause-right : goal.packed_rest-requires-clause-right
packed_rest-requires-clause-right g c = subst (All (λ (x : PlainCellBox _). length x.1 ≡ c.args.sides)) (sym c.as_slice.ensures.value) (sides_numbered c.args.sides c.in_ok-others.others.items c.in_ok-lefts.rights.items c.in_ok-lefts.ensures.right_boxes (c.in_ok-others.ensures.sides c.args.sides c.requires.right))

pub packed_rest-requires-clause-left_order : goal.packed_rest-requires-clause-left_order
packed_rest-requires-clause-left_order g c = c.in_ok-lefts.ensures.left_order

pub packed_rest-requires-clause-right_order : goal.packed_rest-requires-clause-right_order
packed_rest-requires-clause-right_order g c = subst (Ascend nat_cmp) (sym c.as_slice.ensures.value) c.in_ok-lefts.ensures.right_order

pub packed_rest-requires-clause-labels : goal.packed_rest-requires-clause-labels
packed_rest-requires-clause-labels g c = c.in_ok-keys.ensures.paired.count ∙ count_numbered c.in_ok-keys.keys.items c.in_ok-lefts.lefts.items c.in_ok-lefts.ensures.left_boxes

pub returns-clause-rows : goal.returns-clause-rows
returns-clause-rows g c =
    let keys = c.in_ok-keys.keys.items in
    let labels = c.in_ok-keys.labels.items in
    let others = c.in_ok-others.others.items in
    let lefts = c.in_ok-lefts.lefts.items in
    let rights = c.in_ok-lefts.rights.items in
    let pairs = c.in_ok-keys.ensures.paired in
    let are = c.in_ok-lefts.ensures in
    let k : ℕ = c.args.sides in
    packed_same k (IsRest lefts labels rights) (IsUnmatched c.args.left.items c.args.right.items) c.in_ok-out.out.items (numbered_unmatched c.args.left.items keys labels pairs lefts rights c.args.right.items others c.in_ok-others.ensures.same are)
    (subst (λ (rs : List (PlainCellBox _)). (x : PlainCellBox _) → Among x c.in_ok-out.out.items ↔ IsPackedRow k (IsRest lefts labels rs) x) c.as_slice.ensures.value c.in_ok-out.ensures.rows)

pub returns-clause-cover : goal.returns-clause-cover
returns-clause-cover g c =
    let keys = c.in_ok-keys.keys.items in
    let labels = c.in_ok-keys.labels.items in
    let others = c.in_ok-others.others.items in
    let lefts = c.in_ok-lefts.lefts.items in
    let rights = c.in_ok-lefts.rights.items in
    let pairs = c.in_ok-keys.ensures.paired in
    let are = c.in_ok-lefts.ensures in
    let k : ℕ = c.args.sides in
    let out = c.in_ok-out.out.items in
    cover_same k (IsRest lefts labels rights) (IsUnmatched c.args.left.items c.args.right.items) (IsBoxOf lefts) (IsBoxOfKeyed c.args.left.items) out
    (numbered_unmatched c.args.left.items keys labels pairs lefts rights c.args.right.items others c.in_ok-others.ensures.same are) (numbered_box c.args.left.items keys labels pairs lefts rights others are)
    (subst (λ (rs : List (PlainCellBox _)). IsPackedCover k (IsRest lefts labels rs) (IsBoxOf lefts) out) c.as_slice.ensures.value c.in_ok-out.ensures.cover)
