use Rattle.std.proofs.Common.{◌≡◌, ℕ, ◌↔◌, List, length, subst, sym, ap, ◌∙◌}
use Rattle.std.specs.List.{All}
use Rattle.std.specs.Ordering.{nat_cmp}
use Rattle.cell_packing.specs.Covering.{Among}
use Rattle.cell_boxes.specs.Answers.{IsMatched, IsPackedRow, IsPackedCover, IsBoxOf, IsBoxOfKeyed}
use Rattle.cell_boxes.specs.Meetings.{IsShared}
use Rattle.cell_boxes.specs.Rows.{Ascend, PlainCellBox}
use Rattle.cell_boxes.proofs.NumberLemmas.{count_numbered, sides_numbered, numbered_box, numbered_matched}
use Rattle.cell_boxes.proofs.OperatorLemmas.{packed_same, cover_same}
use Rattle.cell_boxes.proofs.operators.matching.Goals as goal

pub packed_shared-requires-clause-left : goal.packed_shared-requires-clause-left
packed_shared-requires-clause-left g c = subst (All (λ (x : PlainCellBox _). length x.1 ≡ c.args.sides)) (sym c.as_slice.ensures.value) (sides_numbered c.args.sides c.in_ok-keys.keys.items c.in_ok-lefts.lefts.items c.in_ok-lefts.ensures.left_boxes (c.in_ok-keys.ensures.sides c.args.sides c.requires.left))

pub packed_shared-requires-clause-right : goal.packed_shared-requires-clause-right
packed_shared-requires-clause-right g c = subst (All (λ (x : PlainCellBox _). length x.1 ≡ c.args.sides)) (sym c.as_slice-3.ensures.value) (sides_numbered c.args.sides c.in_ok-others.others.items c.in_ok-lefts.rights.items c.in_ok-lefts.ensures.right_boxes (c.in_ok-others.ensures.sides c.args.sides c.requires.right))

pub packed_shared-requires-clause-left_order : goal.packed_shared-requires-clause-left_order
packed_shared-requires-clause-left_order g c = subst (Ascend nat_cmp) (sym c.as_slice.ensures.value) c.in_ok-lefts.ensures.left_order

pub packed_shared-requires-clause-right_order : goal.packed_shared-requires-clause-right_order
packed_shared-requires-clause-right_order g c = subst (Ascend nat_cmp) (sym c.as_slice-3.ensures.value) c.in_ok-lefts.ensures.right_order

pub packed_shared-requires-clause-labels : goal.packed_shared-requires-clause-labels
packed_shared-requires-clause-labels g c = ap length c.as_slice-2.ensures.value ∙ c.in_ok-keys.ensures.paired.count ∙ count_numbered c.in_ok-keys.keys.items c.in_ok-lefts.lefts.items c.in_ok-lefts.ensures.left_boxes ∙ sym (ap length c.as_slice.ensures.value)

pub returns-clause-rows : goal.returns-clause-rows
returns-clause-rows g c =
    let keys = c.in_ok-keys.keys.items in
    let labels = c.in_ok-keys.labels.items in
    let others = c.in_ok-others.others.items in
    let lefts = c.in_ok-lefts.lefts.items in
    let rights = c.in_ok-lefts.rights.items in
    let pairs = c.in_ok-keys.ensures.paired in
    let are = c.in_ok-lefts.ensures in
    let k : ℕ = c.args.sides in
    packed_same k (IsShared lefts labels rights) (IsMatched c.args.left.items c.args.right.items) c.in_ok-out.out.items (numbered_matched c.args.left.items keys labels pairs lefts rights c.args.right.items others c.in_ok-others.ensures.same are)
    (subst (λ (ks : List (PlainCellBox _)). (x : PlainCellBox _) → Among x c.in_ok-out.out.items ↔ IsPackedRow k (IsShared ks labels rights) x) c.as_slice.ensures.value
    (subst (λ (ls : List _). (x : PlainCellBox _) → Among x c.in_ok-out.out.items ↔ IsPackedRow k (IsShared c.as_slice.result.now ls rights) x) c.as_slice-2.ensures.value
    (subst (λ (rs : List (PlainCellBox _)). (x : PlainCellBox _) → Among x c.in_ok-out.out.items ↔ IsPackedRow k (IsShared c.as_slice.result.now c.as_slice-2.result.now rs) x) c.as_slice-3.ensures.value c.in_ok-out.ensures.rows)))

pub returns-clause-cover : goal.returns-clause-cover
returns-clause-cover g c =
    let keys = c.in_ok-keys.keys.items in
    let labels = c.in_ok-keys.labels.items in
    let others = c.in_ok-others.others.items in
    let lefts = c.in_ok-lefts.lefts.items in
    let rights = c.in_ok-lefts.rights.items in
    let pairs = c.in_ok-keys.ensures.paired in
    let are = c.in_ok-lefts.ensures in
    let k : ℕ = c.args.sides in
    let out = c.in_ok-out.out.items in
    cover_same k (IsShared lefts labels rights) (IsMatched c.args.left.items c.args.right.items) (IsBoxOf lefts) (IsBoxOfKeyed c.args.left.items) out
    (numbered_matched c.args.left.items keys labels pairs lefts rights c.args.right.items others c.in_ok-others.ensures.same are) (numbered_box c.args.left.items keys labels pairs lefts rights others are)
    (subst (λ (ks : List (PlainCellBox _)). IsPackedCover k (IsShared ks labels rights) (IsBoxOf ks) out) c.as_slice.ensures.value
    (subst (λ (ls : List _). IsPackedCover k (IsShared c.as_slice.result.now ls rights) (IsBoxOf c.as_slice.result.now) out) c.as_slice-2.ensures.value
    (subst (λ (rs : List (PlainCellBox _)). IsPackedCover k (IsShared c.as_slice.result.now c.as_slice-2.result.now rs) (IsBoxOf c.as_slice.result.now) out) c.as_slice-3.ensures.value c.in_ok-out.ensures.cover)))
