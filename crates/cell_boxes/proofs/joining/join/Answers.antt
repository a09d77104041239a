use Rattle.std.proofs.Common.{◌≡◌, ℕ, ◌↔◌, List, length, subst, sym, ap, ◌∙◌}
use Rattle.std.specs.List.{All}
use Rattle.std.specs.Ordering.{nat_cmp}
use Rattle.cell_packing.specs.Covering.{Among}
use Rattle.cell_boxes.specs.Answers.{IsJoined, IsPackedRow, IsPackedCover, IsBoxOf, IsBoxOfKeyed}
use Rattle.cell_boxes.specs.Meetings.{IsPair}
use Rattle.cell_boxes.specs.Rows.{Ascend, PlainCellBox}
use Rattle.cell_boxes.proofs.NumberLemmas.{count_numbered, sides_numbered, numbered_box, numbered_joined}
use Rattle.cell_boxes.proofs.OperatorLemmas.{packed_same, cover_same}
use Rattle.cell_boxes.proofs.joining.join.Goals as goal

pub packed_joined-requires-clause-left : goal.packed_joined-requires-clause-left
packed_joined-requires-clause-left g c = subst (All (λ (x : PlainCellBox _). length x.1 ≡ c.args.sides)) (sym c.as_slice.ensures.value) (sides_numbered c.args.sides c.in_ok-left_keys.left_keys.items c.in_ok-left_rows.left_rows.items c.in_ok-left_rows.ensures.left_boxes (c.in_ok-left_keys.ensures.sides c.args.sides c.requires.left))

pub packed_joined-requires-clause-right : goal.packed_joined-requires-clause-right
packed_joined-requires-clause-right g c = subst (All (λ (x : PlainCellBox _). length x.1 ≡ c.args.sides)) (sym c.as_slice-3.ensures.value) (sides_numbered c.args.sides c.in_ok-right_keys.right_keys.items c.in_ok-left_rows.right_rows.items c.in_ok-left_rows.ensures.right_boxes (c.in_ok-right_keys.ensures.sides c.args.sides c.requires.right))

pub packed_joined-requires-clause-left_order : goal.packed_joined-requires-clause-left_order
packed_joined-requires-clause-left_order g c = subst (Ascend nat_cmp) (sym c.as_slice.ensures.value) c.in_ok-left_rows.ensures.left_order

pub packed_joined-requires-clause-right_order : goal.packed_joined-requires-clause-right_order
packed_joined-requires-clause-right_order g c = subst (Ascend nat_cmp) (sym c.as_slice-3.ensures.value) c.in_ok-left_rows.ensures.right_order

pub packed_joined-requires-clause-lefts : goal.packed_joined-requires-clause-lefts
packed_joined-requires-clause-lefts g c = ap length c.as_slice-2.ensures.value ∙ c.in_ok-left_keys.ensures.paired.count ∙ count_numbered c.in_ok-left_keys.left_keys.items c.in_ok-left_rows.left_rows.items c.in_ok-left_rows.ensures.left_boxes ∙ sym (ap length c.as_slice.ensures.value)

pub packed_joined-requires-clause-rights : goal.packed_joined-requires-clause-rights
packed_joined-requires-clause-rights g c = ap length c.as_slice-4.ensures.value ∙ c.in_ok-right_keys.ensures.paired.count ∙ count_numbered c.in_ok-right_keys.right_keys.items c.in_ok-left_rows.right_rows.items c.in_ok-left_rows.ensures.right_boxes ∙ sym (ap length c.as_slice-3.ensures.value)

pub returns-clause-rows : goal.returns-clause-rows
returns-clause-rows g c =
    let left_keys = c.in_ok-left_keys.left_keys.items in
    let lefts = c.in_ok-left_keys.lefts.items in
    let right_keys = c.in_ok-right_keys.right_keys.items in
    let rights = c.in_ok-right_keys.rights.items in
    let left_rows = c.in_ok-left_rows.left_rows.items in
    let right_rows = c.in_ok-left_rows.right_rows.items in
    let are = c.in_ok-left_rows.ensures in
    let k : ℕ = c.args.sides in
    let means = g.O.PairRule.means c.args.rule.now in
    packed_same k (IsPair means left_rows lefts right_rows rights) (IsJoined means c.args.left.items c.args.right.items) c.in_ok-out.out.items
    (numbered_joined c.args.left.items left_keys lefts c.in_ok-left_keys.ensures.paired left_rows right_rows means c.args.right.items right_keys rights c.in_ok-right_keys.ensures.paired are)
    (subst (λ (ks : List (PlainCellBox _)). (x : PlainCellBox _) → Among x c.in_ok-out.out.items ↔ IsPackedRow k (IsPair means ks lefts right_rows rights) x) c.as_slice.ensures.value
    (subst (λ (ls : List _). (x : PlainCellBox _) → Among x c.in_ok-out.out.items ↔ IsPackedRow k (IsPair means c.as_slice.result.now ls right_rows rights) x) c.as_slice-2.ensures.value
    (subst (λ (rs : List (PlainCellBox _)). (x : PlainCellBox _) → Among x c.in_ok-out.out.items ↔ IsPackedRow k (IsPair means c.as_slice.result.now c.as_slice-2.result.now rs rights) x) c.as_slice-3.ensures.value
    (subst (λ (ls : List _). (x : PlainCellBox _) → Among x c.in_ok-out.out.items ↔ IsPackedRow k (IsPair means c.as_slice.result.now c.as_slice-2.result.now c.as_slice-3.result.now ls) x) c.as_slice-4.ensures.value c.in_ok-out.ensures.rows))))

pub returns-clause-cover : goal.returns-clause-cover
returns-clause-cover g c =
    let left_keys = c.in_ok-left_keys.left_keys.items in
    let lefts = c.in_ok-left_keys.lefts.items in
    let right_keys = c.in_ok-right_keys.right_keys.items in
    let rights = c.in_ok-right_keys.rights.items in
    let left_rows = c.in_ok-left_rows.left_rows.items in
    let right_rows = c.in_ok-left_rows.right_rows.items in
    let are = c.in_ok-left_rows.ensures in
    let k : ℕ = c.args.sides in
    let means = g.O.PairRule.means c.args.rule.now in
    let out = c.in_ok-out.out.items in
    cover_same k (IsPair means left_rows lefts right_rows rights) (IsJoined means c.args.left.items c.args.right.items) (IsBoxOf left_rows) (IsBoxOfKeyed c.args.left.items) out
    (numbered_joined c.args.left.items left_keys lefts c.in_ok-left_keys.ensures.paired left_rows right_rows means c.args.right.items right_keys rights c.in_ok-right_keys.ensures.paired are)
    (numbered_box c.args.left.items left_keys lefts c.in_ok-left_keys.ensures.paired left_rows right_rows right_keys are)
    (subst (λ (ks : List (PlainCellBox _)). IsPackedCover k (IsPair means ks lefts right_rows rights) (IsBoxOf ks) out) c.as_slice.ensures.value
    (subst (λ (ls : List _). IsPackedCover k (IsPair means c.as_slice.result.now ls right_rows rights) (IsBoxOf c.as_slice.result.now) out) c.as_slice-2.ensures.value
    (subst (λ (rs : List (PlainCellBox _)). IsPackedCover k (IsPair means c.as_slice.result.now c.as_slice-2.result.now rs rights) (IsBoxOf c.as_slice.result.now) out) c.as_slice-3.ensures.value
    (subst (λ (ls : List _). IsPackedCover k (IsPair means c.as_slice.result.now c.as_slice-2.result.now c.as_slice-3.result.now ls) (IsBoxOf c.as_slice.result.now) out) c.as_slice-4.ensures.value c.in_ok-out.ensures.cover))))
