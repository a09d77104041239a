use Rattle.std.proofs.Common.{◌≡◌, ℕ, ◌↔◌, List, length, subst, sym}
use Rattle.std.specs.List.{All}
use Rattle.std.specs.Ordering.{nat_cmp}
use Rattle.cell_packing.specs.Covering.{Among}
use Rattle.cell_boxes.specs.Answers.{InFirst, IsPackedRow, IsPackedCover, IsBoxOf}
use Rattle.cell_boxes.specs.Outside.{IsRest}
use Rattle.cell_boxes.specs.Rows.{Ascend, PlainCellBox}
use Rattle.cell_boxes.proofs.NumberLemmas.{sides_numbered, numbered_count, numbered_box_of, numbered_first}
use Rattle.cell_boxes.proofs.OperatorLemmas.{packed_same, cover_same}
use Rattle.cell_boxes.proofs.operators.minus.Goals as goal

pub own_rest-requires-clause-left : goal.own_rest-requires-clause-left
own_rest-requires-clause-left g c = sides_numbered c.args.sides c.in_ok-lefts.lefts.items c.in_ok-keys.keys.items c.in_ok-keys.ensures.numbers.left_boxes (c.in_ok-lefts.ensures.sides c.args.sides c.requires.left)

pub own_rest-requires-clause-right : goal.own_rest-requires-clause-right
own_rest-requires-clause-right g c = subst (All (λ (x : PlainCellBox _). length x.1 ≡ c.args.sides)) (sym c.as_slice.ensures.value) (sides_numbered c.args.sides c.in_ok-others.others.items c.in_ok-keys.rights.items c.in_ok-keys.ensures.numbers.right_boxes (c.in_ok-others.ensures.sides c.args.sides c.requires.right))

pub own_rest-requires-clause-left_order : goal.own_rest-requires-clause-left_order
own_rest-requires-clause-left_order g c = c.in_ok-keys.ensures.numbers.left_order

pub own_rest-requires-clause-right_order : goal.own_rest-requires-clause-right_order
own_rest-requires-clause-right_order g c = subst (Ascend nat_cmp) (sym c.as_slice.ensures.value) c.in_ok-keys.ensures.numbers.right_order

pub own_rest-requires-clause-labels : goal.own_rest-requires-clause-labels
own_rest-requires-clause-labels g c =
    let left = c.args.left.items in
    let right = c.args.right.items in
    let sorted = c.in_ok-lefts.lefts.items in
    let others = c.in_ok-others.others.items in
    let ls = c.in_ok-lefts.ensures.same in
    let rs = c.in_ok-others.ensures.same in
    let keys = c.in_ok-keys.keys.items in
    let labels = c.in_ok-keys.labels.items in
    let rights = c.in_ok-keys.rights.items in
    let own = c.in_ok-keys.ensures.keys in
    let are = c.in_ok-keys.ensures.numbers in
    numbered_count left right sorted others ls rs labels own keys rights are

pub returns-clause-rows : goal.returns-clause-rows
returns-clause-rows g c =
    let left = c.args.left.items in
    let right = c.args.right.items in
    let sorted = c.in_ok-lefts.lefts.items in
    let others = c.in_ok-others.others.items in
    let ls = c.in_ok-lefts.ensures.same in
    let rs = c.in_ok-others.ensures.same in
    let keys = c.in_ok-keys.keys.items in
    let labels = c.in_ok-keys.labels.items in
    let rights = c.in_ok-keys.rights.items in
    let own = c.in_ok-keys.ensures.keys in
    let are = c.in_ok-keys.ensures.numbers in
    let k : ℕ = c.args.sides in
    let out = c.in_ok-out.out.items in
    packed_same k (IsRest keys labels rights) (InFirst left right) out (numbered_first left right sorted others ls rs labels own keys rights are)
    (subst (λ (os : List (PlainCellBox _)). (x : PlainCellBox _) → Among x out ↔ IsPackedRow k (IsRest keys labels os) x) c.as_slice.ensures.value c.in_ok-out.ensures.rows)

pub returns-clause-cover : goal.returns-clause-cover
returns-clause-cover g c =
    let left = c.args.left.items in
    let right = c.args.right.items in
    let sorted = c.in_ok-lefts.lefts.items in
    let others = c.in_ok-others.others.items in
    let ls = c.in_ok-lefts.ensures.same in
    let rs = c.in_ok-others.ensures.same in
    let keys = c.in_ok-keys.keys.items in
    let labels = c.in_ok-keys.labels.items in
    let rights = c.in_ok-keys.rights.items in
    let own = c.in_ok-keys.ensures.keys in
    let are = c.in_ok-keys.ensures.numbers in
    let k : ℕ = c.args.sides in
    let out = c.in_ok-out.out.items in
    cover_same k (IsRest keys labels rights) (InFirst left right) (IsBoxOf keys) (IsBoxOf left) out
    (numbered_first left right sorted others ls rs labels own keys rights are) (numbered_box_of left right sorted others ls rs labels own keys rights are)
    (subst (λ (os : List (PlainCellBox _)). IsPackedCover k (IsRest keys labels os) (IsBoxOf keys) out) c.as_slice.ensures.value c.in_ok-out.ensures.cover)
