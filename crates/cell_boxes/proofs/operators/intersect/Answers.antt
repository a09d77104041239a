use Rattle.std.proofs.Common.{◌≡◌, ℕ, ◌↔◌, List, length, subst, sym, ap, ◌∙◌}
use Rattle.std.specs.List.{All}
use Rattle.std.specs.Ordering.{nat_cmp}
use Rattle.cell_packing.specs.Covering.{Among}
use Rattle.cell_boxes.specs.Answers.{InBoth, IsPackedRow, IsPackedCover, IsBoxOf}
use Rattle.cell_boxes.specs.KeyNumbers.{RiseAlike}
use Rattle.cell_boxes.specs.Meetings.{IsShared}
use Rattle.cell_boxes.specs.Rows.{Ascend, PlainCellBox}
use Rattle.cell_boxes.proofs.NumberLemmas.{sides_numbered, numbered_count, numbered_box_of, numbered_both}
use Rattle.cell_boxes.proofs.OperatorLemmas.{packed_same, cover_same}
use Rattle.cell_boxes.proofs.operators.intersect.Goals as goal

pub own_shared-requires-clause-left : goal.own_shared-requires-clause-left
own_shared-requires-clause-left g c = subst (All (λ (x : PlainCellBox _). length x.1 ≡ c.args.sides)) (sym c.as_slice.ensures.value) (sides_numbered c.args.sides c.in_ok-lefts.lefts.items c.in_ok-keys.keys.items c.in_ok-keys.ensures.numbers.left_boxes (c.in_ok-lefts.ensures.sides c.args.sides c.requires.left))

pub own_shared-requires-clause-right : goal.own_shared-requires-clause-right
own_shared-requires-clause-right g c = subst (All (λ (x : PlainCellBox _). length x.1 ≡ c.args.sides)) (sym c.as_slice-3.ensures.value) (sides_numbered c.args.sides c.in_ok-others.others.items c.in_ok-keys.rights.items c.in_ok-keys.ensures.numbers.right_boxes (c.in_ok-others.ensures.sides c.args.sides c.requires.right))

pub own_shared-requires-clause-left_order : goal.own_shared-requires-clause-left_order
own_shared-requires-clause-left_order g c = subst (Ascend nat_cmp) (sym c.as_slice.ensures.value) c.in_ok-keys.ensures.numbers.left_order

pub own_shared-requires-clause-right_order : goal.own_shared-requires-clause-right_order
own_shared-requires-clause-right_order g c = subst (Ascend nat_cmp) (sym c.as_slice-3.ensures.value) c.in_ok-keys.ensures.numbers.right_order

pub own_shared-requires-clause-labels : goal.own_shared-requires-clause-labels
own_shared-requires-clause-labels g c =
    let left = c.args.left.items in
    let right = c.args.right.items in
    let sorted = c.in_ok-lefts.lefts.items in
    let others = c.in_ok-others.others.items in
    let ls = c.in_ok-lefts.ensures.same in
    let rs = c.in_ok-others.ensures.same in
    let keys = c.in_ok-keys.keys.items in
    let labels = c.in_ok-keys.labels.items in
    let rights = c.in_ok-keys.rights.items in
    let own = c.in_ok-keys.ensures.keys in
    let are = c.in_ok-keys.ensures.numbers in
    ap length c.as_slice-2.ensures.value ∙ numbered_count left right sorted others ls rs labels own keys rights are ∙ sym (ap length c.as_slice.ensures.value)

pub own_shared-requires-clause-alike : goal.own_shared-requires-clause-alike
own_shared-requires-clause-alike g c =
    let o = g.P.Label.order in
    let keys = c.in_ok-keys.keys.items in
    subst (λ (ks : List (PlainCellBox ℕ)). RiseAlike o ks c.as_slice-2.result.now) (sym c.as_slice.ensures.value)
    (subst (λ (ns : List _). RiseAlike o keys ns) (sym c.as_slice-2.ensures.value) c.in_ok-keys.ensures.alike)

pub returns-clause-rows : goal.returns-clause-rows
returns-clause-rows g c =
    let left = c.args.left.items in
    let right = c.args.right.items in
    let sorted = c.in_ok-lefts.lefts.items in
    let others = c.in_ok-others.others.items in
    let ls = c.in_ok-lefts.ensures.same in
    let rs = c.in_ok-others.ensures.same in
    let keys = c.in_ok-keys.keys.items in
    let labels = c.in_ok-keys.labels.items in
    let rights = c.in_ok-keys.rights.items in
    let own = c.in_ok-keys.ensures.keys in
    let are = c.in_ok-keys.ensures.numbers in
    let k : ℕ = c.args.sides in
    let out = c.in_ok-out.out.items in
    packed_same k (IsShared keys labels rights) (InBoth left right) out (numbered_both left right sorted others ls rs labels own keys rights are)
    (subst (λ (ks : List (PlainCellBox _)). (x : PlainCellBox _) → Among x out ↔ IsPackedRow k (IsShared ks labels rights) x) c.as_slice.ensures.value
    (subst (λ (ns : List _). (x : PlainCellBox _) → Among x out ↔ IsPackedRow k (IsShared c.as_slice.result.now ns rights) x) c.as_slice-2.ensures.value
    (subst (λ (os : List (PlainCellBox _)). (x : PlainCellBox _) → Among x out ↔ IsPackedRow k (IsShared c.as_slice.result.now c.as_slice-2.result.now os) x) c.as_slice-3.ensures.value c.in_ok-out.ensures.rows)))

pub returns-clause-cover : goal.returns-clause-cover
returns-clause-cover g c =
    let left = c.args.left.items in
    let right = c.args.right.items in
    let sorted = c.in_ok-lefts.lefts.items in
    let others = c.in_ok-others.others.items in
    let ls = c.in_ok-lefts.ensures.same in
    let rs = c.in_ok-others.ensures.same in
    let keys = c.in_ok-keys.keys.items in
    let labels = c.in_ok-keys.labels.items in
    let rights = c.in_ok-keys.rights.items in
    let own = c.in_ok-keys.ensures.keys in
    let are = c.in_ok-keys.ensures.numbers in
    let k : ℕ = c.args.sides in
    let out = c.in_ok-out.out.items in
    cover_same k (IsShared keys labels rights) (InBoth left right) (IsBoxOf keys) (IsBoxOf left) out
    (numbered_both left right sorted others ls rs labels own keys rights are) (numbered_box_of left right sorted others ls rs labels own keys rights are)
    (subst (λ (ks : List (PlainCellBox _)). IsPackedCover k (IsShared ks labels rights) (IsBoxOf ks) out) c.as_slice.ensures.value
    (subst (λ (ns : List _). IsPackedCover k (IsShared c.as_slice.result.now ns rights) (IsBoxOf c.as_slice.result.now) out) c.as_slice-2.ensures.value
    (subst (λ (os : List (PlainCellBox _)). IsPackedCover k (IsShared c.as_slice.result.now c.as_slice-2.result.now os) (IsBoxOf c.as_slice.result.now) out) c.as_slice-3.ensures.value c.in_ok-out.ensures.cover)))
