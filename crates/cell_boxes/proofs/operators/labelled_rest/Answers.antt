use Rattle.std.proofs.Common.{◌≡◌, ℕ, List, length, subst, ap, ◌∙◌}
use Rattle.std.specs.Ordering.{nat_cmp}
use Rattle.cell_sweep.specs.PackedRows.{HasRow}
use Rattle.cell_boxes.specs.KeyNumbers.{HaveFirsts}
use Rattle.cell_boxes.specs.Rows.{PlainCellBox}
use Rattle.cell_boxes.proofs.FirstLemmas.{packed_below, labelled_rows, labelled_sorted, labelled_cover}
use Rattle.cell_boxes.proofs.operators.labelled_rest.Goals as goal

pub with_labels-requires : goal.with_labels-requires
with_labels-requires g c =
    let o = g.P.Label.order in
    let keys = c.args.left.items in
    let firsts = c.in_ok-firsts.firsts.items in
    let as_many : length firsts ≡ length keys = c.in_ok-firsts.ensures.count ∙ ap length c.as_slice.ensures.value in
    let have : HaveFirsts nat_cmp keys firsts = subst (λ (xs : List (PlainCellBox ℕ)). HaveFirsts nat_cmp xs firsts) c.as_slice.ensures.value c.in_ok-firsts.ensures.firsts in
    packed_below o g.met.P.Label.total g.met.P.Label.separates keys c.requires.left_order c.args.labels.now c.requires.labels c.requires.alike firsts as_many have
    (λ n grid_point. HasRow c.args.right.now n grid_point → ⊥) c.args.sides c.in_ok-parts.parts.items c.in_ok-packed.packed.items c.in_ok-parts.ensures.grid_points c.in_ok-packed.ensures.rows

pub returns-clause-rows : goal.returns-clause-rows
returns-clause-rows g c =
    let o = g.P.Label.order in
    let keys = c.args.left.items in
    let firsts = c.in_ok-firsts.firsts.items in
    let as_many : length firsts ≡ length keys = c.in_ok-firsts.ensures.count ∙ ap length c.as_slice.ensures.value in
    let have : HaveFirsts nat_cmp keys firsts = subst (λ (xs : List (PlainCellBox ℕ)). HaveFirsts nat_cmp xs firsts) c.as_slice.ensures.value c.in_ok-firsts.ensures.firsts in
    labelled_rows o g.met.P.Label.total g.met.P.Label.separates keys c.requires.left_order c.args.labels.now c.requires.labels c.requires.alike firsts as_many have
    (λ n grid_point. HasRow c.args.right.now n grid_point → ⊥) c.args.sides c.in_ok-parts.parts.items c.in_ok-packed.packed.items c.in_ok-parts.ensures.grid_points c.in_ok-packed.ensures.rows c.in_ok-out.out.items c.in_ok-out.ensures

pub returns-clause-sorted : goal.returns-clause-sorted
returns-clause-sorted g c =
    let o = g.P.Label.order in
    let keys = c.args.left.items in
    let firsts = c.in_ok-firsts.firsts.items in
    let as_many : length firsts ≡ length keys = c.in_ok-firsts.ensures.count ∙ ap length c.as_slice.ensures.value in
    let have : HaveFirsts nat_cmp keys firsts = subst (λ (xs : List (PlainCellBox ℕ)). HaveFirsts nat_cmp xs firsts) c.as_slice.ensures.value c.in_ok-firsts.ensures.firsts in
    labelled_sorted o g.met.P.Label.total g.met.P.Label.separates keys c.requires.left_order c.args.labels.now c.requires.labels c.requires.alike firsts as_many have
    (λ n grid_point. HasRow c.args.right.now n grid_point → ⊥) c.args.sides c.in_ok-parts.parts.items c.in_ok-packed.packed.items c.in_ok-parts.ensures.grid_points c.in_ok-packed.ensures.rows c.in_ok-out.out.items c.in_ok-out.ensures c.in_ok-packed.ensures.sorted

pub returns-clause-cover : goal.returns-clause-cover
returns-clause-cover g c =
    let o = g.P.Label.order in
    let keys = c.args.left.items in
    let firsts = c.in_ok-firsts.firsts.items in
    let as_many : length firsts ≡ length keys = c.in_ok-firsts.ensures.count ∙ ap length c.as_slice.ensures.value in
    let have : HaveFirsts nat_cmp keys firsts = subst (λ (xs : List (PlainCellBox ℕ)). HaveFirsts nat_cmp xs firsts) c.as_slice.ensures.value c.in_ok-firsts.ensures.firsts in
    labelled_cover o g.met.P.Label.total g.met.P.Label.separates keys c.requires.left_order c.args.labels.now c.requires.labels c.requires.alike firsts as_many have
    (λ n grid_point. HasRow c.args.right.now n grid_point → ⊥) c.args.sides c.in_ok-parts.parts.items c.in_ok-packed.packed.items c.in_ok-parts.ensures.grid_points c.in_ok-packed.ensures.rows c.in_ok-out.out.items c.in_ok-out.ensures c.in_ok-parts.ensures.lengths c.in_ok-parts.ensures.ends
