use Rattle.std.proofs.Common.{◌≡◌, ℕ, List, length, ◌↔◌, subst}
use Rattle.cell_sweep.specs.PackedRows.{HasRow}
use Rattle.cell_boxes.specs.Meetings.{IsShared}
use Rattle.cell_boxes.proofs.FirstLemmas.{packed_below, labelled_rows, labelled_sorted, labelled_cover}
use Rattle.cell_boxes.proofs.operators.labelled_shared.Goals as goal

pub with_labels-requires : goal.with_labels-requires
with_labels-requires g c =
    let o = g.P.Label.order in
    let keys = c.args.left.now in
    let rights = c.args.right.now in
    let firsts = c.in_ok-firsts.firsts.items in
    let parts = c.in_ok-parts.parts.items in
    let k : ℕ = c.args.sides in
    let grid_points = subst (λ (ns : List ℕ). (n : ℕ) (grid_point : List ℕ) → length grid_point ≡ k → HasRow parts n grid_point ↔ IsShared keys ns rights n grid_point) c.as_slice.ensures.value c.in_ok-parts.ensures.grid_points in
    packed_below o g.met.P.Label.total g.met.P.Label.separates keys c.requires.left_order c.args.labels.now c.requires.labels c.requires.alike firsts c.in_ok-firsts.ensures.count c.in_ok-firsts.ensures.firsts
    (λ n grid_point. HasRow rights n grid_point) k parts c.in_ok-packed.packed.items grid_points c.in_ok-packed.ensures.rows

pub returns-clause-rows : goal.returns-clause-rows
returns-clause-rows g c =
    let o = g.P.Label.order in
    let keys = c.args.left.now in
    let rights = c.args.right.now in
    let firsts = c.in_ok-firsts.firsts.items in
    let parts = c.in_ok-parts.parts.items in
    let k : ℕ = c.args.sides in
    let grid_points = subst (λ (ns : List ℕ). (n : ℕ) (grid_point : List ℕ) → length grid_point ≡ k → HasRow parts n grid_point ↔ IsShared keys ns rights n grid_point) c.as_slice.ensures.value c.in_ok-parts.ensures.grid_points in
    labelled_rows o g.met.P.Label.total g.met.P.Label.separates keys c.requires.left_order c.args.labels.now c.requires.labels c.requires.alike firsts c.in_ok-firsts.ensures.count c.in_ok-firsts.ensures.firsts
    (λ n grid_point. HasRow rights n grid_point) k parts c.in_ok-packed.packed.items grid_points c.in_ok-packed.ensures.rows c.in_ok-out.out.items c.in_ok-out.ensures

pub returns-clause-sorted : goal.returns-clause-sorted
returns-clause-sorted g c =
    let o = g.P.Label.order in
    let keys = c.args.left.now in
    let rights = c.args.right.now in
    let firsts = c.in_ok-firsts.firsts.items in
    let parts = c.in_ok-parts.parts.items in
    let k : ℕ = c.args.sides in
    let grid_points = subst (λ (ns : List ℕ). (n : ℕ) (grid_point : List ℕ) → length grid_point ≡ k → HasRow parts n grid_point ↔ IsShared keys ns rights n grid_point) c.as_slice.ensures.value c.in_ok-parts.ensures.grid_points in
    labelled_sorted o g.met.P.Label.total g.met.P.Label.separates keys c.requires.left_order c.args.labels.now c.requires.labels c.requires.alike firsts c.in_ok-firsts.ensures.count c.in_ok-firsts.ensures.firsts
    (λ n grid_point. HasRow rights n grid_point) k parts c.in_ok-packed.packed.items grid_points c.in_ok-packed.ensures.rows c.in_ok-out.out.items c.in_ok-out.ensures c.in_ok-packed.ensures.sorted

pub returns-clause-cover : goal.returns-clause-cover
returns-clause-cover g c =
    let o = g.P.Label.order in
    let keys = c.args.left.now in
    let rights = c.args.right.now in
    let firsts = c.in_ok-firsts.firsts.items in
    let parts = c.in_ok-parts.parts.items in
    let k : ℕ = c.args.sides in
    let grid_points = subst (λ (ns : List ℕ). (n : ℕ) (grid_point : List ℕ) → length grid_point ≡ k → HasRow parts n grid_point ↔ IsShared keys ns rights n grid_point) c.as_slice.ensures.value c.in_ok-parts.ensures.grid_points in
    labelled_cover o g.met.P.Label.total g.met.P.Label.separates keys c.requires.left_order c.args.labels.now c.requires.labels c.requires.alike firsts c.in_ok-firsts.ensures.count c.in_ok-firsts.ensures.firsts
    (λ n grid_point. HasRow rights n grid_point) k parts c.in_ok-packed.packed.items grid_points c.in_ok-packed.ensures.rows c.in_ok-out.out.items c.in_ok-out.ensures c.in_ok-parts.ensures.lengths c.in_ok-parts.ensures.ends
