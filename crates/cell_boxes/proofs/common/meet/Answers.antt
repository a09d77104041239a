use Rattle.std.proofs.Common.{rules, ◌≡◌, ℕ, ◌<◌, ◌≤◌, get_or, length, subst, ap, ◌∙◌}
use Rattle.std.proofs.lemmas.List.{get_or_default}
use Rattle.cell_packing.specs.Packed.{no_cells}
use Rattle.cell_boxes.specs.Common.{both as both_of}
use Rattle.cell_boxes.specs.Rows.{PlainCellBox}
use Rattle.cell_boxes.proofs.GridPointLemmas.{none_meet}
use Rattle.cell_boxes.proofs.common.meet.Goals as goal

pub returns-then-cells : goal.returns-then-cells
returns-then-cells g c =
    let x = c.args.x.now.1 in
    let y = c.args.y.now.1 in
    let s : ℕ = c.loop-s.s in
    let below : s < length x = search rules in
    let other : s < length y = search rules in
    let first : c.index.result.now ≡ get_or x s no_cells = c.index.ensures ∙ ap (λ (z : PlainCellBox g.row.P.Denot). get_or z.1 s c.index.result.now) c.x.view_is ∙ get_or_default x s c.index.result.now no_cells below in
    let second : c.index-in-loop-s.result.now ≡ get_or y s no_cells = c.index-in-loop-s.ensures ∙ ap (λ (z : PlainCellBox g.row.P.Denot). get_or z.1 s c.index-in-loop-s.result.now) c.y.view_is ∙ get_or_default y s c.index-in-loop-s.result.now no_cells other in
    let same : c.both-cells.result ≡ both_of (get_or x s no_cells) (get_or y s no_cells) = c.both-cells.ensures ∙ (λ t. both_of (first t) (second t)) in
    none_meet x y s below other (subst (λ (z : ℕ × ℕ). z.1 ≤ z.0) same c.if-cells.true)
