use Rattle.std.proofs.Common.{◌≡◌, ◌<◌, Err, length, map, ◌∙◌, subst}
use Rattle.std.specs.Result.{IfOk}
use Rattle.std.proofs.lemmas.List.{map-append}
use Rattle.std.proofs.lemmas.List.Elements.{recursion_from_All}
use Rattle.value_core.specs.Order.{row_total, row_separates}
use Rattle.value_core.specs.Values.{row_cmp}
use Rattle.cell_packing.specs.Boxed.{packed_boxes}
use Rattle.cell_core.specs.Cells.{row_numbers}
use Rattle.cell_core.specs.declared.boxes.CellRefuse.TheVariants.{Limit as OfLimit}
use Rattle.cell_core.proofs.BackLemmas.{box_length}
use Rattle.cell_core.proofs.KeyLemmas.{rows_have}
use Rattle.u_set.proofs.UnionLemmas.{packed_union}
use Rattle.u_set.proofs.union.union_boxes.Goals as goal

pub returns-clause-rows : goal.returns-clause-rows
returns-clause-rows g c =
    let n = g.T.PointType.number_of in
    let types = c.args.types.now in
    let left = c.args.left.items in
    let right = c.args.right.items in
    let all = c.in_ok-append.ensures.items in
    let numbers = (λ t. map (row_numbers n) (all t)) ∙ map-append (row_numbers n) left right in
    let hl = rows_have n (length types) left (recursion_from_All (λ r. length r.1 ≡ length types) left (λ j d l. box_length g.T.PointType.IsPoint types _ (c.requires.left j d l))) in
    let hr = rows_have n (length types) right (recursion_from_All (λ r. length r.1 ≡ length types) right (λ j d l. box_length g.T.PointType.IsPoint types _ (c.requires.right j d l))) in
    subst (λ s. IfOk c.pack.result (λ v. map (row_numbers n) v.items ≡ s))
    ((λ t. packed_boxes row_cmp (length types) (numbers t)) ∙ packed_union row_cmp row_total row_separates (length types) (map (row_numbers n) left) (map (row_numbers n) right) hl hr) c.pack.ensures.rows

pub returns-clause-limit : goal.returns-clause-limit
returns-clause-limit g c =
    let n = g.T.PointType.number_of in
    let types = c.args.types.now in
    let left = c.args.left.items in
    let right = c.args.right.items in
    let all = c.in_ok-append.ensures.items in
    let numbers = (λ t. map (row_numbers n) (all t)) ∙ map-append (row_numbers n) left right in
    let hl = rows_have n (length types) left (recursion_from_All (λ r. length r.1 ≡ length types) left (λ j d l. box_length g.T.PointType.IsPoint types _ (c.requires.left j d l))) in
    let hr = rows_have n (length types) right (recursion_from_All (λ r. length r.1 ≡ length types) right (λ j d l. box_length g.T.PointType.IsPoint types _ (c.requires.right j d l))) in
    subst (λ s. c.pack.result ≡ Err OfLimit → c.args.limit < length s)
    ((λ t. packed_boxes row_cmp (length types) (numbers t)) ∙ packed_union row_cmp row_total row_separates (length types) (map (row_numbers n) left) (map (row_numbers n) right) hl hr) c.pack.ensures.limit
