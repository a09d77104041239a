use Rattle.std.proofs.Common.{ℤ, false, set, arith, sym, subst, rules}
use Rattle.std.specs.Int.{w64, w128}
use Rattle.std.proofs.lemmas.Int.{to_z-of_z}
use mir.Val.{SFits, to_z, of_z}
use Rattle.cell_boxes.specs.Totals.{count_of, IsTotal}
use Rattle.cell_boxes.proofs.TotalLemmas.{leave_room}
use Rattle.u_summarize.proofs.SumLemmas.{sum_left}
use Rattle.u_summarize.proofs.sums.without_row.Goals as goal

pub number_of_row-number-requires : goal.number_of_row-number-requires
number_of_row-number-requires c = let r = c.requires in let w = r.1.within in let l = r.2 in omega (arith, w, l)

pub minus-requires-clause-least : goal.minus-requires-clause-least
minus-requires-clause-least c =
    let r = c.requires in
    let v = c.number_of_row-number.result in
    let fits : SFits w64 v = search rules in
    let wide : SFits w128 c.args.sum = search rules in
    let sum : ℤ = to_z w128 (of_z w128 c.args.sum) in
    let is : IsTotal c.args.column.now.2 (count_of r.0) sum r.0 = subst (λ z. IsTotal c.args.column.now.2 (count_of r.0) z r.0) (sym (to_z-of_z w128 c.args.sum wide)) r.1 in
    (leave_room c.args.column.now.2 (count_of r.0) sum r.0 c.args.row is r.2 v fits c.number_of_row-number.ensures r.3).0

pub minus-requires-clause-most : goal.minus-requires-clause-most
minus-requires-clause-most c =
    let r = c.requires in
    let v = c.number_of_row-number.result in
    let fits : SFits w64 v = search rules in
    let wide : SFits w128 c.args.sum = search rules in
    let sum : ℤ = to_z w128 (of_z w128 c.args.sum) in
    let is : IsTotal c.args.column.now.2 (count_of r.0) sum r.0 = subst (λ z. IsTotal c.args.column.now.2 (count_of r.0) z r.0) (sym (to_z-of_z w128 c.args.sum wide)) r.1 in
    (leave_room c.args.column.now.2 (count_of r.0) sum r.0 c.args.row is r.2 v fits c.number_of_row-number.ensures r.3).1

pub returns : goal.returns
returns c = λ f is l h.
    let v = c.number_of_row-number.result in
    let fits : SFits w64 v = search rules in
    let wide : SFits w128 c.args.sum = search rules in
    let sum : ℤ = to_z w128 (of_z w128 c.args.sum) in
    let own : IsTotal c.args.column.now.2 (count_of f) sum f = subst (λ z. IsTotal c.args.column.now.2 (count_of f) z f) (sym (to_z-of_z w128 c.args.sum wide)) is in
    let wide_new : SFits w128 c.minus.result = search rules in
    subst (λ z. IsTotal c.args.column.now.2 (count_of (set f c.args.row false)) z (set f c.args.row false)) (sym (to_z-of_z w128 c.minus.result wide_new))
    (sum_left c.args.column.now.2 sum f c.args.row own l v fits c.number_of_row-number.ensures h c.minus.result c.minus.ensures)
