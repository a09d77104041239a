use Rattle.std.proofs.Common.{◌≡◌, ◌<◌, ℕ, ℤ, ◌+ℤ◌, List, [], length, map, get_or, take, Ok, sym, ap, ◌∙◌, subst, arith, to_z, of_z, w64, to_z-of_z, SFits}
use Rattle.std.proofs.lemmas.Int.{ints}
use Rattle.base_core.specs.Outcomes.{then_give}
use Rattle.point_core.specs.Faults.{OrFault}
use Rattle.point_core.specs.Points.{integers}
use Rattle.point_core.specs.Whole.{IsWhole}
use Rattle.value_core.specs.Plain.{plain}
use Rattle.value_core.specs.Values.{Value, point}
use Rattle.scalar_core.specs.Expressions.{read}
use Rattle.scalar_core.specs.Operations.{Meant, integer, number_of}
use Rattle.scalar_core.specs.ScalarValues.{value}
use Rattle.u_summary.specs.Summaries.{total}
use Rattle.relation_core.proofs.FilterLemmas.{take_all}
use Rattle.row_making.proofs.IntegerLemmas.{Summed, summed_more, summed_all}
use Rattle.row_making.proofs.SummaryLemmas.{values_by_numbers, row_at}
use Rattle.row_making.proofs.integers.sum_over.Goals as goal

pub loop-number-preserved : goal.loop-number-preserved
loop-number-preserved c =
    let l : c.loop-number.number-index < length c.args.numbers.now = omega arith in
    let at : ℕ = get_or c.args.numbers.now c.loop-number.number-index 0 in
    let below = c.requires.within c.loop-number.number-index 0 l in
    let f : ℕ → Meant = λ i. value (read c.args.e.now) (get_or c.args.rows.now i []) in
    let row : map plain c.values.result.now ≡ get_or c.args.rows.now at [] =
    c.values.ensures ∙ row_at c.args.rows.now at c.index-rows-number.result below c.index-rows-number.is in
    let one : f at ≡ Ok (point integers c.in_ok-integer.field-0) = ap (value (read c.args.e.now)) (sym row) ∙ c.in_ok-integer.ensures in
    let part : to_z w64 (of_z w64 c.in_ok-integer.field-0) ≡ c.in_ok-integer.field-0 = grind (arith, ints, to_z-of_z) in
    let told = c.in_ok-sum.ensures in
    let fits : SFits w64 c.in_ok-sum.sum = subst (λ (z : ℤ). SFits w64 z) (sym told.1) told.0 in
    summed_more f c.args.numbers.now c.loop-number.number-index 0 (to_z w64 c.loop-number.sum-bits) c.in_ok-integer.field-0 _ l c.loop-number.invariant one (to_z-of_z {w = w64} fits ∙ (told.1 ∙ ap (λ (z : ℤ). to_z w64 c.loop-number.sum-bits +ℤ z) part))

pub returns : goal.returns
returns c = λ place.
    let f : ℕ → Meant = λ i. value (read c.args.e.now) (get_or c.args.rows.now i []) in
    let whole : take c.loop-number.number-index c.args.numbers.now ≡ c.args.numbers.now = take_all c.loop-number.number-index c.args.numbers.now (omega arith) in
    let all : Summed (map f c.args.numbers.now) (to_z w64 c.loop-number.sum-bits) =
    subst (λ (ns : List ℕ). Summed (map f ns) (to_z w64 c.loop-number.sum-bits)) whole c.loop-number.invariant in
    let fits : IsWhole (to_z w64 c.loop-number.sum-bits) = omega (arith, ints) in
    ap (λ (m : OrFault (List Value)). then_give m (λ vs. integer place (total (map number_of vs)))) (sym (values_by_numbers (read c.args.e.now) c.args.rows.now c.args.numbers.now))
    ∙ summed_all place (map f c.args.numbers.now) (to_z w64 c.loop-number.sum-bits) fits all
