use Rattle.std.proofs.Common.{◌≡◌, ℤ, map, Ok, Option, IfSome, sym, ap, ◌∙◌, subst, arith, to_z, of_z, w64, to_z-of_z}
use Rattle.std.proofs.lemmas.Int.{ints}
use Rattle.base_core.specs.Outcomes.{then_give}
use Rattle.point_core.specs.Points.{integers}
use Rattle.value_core.specs.Values.{point}
use Rattle.scalar_core.specs.Expressions.{read}
use Rattle.scalar_core.specs.Operations.{integer, number_of}
use Rattle.relation_core.specs.Groups.{rows_at}
use Rattle.meaning_core.specs.Rows.{values_over}
use Rattle.u_summary.specs.Summaries.{total}
use Rattle.row_making.proofs.aggregates.sum_of.Goals as goal

pub returns-in-Some : goal.returns-in-Some
returns-in-Some c =
    let back : to_z w64 (of_z w64 c.in-Some.sum) ≡ c.in-Some.sum = grind (arith, ints, to_z-of_z) in
    subst (λ (o : Option ℤ). IfSome o (λ n. then_give (values_over (read c.args.e.now) (rows_at c.args.rows.now c.args.numbers.now))
    (λ vs. integer c.args.place (total (map number_of vs))) ≡ Ok (point integers n))) c.in-Some.is (c.sum_over.ensures c.args.place)
    ∙ ap (λ (n : ℤ). Ok (point integers n)) (sym back)
