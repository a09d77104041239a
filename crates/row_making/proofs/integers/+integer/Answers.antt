use Rattle.std.proofs.Common.{rules, ◌≡◌, ◌+ℤ◌, ◌-ℤ◌, ◌*ℤ◌, neg_ℤ, map, Ok, IfSome, subst, sym, refl}
use Rattle.base_core.specs.Outcomes.{then_give, both}
use Rattle.point_core.specs.Points.{integers}
use Rattle.value_core.specs.Plain.{plain}
use Rattle.value_core.specs.Values.{point}
use Rattle.scalar_core.specs.Expressions.{read, read_left, read_right}
use Rattle.scalar_core.specs.Operations.{Meant, one_of, pair_of}
use Rattle.scalar_core.specs.ScalarValues.{value}
use Rattle.scalar_core.specs.declared.operators.OneOp.TheVariants.{Negate, CountOf}
use Rattle.scalar_core.specs.declared.operators.PairOp.TheVariants.{Add, Subtract, Multiply}
use Rattle.row_making.proofs.IntegerLemmas.{one_whole, pair_whole, count_whole}
use Rattle.row_making.proofs.integers.+integer.Goals as goal

pub integer-returns-in-Negate : goal.integer-returns-in-Negate
integer-returns-in-Negate t c =
    let m : Meant = value (read c.deref.result.now) (map plain c.args.row.now) in
    let here : value (read c.args.e.now) (map plain c.args.row.now) ≡ then_give m (one_of Negate c.args.e.now.place) = search rules in
    subst (λ (v : Meant). IfSome c.negative.result (λ n. v ≡ Ok (point integers n))) (sym here)
    (one_whole Negate (λ a. neg_ℤ a) c.args.e.now.place m c.integer.result c.negative.result (λ a. refl) c.integer.ensures c.negative.ensures)

pub integer-returns-in-CountOf : goal.integer-returns-in-CountOf
integer-returns-in-CountOf t c =
    let m : Meant = value (read c.deref-in-CountOf.result.now) (map plain c.args.row.now) in
    let here : value (read c.args.e.now) (map plain c.args.row.now) ≡ then_give m (one_of (CountOf c.in-CountOf.field-0) c.args.e.now.place) = search rules in
    subst (λ (v : Meant). IfSome c.count.result (λ n. v ≡ Ok (point integers n))) (sym here)
    (count_whole c.in-CountOf.field-0 c.args.e.now.place m c.ends-in-CountOf.result c.count.result c.ends-in-CountOf.ensures c.count.ensures)

pub integer-returns-in-Add : goal.integer-returns-in-Add
integer-returns-in-Add t c =
    let l : Meant = value (read_left c.in-Add.p) (map plain c.args.row.now) in
    let r : Meant = value (read_right c.in-Add.p) (map plain c.args.row.now) in
    let here : value (read c.args.e.now) (map plain c.args.row.now) ≡ both l r (pair_of Add c.args.e.now.place) = search rules in
    subst (λ (v : Meant). IfSome c.sum.result (λ n. v ≡ Ok (point integers n))) (sym here)
    (pair_whole Add (λ a b. a +ℤ b) c.args.e.now.place l r c.both.result c.sum.result (λ a b. refl) c.both.ensures c.sum.ensures)

pub integer-returns-in-Subtract : goal.integer-returns-in-Subtract
integer-returns-in-Subtract t c =
    let l : Meant = value (read_left c.in-Subtract.p) (map plain c.args.row.now) in
    let r : Meant = value (read_right c.in-Subtract.p) (map plain c.args.row.now) in
    let here : value (read c.args.e.now) (map plain c.args.row.now) ≡ both l r (pair_of Subtract c.args.e.now.place) = search rules in
    subst (λ (v : Meant). IfSome c.difference.result (λ n. v ≡ Ok (point integers n))) (sym here)
    (pair_whole Subtract (λ a b. a -ℤ b) c.args.e.now.place l r c.both-in-Subtract.result c.difference.result (λ a b. refl) c.both-in-Subtract.ensures c.difference.ensures)

pub integer-returns-in-Multiply : goal.integer-returns-in-Multiply
integer-returns-in-Multiply t c =
    let l : Meant = value (read_left c.in-Multiply.p) (map plain c.args.row.now) in
    let r : Meant = value (read_right c.in-Multiply.p) (map plain c.args.row.now) in
    let here : value (read c.args.e.now) (map plain c.args.row.now) ≡ both l r (pair_of Multiply c.args.e.now.place) = search rules in
    subst (λ (v : Meant). IfSome c.product.result (λ n. v ≡ Ok (point integers n))) (sym here)
    (pair_whole Multiply (λ a b. a *ℤ b) c.args.e.now.place l r c.both-in-Multiply.result c.product.result (λ a b. refl) c.both-in-Multiply.ensures c.product.ensures)
