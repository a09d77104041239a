-- What operators of integers give, where their answers have 64 bits.
use Rattle.std.proofs.Common.{◌≡◌, ℕ, ◌+◌, ◌<◌, ℤ, pos, ◌+ℤ◌, ◌-ℤ◌, ◌≤ℤ◌, Bool, List, [], ◌∷◌, ◌++◌, length, map, take, get_or, Option, Some, None, Ok, Err, IfSome, IsSomeAnd, if◌then◌else◌, refl, sym, ap, ap₂, ◌∙◌, arith}
use Rattle.std.proofs.lemmas.Int.{ints}
use Rattle.std.proofs.lemmas.List.{map-append}
use Rattle.std.proofs.lemmas.List.Sums.{fold-append}
use Rattle.base_core.specs.Outcomes.{then_give, both, least_of_all}
use Rattle.interval_core.specs.Operators.{count}
use Rattle.interval_core.proofs.OperatorLemmas.{count-ends}
use Rattle.point_core.specs.Points.{integers}
use Rattle.point_core.specs.Faults.{OrFault, fault}
use Rattle.point_core.specs.LeastFault.{lesser_of}
use Rattle.point_core.specs.Orders.{fault_order}
use Rattle.point_core.specs.Whole.{IsWhole}
use Rattle.point_core.specs.declared.any_type.AnyType.{AnyType}
use Rattle.point_core.specs.declared.any_type.AnyType.TheVariants.{Integer}
use Rattle.point_core.specs.declared.fault.Code.TheVariants.{E30}
use Rattle.point_core.specs.declared.fault.Fault.{Fault}
use Rattle.point_core.specs.declared.fault.Place.{Place}
use Rattle.value_core.specs.Values.{Value, point, interval}
use Rattle.scalar_core.proofs.PointLemmas.{number-is_number}
use Rattle.scalar_core.specs.Operations.{Meant, integer, number_of, one_of, pair_of}
use Rattle.scalar_core.specs.declared.operators.OneOp.{OneOp}
use Rattle.scalar_core.specs.declared.operators.OneOp.TheVariants.{CountOf}
use Rattle.scalar_core.specs.declared.operators.PairOp.{PairOp}
use Rattle.relation_core.specs.Faults.{fault_of, values_of}
use Rattle.relation_core.proofs.FaultLemmas.{least_more, values_more, all_values}
use Rattle.u_summary.specs.Summaries.{total}

-- an operator on one integer, and on two
pub one_whole : (op : OneOp) (f : ℤ → ℤ) (place : Place) (m : Meant) (part s : Option ℤ) → ((a : ℤ) → one_of op place (point integers a) ≡ integer place (f a))
    → IfSome part (λ a. m ≡ Ok (point integers a)) → ((at : Place) → IfSome s (λ n. IsSomeAnd part (λ a. integer at (f a) ≡ Ok (point integers n))))
    → IfSome s (λ n. then_give m (one_of op place) ≡ Ok (point integers n))
one_whole op f place m part None means given told = tt
one_whole op f place m None (Some n) means given told = absurd (told place)
one_whole op f place m (Some a) (Some n) means given told = ap (λ r. then_give r (one_of op place)) given ∙ (means a ∙ told place)

pub pair_whole : (op : PairOp) (f : ℤ → ℤ → ℤ) (place : Place) (l r : Meant) (parts : Option (ℤ × ℤ)) (s : Option ℤ)
    → ((a b : ℤ) → pair_of op place (point integers a) (point integers b) ≡ integer place (f a b))
    → IfSome parts (λ n. (l ≡ Ok (point integers n.0)) × (r ≡ Ok (point integers n.1)))
    → ((at : Place) → IfSome s (λ n. IsSomeAnd parts (λ p. integer at (f p.0 p.1) ≡ Ok (point integers n))))
    → IfSome s (λ n. both l r (pair_of op place) ≡ Ok (point integers n))
pair_whole op f place l r parts None means given told = tt
pair_whole op f place l r None (Some n) means given told = absurd (told place)
pair_whole op f place l r (Some p) (Some n) means given told = ap₂ (λ a b. both a b (pair_of op place)) given.0 given.1 ∙ (means p.0 p.1 ∙ told place)

-- COUNT of an interval of integers
pub count_whole : (t : AnyType) (place : Place) (m : Meant) (ends : Option (ℤ × ℤ)) (s : Option ℤ)
    → IfSome ends (λ n. (m ≡ Ok (interval integers n)) × (n.0 ≤ℤ n.1))
    → ((at : Place) → IfSome s (λ n. IsSomeAnd ends (λ i. integer at ((i.1 -ℤ i.0) +ℤ pos 1) ≡ Ok (point integers n))))
    → IfSome s (λ n. then_give m (one_of (CountOf t) place) ≡ Ok (point integers n))
count_whole t place m ends None given told = tt
count_whole t place m None (Some n) given told = absurd (told place)
count_whole t place m (Some i) (Some n) given told =
    let many : pos (count i) ≡ (i.1 -ℤ i.0) +ℤ pos 1 = count-ends i given.1 ∙ omega (arith, ints) in
    ap (λ r. then_give r (one_of (CountOf t) place)) given.0 ∙ (ap (integer place) many ∙ told place)

-- ---- a sum, row by row

-- all are values, and their numbers make the sum
pub record Summed (ms : List Meant) (sum : ℤ) : Type 0 where
  pub least : fault_of (least_of_all fault_order ms) ≡ None
  pub exact : sum ≡ total (map number_of (values_of ms))

pub summed_none : Summed [] (pos 0)
summed_none = record { least = refl; exact = refl }

pub summed_more : (m : ℕ → Meant) (ns : List ℕ) (i : ℕ) (d : ℕ) (sum n now : ℤ) → i < length ns → Summed (map m (take i ns)) sum → m (get_or ns i d) ≡ Ok (point integers n) → now ≡ sum +ℤ n
    → Summed (map m (take (i + 1) ns)) now
summed_more m ns i d sum n now l before one e =
    let list : List Value = values_of (map m (take i ns)) in
    let more : values_of (map m (take (i + 1) ns)) ≡ list ++ point integers n ∷ [] =
    values_more m ns i d l ∙ ap (λ (r : Meant). list ++ values_of (r ∷ [])) one in
    let sums : total (map number_of (list ++ point integers n ∷ [])) ≡ total (map number_of list) +ℤ n =
    ap total (map-append number_of list (point integers n ∷ [])) ∙ fold-append ◌+ℤ◌ (pos 0) (map number_of list) (n ∷ []) in
    record {
      least = least_more m ns i d l ∙ ap₂ (λ (a b : Option Fault). lesser_of a b) before.least (ap (λ (r : Meant). fault_of r) one);
      exact = e ∙ (ap (λ (z : ℤ). z +ℤ n) before.exact ∙ sym (ap (λ (vs : List Value). total (map number_of vs)) more ∙ sums));
    }

pub summed_all : (place : Place) (ms : List Meant) (sum : ℤ) → IsWhole sum → Summed ms sum
    → then_give (least_of_all fault_order ms) (λ vs. integer place (total (map number_of vs))) ≡ Ok (point integers sum)
summed_all place ms sum whole s =
    ap (λ (r : OrFault (List Value)). then_give r (λ vs. integer place (total (map number_of vs)))) (all_values ms s.least)
    ∙ (ap (integer place) (sym s.exact) ∙ ap (λ (b : Bool). if b then Ok (point integers sum) else Err (fault place E30)) (number-is_number Integer sum whole))
