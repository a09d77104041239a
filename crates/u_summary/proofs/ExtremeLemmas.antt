-- The turns of a loop that keeps where the best value so far stands first.
use Rattle.std.proofs.Common.{◌≡◌, ℕ, ◌+◌, ◌<◌, Bool, true, false, List, length, map, get_or, sym, subst, arith}
use Rattle.std.proofs.lemmas.List.{length-map}
use Rattle.std.proofs.lemmas.List.MinMax.{ranks_by, IsStrictWeakOrder-flip, IsFirstBest-keeps, IsFirstBest-takes}
use Rattle.std.specs.Cmp.{IsStrictWeakOrder}
use Rattle.std.specs.List.{IsFirstBest}
use Rattle.value_core.specs.declared.value.Value.{Value}
use Rattle.value_core.specs.Values.{Value as PlainValue}
use Rattle.value_core.specs.Order.{value_total}
use Rattle.value_core.specs.Plain.{plain}
use Rattle.value_core.proofs.PlainLemmas.{plain_at}
use Rattle.u_summary.specs.Summaries.{is_before}

pub before_ranks : IsStrictWeakOrder is_before
before_ranks = ranks_by value_total (λ v. v)

pub after_ranks : IsStrictWeakOrder (λ v w. is_before w v)
after_ranks = IsStrictWeakOrder-flip is_before before_ranks

pub first_kept : (beats : PlainValue → PlainValue → Bool) → IsStrictWeakOrder beats → (xs : List Value) (i old new : ℕ) (x y : Value)
    → IsFirstBest beats (map plain xs) i old → i < length xs → x ≡ get_or xs i x → y ≡ get_or xs old y
    → new ≡ old → beats (plain x) (plain y) ≡ false → IsFirstBest beats (map plain xs) (i + 1) new
first_kept beats ranks xs i old new x y best within x-is y-is same test =
    let shorter : old < length xs = omega (arith, best.0) in
    subst (IsFirstBest beats (map plain xs) (i + 1)) (sym same)
    (IsFirstBest-keeps ranks (map plain xs) i old (plain x) (plain y) best (omega (arith, length-map xs plain)) (plain_at xs i x within x-is) (plain_at xs old y shorter y-is) test)

pub first_taken : (beats : PlainValue → PlainValue → Bool) → IsStrictWeakOrder beats → (xs : List Value) (i old new : ℕ) (x y : Value)
    → IsFirstBest beats (map plain xs) i old → i < length xs → x ≡ get_or xs i x → y ≡ get_or xs old y
    → new ≡ i → beats (plain x) (plain y) ≡ true → IsFirstBest beats (map plain xs) (i + 1) new
first_taken beats ranks xs i old new x y best within x-is y-is same test =
    let shorter : old < length xs = omega (arith, best.0) in
    subst (IsFirstBest beats (map plain xs) (i + 1)) (sym same)
    (IsFirstBest-takes ranks (map plain xs) i old (plain x) (plain y) best (omega (arith, length-map xs plain)) (plain_at xs i x within x-is) (plain_at xs old y shorter y-is) test)
