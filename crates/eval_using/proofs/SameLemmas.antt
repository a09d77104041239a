-- Whether rows are the same does not hang on which are named first.
use Rattle.std.proofs.Common.{◌≡◌, Bool, true, false, ◌&&◌, List, refl}
use Rattle.base_core.specs.Sets.{is_within}
use Rattle.value_core.specs.Values.{Row, row_cmp, same_rows}

both_turned : (a b : Bool) → (a && b) ≡ (b && a)
both_turned true true = refl
both_turned true false = refl
both_turned false true = refl
both_turned false false = refl

pub same_turned : (r s : List Row) → same_rows r s ≡ same_rows s r
same_turned r s = both_turned (is_within row_cmp r s) (is_within row_cmp s r)
