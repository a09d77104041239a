use Rattle.std.proofs.Common.{◌≡◌, refl, sym, subst, w64, to_z, of_z, arith}
use Rattle.std.proofs.lemmas.Int.{ints, to_z-of_z}
use Rattle.plain_rows.specs.Written.{BeginsWithInteger}
use Rattle.plain_rows.proofs.IntegerLemmas.{signed}
use Rattle.plain_rows.proofs.numbers.signed_integer.Goals as goal

pub past_symbol-requires : goal.past_symbol-requires
past_symbol-requires c = refl

pub returns : goal.returns
returns c =
    let e : to_z w64 (of_z w64 c.in_ok-n.n) ≡ c.in_ok-n.n = grind (arith, ints, to_z-of_z) in
    subst (λ z. BeginsWithInteger c.args.text.now z c.in_ok-value.rest.now) (sym e) (signed _ _ _ _ _ _ c.in_ok-behind.ensures c.past_space-digits.ensures c.in_ok-value.ensures c.in_ok-n.ensures.few c.in_ok-n.ensures.is)
