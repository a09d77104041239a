use Rattle.std.proofs.Common.{◌≡◌, sym, subst, w64, to_z, of_z, arith}
use Rattle.std.proofs.lemmas.Int.{ints, to_z-of_z}
use Rattle.plain_rows.specs.Written.{BeginsWithInteger}
use Rattle.plain_rows.proofs.IntegerLemmas.{unsigned}
use Rattle.plain_rows.proofs.numbers.unsigned_integer.Goals as goal

pub returns : goal.returns
returns c =
    let e : to_z w64 (of_z w64 c.in_ok-n.n) ≡ c.in_ok-n.n = grind (arith, ints, to_z-of_z) in
    subst (λ z. BeginsWithInteger c.args.text.now z c.in_ok-value.rest.now) (sym e) (unsigned _ _ _ _ c.in_ok-value.ensures c.in_ok-n.ensures.few c.in_ok-n.ensures.is)
