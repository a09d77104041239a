-- What the tests of two numbers tell, and the tests where they are in order.
use Rattle.std.proofs.Common.{◌≡◌, ℤ, ◌≤ℤ◌, ◌<ℤ◌, true, arith}
use Rattle.std.specs.Int.RustNames.{int_le, int_lt}
use Rattle.std.proofs.lemmas.Int.{ints}

pub int_le-le : (a b : ℤ) → int_le a b ≡ true → a ≤ℤ b
int_le-le a b h = grind (arith, ints)

pub le-int_le : (a b : ℤ) → a ≤ℤ b → int_le a b ≡ true
le-int_le a b h = grind (arith, ints)

pub int_lt-lt : (a b : ℤ) → int_lt a b ≡ true → a <ℤ b
int_lt-lt a b h = grind (arith, ints)

pub lt-int_lt : (a b : ℤ) → a <ℤ b → int_lt a b ≡ true
lt-int_lt a b h = grind (arith, ints)

pub le_itself : (p : ℤ) → p ≤ℤ p
le_itself p = omega (arith, ints)
