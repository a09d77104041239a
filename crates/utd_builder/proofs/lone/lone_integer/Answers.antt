use Rattle.std.proofs.Common.{◌≡◌, true, arith, sym, ◌∙◌, ap, subst}
use Rattle.utd_syntax.specs.Pieces.{first}
use Rattle.utd_builder.specs.Building.{left}
use Rattle.utd_builder.specs.Closing.{closes}
use Rattle.utd_builder.proofs.OneToken.{lone-integer}
use Rattle.utd_builder.proofs.Steps.{no-more}
use Rattle.utd_builder.proofs.lone.lone_integer.Goals as goal

pub returns : goal.returns
returns c = rw c.in_ok-tree.ensures.ok (record { shorter = omega (arith, no-more (left c.args.cursor) (left c.skip.result) c.skip.ensures); goes_on = λ stack k x h. lone-integer _ _ (left c.args.cursor) (left c.skip.result) stack k x c.requires.integer c.place.ensures c.in_ok-digits.ensures c.skip.ensures (subst (λ ts. closes (first ts) ≡ true) (sym c.skip.ensures) c.requires.alone) h })
