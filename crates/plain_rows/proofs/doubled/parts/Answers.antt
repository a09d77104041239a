use Rattle.plain_rows.proofs.DoubledLemmas.{text-none, text-more, text-end}
use Rattle.plain_rows.proofs.doubled.parts.Goals as goal

pub parts-init : goal.parts-init
parts-init c = text-none _ _ c.new-written.ensures.bytes

pub parts-preserved : goal.parts-preserved
parts-preserved c = text-more _ _ _ _ _ _ _ _ c.in_ok-written.ensures c.in_ok-written-in-Some.ensures c.in_ok-front.ensures c.in-Some.ensures c.parts.invariant

pub returns-in-None : goal.returns-in-None
returns-in-None c = text-end _ _ _ _ _ _ c.in_ok-written.ensures c.in_ok-front.ensures c.parts.invariant
