use Rattle.std.proofs.Common.{◌≡◌, length, map, sym, ◌∙◌, arith}
use Rattle.std.proofs.lemmas.List.{length-map}
use Rattle.value_core.specs.Plain.{plain}
use Rattle.eval_using.proofs.TurnLemmas.{part_in_turn}
use Rattle.eval_using.proofs.figures.picked.Goals as goal

pub returns-then-are_in_turn : goal.returns-then-are_in_turn
returns-then-are_in_turn c =
    let vs = c.args.made.items in
    let same = c.are_in_turn.ensures.many c.if-are_in_turn.true in
    let each = length-map vs plain in
    let many : length c.args.places.now ≡ length (map plain vs) = omega (arith, same, each) in
    c.make.ensures ∙ sym (part_in_turn (map plain vs) c.args.key.now c.args.places.now many (c.are_in_turn.ensures.each c.if-are_in_turn.true))
