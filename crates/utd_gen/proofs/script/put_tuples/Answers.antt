use Rattle.std.proofs.Common.{◌∙◌, ◌++◌, ap, arith}
use Rattle.utd_gen.specs.Script.{tuple_text}
use Rattle.utd_gen.proofs.ScriptLemmas.{tuples-more}
use Rattle.utd_gen.proofs.script.put_tuples.Goals as goal

pub loop-number-preserved : goal.loop-number-preserved
loop-number-preserved c =
    let number = c.loop-number.number in (
      omega (arith, c.loop-number.invariant.0),
      tuples-more c.args.begin number c.args.out.now.items c.loop-number.out.items c.put_tuple-in-loop-number.new.out.items c.loop-number.invariant.0 c.loop-number.invariant.1
          (c.in_ok-put_tuple-2.ensures ∙ ap (λ z. z ++ tuple_text number) c.in_ok-extend_from_slice.ensures.items),
    )
