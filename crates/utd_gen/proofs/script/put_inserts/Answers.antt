use Rattle.std.proofs.Common.{◌∙◌, ◌*◌, ◌++◌, ap}
use Rattle.utd_gen.specs.Script.{insert_line}
use Rattle.utd_gen.proofs.ScriptLemmas.{inserts-more}
use Rattle.utd_gen.proofs.script.put_inserts.Goals as goal

pub loop-thousand-preserved : goal.loop-thousand-preserved
loop-thousand-preserved c =
    let k = c.loop-thousand.thousand in
    inserts-more c.args.n k c.args.out.now.items c.loop-thousand.out.items c.put_insert.new.out.items c.loop-thousand.invariant
    (c.in_ok-put_insert.ensures ∙ ap (λ z. c.loop-thousand.out.items ++ insert_line (1000 * k) z) c.min.ensures)
