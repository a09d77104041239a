use Rattle.std.proofs.Common.{◌≡◌, ◌++◌, ◌+◌, ◌<◌, List, ℕ, map, take, length, arith}
use Rattle.value_core.specs.Limits.{most_statement_bytes}
use Rattle.dump_core.specs.Inserts.{listed, tuple_script}
use Rattle.dump_core.proofs.ListedLemmas.{tuple-more, longer-yet}
use Rattle.dump_core.proofs.tuples.put_tuples.Goals as goal

pub returns-then-len-gt-MOST_STATEMENT_BYTES-clause-too_long :
    goal.returns-then-len-gt-MOST_STATEMENT_BYTES-clause-too_long
returns-then-len-gt-MOST_STATEMENT_BYTES-clause-too_long c =
    let texts : List (List ℕ) = map (tuple_script c.args.types.now c.args.attributes.now) c.args.rows.now in
    let more : c.put_tuple.new.out.items ≡ c.args.out.now.items ++ listed (take (c.loop-at.at + 1) texts) =
    tuple-more c.args.types.now c.args.attributes.now c.args.rows.now c.values.result.now c.index-rows-at.result c.args.out.now.items c.loop-at.out.items
    c.put_comma.new.out.items c.put_tuple.new.out.items c.loop-at.at c.loop-at-test.true c.index-rows-at.is c.values.ensures c.loop-at.invariant
    c.in_ok-put_comma.ensures c.in_ok-put_tuple.ensures in
    let over : most_statement_bytes < length c.put_tuple.new.out.items = omega (arith, c.len.ensures, c.if-len-gt-MOST_STATEMENT_BYTES.true) in
    λ _. longer-yet c.args.out.now.items c.put_tuple.new.out.items texts (c.loop-at.at + 1) most_statement_bytes more over

pub loop-at-preserved : goal.loop-at-preserved
loop-at-preserved c =
    tuple-more c.args.types.now c.args.attributes.now c.args.rows.now c.values.result.now c.index-rows-at.result c.args.out.now.items c.loop-at.out.items
    c.put_comma.new.out.items c.put_tuple.new.out.items c.loop-at.at c.loop-at-test.true c.index-rows-at.is c.values.ensures c.loop-at.invariant
    c.in_ok-put_comma.ensures c.in_ok-put_tuple.ensures
