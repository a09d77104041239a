use Rattle.std.proofs.Common.{◌<◌, ◌-◌, length, get_or, arith}
use Rattle.std.proofs.lemmas.List.{get_or_default}
use Rattle.u_set.proofs.ApartLemmas.{beyond_at}
use Rattle.u_set.proofs.apart.stands_apart.Goals as goal

pub is_beyond-requires-clause-x : goal.is_beyond-requires-clause-x
is_beyond-requires-clause-x c =
    let w = c.requires.within in
    let l : c.args.i - 1 < length c.args.rows.now = omega (arith, w) in
    c.requires.spans (c.args.i - 1) c.index-rows-i.result l

pub is_beyond-requires-clause-y : goal.is_beyond-requires-clause-y
is_beyond-requires-clause-y c = c.requires.spans c.args.i c.index-rows-i-else-i-eq0.result c.requires.within

pub returns-else-i-eq0 : goal.returns-else-i-eq0
returns-else-i-eq0 c = λ t.
    let w = c.requires.within in
    let l : c.args.i - 1 < length c.args.rows.now = omega (arith, w) in
    let x = get_or c.args.rows.now (c.args.i - 1) c.index-rows-i.result in
    let y = get_or c.args.rows.now c.args.i c.index-rows-i-else-i-eq0.result in
    beyond_at c.args.label.now c.args.at c.args.gap (λ r. r.row.now) c.args.rows.now c.args.i x y c.requires.within
    (get_or_default c.args.rows.now (c.args.i - 1) c.index-rows-i.result x l) (get_or_default c.args.rows.now c.args.i c.index-rows-i-else-i-eq0.result y c.requires.within) (c.is_beyond.ensures t)
