use Rattle.u_set.proofs.ApartLemmas.{moved_spans, moved_chain}
use Rattle.u_set.proofs.apart.sorted_apart.Goals as goal

pub stand_apart-requires : goal.stand_apart-requires
stand_apart-requires c =
    moved_spans c.args.at (λ r. r.row.now) c.args.rows.items c.in_ok-list.list.items c.as_slice.result.now c.as_slice.ensures.value c.in_ok-list.ensures c.requires

pub returns : goal.returns
returns c = λ t.
    moved_chain c.args.label.now c.args.at c.args.gap (λ r. r.row.now) c.args.rows.items c.in_ok-list.list.items c.as_slice.result.now c.as_slice.ensures.value c.in_ok-list.ensures (c.stand_apart.ensures t)
