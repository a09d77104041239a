use Rattle.std.proofs.Common.{rules, length, get_or, arith, subst, sym}
use Rattle.std.proofs.lemmas.Iterator.Adapters.{YieldsList-from_vec}
use Rattle.std.proofs.lemmas.Iterator.Consumers.{YieldsList-turn}
use Rattle.std.proofs.lemmas.List.{length_push}
use Rattle.cell_packing.specs.Pieces.{NotAfter, AllNotAfter}
use Rattle.cell_packing.proofs.Joined.{covers_more}
use Rattle.cell_packing.proofs.merge.Goals as goal

pub add-requires-clause-order : goal.add-requires-clause-order
add-requires-clause-order g c =
    let xs = c.args.pieces.items in
    let t = YieldsList-turn (YieldsList-from_vec {s = c.into_iter-x-iterator.result} xs (search rules) (search rules)) c.loop-x.yielded c.loop-x.x-iterator c.loop-x.yielded_by c.next.result c.next.new.self c.in-Some.x c.in-Some.is c.next.ensures.steps in
    subst (AllNotAfter g.K.Ord.cmp c.loop-x.out.items) (sym t.1) (c.loop-x.invariant.order (length c.loop-x.yielded) c.in-Some.x (omega arith) t.0)

pub loop-x-preserved : goal.loop-x-preserved
loop-x-preserved g c =
    let xs = c.args.pieces.items in
    let said = c.in_ok-add.ensures in
    let t = YieldsList-turn (YieldsList-from_vec {s = c.into_iter-x-iterator.result} xs (search rules) (search rules)) c.loop-x.yielded c.loop-x.x-iterator c.loop-x.yielded_by c.next.result c.next.new.self c.in-Some.x c.in-Some.is c.next.ensures.steps in
    let n = length_push c.loop-x.yielded c.in-Some.x in
    record {
      can = tt;
      ends = tt;
      apart = said.apart;
      covers = covers_more g.K.Ord.cmp g.met.K.Ord.total c.loop-x.yielded c.in-Some.x c.loop-x.out.items c.add.new.out.items said.covers c.loop-x.invariant.covers;
      order = λ j d f h. said.order (get_or xs j d) (subst (λ z. NotAfter g.K.Ord.cmp z (get_or xs j d)) (sym t.1) (c.requires.order (length c.loop-x.yielded) j c.in-Some.x d (omega arith) h)) (c.loop-x.invariant.order j d (omega arith) h);
    }
