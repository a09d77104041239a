use Rattle.std.proofs.Common.{◌<◌, length, get_or, refl, arith, subst}
use Rattle.eval_using.specs.Spots.{AreSpots}
use Rattle.relation_core.proofs.FilterLemmas.{take_all}
use Rattle.eval_using.proofs.SpotLemmas.{spots_more}
use Rattle.eval_using.proofs.spots.spots_of.Goals as goal

pub loop-i-preserved : goal.loop-i-preserved
loop-i-preserved c =
    let l : c.loop-i.i < length c.args.places.now = c.loop-i-test.true in
    record {
      within = omega (arith, l);
      are = spots_more c.args.many c.args.part.now c.args.places.now c.loop-i.i (get_or c.args.places.now c.loop-i.i 0) c.in-Some.spot c.loop-i.spots.items c.push.new.self.items l refl c.loop-i.invariant.are
          c.in-Some.ensures c.in_ok-push-in-Some.ensures.items;
    }

pub returns : goal.returns
returns c =
    let w = c.loop-i.invariant.within in
    let t = c.loop-i-test.false in
    subst (λ ps. AreSpots c.args.many c.args.part.now ps c.loop-i.spots.items) (take_all c.loop-i.i c.args.places.now (omega (arith, t))) c.loop-i.invariant.are
