use Rattle.std.proofs.Common.{List, map, sym, subst}
use Rattle.std.proofs.lemmas.List.{map_push}
use Rattle.value_core.specs.Values.{Row}
use Rattle.u_set.specs.Coalescing.{AreJoined}
use Rattle.u_set.proofs.CoalescingLemmas.{one_more}
use Rattle.u_set.proofs.coalescing.joined_in_turn.Goals as goal

pub loop-own-preserved : goal.loop-own-preserved
loop-own-preserved c =
    let heading = c.args.heading.now in
    let before : List Row = map (λ r. r.row) c.loop-own.yielded in
    let new = c.add.new.list.items in
    record {
      can = tt;
      ends = tt;
      rows =
          subst (λ (rows : List Row). AreJoined heading c.args.at rows new) (sym (map_push (λ r. r.row) c.loop-own.yielded c.in-Some.own))
          (one_more heading c.args.at c.requires.interval before c.loop-own.list.items new c.in-Some.own.row c.loop-own.invariant.rows c.in_ok-add.ensures);
    }
