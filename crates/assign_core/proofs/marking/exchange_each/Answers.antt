use Rattle.std.proofs.Common.{rules, ◌≡◌, ◌+◌, ◌∷◌, ◌++◌, [], length, take, drop, List, false, subst, sym, ap, ◌∙◌, arith}
use Rattle.std.proofs.lemmas.Iterator.Adapters.{YieldsList-from_vec}
use Rattle.std.proofs.lemmas.Iterator.Consumers.{YieldsList-turn, YieldsList-end}
use Rattle.std.proofs.lemmas.List.{length_push, map-id, drop-drop}
use Rattle.std.specs.List.Sorted.{IsStrictlySortedBy}
use Rattle.base_core.specs.Sets.{has, put}
use Rattle.value_core.specs.Values.{Row, row_cmp}
use Rattle.value_core.proofs.PlacingLemmas.{sorted_union, union_none}
use Rattle.relation_core.specs.Operators.{subtracted, united}
use Rattle.u_constraints.specs.Growth.{exchanged}
use Rattle.u_constraints.proofs.GrowthLemmas.{all_left}
use Rattle.row_removal.proofs.RemovalLemmas.{sorted_taken}
use Rattle.assign_core.proofs.InTurnLemmas.{exchanged_turn, exchanged_all, has_at}
use Rattle.assign_core.proofs.marking.exchange_each.Goals as goal

pub loop-row-init : goal.loop-row-init
loop-row-init g c = record {
  can = tt;
  ends = tt;
  left = λ i. c.args.gone.now;
  rows = union_none c.args.rows.now.items c.requires.0 ∙ all_left (united c.args.rows.now.items []);
  room = omega (arith, c.requires.1.1.0);
  hashes = c.requires.1.1.1.1;
}

pub exchange_next-left-requires : goal.exchange_next-left-requires
exchange_next-left-requires g c =
    let old = c.args.rows.now.items in
    let xs = c.args.come.items in
    let ys = c.loop-row.yielded in
    let k = length ys in
    let ascending = subst (λ (r : List Row). IsStrictlySortedBy row_cmp r) (sym c.loop-row.invariant.rows) (sorted_taken (united old ys) (take k c.args.gone.now) (sorted_union old ys)) in
    let made = YieldsList-from_vec {s = c.into_iter-row-iterator.result} xs (search rules) (search rules) in
    let t = YieldsList-turn made ys c.loop-row.row-iterator c.loop-row.yielded_by c.next.result c.next.new.self c.in-Some.row c.in-Some.is c.next.ensures.steps in
    let long = subst (λ (x : Row). length x ≡ length g.heading) (sym t.1) (c.requires.1.1.1.0 k c.in-Some.row t.0) in
    (ascending, (search rules, (long, c.loop-row.invariant.hashes)))

pub loop-row-preserved : goal.loop-row-preserved
loop-row-preserved g c =
    let old = c.args.rows.now.items in
    let gone = c.args.gone.now in
    let xs = c.args.come.items in
    let ys = c.loop-row.yielded in
    let x = c.in-Some.row in
    let k = length ys in
    let longer : length (ys ++ x ∷ []) ≡ k + 1 = length_push ys x in
    let made = YieldsList-from_vec {s = c.into_iter-row-iterator.result} xs (search rules) (search rules) in
    let t = YieldsList-turn made ys c.loop-row.row-iterator c.loop-row.yielded_by c.next.result c.next.new.self x c.in-Some.is c.next.ensures.steps in
    let other : has row_cmp gone x ≡ false = c.requires.1.0 x (has_at xs k x t.0 (sym t.1)) in
    record {
      can = tt;
      ends = tt;
      left = c.exchange_next-left.ensures.left ∙ (ap (λ (gs : List Row). drop 1 gs) c.loop-row.invariant.left ∙ (drop-drop 1 k gone ∙ ap (λ n. drop n gone) (sym longer)));
      rows = c.exchange_next-left.ensures.rows
          ∙ ((λ i. subtracted (put row_cmp x (c.loop-row.invariant.rows i)) (take 1 (c.loop-row.invariant.left i)))
          ∙ exchanged_turn old ys gone k (length (ys ++ x ∷ [])) x other longer);
      room = omega (arith, longer, c.loop-row.invariant.room, c.exchange_next-left.ensures.len, c.exchange_next-left.ensures.capacity);
      hashes = c.exchange_next-left.ensures.hashes;
    }

pub take_out_all-requires : goal.take_out_all-requires
take_out_all-requires g c =
    let old = c.args.rows.now.items in
    let ys = c.loop-row.yielded in (
      subst (λ (r : List Row). IsStrictlySortedBy row_cmp r) (sym c.loop-row.invariant.rows) (sorted_taken (united old ys) (take (length ys) c.args.gone.now) (sorted_union old ys)),
      c.loop-row.invariant.hashes,
    )

pub returns-clause-rows : goal.returns-clause-rows
returns-clause-rows g c =
    let old = c.args.rows.now.items in
    let gone = c.args.gone.now in
    let xs = c.args.come.items in
    let ys = c.loop-row.yielded in
    let t = YieldsList-end (YieldsList-from_vec {s = c.into_iter-row-iterator.result} xs (search rules) (search rules)) ys c.loop-row.row-iterator c.loop-row.yielded_by c.next.result c.next.new.self c.in-None.is c.next.ensures.steps in
    let all : ys ≡ xs = sym (map-id ys) ∙ t.0 in
    c.take_out_all.ensures.rows
    ∙ ((λ i. subtracted (c.loop-row.invariant.rows i) (c.loop-row.invariant.left i))
    ∙ (exchanged_all old ys gone (length ys)
    ∙ ap (λ (rs : List Row). exchanged old gone rs) all))
