use Rattle.std.proofs.Common.{rules, ◌≡◌, ◌+◌, ◌++◌, [], ◌∷◌, length, List, take, drop, sym, ap, subst, ◌∙◌, arith}
use Rattle.std.proofs.lemmas.Iterator.Adapters.{YieldsList-from_vec}
use Rattle.std.proofs.lemmas.Iterator.Consumers.{YieldsList-turn, YieldsList-end}
use Rattle.std.proofs.lemmas.List.{length_push, map-id}
use Rattle.std.specs.List.Sorted.{IsStrictlySortedBy}
use Rattle.std.specs.Vec.{vec_len}
use Rattle.value_core.specs.Values.{Row, row_cmp}
use Rattle.relation_core.specs.Operators.{united}
use Rattle.relation_core.proofs.FilterLemmas.{head_of}
use Rattle.row_removal.proofs.CutLemmas.{further_rest}
use Rattle.assign_core.proofs.MergingLemmas.{nothing_left, rest_sorted}
use Rattle.assign_core.proofs.merging.merge_in.Goals as goal

pub put_next-cut-requires-clause-rest : goal.put_next-cut-requires-clause-rest
put_next-cut-requires-clause-rest c =
    let k = c.loop-row.invariant in
    subst (λ (rs : List Row). IsStrictlySortedBy row_cmp rs) (sym k.back) (rest_sorted c.args.rows.now.items (vec_len c.args.come) c.loop-row.cut.seen k.from c.requires.rest)

pub loop-row-preserved : goal.loop-row-preserved
loop-row-preserved c =
    let rows = c.args.rows.now.items in
    let now = c.loop-row.rows.items in
    let new = c.put_next-cut.new.rows.items in
    let xs = c.args.come.items in
    let ys = c.loop-row.yielded in
    let x = c.in-Some.row in
    let n = length ys in
    let seen = c.loop-row.cut.seen in
    let next = c.put_next-cut.result.seen in
    let k = c.loop-row.invariant in
    let told = c.put_next-cut.ensures in
    let longer : length (ys ++ x ∷ []) ≡ n + 1 = length_push ys x in
    let made = YieldsList-from_vec {s = c.into_iter-row-iterator.result} xs (search rules) (search rules) in
    let t = YieldsList-turn made ys c.loop-row.row-iterator c.loop-row.yielded_by c.next.result c.next.new.self x c.in-Some.is c.next.ensures.steps in
    let head : drop n xs ≡ x ∷ drop (n + 1) xs = head_of xs n x t.0 t.1 in
    let others = subst (λ (rs : List Row). IsStrictlySortedBy row_cmp rs) head (rest_sorted xs 0 n (omega arith) c.requires.come) in
    let back = further_rest now rows seen next told.seen k.back in
    record {
      can = tt;
      ends = tt;
      len = told.len ∙ k.len;
      room = omega (arith, longer, k.room, told.room);
      from = omega (arith, k.from, told.seen);
      seen = omega (arith, told.within, k.len);
      back = told.back ∙ back;
      front = (λ i. take c.put_next-cut.result.kept new ++ united (sym back i) (drop (longer i) xs))
          ∙ (told.front (drop (n + 1) xs) others ∙ ((λ i. take c.loop-row.cut.kept now ++ united (k.back i) (sym head i)) ∙ k.front));
    }

pub returns : goal.returns
returns c =
    let rows = c.args.rows.now.items in
    let now = c.loop-row.rows.items in
    let xs = c.args.come.items in
    let ys = c.loop-row.yielded in
    let seen = c.loop-row.cut.seen in
    let end = c.len-end.result in
    let k = c.loop-row.invariant in
    let t = YieldsList-end (YieldsList-from_vec {s = c.into_iter-row-iterator.result} xs (search rules) (search rules)) ys c.loop-row.row-iterator c.loop-row.yielded_by c.next.result c.next.new.self c.in-None.is c.next.ensures.steps in
    let all : ys ≡ xs = sym (map-id ys) ∙ t.0 in
    let count : length ys ≡ length xs = ap (λ (rs : List Row). length rs) all in
    let sorted = rest_sorted rows (vec_len c.args.come) seen k.from c.requires.rest in
    let rest = nothing_left rows now xs seen end (length ys) sorted k.back (omega (arith, c.len-end.ensures)) (omega (arith, count)) in
    c.truncate.ensures.items ∙ (c.keep_run-kept.ensures.front ∙ (ap (λ (rs : List Row). take c.loop-row.cut.kept now ++ rs) rest ∙ k.front))
