use Rattle.std.proofs.Common.{ℤ, ◌<◌, [], length, arith, sym, ◌∙◌, subst, rules}
use Rattle.std.specs.Int.{w64}
use Rattle.std.specs.Option.{IfSome}
use Rattle.std.proofs.lemmas.Int.{to_z-of_z}
use Rattle.std.proofs.lemmas.List.{get_or_default}
use mir.Val.{SFits, to_z, of_z}
use Rattle.value_core.specs.Values.{Row}
use Rattle.scalar_core.specs.Expressions.{read}
use Rattle.scalar_core.specs.Kinds.{IsTypedOver}
use Rattle.eval_using.specs.Columns.{HasPoint}
use Rattle.eval_using.proofs.ColumnLemmas.{length_more, numbers_more}
use Rattle.eval_using.proofs.columns.numbers.Goals as goal

pub number_on-requires : goal.number_on-requires
number_on-requires c =
    let at = c.index-rows-i.is in
    subst (λ (x : Row). IsTypedOver x (read c.args.e.now)) (sym at) (c.requires c.loop-i.i c.index-rows-i.result c.loop-i-test.true)

pub loop-i-preserved : goal.loop-i-preserved
loop-i-preserved c =
    let rows = c.args.rows.now in
    let i = c.loop-i.i in
    let l : i < length rows = c.loop-i-test.true in
    let long = c.in_ok-push-in-Some.ensures.items in
    let count = c.loop-i.invariant.count in
    let n : ℤ = c.in-Some.n in
    let own : HasPoint c.index-rows-i.result (read c.args.e.now) c.args.of n = subst (λ o. IfSome o (λ m. HasPoint c.index-rows-i.result (read c.args.e.now) c.args.of m)) c.in-Some.is c.in_ok-n.ensures in
    let fits : SFits w64 n = search rules in
    record {
      within = omega (arith, l);
      count = length_more c.loop-i.numbers.items c.push.new.self.items (to_z w64 (of_z w64 n)) i count long;
      points = numbers_more i rows (read c.args.e.now) c.args.of c.loop-i.numbers.items c.push.new.self.items c.index-rows-i.result (to_z w64 (of_z w64 n)) count c.loop-i.invariant.points
          (c.index-rows-i.is ∙ get_or_default rows i c.index-rows-i.result [] l) (subst (HasPoint c.index-rows-i.result (read c.args.e.now) c.args.of) (sym (to_z-of_z w64 n fits)) own) long;
    }

pub returns : goal.returns
returns c =
    let w = c.loop-i.invariant.within in
    let count = c.loop-i.invariant.count in
    let t = c.loop-i-test.false in
    (omega (arith, w, t, count), λ r l. c.loop-i.invariant.points r (omega (arith, t, l)))
