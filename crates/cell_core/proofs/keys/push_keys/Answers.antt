use Rattle.std.proofs.Common.{◌++◌, arith, ap, ◌∙◌}
use Rattle.cell_core.proofs.KeyLemmas.{key_step, keys_whole}
use Rattle.cell_core.proofs.keys.push_keys.Goals as goal

pub one_box-requires : goal.one_box-requires
one_box-requires g c = λ k d h. let w = c.requires.full k d h in let l = c.loop-r-test.true in omega arith

pub loop-r-preserved : goal.loop-r-preserved
loop-r-preserved g c =
    key_step c.args.first c.args.rows.now c.args.sides.now c.loop-r.r c.index-rows-r.result c.args.out.now.items c.loop-r.out.items c.push.new.self.items c.in_ok-label.label c.in_ok-cells.cells.sides.items c.loop-r-test.true c.index-rows-r.is
    c.loop-r.invariant c.in_ok-push.ensures.items (c.in_ok-label.ensures ∙ ap (λ x. x.0) c.row.view_is) c.in_ok-cells.ensures

pub returns : goal.returns
returns g c = c.loop-r.invariant ∙ ap (λ ks. c.args.out.now.items ++ ks) (keys_whole c.args.first c.args.rows.now c.args.sides.now c.loop-r.r c.loop-r-test.false)
