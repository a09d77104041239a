use Rattle.std.proofs.Common.{◌+◌, ◌<◌, ◌++◌, ◌∷◌, [], map, drop, length, arith, ap, sym, ◌∙◌, subst}
use Rattle.std.proofs.lemmas.List.Elements.{All-same, All-push}
use Rattle.interval_core.specs.Members.{HasEndsIn}
use Rattle.relation_core.proofs.FilterLemmas.{head_of}
use Rattle.cell_core.specs.Numbering.{numbers_of}
use Rattle.u_row.specs.Cutting.{AreCuts, pieces}
use Rattle.u_row.proofs.CuttingLemmas.{piece_step}
use Rattle.u_row.proofs.cutting.pieces_of.Goals as goal

pub loop-cut-preserved : goal.loop-cut-preserved
loop-cut-preserved g c =
    let n = g.T.PointType.number_of in
    let cuts = c.args.cuts.now in
    let i = c.loop-cut.cut-index in
    let cut = c.cut-item.result in
    let end = n c.args.side.now.1 in
    let piece = c.until-piece.result in
    let out = c.loop-cut.out.items in
    let push = c.in_ok-push.ensures.items in
    let lt : i < length cuts = c.loop-cut-test.true in
    let split = head_of cuts i cut lt c.cut-item.is in
    let rises : AreCuts (n c.loop-cut.begin) end (map n (cut ∷ drop (i + 1) cuts)) = subst (λ xs. AreCuts (n c.loop-cut.begin) end (map n xs)) split c.loop-cut.invariant.cuts in
    let point : HasEndsIn g.T.PointType.IsPoint c.args.t.now piece = (subst (g.T.PointType.IsPoint c.args.t.now) (sym c.until-piece.ensures.begin) c.loop-cut.invariant.begin, c.until-piece.ensures.point) in
    let took = c.until-piece.ensures.cost in
    let before = c.loop-cut.invariant.cost in
    record {
      rest = (λ t. map (numbers_of n) (push t) ++ pieces (n cut) end (map n (drop (i + 1) cuts)))
          ∙ piece_step n end c.loop-cut.begin cut (drop (i + 1) cuts) out piece c.until-piece.ensures.begin c.until-piece.ensures.end
          ∙ ap (λ xs. map (numbers_of n) out ++ pieces (n c.loop-cut.begin) end (map n xs)) (sym split) ∙ c.loop-cut.invariant.rest;
      points = All-same (HasEndsIn g.T.PointType.IsPoint c.args.t.now) c.push.new.self.items (out ++ piece ∷ []) push (All-push (HasEndsIn g.T.PointType.IsPoint c.args.t.now) out piece c.loop-cut.invariant.points point);
      begin = subst (g.T.PointType.IsPoint c.args.t.now) (sym c.cut-item.is) (c.requires.points i cut lt);
      ordered = rises.1;
      cuts = rises.2;
      cost = omega (arith, took, before);
    }

pub returns-clause-points : goal.returns-clause-points
returns-clause-points g c =
    All-same (HasEndsIn g.T.PointType.IsPoint c.args.t.now) c.push-2.new.self.items (c.loop-cut.out.items ++ c.of.result ∷ []) c.in_ok-push-2.ensures.items
    (All-push (HasEndsIn g.T.PointType.IsPoint c.args.t.now) c.loop-cut.out.items c.of.result c.loop-cut.invariant.points
    (subst (HasEndsIn g.T.PointType.IsPoint c.args.t.now) (sym c.of.ensures) (c.loop-cut.invariant.begin, subst (g.T.PointType.IsPoint c.args.t.now) (sym c.end.ensures.point) c.requires.side.1)))
