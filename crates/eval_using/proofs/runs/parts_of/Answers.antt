use Rattle.std.proofs.Common.{◌+◌, ◌<◌, ◌++◌, ◌∷◌, [], pos, get_or, map, drop, length, ap, sym, ◌∙◌, subst}
use Rattle.std.proofs.lemmas.List.{drop_more}
use Rattle.std.proofs.lemmas.List.Elements.{All-same, All-push}
use Rattle.point_core.specs.Points.{number, IsPointOf}
use Rattle.point_core.specs.declared.any_type.AnyPoint.{AnyPoint}
use Rattle.point_core.specs.declared.any_type.AnyPoint.TheVariants.{Integer}
use Rattle.interval_core.specs.Members.{HasEndsIn}
use Rattle.cell_core.specs.Numbering.{numbers_of}
use Rattle.u_row.specs.Cutting.{AreCuts, pieces}
use Rattle.u_row.proofs.CuttingLemmas.{piece_step}
use Rattle.eval_using.proofs.runs.parts_of.Goals as goal

pub loop-cut-preserved : goal.loop-cut-preserved
loop-cut-preserved c =
    let cuts = c.args.cuts.now in
    let i = c.loop-cut.cut-index in
    let cut : AnyPoint = get_or cuts i (Integer (pos 0)) in
    let end = number c.args.side.now.1 in
    let part = c.until-part.result in
    let out = c.loop-cut.out.items in
    let t = c.args.t.now in
    let push = c.in_ok-push.ensures.items in
    let lt : i < length cuts = c.loop-cut-test.true in
    let split = drop_more cuts i (Integer (pos 0)) lt in
    let rises : AreCuts (number c.loop-cut.begin) end (map number (cut ∷ drop (i + 1) cuts)) = subst (λ xs. AreCuts (number c.loop-cut.begin) end (map number xs)) split c.loop-cut.invariant.cuts in
    let point : HasEndsIn IsPointOf t part = (subst (IsPointOf t) (sym c.until-part.ensures.begin) c.loop-cut.invariant.begin, c.until-part.ensures.point) in
    record {
      rest = (λ k. map (numbers_of number) (push k) ++ pieces (number cut) end (map number (drop (i + 1) cuts)))
          ∙ piece_step number end c.loop-cut.begin cut (drop (i + 1) cuts) out part c.until-part.ensures.begin c.until-part.ensures.end
          ∙ ap (λ xs. map (numbers_of number) out ++ pieces (number c.loop-cut.begin) end (map number xs)) (sym split) ∙ c.loop-cut.invariant.rest;
      points = All-same (HasEndsIn IsPointOf t) c.push.new.self.items (out ++ part ∷ []) push (All-push (HasEndsIn IsPointOf t) out part c.loop-cut.invariant.points point);
      begin = c.requires.points i (Integer (pos 0)) lt;
      ordered = rises.1;
      cuts = rises.2;
    }

pub returns-clause-points : goal.returns-clause-points
returns-clause-points c =
    let t = c.args.t.now in
    All-same (HasEndsIn IsPointOf t) c.push-2.new.self.items (c.loop-cut.out.items ++ c.of.result ∷ []) c.in_ok-push-2.ensures.items
    (All-push (HasEndsIn IsPointOf t) c.loop-cut.out.items c.of.result c.loop-cut.invariant.points
    (subst (HasEndsIn IsPointOf t) (sym c.of.ensures) (c.loop-cut.invariant.begin, subst (IsPointOf t) (sym c.end.ensures.point) c.requires.side.1)))

pub until-part-requires-clause-begin : goal.until-part-requires-clause-begin
until-part-requires-clause-begin c = c.loop-cut.invariant.begin

pub until-part-requires-clause-cut : goal.until-part-requires-clause-cut
until-part-requires-clause-cut c = c.requires.points c.loop-cut.cut-index (Integer (pos 0)) c.loop-cut-test.true

pub until-part-requires-clause-before : goal.until-part-requires-clause-before
until-part-requires-clause-before c =
    let cuts = c.args.cuts.now in
    let i = c.loop-cut.cut-index in
    let lt : i < length cuts = c.loop-cut-test.true in
    let cut : AnyPoint = get_or cuts i (Integer (pos 0)) in
    let rises : AreCuts (number c.loop-cut.begin) (number c.args.side.now.1) (map number (cut ∷ drop (i + 1) cuts)) =
    subst (λ xs. AreCuts (number c.loop-cut.begin) (number c.args.side.now.1) (map number xs)) (drop_more cuts i (Integer (pos 0)) lt) c.loop-cut.invariant.cuts in
    rises.0
