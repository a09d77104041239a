use Rattle.std.proofs.Common.{◌≡◌, ◌++◌, ◌∷◌, [], List, map, sym, ap, ◌∙◌, subst}
use Rattle.std.specs.Bool.{IsTrue}
use Rattle.std.specs.List.{All}
use Rattle.std.proofs.lemmas.List.{map-append}
use Rattle.point_core.specs.Points.{number, IsPointOf}
use Rattle.point_core.specs.declared.any_type.AnyPoint.{AnyPoint}
use Rattle.interval_core.specs.Members.{HasEndsIn}
use Rattle.value_core.specs.Values.{Row, fits_heading}
use Rattle.value_core.specs.Attributes.{put_span}
use Rattle.cell_core.specs.Cells.{box_numbers}
use Rattle.cell_core.specs.Numbering.{numbers_of}
use Rattle.relation_core.specs.Parts.{kind_at}
use Rattle.u_set.specs.Boxes.{type_of}
use Rattle.eval_using.proofs.InPlaceLemmas.{part_fits, fits_more}
use Rattle.eval_using.proofs.MovedLemmas.{moved_within, moved_line, moved_put, all_before, last_one, last_more}
use Rattle.eval_using.proofs.in_place.push_rows.Goals as goal

pub push_copies-requires : goal.push_copies-requires
push_copies-requires c =
    let w = c.requires.can in
    let t = type_of (kind_at w.0 c.args.at) in
    let all = all_before (HasEndsIn IsPointOf t) c.args.intervals.items c.pop.new.self.items c.in-Some.last c.in-Some.ensures.items w.3 in
    record { can = (w.0, w.1, w.2, subst (λ (is : List (AnyPoint × AnyPoint)). All (HasEndsIn IsPointOf t) is) (sym c.as_slice.ensures.value) all) }

pub with_interval-own-requires-clause-within : goal.with_interval-own-requires-clause-within
with_interval-own-requires-clause-within c =
    let w = c.requires.can in
    moved_within w.0 c.args.at c.args.row.now c.args.there c.requires.moved w.1 w.2

pub with_interval-own-requires-clause-first : goal.with_interval-own-requires-clause-first
with_interval-own-requires-clause-first c =
    let w = c.requires.can in
    let t = type_of (kind_at w.0 c.args.at) in
    let last = c.in-Some.last in
    moved_line w.0 c.args.at c.args.row.now c.args.there c.requires.moved w.1 w.2 last.0 (last_one (HasEndsIn IsPointOf t) c.args.intervals.items c.pop.new.self.items last c.in-Some.ensures.items w.3).0

pub returns-in_ok-push-in-Some-clause-rows : goal.returns-in_ok-push-in-Some-clause-rows
returns-in_ok-push-in-Some-clause-rows c =
    let at = c.args.at in
    let row = c.args.row.now in
    let last = c.in-Some.last in
    let others = c.pop.new.self.items in
    let own = c.with_interval-own.ensures.row ∙ moved_put at row c.args.there c.requires.moved (numbers_of number last) in
    let before = c.in_ok-push_copies-in-Some.ensures.rows ∙ (λ t. c.args.out.now.items ++ map (put_span row at) (box_numbers number (c.as_slice.ensures.value t))) in
    let all : c.args.intervals.items ≡ others ++ last ∷ [] = c.in-Some.ensures.items in
    last_more (put_span row at) (box_numbers number c.args.intervals.items) (box_numbers number others) (numbers_of number last) c.args.out.now.items c.push_copies.new.out.items c.push.new.self.items c.with_interval-own.result
    (ap (box_numbers number) all ∙ map-append (numbers_of number) others (last ∷ [])) before c.in_ok-push-in-Some.ensures.items own

pub returns-in_ok-push-in-Some-clause-fits : goal.returns-in_ok-push-in-Some-clause-fits
returns-in_ok-push-in-Some-clause-fits c = λ heading intervals fit ends old.
    let at = c.args.at in
    let row = c.args.row.now in
    let last = c.in-Some.last in
    let others = c.pop.new.self.items in
    let t = type_of (kind_at heading at) in
    let all : c.args.intervals.items ≡ others ++ last ∷ [] = c.in-Some.ensures.items in
    let own = c.with_interval-own.ensures.row ∙ moved_put at row c.args.there c.requires.moved (numbers_of number last) in
    let before = subst (λ (is : List (AnyPoint × AnyPoint)). All (HasEndsIn IsPointOf t) is) (sym c.as_slice.ensures.value) (all_before (HasEndsIn IsPointOf t) c.args.intervals.items others last all ends) in
    let here = subst (λ (x : Row). IsTrue (fits_heading heading x)) (sym own) (part_fits heading at row last fit (last_one (HasEndsIn IsPointOf t) c.args.intervals.items others last all ends) c.with_interval-own.ensures.ordered) in
    fits_more heading c.push_copies.new.out.items c.push.new.self.items c.with_interval-own.result c.in_ok-push-in-Some.ensures.items here (c.in_ok-push_copies-in-Some.ensures.fits heading intervals fit before old)
