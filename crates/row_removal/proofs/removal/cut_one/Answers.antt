use Rattle.std.proofs.Common.{List, Ok, Err, ◌++◌, take, ap, subst, ◌∙◌}
use Rattle.value_core.specs.Values.{Row}
use Rattle.row_removal.specs.Removals.{IsPlaceBehind}
use Rattle.row_removal.proofs.CutLemmas.{cut_found, cut_missing}
use Rattle.row_removal.proofs.removal.cut_one.Goals as goal

pub returns-in-Ok-clause-front : goal.returns-in-Ok-clause-front
returns-in-Ok-clause-front c =
    let rows = c.args.rows.now.items in
    let seen = c.args.cut.seen in
    let told = subst (λ (rs : List Row). IsPlaceBehind rs seen c.args.row.now (Ok c.in-Ok.at)) c.as_slice.ensures.value c.in-Ok.ensures in
    c.keep_run-kept.ensures.front ∙ ap (λ (rs : List Row). take c.args.cut.kept rows ++ rs) (cut_found rows seen c.in-Ok.at c.args.row.now told).0

pub returns-in-Ok-clause-before : goal.returns-in-Ok-clause-before
returns-in-Ok-clause-before c =
    let seen = c.args.cut.seen in
    let told = subst (λ (rs : List Row). IsPlaceBehind rs seen c.args.row.now (Ok c.in-Ok.at)) c.as_slice.ensures.value c.in-Ok.ensures in
    (cut_found c.args.rows.now.items seen c.in-Ok.at c.args.row.now told).1

pub returns-in-Err-clause-front : goal.returns-in-Err-clause-front
returns-in-Err-clause-front c =
    let rows = c.args.rows.now.items in
    let seen = c.args.cut.seen in
    let told = subst (λ (rs : List Row). IsPlaceBehind rs seen c.args.row.now (Err c.in-Err.at)) c.as_slice.ensures.value c.in-Err.ensures in
    c.keep_run-kept-in-Err.ensures.front ∙ ap (λ (rs : List Row). take c.args.cut.kept rows ++ rs) (cut_missing rows seen c.in-Err.at c.args.row.now told).0

pub returns-in-Err-clause-before : goal.returns-in-Err-clause-before
returns-in-Err-clause-before c =
    let seen = c.args.cut.seen in
    let told = subst (λ (rs : List Row). IsPlaceBehind rs seen c.args.row.now (Err c.in-Err.at)) c.as_slice.ensures.value c.in-Err.ensures in
    (cut_missing c.args.rows.now.items seen c.in-Err.at c.args.row.now told).1
