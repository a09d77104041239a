use Rattle.std.proofs.Common.{[], ◌∷◌, ◌++◌, List, sym, ◌∙◌, subst}
use Rattle.value_core.specs.Values.{Row}
use Rattle.u_set.specs.Coalescing.{IsFormByLabel}
use Rattle.u_set.proofs.ApartLemmas.{some_holds}
use Rattle.u_set.proofs.PackedLemmas.{within_itself, within_told}
use Rattle.u_set.proofs.row_comparison.within_at.Goals as goal

pub returns-then-are_one : goal.returns-then-are_one
returns-then-are_one c =
    within_itself (c.args.at ∷ []) c.args.left.now.rows c.args.right.now.rows (sym c.rows.ensures.rows ∙ c.are_one.ensures.0 c.if-are_one.true ∙ c.rows-2.ensures.rows)

pub returns : goal.returns
returns c =
    within_told c.args.left.now c.args.right.now c.rows.ensures.relation c.rows-2.ensures.relation c.requires.heading c.args.at c.requires.interval
    c.as_slice-2.result.now (subst (λ (list : List Row). IsFormByLabel c.args.right.now.heading c.args.at c.args.right.now.rows list) (sym c.as_slice-2.ensures.value) (some_holds (λ form. IsFormByLabel c.args.right.now.heading c.args.at c.args.right.now.rows form.items) c.in_ok-right_form.field-0 c.in-Some.right_form c.in-Some.is c.in_ok-right_form.ensures))
    c.as_slice.result.now (subst (λ (list : List Row). IsFormByLabel c.args.left.now.heading c.args.at (c.args.left.now.rows ++ c.args.right.now.rows) list) (sym c.as_slice.ensures.value) (some_holds (λ form. IsFormByLabel c.args.left.now.heading c.args.at (c.args.left.now.rows ++ c.args.right.now.rows) form.items) c.in_ok-form.field-0 c.in-Some-2.form c.in-Some-2.is c.in_ok-form.ensures)) c.are_one-within.result c.are_one-within.ensures
