use Rattle.std.proofs.Common.{[], ◌∷◌, List, sym, ◌∙◌, subst}
use Rattle.std.proofs.lemmas.Bool.{true≢false}
use Rattle.value_core.specs.Values.{Row}
use Rattle.u_set.specs.Coalescing.{IsFormByLabel}
use Rattle.u_set.proofs.ApartLemmas.{some_holds}
use Rattle.u_set.proofs.PackedLemmas.{not_same, same_itself, same_told}
use Rattle.u_set.proofs.row_comparison.same_at.Goals as goal

pub returns-then-are_one : goal.returns-then-are_one
returns-then-are_one c =
    same_itself (c.args.at ∷ []) c.args.left.now.rows c.args.right.now.rows (sym c.rows.ensures.rows ∙ c.are_one.ensures.0 c.if-are_one.true ∙ c.rows-2.ensures.rows)

pub returns-then-in_time : goal.returns-then-in_time
returns-then-in_time c =
    not_same c.args.left.now c.args.right.now c.rows.ensures.relation c.rows-2.ensures.relation c.requires.heading c.args.at c.requires.interval (c.in_ok-in_time.ensures.left c.if-in_time.true) (c.in_ok-in_time.ensures.right c.if-in_time.true)
    (λ e. true≢false (sym (c.are_one.ensures.1 (c.rows.ensures.rows ∙ e ∙ sym c.rows-2.ensures.rows)) ∙ c.if-are_one.false))

pub returns : goal.returns
returns c =
    same_told c.args.left.now c.args.right.now c.rows.ensures.relation c.rows-2.ensures.relation c.requires.heading c.args.at c.requires.interval
    c.as_slice-2.result.now (subst (λ (list : List Row). IsFormByLabel c.args.right.now.heading c.args.at c.args.right.now.rows list) (sym c.as_slice-2.ensures.value) (some_holds (λ form. IsFormByLabel c.args.right.now.heading c.args.at c.args.right.now.rows form.items) c.in_ok-right_form.field-0 c.in-Some-2.right_form c.in-Some-2.is c.in_ok-right_form.ensures))
    c.as_slice.result.now (subst (λ (list : List Row). IsFormByLabel c.args.left.now.heading c.args.at c.args.left.now.rows list) (sym c.as_slice.ensures.value) (some_holds (λ form. IsFormByLabel c.args.left.now.heading c.args.at c.args.left.now.rows form.items) c.in_ok-left_form.field-0 c.in-Some.left_form c.in-Some.is c.in_ok-left_form.ensures)) c.are_one-same.result c.are_one-same.ensures
