use Rattle.std.proofs.Common.{◌≡◌, Bool, [], ◌∷◌, ◌++◌, List, sym, ◌∙◌, subst}
use Rattle.base_core.specs.Sets.{is_within, are_same}
use Rattle.value_core.specs.RowPacking.{unpacked}
use Rattle.value_core.specs.Values.{Row, row_cmp}
use Rattle.u_set.specs.Coalescing.{IsFormByLabel}
use Rattle.u_set.proofs.ApartLemmas.{some_holds}
use Rattle.u_set.proofs.PackedLemmas.{same_itself, same_told, within_told, not_properly, properly}
use Rattle.u_set.proofs.row_comparison.properly_within_at.Goals as goal

pub returns-then-are_one : goal.returns-then-are_one
returns-then-are_one c =
    let within : Bool = is_within row_cmp (unpacked (c.args.at ∷ []) c.args.left.now.rows) (unpacked (c.args.at ∷ []) c.args.right.now.rows) in
    let same : Bool = are_same row_cmp (unpacked (c.args.at ∷ []) c.args.left.now.rows) (unpacked (c.args.at ∷ []) c.args.right.now.rows) in
    not_properly within same (same_itself (c.args.at ∷ []) c.args.left.now.rows c.args.right.now.rows (sym c.rows.ensures.rows ∙ c.are_one.ensures.0 c.if-are_one.true ∙ c.rows-2.ensures.rows))

pub returns-then-are_one-2 : goal.returns-then-are_one-2
returns-then-are_one-2 c =
    let within : Bool = is_within row_cmp (unpacked (c.args.at ∷ []) c.args.left.now.rows) (unpacked (c.args.at ∷ []) c.args.right.now.rows) in
    let same : Bool = are_same row_cmp (unpacked (c.args.at ∷ []) c.args.left.now.rows) (unpacked (c.args.at ∷ []) c.args.right.now.rows) in
    let told : c.are_one-2.result ≡ same = same_told c.args.left.now c.args.right.now c.rows.ensures.relation c.rows-2.ensures.relation c.requires.heading c.args.at c.requires.interval
    c.as_slice-2.result.now (subst (λ (list : List Row). IsFormByLabel c.args.right.now.heading c.args.at c.args.right.now.rows list) (sym c.as_slice-2.ensures.value) (some_holds (λ form. IsFormByLabel c.args.right.now.heading c.args.at c.args.right.now.rows form.items) c.in_ok-right_form.field-0 c.in-Some-2.right_form c.in-Some-2.is c.in_ok-right_form.ensures))
    c.as_slice.result.now (subst (λ (list : List Row). IsFormByLabel c.args.left.now.heading c.args.at c.args.left.now.rows list) (sym c.as_slice.ensures.value) (some_holds (λ form. IsFormByLabel c.args.left.now.heading c.args.at c.args.left.now.rows form.items) c.in_ok-left_form.field-0 c.in-Some.left_form c.in-Some.is c.in_ok-left_form.ensures)) c.are_one-2.result c.are_one-2.ensures in
    not_properly within same (sym c.if-are_one-2.true ∙ told)

pub returns : goal.returns
returns c =
    let within : Bool = is_within row_cmp (unpacked (c.args.at ∷ []) c.args.left.now.rows) (unpacked (c.args.at ∷ []) c.args.right.now.rows) in
    let same : Bool = are_same row_cmp (unpacked (c.args.at ∷ []) c.args.left.now.rows) (unpacked (c.args.at ∷ []) c.args.right.now.rows) in
    let told : c.are_one-2.result ≡ same = same_told c.args.left.now c.args.right.now c.rows.ensures.relation c.rows-2.ensures.relation c.requires.heading c.args.at c.requires.interval
    c.as_slice-2.result.now (subst (λ (list : List Row). IsFormByLabel c.args.right.now.heading c.args.at c.args.right.now.rows list) (sym c.as_slice-2.ensures.value) (some_holds (λ form. IsFormByLabel c.args.right.now.heading c.args.at c.args.right.now.rows form.items) c.in_ok-right_form.field-0 c.in-Some-2.right_form c.in-Some-2.is c.in_ok-right_form.ensures))
    c.as_slice.result.now (subst (λ (list : List Row). IsFormByLabel c.args.left.now.heading c.args.at c.args.left.now.rows list) (sym c.as_slice.ensures.value) (some_holds (λ form. IsFormByLabel c.args.left.now.heading c.args.at c.args.left.now.rows form.items) c.in_ok-left_form.field-0 c.in-Some.left_form c.in-Some.is c.in_ok-left_form.ensures)) c.are_one-2.result c.are_one-2.ensures in
    let held : c.are_one-strict.result ≡ within = within_told c.args.left.now c.args.right.now c.rows.ensures.relation c.rows-2.ensures.relation c.requires.heading c.args.at c.requires.interval
    c.as_slice-4.result.now (subst (λ (list : List Row). IsFormByLabel c.args.right.now.heading c.args.at c.args.right.now.rows list) (sym c.as_slice-4.ensures.value) (some_holds (λ form. IsFormByLabel c.args.right.now.heading c.args.at c.args.right.now.rows form.items) c.in_ok-right_form.field-0 c.in-Some-2.right_form c.in-Some-2.is c.in_ok-right_form.ensures))
    c.as_slice-3.result.now (subst (λ (list : List Row). IsFormByLabel c.args.left.now.heading c.args.at (c.args.left.now.rows ++ c.args.right.now.rows) list) (sym c.as_slice-3.ensures.value) (some_holds (λ form. IsFormByLabel c.args.left.now.heading c.args.at (c.args.left.now.rows ++ c.args.right.now.rows) form.items) c.in_ok-form.field-0 c.in-Some-3.form c.in-Some-3.is c.in_ok-form.ensures)) c.are_one-strict.result c.are_one-strict.ensures in
    properly c.are_one-strict.result within same held (sym c.if-are_one-2.false ∙ told)
