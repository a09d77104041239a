use Rattle.std.proofs.Common.{◌∷◌, [], ◌++◌, map, sym, ◌∙◌, ap, subst}
use Rattle.value_core.specs.Plain.{plain}
use Rattle.plain_rows.proofs.MoreLemmas.{SoFar, so-far-none, so-far-word, so-far-next, so-far-all, values-snoc, no-columns}
use Rattle.plain_rows.proofs.tuples.more_values.Goals as goal

pub columns-init : goal.columns-init
columns-init c =
    let one = c.in_ok-values.ensures ∙ ap (λ z. z ++ c.args.first ∷ []) c.in_ok-empty.ensures in
    subst (λ z. SoFar c.args.types.now c.args.columns.now c.args.columns.now c.args.text.now (plain c.args.first) (map plain z) c.args.text.now) (sym one) (so-far-none c.args.columns.now c.args.text.now (plain c.args.first) c.requires)

pub next_value-requires : goal.next_value-requires
next_value-requires c = so-far-word _ c.in-Some.column.now c.in-Some.others.now _ _ _ _ _ c.in-Some.ensures.cases.0 c.columns.invariant

pub columns-preserved : goal.columns-preserved
columns-preserved c = so-far-next _ c.in-Some.column.now c.in-Some.others.now _ _ _ (plain c.in_ok-value.value) _ _ _ _ c.in-Some.ensures.cases.0 (ap (λ z. map plain z) c.in_ok-values-2.ensures ∙ values-snoc c.columns.values.items c.in_ok-value.value) c.columns.invariant c.in_ok-value.ensures

pub returns : goal.returns
returns c = so-far-all _ _ _ _ _ _ (no-columns c.columns.left.now c.in_default.ensures.cases) c.columns.invariant
