use Rattle.std.proofs.Common.{◌≡◌, Some, sym, ◌∙◌, subst}
use Rattle.std.specs.Option.{IfSome}
use Rattle.std.specs.Bool.{IsTrue}
use Rattle.interval_core.specs.Members.{Span}
use Rattle.interval_core.specs.Operators.{union}
use Rattle.value_core.specs.declared.kind.Kind.{Kind}
use Rattle.value_core.specs.Attributes.{span_of}
use Rattle.value_core.specs.Plain.{plain}
use Rattle.value_core.specs.Values.{fits}
use Rattle.relation_core.specs.Agreement.{part_of}
use Rattle.u_set.specs.Apart.{span_in}
use Rattle.u_set.proofs.CoalescingLemmas.{held_within, held_fits, held_span, kind_there, same_labels, some_always}
use Rattle.u_set.proofs.coalescing.joining.Goals as goal

pub bounds-left-at : goal.bounds-left-at
bounds-left-at c = held_within c.args.heading.now c.args.at c.requires.interval c.values-left.result.now c.args.x.now c.values-left.ensures c.requires.x

pub bounds-right-at : goal.bounds-right-at
bounds-right-at c = held_within c.args.heading.now c.args.at c.requires.interval c.values-right.result.now c.args.y.now c.values-right.ensures c.requires.y

pub union_of-requires-clause-x : goal.union_of-requires-clause-x
union_of-requires-clause-x c =
    let kind = kind_there c.args.heading.now c.args.at c.requires.interval c.index-heading-at.result c.type_of.result c.type_of.ensures in
    held_fits c.args.heading.now c.args.at c.requires.interval c.values-left.result.now c.args.x.now c.index-left-at.result c.type_of.result c.values-left.ensures c.requires.x c.index-left-at.is kind

pub union_of-requires-clause-y : goal.union_of-requires-clause-y
union_of-requires-clause-y c =
    let kind = kind_there c.args.heading.now c.args.at c.requires.interval c.index-heading-at.result c.type_of.result c.type_of.ensures in
    held_fits c.args.heading.now c.args.at c.requires.interval c.values-right.result.now c.args.y.now c.index-right-at.result c.type_of.result c.values-right.ensures c.requires.y c.index-right-at.is kind

pub returns-clause-labels : goal.returns-clause-labels
returns-clause-labels c =
    let same = same_labels (part_of c.args.label.now c.args.x.now) (part_of c.args.label.now c.args.y.now) c.compare_at.result c.compare_at.ensures (sym c.is_eq.ensures ∙ c.if-not-is_eq.false) in
    some_always (part_of c.args.label.now c.args.x.now ≡ part_of c.args.label.now c.args.y.now) same c.union_of.result

pub returns-clause-fits : goal.returns-clause-fits
returns-clause-fits c =
    let kind = kind_there c.args.heading.now c.args.at c.requires.interval c.index-heading-at.result c.type_of.result c.type_of.ensures in
    subst (λ (k : Kind). IfSome c.union_of.result (λ v. IsTrue (fits k (plain v)))) (sym kind) c.union_of.ensures.fits

pub returns-clause-points : goal.returns-clause-points
returns-clause-points c =
    let x = held_span c.args.heading.now c.args.at c.requires.interval c.values-left.result.now c.args.x.now c.index-left-at.result c.values-left.ensures c.requires.x c.index-left-at.is in
    let y = held_span c.args.heading.now c.args.at c.requires.interval c.values-right.result.now c.args.y.now c.index-right-at.result c.values-right.ensures c.requires.y c.index-right-at.is in
    subst (λ (i : Span). IfSome c.union_of.result (λ v. union i (span_in c.args.at c.args.y.now) ≡ Some (span_of (plain v)))) (sym x)
    (subst (λ (j : Span). IfSome c.union_of.result (λ v. union (span_of (plain c.index-left-at.result)) j ≡ Some (span_of (plain v)))) (sym y) c.union_of.ensures.points)
