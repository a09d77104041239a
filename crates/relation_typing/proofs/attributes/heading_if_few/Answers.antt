use Rattle.std.proofs.Common.{◌≡◌, Some, None, arith, subst}
use Rattle.value_core.specs.Headings.{first_repeat, IsHeadingOf, IsHeadingRefusal}
use Rattle.value_core.specs.Values.{Heading}
use Rattle.relation_core.proofs.HeadingLemmas.{no_repeat}
use Rattle.relation_typing.proofs.AttributeLemmas.{in-order, few-made}
use Rattle.relation_typing.proofs.attributes.heading_if_few.Goals as goal

pub unreachable-requires : goal.unreachable-requires
unreachable-requires c =
    let list = c.in_ok-listed.field-0.items in
    let h : first_repeat list ≡ Some c.in-Err-Repeated.field-0-0 = subst (IsHeadingRefusal list) c.in-Err-Repeated.field-0-is c.in-Err-Repeated.ensures in
    let k : first_repeat c.args.attributes.entries ≡ None = no_repeat c.args.attributes.entries (in-order c.args.attributes.entries c.len.ensures.ordered) in
    let same : list ≡ c.args.attributes.entries = c.in_ok-listed.ensures in
    cc

pub returns-in-Ok : goal.returns-in-Ok
returns-in-Ok c =
    let entries = c.args.attributes.entries in
    let same : c.in_ok-listed.field-0.items ≡ entries = c.in_ok-listed.ensures in
    few-made entries c.in-Ok.heading (in-order entries c.len.ensures.ordered) (subst (λ (l : Heading). IsHeadingOf l c.in-Ok.heading) same c.in-Ok.ensures) (omega (arith, c.len.ensures.len))
