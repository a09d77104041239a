use Rattle.std.proofs.Common.{◌≡◌, Some, None, arith, subst}
use Rattle.value_core.specs.Headings.{first_repeat, IsHeadingRefusal}
use Rattle.relation_core.proofs.headings.heading_of.Goals as goal

pub unreachable-requires : goal.unreachable-requires
unreachable-requires c =
    let h : first_repeat c.args.list.items ≡ Some c.in-Err-Repeated.field-0-0 = subst (IsHeadingRefusal c.args.list.items) c.in-Err-Repeated.field-0-is c.in-Err-Repeated.ensures in
    let k : first_repeat c.args.list.items ≡ None = c.requires.different in
    cc

pub unreachable-requires-in-Err-TooMany : goal.unreachable-requires-in-Err-TooMany
unreachable-requires-in-Err-TooMany c =
    let h = subst (IsHeadingRefusal c.args.list.items) c.in-Err-TooMany.field-0-is c.in-Err-TooMany.ensures in
    omega (arith, h.1)
