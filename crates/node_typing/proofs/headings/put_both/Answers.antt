use Rattle.std.proofs.Common.{ap, ◌∙◌}
use Rattle.value_core.specs.Values.{Heading}
use Rattle.node_typing.specs.Headings.{with_all}
use Rattle.node_typing.proofs.HeadingLemmas.{with_both}
use Rattle.node_typing.proofs.headings.put_both.Goals as goal

pub returns : goal.returns
returns c =
    c.in_ok-put_all-2.ensures ∙ (ap (λ (m : Heading). with_all m c.args.second.now) (c.in_ok-put_all.ensures ∙ ap (λ (m : Heading). with_all m c.args.first.now) c.new-attributes.ensures.empty)
    ∙ with_both c.args.first.now c.args.second.now)
