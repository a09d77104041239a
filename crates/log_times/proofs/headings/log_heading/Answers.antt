use Rattle.std.proofs.Common.{◌≡◌, [], ◌∷◌, ◌++◌, Some, None, sym, subst, ap₂, ◌∙◌}
use Rattle.std.specs.List.Sorted.{IsPermutation}
use Rattle.value_core.specs.Headings.{first_repeat, IsHeadingRefusal}
use Rattle.value_core.specs.Values.{Name, Heading}
use Rattle.log_times.specs.Turns.{kind_of_statements}
use Rattle.log_times.proofs.HeadingLemmas.{no_repeat_more, made_is_log}
use Rattle.log_times.proofs.headings.log_heading.Goals as goal

with_name : Heading → Name → Heading
with_name h n = h ++ (n, kind_of_statements) ∷ []

pub unreachable-requires : goal.unreachable-requires
unfolding with_name
unreachable-requires c =
    let list : c.push.new.self.items ≡ c.args.heading.now ++ (c.args.attribute.now, kind_of_statements) ∷ [] =
    c.in_ok-push.ensures.items ∙ ap₂ with_name (c.in_ok-list.ensures ∙ c.attributes.ensures.list) c.in_ok-name.ensures in
    let h : first_repeat c.push.new.self.items ≡ Some c.in-Err-Repeated.field-0-0 = subst (IsHeadingRefusal c.push.new.self.items) c.in-Err-Repeated.field-0-is c.in-Err-Repeated.ensures in
    let k : first_repeat c.push.new.self.items ≡ None = subst (λ (l : Heading). first_repeat l ≡ None) (sym list) (no_repeat_more c.args.heading.now c.args.attribute.now c.attributes.ensures.heading c.requires.new) in
    cc

pub returns-in-Ok-clause-heading : goal.returns-in-Ok-clause-heading
unfolding with_name
returns-in-Ok-clause-heading c =
    let list : c.push.new.self.items ≡ c.args.heading.now ++ (c.args.attribute.now, kind_of_statements) ∷ [] =
    c.in_ok-push.ensures.items ∙ ap₂ with_name (c.in_ok-list.ensures ∙ c.attributes.ensures.list) c.in_ok-name.ensures in
    let moved : IsPermutation (c.args.heading.now ++ (c.args.attribute.now, kind_of_statements) ∷ []) c.in-Ok.heading = subst (λ (l : Heading). IsPermutation l c.in-Ok.heading) list c.in-Ok.ensures.same in
    made_is_log c.args.heading.now c.args.attribute.now c.attributes.ensures.heading c.requires.new c.in-Ok.heading moved c.in-Ok.ensures.ordered
