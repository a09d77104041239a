use Rattle.std.proofs.Common.{rules, ◌≡◌, ◌<ℤ◌, ℤ, ap, ◌∙◌, w64, to_z, of_z}
use Rattle.std.proofs.lemmas.Int.{to_z-of_z}
use Rattle.relvar_logs.proofs.ChangedLemmas.{brought_now}
use Rattle.relvar_logs.proofs.entries.bring.Goals as goal

pub returns-then-last-number : goal.returns-then-last-number
returns-then-last-number c all of before way =
    let l = c.args.kept.now in
    let number : to_z w64 (of_z w64 c.args.number) ≡ c.args.number = to_z-of_z w64 c.args.number c.ranges.number in
    let less : l.last <ℤ c.args.number = search rules in
    brought_now c.args.number all of before l way c.advance.ensures.log c.advance.ensures.relation c.requires.room less c.advance.new.self
    (c.advance.ensures.later ∙ ap (λ (k : ℤ). record { side = l.side; last = k; stored = l.stored }) number)
