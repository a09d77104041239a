use Rattle.std.proofs.Common.{ℕ, arith, ◌∙◌}
use Rattle.u_summarize.proofs.CountLemmas.{counted_none, image_none, length_image}
use Rattle.u_summarize.proofs.counting.CountingTally.start.Goals as goal

pub returns : goal.returns
returns g c = λ f e none.
    let numbers = c.args.self.now.numbers.items in
    let n : ℕ = c.args.self.now.rows in
    let r = c.requires in
    let fits = c.ranges._rows.fits in (
      counted_none n numbers c.in_ok-counts.counts.items f (e ∙ r.0) (omega (arith, e, fits)) c.in_ok-counts.ensures.many c.in_ok-counts.ensures.each none,
      c.in_ok-state.ensures _ (length_image n numbers f) (image_none n numbers f none),
      r.2,
    )
