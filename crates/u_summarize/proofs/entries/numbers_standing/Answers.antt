use Rattle.std.proofs.Common.{◌≡◌, ◌<◌, [], length, set, arith, sym, ap, ◌∙◌, subst}
use Rattle.std.proofs.lemmas.List.{length-set}
use Rattle.u_summarize.specs.Entries.{entry_at, standing, AreDealt}
use Rattle.u_summarize.proofs.EntryLemmas.{dealt_more}
use Rattle.u_summarize.proofs.entries.numbers_standing.Goals as goal

pub loop-i-preserved : goal.loop-i-preserved
loop-i-preserved c =
    let labels = c.args.labels.now in
    let out = c.loop-i.out.items in
    let i = c.loop-i.i in
    let l : i < length labels = c.loop-i-test.true in
    let own = c.number_at-place.ensures in
    let low : (entry_at labels i).1 < length out = subst (λ k. (entry_at labels i).1 < k) (sym c.loop-i.invariant.many) (c.requires i ([], 0, []) l) in
    record {
      within = omega (arith, l);
      before = λ j e. let q : i ≡ j = omega (arith, e) in c.next_standing-number.ensures ∙ ap (standing labels) q;
      many = length-set out c.number_at-place.result c.next_standing-number.result ∙ c.loop-i.invariant.many;
      each = dealt_more labels out _ i c.next_standing-number.result low c.next_standing-number.ensures (ap (λ k. set out k c.next_standing-number.result) own) c.loop-i.invariant.each;
    }

pub returns-clause-each : goal.returns-clause-each
returns-clause-each c =
    let f = c.loop-i-test.false in
    let w = c.loop-i.invariant.within in
    let q : c.loop-i.i ≡ length c.args.labels.now = omega (arith, f, w) in
    subst (λ n. AreDealt c.args.labels.now n c.loop-i.out.items) q c.loop-i.invariant.each
