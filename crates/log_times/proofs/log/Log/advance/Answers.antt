use Rattle.std.proofs.Common.{◌≤ℤ◌, sym, subst, w64}
use Rattle.std.proofs.lemmas.Int.{to_z-of_z}
use Rattle.log_times.specs.Logs.{IsStored}
use Rattle.log_times.specs.Kept.{PlainLog}
use Rattle.log_times.proofs.KeptLemmas.{later}
use Rattle.log_times.proofs.log.Log.advance.Goals as goal

pub invariant_of-self : goal.invariant_of-self
invariant_of-self c =
    let le = subst (λ (l : PlainLog). l.last ≤ℤ c.args.number) (sym c.self.view_is) c.requires.later in
    record {
      heading = c.self.invariant.heading;
      rows = subst (λ n. IsStored c.self.inside.side n c.self.inside.stored.rows) (sym (to_z-of_z w64 c.args.number c.ranges.number))
          (later c.self.inside.side c.self.inside.last c.args.number c.self.inside.stored.rows le c.requires.before c.self.invariant.rows);
    }
