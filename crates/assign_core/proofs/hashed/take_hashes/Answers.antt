use Rattle.std.proofs.Common.{◌∙◌, List, sym, subst}
use Rattle.std.specs.List.{All}
use Rattle.relation_core.specs.Hashes.{HashList}
use Rattle.assign_core.specs.declared.hashed.HashedRelvar.{HashedRelvar}
use Rattle.assign_core.specs.Hashed.{AreHashesAt, IsHashed}
use Rattle.assign_core.proofs.HashedLemmas.{none_hashed, hashed_there, hashed_removed, unmarked}
use Rattle.assign_core.proofs.hashed.take_hashes.Goals as goal

pub loop-i-init : goal.loop-i-init
loop-i-init c = record {
  left = λ es h. h;
  list = λ es h. subst (λ (ms : List HashList). AreHashesAt c.args.at ms es) (sym c.new-list.ensures.items) (none_hashed c.args.at es);
}

pub loop-i-preserved : goal.loop-i-preserved
loop-i-preserved c =
    let rs = c.loop-i.hashed.entries.items in
    record {
      left = λ es h. subst (λ (zs : List HashedRelvar). All (IsHashed es) zs) (sym c.remove-own.ensures.items) (hashed_removed rs c.in-Some.i es (c.loop-i.invariant.left es h));
      list = λ es h. hashed_there rs c.args.at c.in-Some.i c.remove-own.result es (sym c.in-Some.ensures) c.remove-own.ensures.value (c.loop-i.invariant.left es h);
    }

pub returns-clause-taken : goal.returns-clause-taken
returns-clause-taken c = unmarked c.loop-i.hashed.entries.items c.args.at (sym c.place_of.ensures ∙ c.in_default.is)
