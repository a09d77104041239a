-- A run that wants memory before its first statement: nothing was read, performed, dumped or paid.
use Rattle.std.proofs.Common.{◌≡◌, ℕ, List, [], refl, arith, Option, Some, None, IfSome}
use Rattle.utd_io.proofs.Gained.{Gains-none}
use Rattle.utd_gen.specs.Script.{script_of}
use Rattle.tree_core.specs.declared.relvar.Relvars.{Relvars as Database}
use Rattle.assign_core.specs.Databases.{no_relvars}
use Rattle.utd_session.specs.Databases.{state_of}
use Rattle.utd_session.specs.Machine.{performed}
use Rattle.utd_session.specs.Run.{IsRun, IsReadFor}
use Rattle.utd_session.specs.Costs.{IsPaid}
use Rattle.utd_session.specs.Generated.{IsGeneratedRun, IsGeneratedPaid}
use Rattle.utd_session.specs.Dumped.{IsDumped, IsGeneratedDump}
use Rattle.utd_session.proofs.RunLemmas.{ends_at_5}
use Rattle.utd_session.proofs.EndLemmas.{not_at_end}
use Rattle.utd_session.proofs.DumpLemmas.{dumps_not}

-- no byte was read
nothing_read : (all : List ℕ) (j : ℕ) → IsReadFor all (Some all) j
nothing_read all j = (0, (omega arith, refl), λ end e. omega arith)

-- nothing was performed
pub runs_not : (all : List ℕ) (before : Option (List ℕ)) (database : Database) (answered : ℕ) → answered ≡ 5 → state_of database ≡ no_relvars
    → IsRun all (Some all) before before (Some database) answered
runs_not all before database answered is empty =
    ends_at_5 all (Some all) before before (Some database) answered is (0, (omega arith), (performed [], ([], tt, refl), Gains-none before, empty), nothing_read all 1)

pub may_run_not : (o before : Option (List ℕ)) (database : Database) (answered : ℕ) → answered ≡ 5 → state_of database ≡ no_relvars
    → IfSome o (λ all. IsRun all o before before (Some database) answered)
may_run_not None before database answered is empty = tt
may_run_not (Some all) before database answered is empty = runs_not all before database answered is empty

-- and so nothing was dumped
pub may_dump_not : (o before : Option (List ℕ)) (database : Database) (answered : ℕ) → answered ≡ 5 → state_of database ≡ no_relvars
    → IfSome o (λ all. IsDumped all o before before (Some database) answered)
may_dump_not None before database answered is empty = tt
may_dump_not (Some all) before database answered is empty =
    dumps_not all (Some all) before before (Some database) answered (λ k. not_at_end answered (omega (arith, is)) k) (λ e. omega (arith, is, e)) (λ e. omega (arith, is, e))
    (runs_not all None database answered is empty) refl

-- and no step was taken
pub paid_not : (all : List ℕ) (steps : ℕ) → IsPaid all (Some all) steps steps
paid_not all steps = record {
  taken = 0;
  were_read = (omega arith, refl);
  readings = [];
  first = tt;
  ended = omega arith;
  cost = omega arith;
}

pub may_pay_not : (o : Option (List ℕ)) (steps : ℕ) → IfSome o (λ all. IsPaid all o steps steps)
may_pay_not None steps = tt
may_pay_not (Some all) steps = paid_not all steps

pub generates_not : (n : ℕ) (before : Option (List ℕ)) (database : Database) (answered : ℕ) → answered ≡ 5 → state_of database ≡ no_relvars
    → IsGeneratedRun n before before (Some database) answered
generates_not n before database answered is empty =
    ((Some (script_of n), runs_not (script_of n) before database answered is empty), λ e. absurd (omega arith))

pub generates_free : (n steps : ℕ) → IsGeneratedPaid n steps steps
generates_free n steps = (Some (script_of n), paid_not (script_of n) steps)

pub dumps_no_generated : (n : ℕ) (before : Option (List ℕ)) (database : Database) (answered : ℕ) → answered ≡ 5 → state_of database ≡ no_relvars
    → IsGeneratedDump n before before (Some database) answered
dumps_no_generated n before database answered is empty =
    ((Some (script_of n), may_dump_not (Some (script_of n)) before database answered is empty), λ e. absurd (omega arith))
