-- How a run of a generated script ends, and what it takes.
use Rattle.std.specs.Prelude.{◌≡◌, ℕ, List, Option}
use Rattle.tree_core.specs.declared.relvar.Relvars.{Relvars as Database}
use Rattle.utd_gen.specs.Script.{script_of}
use Rattle.utd_session.specs.declared.status.Status.TheVariants.{ReadFailed}
use Rattle.utd_session.specs.Status.{number_of}
use Rattle.utd_session.specs.Run.{IsRun}
use Rattle.utd_session.specs.Costs.{IsPaid}

-- What a run leaves for the generated script of n: what one leaves for a source that tells the bytes of that script and
-- does not fail.
abbrev pub IsGeneratedRun : ℕ → Option (List ℕ) → Option (List ℕ) → Option Database → ℕ → Type 0
IsGeneratedRun n before now database answered =
    ((left : Option (List ℕ)) × IsRun (script_of n) left before now database answered) × (answered ≡ number_of ReadFailed → ⊥)

-- the steps of such a run are at most what the first statements of the script cost
abbrev pub IsGeneratedPaid : ℕ → ℕ → ℕ → Type 0
IsGeneratedPaid n before now = (left : Option (List ℕ)) × IsPaid (script_of n) left before now
