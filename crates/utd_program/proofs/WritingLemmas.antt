-- How the writing of a dump ends.
use Rattle.std.proofs.Common.{◌≡◌, ◌⊎◌, inl, inr, ℕ, List, Option, Some, None, refl}
use Rattle.utd_io.specs.Io.{Rose, Gains, GainsPrefix}
use Rattle.tree_core.specs.Relvars.{State}
use Rattle.dump_core.specs.declared.refuse.DumpRefuse.{DumpRefuse}
use Rattle.dump_core.specs.declared.refuse.DumpRefuse.TheVariants.{TooLong, Memory}
use Rattle.dump_core.specs.Texts.{SourceText}
use Rattle.utd_session.specs.declared.status.Status.{Status}
use Rattle.utd_session.specs.declared.status.Status.TheVariants.{WriteFailed, NoMemory, CannotDump}
use Rattle.utd_session.specs.Dumped.{dump_in, EndsDump}

-- the bytes of the dump were written, or the write failed
pub wrote : (texts : List SourceText) (state : State) (status result : Status) (faults faults_now : ℕ) (before now : Option (List ℕ)) (text : List ℕ) → dump_in texts state ≡ Some text
    → ((result ≡ status) × Gains before text now) ⊎ ((result ≡ WriteFailed) × Rose faults faults_now × GainsPrefix before text now)
    → EndsDump (Some texts) state status faults faults_now before now result
wrote texts state status result faults faults_now before now text is h = elim h [
  | inl k ↦ inl (k.0, (text, is, k.1))
  | inr k ↦ inr (inl (k.0, k.1, (text, is, k.2)))
]

-- there is no dump
pub wrote_nothing : (texts : List SourceText) (state : State) (status result : Status) (faults : ℕ) (before : Option (List ℕ)) (refuse : DumpRefuse)
    → (refuse ≡ TooLong → dump_in texts state ≡ None) → (refuse ≡ TooLong → result ≡ CannotDump) → (refuse ≡ Memory → result ≡ NoMemory)
    → EndsDump (Some texts) state status faults faults before before result
wrote_nothing texts state status result faults before TooLong missing long memory = inr (inr (inl (long refl, refl, missing refl)))
wrote_nothing texts state status result faults before Memory missing long memory = inr (inr (inr (memory refl, refl)))
