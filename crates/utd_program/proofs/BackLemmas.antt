-- What is written of a database gives it back.
--     sound      what is known of a database whose dump was made
--     no_dump_no_end, memory_no_end, may_no_end      where there is no dump, the status is none of a script that was read to its end
--     may_give_back      the dump of a run, whatever its source tells
use Rattle.std.proofs.Common.{◌≡◌, ◌≤◌, inl, inr, ℕ, List, Option, Some, None, IfSome, refl, sym, ap, ◌∙◌, subst, arith}
use Rattle.tree_core.specs.Relvars.{State, read_relvars}
use Rattle.tree_core.specs.declared.relvar.Relvars.{Relvars as Database}
use Rattle.dump_core.specs.declared.refuse.DumpRefuse.{DumpRefuse}
use Rattle.dump_core.specs.declared.refuse.DumpRefuse.TheVariants.{TooLong, Memory}
use Rattle.dump_core.specs.Inserts.{HaveRelations}
use Rattle.dump_core.specs.Texts.{SourceText}
use Rattle.assign_core.specs.Databases.{IsKept}
use Rattle.assign_core.specs.Room.{HasStoredRoom}
use Rattle.utd_session.specs.declared.status.Status.{Status}
use Rattle.utd_session.specs.declared.status.Status.TheVariants.{WriteFailed, NoMemory, CannotDump}
use Rattle.utd_session.specs.Status.{number_of}
use Rattle.utd_session.specs.Databases.{state_of}
use Rattle.utd_session.specs.Texts.{AreTextsOf}
use Rattle.utd_session.specs.Run.{IsRun}
use Rattle.utd_session.specs.Ends.{IsAtEnd, HasTextsAtEnd}
use Rattle.utd_session.specs.Dumped.{dump_in, EndsDump, IsWritten}
use Rattle.utd_session.proofs.EndLemmas.{not_at_end}
use Rattle.utd_session.proofs.DumpLemmas.{dump_given, whole_at_end, short_at_end}
use Rattle.dump_laws.specs.Back.{GivesBack, IsBack, IsSound}
use Rattle.dump_laws.proofs.BackLaws.{gives-back}

pub sound : (database read : Database) → read_relvars read ≡ read_relvars database → IsKept (read_relvars read) → HaveRelations (read_relvars read).relvars → HasStoredRoom (read_relvars read)
    → IsSound (state_of database)
sound database read same kept relations room = (subst IsKept same kept, subst (λ (s : State). HaveRelations s.relvars) same relations, subst HasStoredRoom same room)

-- ---- where there is no dump

pub memory_no_end : (answered : ℕ) → answered ≡ 5 → IsAtEnd answered → ⊥
memory_no_end answered is at_end = not_at_end answered (omega (arith, is)) at_end

pub may_no_end : (P : Type 0) (o : Option (List ℕ)) (answered : ℕ) → answered ≡ 5 → IfSome o (λ bytes. IsAtEnd answered → P)
may_no_end P None answered is = tt
may_no_end P (Some bytes) answered is = λ at_end. absurd (memory_no_end answered is at_end)

other_status : (result status : Status) → result ≡ status → 2 ≤ number_of status → IsAtEnd (number_of result) → ⊥
other_status result status is far at_end = not_at_end (number_of status) far (subst (λ (s : Status). IsAtEnd (number_of s)) is at_end)

pub no_dump_no_end : (refuse : DumpRefuse) (result : Status) → (refuse ≡ TooLong → result ≡ CannotDump) → (refuse ≡ Memory → result ≡ NoMemory) → IsAtEnd (number_of result) → ⊥
no_dump_no_end TooLong result long memory at_end = other_status result CannotDump (long refl) (omega arith) at_end
no_dump_no_end Memory result long memory at_end = other_status result NoMemory (memory refl) (omega arith) at_end

-- ---- where there is one

module _ (bytes : List ℕ) (left before now : Option (List ℕ)) (texts : List SourceText) (database : Database) (status result : Status) (at_end : IsAtEnd (number_of result)) (run : IsRun bytes left None None (Some database) (number_of status))
    (are : AreTextsOf bytes texts) (is_sound : IsSound (state_of database)) where
  written_back : result ≡ status → IsWritten before now (dump_in texts (state_of database)) → IsBack before now (Some database)
  written_back same written =
      let ended : IsAtEnd (number_of status) = subst (λ (s : Status). IsAtEnd (number_of s)) same at_end in
      let whole = run.whole (whole_at_end (number_of status) ended) in
      let given = dump_given texts whole.0.state written.0 (ap (dump_in texts) (sym whole.4) ∙ written.1) in
      let back : GivesBack written.0 whole.0.state =
      gives-back bytes whole.0 texts written.0 (short_at_end bytes (Some database) (number_of status) ended whole) whole.1 are
      (subst IsSound whole.4 is_sound) given.0 given.1 in
      (written.0, written.2, subst (GivesBack written.0) (sym whole.4) back)

  back : (faults faults_now : ℕ) → EndsDump (Some texts) (state_of database) status faults faults_now before now result → IsBack before now (Some database)
  back faults faults_now ends = elim ends [
    | inl h ↦ written_back h.0 h.1
    | inr h ↦ elim h [
      | inl h ↦ absurd (other_status result WriteFailed h.0 (omega arith) at_end)
      | inr h ↦ elim h [
        | inl h ↦ absurd (other_status result CannotDump h.0 (omega arith) at_end)
        | inr h ↦ absurd (other_status result NoMemory h.0 (omega arith) at_end)
      ]
    ]
  ]

gives_back : (bytes : List ℕ) (left before now : Option (List ℕ)) (texts : Option (List SourceText)) (database : Database) (status result : Status) (faults faults_now : ℕ)
    → HasTextsAtEnd texts (number_of status) → IsRun bytes left None None (Some database) (number_of status) → IfSome texts (AreTextsOf bytes)
    → EndsDump texts (state_of database) status faults faults_now before now result → IfSome texts (λ t. IsAtEnd (number_of result) → IsSound (state_of database))
    → IsAtEnd (number_of result) → IsBack before now (Some database)
gives_back bytes left before now None database status result faults faults_now ended run are ends is_sound at_end =
    absurd (ended (subst (λ (s : Status). IsAtEnd (number_of s)) ends.0 at_end))
gives_back bytes left before now (Some texts) database status result faults faults_now ended run are ends is_sound at_end =
    back bytes left before now texts database status result at_end run are (is_sound at_end) faults faults_now ends

pub may_give_back : (o left before now : Option (List ℕ)) (texts : Option (List SourceText)) (database : Database) (status result : Status) (faults faults_now : ℕ)
    → HasTextsAtEnd texts (number_of status) → IfSome o (λ all. IsRun all left None None (Some database) (number_of status)) → IfSome o (λ all. IfSome texts (AreTextsOf all))
    → EndsDump texts (state_of database) status faults faults_now before now result → IfSome texts (λ t. IsAtEnd (number_of result) → IsSound (state_of database))
    → IfSome o (λ bytes. IsAtEnd (number_of result) → IsBack before now (Some database))
may_give_back None left before now texts database status result faults faults_now ended run are ends is_sound = tt
may_give_back (Some all) left before now texts database status result faults faults_now ended run are ends is_sound =
    λ at_end. gives_back all left before now texts database status result faults faults_now ended run are ends is_sound at_end
