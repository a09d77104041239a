-- What a run leaves whose dump is asked for.
--     dump_logless, dump_given      what is dumped where no log is declared, and that none is where something is dumped
use Rattle.std.proofs.Common.{◌≡◌, ◌⊎◌, inl, inr, ℕ, ◌+◌, ◌<◌, ◌≤◌, Bool, true, false, cond, List, [], length, take, Option, Some, None, IfSome, refl, sym, ap, ◌∙◌, subst, arith, le_refl, length-append}
use Rattle.std.proofs.lemmas.List.{drop_all}
use Rattle.utd_io.specs.Io.{Rose}
use Rattle.tree_core.specs.Relvars.{State}
use Rattle.tree_core.specs.declared.relvar.Relvars.{Relvars as Database}
use Rattle.meaning_core.specs.Logs.{has_log}
use Rattle.dump_core.specs.Texts.{SourceText}
use Rattle.dump_core.specs.Dumps.{script_of}
use Rattle.utd_session.specs.declared.status.Status.{Status}
use Rattle.utd_session.specs.declared.status.Status.TheVariants.{WriteFailed, NoMemory, CannotDump}
use Rattle.utd_session.specs.Status.{number_of}
use Rattle.utd_session.specs.Statements.{complete_statements, most_bytes, statements_within}
use Rattle.utd_session.specs.Databases.{state_of}
use Rattle.utd_session.specs.Machine.{status_of}
use Rattle.utd_session.specs.Texts.{AreTextsOf}
use Rattle.utd_session.specs.Run.{EndsBehind, IsReadFor, IsRun, IsWhole, most_at_once}
use Rattle.utd_session.specs.Ends.{IsAtEnd, HasTextsAtEnd}
use Rattle.utd_session.specs.Dumped.{Dump, dump_in, HasDump, IsWritten, IsCut, IsMissing, IsDumped, IsWholeDump, EndsDump}
use Rattle.utd_session.proofs.StatusLemmas.{most}
use Rattle.utd_session.proofs.StatementLemmas.{by_le, not_le, within_prefix}
use Rattle.utd_session.proofs.RunLemmas.{ends_at_5, by_answer}
use Rattle.utd_session.proofs.EndLemmas.{not_at_end}

-- ---- where no log is declared

pub dump_logless : (texts : List SourceText) (state : State) → has_log state.relvars ≡ false → dump_in texts state ≡ script_of texts state
dump_logless texts state none = ap (λ b. cond b None (script_of texts state)) none

pub dump_given : (texts : List SourceText) (state : State) (text : List ℕ) → dump_in texts state ≡ Some text → (has_log state.relvars ≡ false) × (script_of texts state ≡ Some text)
dump_given texts state text given = by (has_log state.relvars) refl given
  where
    by : (b : Bool) → has_log state.relvars ≡ b → cond b None (script_of texts state) ≡ Some text → (has_log state.relvars ≡ false) × (script_of texts state ≡ Some text)
    by true e h = absurd (cc)
    by false e h = (e, h)

-- ---- a script that was read to its end

pub whole_at_end : (answered : ℕ) → IsAtEnd answered → (answered ≡ 0) ⊎ ((answered ≡ 1) ⊎ (answered ≡ 6))
whole_at_end answered k = elim k [ inl e ↦ inl e | inr e ↦ inr (inl e) ]

-- it is not too long
pub short_at_end : (bytes : List ℕ) (database : Option Database) (answered : ℕ) → IsAtEnd answered → IsWhole bytes None None database answered → length bytes ≤ most_bytes
short_at_end bytes database answered k w = by_le (length bytes) most_bytes (λ l. l) (λ l.
    let six : status_of bytes w.0.accepted ≡ 6 = ap (λ t. cond t (cond w.0.accepted 0 1) 6) (not_le (length bytes) most_bytes l) in
    let is : answered ≡ 6 = w.2 ∙ six in
    absurd (not_at_end answered (omega (arith, is)) k))

-- and no statement comes behind its last one
all_read : (bytes : List ℕ) (left : Option (List ℕ)) → length bytes ≤ most_bytes → left ≡ Some [] → IsReadFor bytes left (length (statements_within bytes) + 1)
all_read bytes left short none =
    (length bytes, (le_refl (length bytes), none ∙ ap Some (sym (drop_all (length bytes) bytes (le_refl (length bytes))))), far)
  where
    far : (end : ℕ) → EndsBehind bytes (length (statements_within bytes) + 1) end → length bytes < end + most_at_once
    far end h = by_le end (length bytes) (λ l.
        let p = within_prefix bytes end (omega (arith, l, short)) l in
        absurd (omega (arith, h.0, ap length p.1, length-append (complete_statements (take end bytes)) p.0)))
        (λ l. omega (arith, l))

-- what is so of its dump
has_dump : (bytes : List ℕ) (left : Option (List ℕ)) (texts : List SourceText) (database : Database) (answered : ℕ) (P : Dump → Type 0) → IsAtEnd answered → IsRun bytes left None None (Some database) answered → AreTextsOf bytes texts
    → P (dump_in texts (state_of database)) → HasDump bytes left (Some database) P
has_dump bytes left texts database answered P k run are p =
    let w = run.whole (whole_at_end answered k) in
    (w.0, texts, run.at_end k, w.1, w.4, are, subst (λ s. P (dump_in texts s)) w.4 p)

-- ---- each way in which the writing of a dump ends

is_written : (bytes : List ℕ) (left before now : Option (List ℕ)) (texts : List SourceText) (database : Database) (status : Status) → IsAtEnd (number_of status) → IsRun bytes left None None (Some database) (number_of status) → AreTextsOf bytes texts
    → IsWritten before now (dump_in texts (state_of database)) → IsDumped bytes left before now (Some database) (number_of status)
is_written bytes left before now texts database status k run are p = record {
  known = (status, refl);
  run = λ a b. run;
  whole = λ e. has_dump bytes left texts database (number_of status) (IsWritten before now) k run are p;
  written = λ e. absurd (not_at_end (number_of status) (omega (arith, e)) k);
  missing = λ e. absurd (not_at_end (number_of status) (omega (arith, e)) k);
  unwritten = λ a b. absurd (a k);
}

is_cut : (bytes : List ℕ) (left before now : Option (List ℕ)) (texts : List SourceText) (database : Database) (status : Status) → IsAtEnd (number_of status) → IsRun bytes left None None (Some database) (number_of status) → AreTextsOf bytes texts
    → IsCut before now (dump_in texts (state_of database)) → IsDumped bytes left before now (Some database) 4
is_cut bytes left before now texts database status k run are p = record {
  known = (WriteFailed, refl);
  run = λ a b. absurd (a refl);
  whole = λ e. absurd (not_at_end 4 (omega arith) e);
  written = λ e. has_dump bytes left texts database (number_of status) (IsCut before now) k run are p;
  missing = λ e. absurd (omega arith);
  unwritten = λ a b. absurd (b refl);
}

is_missing : (bytes : List ℕ) (left before now : Option (List ℕ)) (texts : List SourceText) (database : Database) (status : Status) → IsAtEnd (number_of status) → IsRun bytes left None None (Some database) (number_of status) → AreTextsOf bytes texts
    → now ≡ before → IsMissing (dump_in texts (state_of database)) → IsDumped bytes left before now (Some database) 7
is_missing bytes left before now texts database status k run are same p = record {
  known = (CannotDump, refl);
  run = λ a b. absurd (b refl);
  whole = λ e. absurd (not_at_end 7 (omega arith) e);
  written = λ e. absurd (omega arith);
  missing = λ e. has_dump bytes left texts database (number_of status) IsMissing k run are p;
  unwritten = λ a b. same;
}

wants_memory : (bytes : List ℕ) (left before now : Option (List ℕ)) (database : Database) (answered : ℕ) → IsAtEnd answered → IsRun bytes left None None (Some database) answered
    → now ≡ before → IsDumped bytes left before now (Some database) 5
wants_memory bytes left before now database answered k run same =
    let w = run.whole (whole_at_end answered k) in
    let j : ℕ = length (statements_within bytes) in
    let far = all_read bytes left (short_at_end bytes (Some database) answered k w) (run.at_end k) in
    let stops : IsRun bytes left None None (Some database) 5 = ends_at_5 bytes left None None (Some database) 5 refl (j, le_refl j, (w.0, w.1, tt, w.4), far) in
    record {
      known = (NoMemory, refl);
      run = λ a b. stops;
      whole = λ e. absurd (not_at_end 5 (omega arith) e);
      written = λ e. absurd (omega arith);
      missing = λ e. absurd (omega arith);
      unwritten = λ a b. same;
    }

dumps : (bytes : List ℕ) (left before now : Option (List ℕ)) (texts : List SourceText) (database : Database) (status result : Status) (faults faults_now : ℕ) → IsAtEnd (number_of status) → IsRun bytes left None None (Some database) (number_of status) → AreTextsOf bytes texts
    → EndsDump (Some texts) (state_of database) status faults faults_now before now result → IsDumped bytes left before now (Some database) (number_of result)
dumps bytes left before now texts database status result faults faults_now k run are ends =
    let by : (s : Status) → result ≡ s → IsDumped bytes left before now (Some database) (number_of s) → IsDumped bytes left before now (Some database) (number_of result) =
    λ s e h. subst (λ s. IsDumped bytes left before now (Some database) (number_of s)) (sym e) h in
    elim ends [
      | inl h ↦ by status h.0 (is_written bytes left before now texts database status k run are h.1)
      | inr h ↦ elim h [
        | inl h ↦ by WriteFailed h.0 (is_cut bytes left before now texts database status k run are h.2)
        | inr h ↦ elim h [
          | inl h ↦ by CannotDump h.0 (is_missing bytes left before now texts database status k run are h.1 h.2)
          | inr h ↦ by NoMemory h.0 (wants_memory bytes left before now database (number_of status) k run h.1)
        ]
      ]
    ]

-- a run that ended early writes nothing
pub dumps_not : (bytes : List ℕ) (left before now : Option (List ℕ)) (database : Option Database) (answered : ℕ) → (IsAtEnd answered → ⊥) → (answered ≡ 4 → ⊥) → (answered ≡ 7 → ⊥) → IsRun bytes left None None database answered
    → now ≡ before → IsDumped bytes left before now database answered
dumps_not bytes left before now database answered early not_cut not_missing run same = record {
  known = run.known;
  run = λ a b. run;
  whole = λ e. absurd (early e);
  written = λ e. absurd (not_cut e);
  missing = λ e. absurd (not_missing e);
  unwritten = λ a b. same;
}

ends : (bytes : List ℕ) (left before now : Option (List ℕ)) (texts : Option (List SourceText)) (database : Database) (status result : Status) (faults faults_now : ℕ) → (number_of status ≡ 4 → ⊥) → (number_of status ≡ 7 → ⊥)
    → HasTextsAtEnd texts (number_of status) → IsRun bytes left None None (Some database) (number_of status) → IfSome texts (AreTextsOf bytes)
    → EndsDump texts (state_of database) status faults faults_now before now result → IsDumped bytes left before now (Some database) (number_of result)
ends bytes left before now None database status result faults faults_now not_cut not_missing k run are h =
    subst (λ s. IsDumped bytes left before now (Some database) (number_of s)) (sym h.0) (dumps_not bytes left before now (Some database) (number_of status) k not_cut not_missing run h.1)
ends bytes left before now (Some texts) database status result faults faults_now not_cut not_missing k run are h =
    dumps bytes left before now texts database status result faults faults_now k run are h

-- and so for a source that may not tell its bytes
pub may_dump : (o left before now : Option (List ℕ)) (texts : Option (List SourceText)) (database : Database) (status result : Status) (faults faults_now : ℕ) → (number_of status ≡ 4 → ⊥) → (number_of status ≡ 7 → ⊥)
    → HasTextsAtEnd texts (number_of status) → IfSome o (λ all. IsRun all left None None (Some database) (number_of status)) → IfSome o (λ all. IfSome texts (AreTextsOf all))
    → EndsDump texts (state_of database) status faults faults_now before now result → IfSome o (λ all. IsDumped all left before now (Some database) (number_of result))
may_dump None left before now texts database status result faults faults_now not_cut not_missing k run are h = tt
may_dump (Some all) left before now texts database status result faults faults_now not_cut not_missing k run are h =
    ends all left before now texts database status result faults faults_now not_cut not_missing k run are h

-- ---- the status

-- a status that the writing of a dump does not make is that of the script
pub status_stays : (texts : Option (List SourceText)) (state : State) (status result : Status) (faults faults_now : ℕ) (before now : Option (List ℕ)) (n : ℕ) → EndsDump texts state status faults faults_now before now result
    → (4 ≡ n → ⊥) → (7 ≡ n → ⊥) → (5 ≡ n → ⊥) → number_of result ≡ n → number_of status ≡ n
status_stays None state status result faults faults_now before now n h four seven five e = sym (ap number_of h.0) ∙ e
status_stays (Some texts) state status result faults faults_now before now n h four seven five e = elim h [
  | inl h ↦ sym (ap number_of h.0) ∙ e
  | inr h ↦ elim h [
    | inl h ↦ absurd (four (sym (ap number_of h.0) ∙ e))
    | inr h ↦ elim h [
      | inl h ↦ absurd (seven (sym (ap number_of h.0) ∙ e))
      | inr h ↦ absurd (five (sym (ap number_of h.0) ∙ e))
    ]
  ]
]

-- a write failed where the status says so
pub write_failed : (texts : Option (List SourceText)) (state : State) (status result : Status) (faults faults_now : ℕ) (before now : Option (List ℕ)) → EndsDump texts state status faults faults_now before now result
    → (number_of status ≡ 4 → ⊥) → number_of result ≡ 4 → Rose faults faults_now
write_failed None state status result faults faults_now before now h not_cut e = absurd (not_cut (sym (ap number_of h.0) ∙ e))
write_failed (Some texts) state status result faults faults_now before now h not_cut e = elim h [
  | inl h ↦ absurd (not_cut (sym (ap number_of h.0) ∙ e))
  | inr h ↦ elim h [
    | inl h ↦ h.1
    | inr h ↦ elim h [
      | inl h ↦ let bad : ◌≡◌ {A = ℕ} 7 4 = sym (ap number_of h.0) ∙ e in absurd (omega arith)
      | inr h ↦ let bad : ◌≡◌ {A = ℕ} 5 4 = sym (ap number_of h.0) ∙ e in absurd (omega arith)
    ]
  ]
]

-- ---- where nothing fails

not_seven : (answered : ℕ) → (answered ≡ 0) ⊎ ((answered ≡ 1) ⊎ (answered ≡ 6)) → answered ≡ 7 → ⊥
not_seven answered k e = elim k [ inl z ↦ omega (arith, z, e) | inr k ↦ elim k [ inl o ↦ omega (arith, o, e) | inr s ↦ omega (arith, s, e) ] ]

pub complete_dump : (o left before now : Option (List ℕ)) (database : Option Database) (answered : ℕ) → IfSome o (λ all. IsDumped all left before now database answered)
    → (answered ≡ 2 → ⊥) → (answered ≡ 3 → ⊥) → (answered ≡ 4 → ⊥) → IfSome o (λ all. (answered ≡ 5) ⊎ IsWholeDump all left before now database answered)
complete_dump None left before now database answered is two three four = tt
complete_dump (Some all) left before now database answered is two three four =
    by_answer answered (most answered is.known) two three four (λ e. inl e) (λ e. inr (inl (e, is.missing e)))
    (λ k. inr (inr ((is.run four (not_seven answered k)).whole k, is.whole)))
