-- The steps of a session's calls and of a run, and how far a run reads.
use Rattle.std.proofs.Common.{◌≡◌, inl, inr, ℕ, ◌+◌, ◌<◌, ◌≤◌, List, [], ◌∷◌, ◌++◌, length, take, drop, Option, Some, None, IfSome, Result, Ok, Err, IfOk, IfErr, MatchResult, refl, sym, ap, ◌∙◌, subst, arith, append_assoc, append-nil, length-append, length-take, take_all}
use Rattle.std.proofs.lemmas.List.{take-append-le}
use Rattle.utd_io.specs.Io.{Gives}
use Rattle.tree_core.specs.Relvars.{State}
use Rattle.tree_core.specs.declared.relvar.Relvars.{Relvars as Database}
use Rattle.assign_core.specs.Databases.{no_relvars}
use Rattle.utd_statement.specs.Readings.{Reading}
use Rattle.utd_lexer.specs.declared.cutter.Cutter.{Cutter}
use Rattle.utd_session.specs.declared.feeding.Session.{Session}
use Rattle.utd_session.specs.declared.feeding.Ended.{Ended}
use Rattle.utd_session.specs.declared.fault.SessionFault.{SessionFault}
use Rattle.utd_session.specs.declared.fault.SessionFault.TheVariants.{Write, Memory}
use Rattle.utd_session.specs.Statements.{Statement, Complete, cut, complete_statements, most_bytes, statements_within, EndsOne}
use Rattle.utd_session.specs.Readings.{AreReadings}
use Rattle.utd_session.specs.Databases.{state_of}
use Rattle.utd_session.specs.Machine.{performed}
use Rattle.utd_session.specs.Run.{WasRead, IsReadFor, most_at_once}
use Rattle.utd_session.specs.Feeding.{HasReading}
use Rattle.utd_session.specs.Costs.{cost_of, cost_after, TakesAtMost, IsWithinCost, IsPaid}
use Rattle.utd_session.specs.Sessions.{StandsFor, fed_of, state_in}
use Rattle.utd_session.specs.Progress.{HasFed, MayHaveFed, ComesNext}
use Rattle.utd_session.proofs.StatementLemmas.{by_le, prefix_more, within_prefix, within_long}
use Rattle.utd_session.proofs.MachineLemmas.{readings-length, readings-push, readings-prefix, readings-within}
use Rattle.utd_session.proofs.CostLemmas.{cost_of-append, cost_after-push, cost-first, takes-of}
use Rattle.utd_session.proofs.SessionLemmas.{IsFed, more_statements, next_ended}
use Rattle.utd_session.proofs.ProgressLemmas.{take-take, next_prefix, comes_next}

-- ---- what a session's call takes

within : (ss ended rest : List Statement) (rs more begun : List Reading) (state : State) (before now : ℕ) → ss ≡ ended ++ rest → AreReadings ended (rs ++ (more ++ begun)) → length begun ≤ 1
    → state ≡ (performed (rs ++ more)).state → now ≤ before + cost_after rs (more ++ begun) → IsWithinCost ss rs state before now
within ss ended rest rs more begun state before now e read one left cost =
    record { more = more; begun = begun; one = one; read = readings-prefix ss ended rest (rs ++ (more ++ begun)) e read; left = left; cost = cost }

-- some were performed
within_done : (ss ended rest : List Statement) (rs more : List Reading) (state : State) (before now : ℕ) → ss ≡ ended ++ rest → AreReadings ended (rs ++ more)
    → state ≡ (performed (rs ++ more)).state → now ≤ before + cost_after rs more → IsWithinCost ss rs state before now
within_done ss ended rest rs more state before now e read left cost =
    within ss ended rest rs more [] state before now e (subst (λ q. AreReadings ended (rs ++ q)) (sym (append-nil more)) read) (omega arith) left
    (subst (λ q. now ≤ before + cost_after rs q) (sym (append-nil more)) cost)

-- the session is at the end of the piece, and no step more is taken
within_at_end : (session : Session) (piece rest bytes done : List ℕ) (rs more : List Reading) (state : State) (paid steps : ℕ) → piece ≡ done ++ rest → AreReadings (complete_statements (bytes ++ done)) (rs ++ more)
    → state ≡ (performed (rs ++ more)).state → steps ≤ paid + cost_after rs more → IsWithinCost (complete_statements (bytes ++ piece)) rs state paid steps
within_at_end session piece rest bytes done rs more state paid steps split read left cost =
    let m = more_statements bytes done rest piece split in
    within_done (complete_statements (bytes ++ piece)) (complete_statements (bytes ++ done)) m.0 rs more state paid steps m.1 read left cost

pub fed-within-at-end : (session : Session) (cutter : Cutter) (piece rest bytes : List ℕ) (rs : List Reading) (before now : Option (List ℕ)) (paid steps : ℕ) (r : Result Session Ended) (i : IsFed session cutter piece rest bytes rs before now paid steps)
    → IfOk r (λ s. StandsFor s ((bytes ++ i.done) ++ rest) (rs ++ i.more)) → IfErr r (λ e. e.database ≡ session.database)
    → MatchResult r (λ s. IsWithinCost (complete_statements (bytes ++ piece)) rs (state_in s) paid steps) (λ e. IsWithinCost (complete_statements (bytes ++ piece)) rs (state_of e.database) paid steps)
fed-within-at-end session cutter piece rest bytes rs before now paid steps (Ok s) i h kept = within_at_end session piece rest bytes i.done rs i.more (state_in s) paid steps i.split i.stands.read h.state_is i.cost
fed-within-at-end session cutter piece rest bytes rs before now paid steps (Err e) i h kept =
    within_at_end session piece rest bytes i.done rs i.more (state_of e.database) paid steps i.split i.stands.read (ap state_of kept ∙ i.stands.state_is) i.cost

by_why : (why : SessionFault) {P : Type 0} → (why ≡ Write → P) → (why ≡ Memory → P) → P
by_why Write f g = f refl
by_why Memory f g = g refl

-- the session ended early, at the statement that ends in the next bytes
pub fed-within : (session : Session) (cutter : Cutter) (piece rest prefix behind bytes : List ℕ) (rs : List Reading) (before mid : Option (List ℕ)) (paid steps steps' : ℕ) (database : Database) (why : SessionFault) (i : IsFed session cutter piece rest bytes rs before mid paid steps)
    → rest ≡ prefix ++ behind
    → EndsOne (cut (bytes ++ i.done)).place (cut (bytes ++ i.done)).rest prefix
    → TakesAtMost (Complete (cut (bytes ++ i.done)).place ((cut (bytes ++ i.done)).rest ++ prefix)) (performed (rs ++ i.more)).state steps steps'
    → (why ≡ Memory → state_of database ≡ state_of session.database)
    → (why ≡ Write → HasReading (bytes ++ i.done) prefix (λ r. state_of database ≡ (performed ((rs ++ i.more) ++ r ∷ [])).state))
    → IsWithinCost (complete_statements (bytes ++ piece)) rs (state_of database) paid steps'
fed-within session cutter piece rest prefix behind bytes rs before mid paid steps steps' database why i e one takes memory write =
    let ss : List Statement = complete_statements (bytes ++ piece) in
    let ended : List Statement = complete_statements (bytes ++ i.done) in
    let s : Statement = Complete (cut (bytes ++ i.done)).place ((cut (bytes ++ i.done)).rest ++ prefix) in
    let m = next_ended bytes i.done prefix behind rest piece i.split e one in
    by_why why
    (λ w.
    let k = write w in
    let r : Reading = k.0 in
    let same : (rs ++ i.more) ++ r ∷ [] ≡ rs ++ (i.more ++ r ∷ []) = append_assoc rs i.more (r ∷ []) in
    within_done ss (ended ++ s ∷ []) m.0 rs (i.more ++ r ∷ []) (state_of database) paid steps' m.1
    (subst (AreReadings (ended ++ s ∷ [])) same (readings-push ended s (rs ++ i.more) r i.stands.read k.1))
    (k.2 ∙ ap (λ q. (performed q).state) same)
    (omega (arith, i.cost, takes-of s (performed (rs ++ i.more)).state steps steps' r takes k.1, cost_after-push rs i.more r)))
    (λ w.
    let left : state_of database ≡ (performed (rs ++ i.more)).state = memory w ∙ i.stands.state_is in
    elim takes [
      | inl none ↦ within_at_end session piece rest bytes i.done rs i.more (state_of database) paid steps' i.split i.stands.read left (omega (arith, i.cost, none))
      | inr k ↦ (
          let r : Reading = k.0 in
          let same : (rs ++ i.more) ++ r ∷ [] ≡ rs ++ (i.more ++ r ∷ []) = append_assoc rs i.more (r ∷ []) in
          within ss (ended ++ s ∷ []) m.0 rs i.more (r ∷ []) (state_of database) paid steps' m.1
          (subst (AreReadings (ended ++ s ∷ [])) same (readings-push ended s (rs ++ i.more) r i.stands.read k.1))
          (omega arith) left
          (omega (arith, i.cost, k.2, cost_after-push rs i.more r)))
    ])

-- ---- what a run takes

paid : (all : List ℕ) (left : Option (List ℕ)) (n k : ℕ) (rs : List Reading) (before now : ℕ) → WasRead n all left → k ≤ n → k ≤ most_bytes
    → AreReadings (take (length rs) (complete_statements (take k all))) rs → now ≤ before + cost_of rs → IsPaid all left before now
paid all left n k rs before now was l short read cost =
    let ended : List Statement = complete_statements (take k all) in
    let few : length rs ≤ length ended = readings-within ended (length rs) rs refl read in
    let w = within_prefix all k short (omega (arith, was.0, l)) in
    let m = prefix_more all k n l in
    record {
      taken = n;
      were_read = was;
      readings = rs;
      first = subst (λ ss. AreReadings ss rs) (sym (ap (take (length rs)) w.1 ∙ take-append-le (length rs) ended w.0 few)) read;
      ended = omega (arith, few, ap length m.1, length-append ended m.0);
      cost = cost;
    }

-- a session that stands for all bytes that were read
pub paid_fed : (all : List ℕ) (left before now : Option (List ℕ)) (session : Session) (start steps : ℕ) → fed_of session ≤ most_bytes → HasFed all left session before now start steps → IsPaid all left start steps
paid_fed all left before now session start steps short h =
    let n : ℕ = fed_of session in
    paid all left n n h.readings start steps (h.within, h.left_is) (omega arith) short (readings-prefix _ _ [] h.readings (sym (append-nil _)) h.stands.read) h.cost

-- one that is fed a front of the next piece
pub paid_in_piece : (all : List ℕ) (left after before now : Option (List ℕ)) (session : Session) (piece prefix : List ℕ) (k start mid steps : ℕ) (state : State) → HasFed all left session before now start mid → ComesNext all (fed_of session) piece after
    → prefix ≡ take k piece → k ≤ length piece → fed_of session + length prefix ≤ most_bytes
    → ((bytes : List ℕ) (rs : List Reading) → StandsFor session bytes rs → IsWithinCost (complete_statements (bytes ++ prefix)) rs state mid steps)
    → IsPaid all after start steps
paid_in_piece all left after before now session piece prefix k start mid steps state h next is l short within_cost =
    let n : ℕ = fed_of session in
    let f = next_prefix all n k piece prefix after next is l in
    let w = within_cost (take n all) h.readings h.stands in
    let rs : List Reading = h.readings ++ (w.more ++ w.begun) in
    let len : length prefix ≤ length piece = omega (arith, ap length is, length-take {A = ℕ} k piece, l) in
    paid all after (n + length piece) (n + length prefix) rs start steps (next.within, next.left_is) (omega arith) short
    (subst (λ b. AreReadings (take (length rs) (complete_statements b)) rs) f.joined w.read)
    (omega (arith, h.cost, w.cost, cost_of-append h.readings (w.more ++ w.begun)))

-- ---- what the statements of a script cost all together

-- no less than what a run of it takes
pub paid_for_all : (all : List ℕ) (left : Option (List ℕ)) (before now : ℕ) (us : List Reading) → IsPaid all left before now → AreReadings (statements_within all) us → now ≤ before + cost_of us
paid_for_all all left before now us p h = omega (arith, p.cost, cost-first no_relvars (statements_within all) p.readings us p.first h)

-- the bytes that were read have the same first statements
first_of_taken : (all : List ℕ) (n m : ℕ) → n ≤ length all → m ≤ length (complete_statements (take n all)) → take m (statements_within all) ≡ take m (statements_within (take n all))
first_of_taken all n m fits few = by_le n most_bytes
    (λ l.
    let bytes : List ℕ = take n all in
    let ended : List Statement = complete_statements bytes in
    let same : take n bytes ≡ bytes = take_all n bytes (omega (arith, length-take {A = ℕ} n all)) in
    let w = within_prefix all n l fits in
    let v = within_prefix bytes n l (omega (arith, length-take {A = ℕ} n all)) in
    let here : take m (statements_within all) ≡ take m ended = ap (take m) w.1 ∙ take-append-le m ended w.0 few in
    let there : take m (statements_within bytes) ≡ take m ended = ap (take m) (v.1 ∙ ap (λ b. complete_statements b ++ v.0) same) ∙ take-append-le m ended v.0 few in
    here ∙ sym there)
    (λ l.
    let longer : most_bytes < length (take n all) = omega (arith, length-take {A = ℕ} n all) in
    let same : take most_bytes (take n all) ≡ take most_bytes all = take-take most_bytes n all (omega arith) in
    ap (take m) (within_long all (omega arith) ∙ sym (within_long (take n all) longer ∙ ap complete_statements same)))

-- nor less than what the statements of the bytes that were read cost
pub paid_for_taken : (all : List ℕ) (left : Option (List ℕ)) (before now : ℕ) (us : List Reading) (p : IsPaid all left before now) → AreReadings (statements_within (take p.taken all)) us → now ≤ before + cost_of us
paid_for_taken all left before now us p h =
    let first : AreReadings (take (length p.readings) (statements_within (take p.taken all))) p.readings = subst (λ ss. AreReadings ss p.readings) (first_of_taken all p.taken (length p.readings) p.were_read.0 p.ended) p.first in
    omega (arith, p.cost, cost-first no_relvars (statements_within (take p.taken all)) p.readings us first h)

-- ---- what a run takes, where the source tells its bytes

pub may_have_paid : (o mid after before now : Option (List ℕ)) (session : Session) (start steps : ℕ) → MayHaveFed o mid session before now start steps → after ≡ mid → fed_of session ≤ most_bytes → IfSome o (λ all. IsPaid all after start steps)
may_have_paid None mid after before now session start steps h e short = tt
may_have_paid (Some all) mid after before now session start steps h e short = subst (λ a. IsPaid all a start steps) (sym e) (paid_fed all mid before now session start steps short h)

pub may_have_paid_all : (o mid after before now : Option (List ℕ)) (session : Session) (start steps n : ℕ) (buffer : List ℕ) → MayHaveFed o mid session before now start steps → Gives mid n buffer after → n ≡ 0 → fed_of session ≤ most_bytes → IfSome o (λ all. IsPaid all after start steps)
may_have_paid_all None mid after before now session start steps n buffer h g e short = tt
may_have_paid_all (Some all) mid after before now session start steps n buffer h g e short =
    let k : ℕ = fed_of session in
    let gives : Gives (Some (drop k all)) n buffer after = subst (λ m. Gives m n buffer after) h.left_is g in
    let same : after ≡ mid = gives.2 ∙ ap (λ m. Some (drop m (drop k all))) e ∙ sym h.left_is in
    may_have_paid (Some all) mid after before now session start steps h same short

pub may_have_paid_in_piece : (o mid after before now : Option (List ℕ)) (session : Session) (start steps steps' n : ℕ) (buffer piece : List ℕ) → MayHaveFed o mid session before now start steps → Gives mid n buffer after → piece ≡ take n buffer
    → ((all : List ℕ) (left before' after' : Option (List ℕ)) (start' : ℕ) → HasFed all left session before' now start' steps → ComesNext all (fed_of session) piece after' → IsPaid all after' start' steps')
    → IfSome o (λ all. IsPaid all after start steps')
may_have_paid_in_piece None mid after before now session start steps steps' n buffer piece h g e f = tt
may_have_paid_in_piece (Some all) mid after before now session start steps steps' n buffer piece h g e f =
    f all mid before after start h (comes_next all mid after before now session start steps buffer piece n h g e)

-- ---- how far is read

-- the next statement ends in the last bytes that were read, or not at all
pub read_for : (all : List ℕ) (left : Option (List ℕ)) (n k j : ℕ) → WasRead n all left → n ≤ k + most_at_once → length (complete_statements (take k all)) ≤ j → IsReadFor all left (j + 1)
read_for all left n k j was near few = (n, was, λ end ends. by_le end k (λ l. let m = prefix_more all end k l in absurd (omega (arith, few, ends.0, ap length m.1, length-append (complete_statements (take end all)) m.0))) (λ l. omega (arith, near, l)))

-- after the statements of the bytes that were fed, and more
pub read_for_more : (all : List ℕ) (left : Option (List ℕ)) (n k : ℕ) (session : Session) (rs more : List Reading) → WasRead n all left → n ≤ k + most_at_once → StandsFor session (take k all) rs → IsReadFor all left (length (rs ++ more) + 1)
read_for_more all left n k session rs more was near h =
    read_for all left n k (length (rs ++ more)) was near (omega (arith, readings-length (complete_statements (take k all)) rs h.read, length-append rs more))
