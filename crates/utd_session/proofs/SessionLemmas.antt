-- How a session goes on, statement by statement.
use Rattle.std.proofs.Common.{◌≡◌, ◌↔◌, ℕ, ◌+◌, ◌≤◌, ◌<◌, Bool, true, false, cond, ◌&&◌, List, [], ◌∷◌, ◌++◌, length, take, drop, get_or, Option, Some, None, Result, Ok, Err, IfOk, IfErr, inl, inr, refl, sym, ap, ◌∙◌, subst, arith, append_assoc, append-nil, length-append, take-append-drop, take-add}
use Rattle.std.proofs.lemmas.Bool.{false_from_ne_true}
use Rattle.std.proofs.lemmas.Bool.Decides.{eqb_tells}
use Rattle.std.proofs.lemmas.List.{take_more}
use Rattle.utd_lexer.specs.declared.cutter.Mode.TheVariants.{Between}
use Rattle.utd_lexer.proofs.StayLemmas.{pass-one}
use Rattle.base_core.proofs.BoolLemmas.{same_bool}
use Rattle.point_core.specs.declared.fault.Place.{Place}
use Rattle.utd_io.specs.Io.{Gains, GainsPrefix}
use Rattle.utd_io.proofs.Gained.{Gains-none, Gains-more}
use Rattle.utd_lexer.specs.declared.cutter.Cutter.{Cutter}
use Rattle.utd_lexer.specs.declared.cutter.Cut.{Cut as Cuts}
use Rattle.utd_lexer.specs.declared.cutter.Cut.TheVariants.{Inside, Ends}
use Rattle.utd_lexer.specs.Parts.{IsWhole, IsBlank}
use Rattle.utd_lexer.specs.Cutting.{run, is_outside, Passes, AllPass, Since, since_then}
use Rattle.utd_lexer.specs.Tokens.{place_after}
use Rattle.tree_core.specs.Relvars.{State}
use Rattle.tree_core.specs.declared.relvar.Relvars.{Relvars as Database}
use Rattle.utd_session.specs.declared.feeding.Session.{Session}
use Rattle.utd_session.specs.declared.unfinished.Unfinished.{Unfinished}
use Rattle.utd_session.specs.declared.feeding.Ended.{Ended}
use Rattle.utd_session.specs.declared.fault.SessionFault.TheVariants.{Memory}
use Rattle.point_core.specs.declared.fault.Code.TheVariants.{E04}
use Rattle.value_core.specs.declared.refuse.Refuse.TheVariants.{Plain}
use Rattle.utd_statement.specs.Readings.{Reading, Refused}
use Rattle.utd_statement.specs.Answers.{text_of, is_accepted, answer, state_after}
use Rattle.utd_session.specs.Statements.{Statement, Complete, Incomplete, ends, Cut, cut, complete_statements, is_blank, incomplete_rest, statements, NoEnd, EndsOne}
use Rattle.utd_session.specs.Readings.{IsReading, AreReadings}
use Rattle.utd_session.specs.Databases.{state_of}
use Rattle.utd_session.specs.Machine.{performed, performed_after}
use Rattle.utd_session.specs.Run.{IsPrefixOf}
use Rattle.utd_session.specs.Feeding.{HasReading}
use Rattle.utd_session.specs.Costs.{cost_after, TakesAtMost}
use Rattle.dump_core.specs.Texts.{SourceText}
use Rattle.utd_session.specs.Texts.{kept_after, texts_of, AreTextsOf}
use Rattle.utd_session.specs.Sessions.{StandsFor, GoesOn, IsCutOff, IsFinished}
use Rattle.utd_session.proofs.TextLemmas.{texts-push}
use Rattle.utd_session.proofs.CostLemmas.{cost_after-push, takes-of}
use Rattle.utd_session.proofs.StatementLemmas.{place_bound, ends_is, is_blank_is, none-more, cut-end, cut-keep, cut-more}
use Rattle.utd_session.proofs.MachineLemmas.{state-push, output-push, output-one, accepted-push, readings-push, readings-prefix}

-- what a step of the cutter says
abbrev pub SinceThen : Cutter → Cuts → ℕ → Cutter → Type 0
SinceThen old r b new = (bytes : List ℕ) → Since old bytes → Since new (since_then r bytes b)

abbrev pub EndsThen : Cutter → Cuts → ℕ → Type 0
EndsThen old r b = (bytes : List ℕ) → Since old bytes → ((r ≡ Ends) ↔ ((b ≡ 59) × IsWhole bytes))

pub step-inside : (old new : Cutter) (r : Cuts) (b : ℕ) (bytes piece : List ℕ) → SinceThen old r b new → EndsThen old r b → (r ≡ Ends → ⊥) → Since old (bytes ++ piece)
    → (ends (bytes ++ piece) b ≡ false) × Since new (bytes ++ (piece ++ b ∷ []))
step-inside old new Ends b bytes piece s e not_end h = absurd (not_end refl)
step-inside old new Inside b bytes piece s e not_end h = (
  false_from_ne_true (ends (bytes ++ piece) b) (λ t. not_end ((e (bytes ++ piece) h).1 ((ends_is (bytes ++ piece) b).0 t))),
  subst (Since new) (append_assoc bytes piece (b ∷ [])) (s (bytes ++ piece) h),
)

pub step-ends : (old new : Cutter) (r : Cuts) (b : ℕ) (bytes piece : List ℕ) → SinceThen old r b new → EndsThen old r b → r ≡ Ends → Since old (bytes ++ piece)
    → (ends (bytes ++ piece) b ≡ true) × Since new []
step-ends old new Ends b bytes piece s e is h = ((ends_is (bytes ++ piece) b).1 ((e (bytes ++ piece) h).0 is), s (bytes ++ piece) h)
step-ends old new Inside b bytes piece s e is h = absurd (let f : Inside ≡ Ends = is in cc)

-- a byte that changes nothing ends nothing
passes-on : (c : Cutter) (bytes : List ℕ) (b : ℕ) → Passes c b → Since c bytes → ends bytes b ≡ false
passes-on c bytes b p since = elim (eqb_tells b 59) [
  | inr q ↦ ap (λ z. z && is_outside (run Between bytes)) q.0
  | inl q ↦ ap (λ z. z && is_outside (run Between bytes)) q.0 ∙ false_from_ne_true (is_outside (run Between bytes)) (λ o. p.2 (ap is_outside since.0 ∙ o) q.1)
]

passed-none : (place : Place) (bytes piece more : List ℕ) (c : Cutter) → NoEnd place bytes piece → Since c (bytes ++ piece) → AllPass c more → NoEnd place bytes (piece ++ more) × Since c (bytes ++ (piece ++ more))
passed-none place bytes piece [] c none since h = subst (λ z. NoEnd place bytes z × Since c (bytes ++ z)) (sym (append-nil piece)) (none, since)
passed-none place bytes piece (b ∷ more) c none since (p, h) =
    let s : Since c (bytes ++ (piece ++ b ∷ [])) = subst (Since c) (append_assoc bytes piece (b ∷ [])) (pass-one c (bytes ++ piece) b p since) in
    let now = none-more place bytes piece b none (passes-on c (bytes ++ piece) b p since) in
    subst (λ z. NoEnd place bytes z × Since c (bytes ++ z)) (append_assoc piece (b ∷ []) more) (passed-none place bytes (piece ++ b ∷ []) more c now s h)

-- a step that ends nothing, and the bytes behind it that are passed
pub step-passing : (place : Place) (bytes piece rest : List ℕ) (at n : ℕ) (old new : Cutter) (r : Cuts) → at < length piece → SinceThen old r (get_or piece at 0) new → EndsThen old r (get_or piece at 0) → (r ≡ Ends → ⊥) → rest ≡ drop (at + 1) piece → AllPass new (take n rest)
    → NoEnd place bytes (take at piece) → Since old (bytes ++ take at piece) → NoEnd place bytes (take (at + 1 + n) piece) × Since new (bytes ++ take (at + 1 + n) piece)
step-passing place bytes piece rest at n old new r lt s e not_end left passed none since =
    let b : ℕ = get_or piece at 0 in
    let more : take (at + 1) piece ≡ take at piece ++ b ∷ [] = take_more piece at 0 lt in
    let inside = step-inside old new r b bytes (take at piece) s e not_end since in
    let first : NoEnd place bytes (take at piece ++ b ∷ []) = none-more place bytes (take at piece) b none inside.0 in
    let whole : take (at + 1 + n) piece ≡ (take at piece ++ b ∷ []) ++ take n rest = take-add (at + 1) n piece ∙ ap (λ z. z ++ take n (drop (at + 1) piece)) more ∙ ap (λ z. (take at piece ++ b ∷ []) ++ take n z) (sym left) in
    subst (λ z. NoEnd place bytes z × Since new (bytes ++ z)) (sym whole) (passed-none place bytes (take at piece ++ b ∷ []) (take n rest) new first inside.1 passed)

-- a session that was fed a front of the piece
pub record IsFed (session : Session) (cutter : Cutter) (piece rest bytes : List ℕ) (rs : List Reading) (before now : Option (List ℕ)) (paid steps : ℕ) : Type 0 where
  pub done : List ℕ
  pub split : piece ≡ done ++ rest
  pub more : List Reading
  pub stands : StandsFor session (bytes ++ done) (rs ++ more)
  pub gained : Gains before (performed_after rs more).output now
  pub since : Since cutter (cut (bytes ++ done)).rest
  pub cost : steps ≤ paid + cost_after rs more

pub fed-nothing : (session : Session) (cutter : Cutter) (piece bytes : List ℕ) (rs : List Reading) (before : Option (List ℕ)) (paid : ℕ) → cutter ≡ session.cutter → StandsFor session bytes rs → IsFed session cutter piece piece bytes rs before before paid paid
fed-nothing session cutter piece bytes rs before paid e h = record {
  done = [];
  split = refl;
  more = [];
  stands = subst (λ b. StandsFor session b (rs ++ [])) (sym (append-nil bytes)) (subst (λ q. StandsFor session bytes q) (sym (append-nil rs)) h);
  gained = Gains-none before;
  since = subst (λ b. Since cutter (cut b).rest) (sym (append-nil bytes)) (subst (λ k. Since k (cut bytes).rest) (sym e) h.since);
  cost = omega arith;
}

-- one statement more
pub fed-more : (session next : Session) (cutter cutter' : Cutter) (piece rest prefix behind bytes : List ℕ) (rs : List Reading) (before mid now : Option (List ℕ)) (paid steps steps' : ℕ) (i : IsFed session cutter piece rest bytes rs before mid paid steps)
    → rest ≡ prefix ++ behind
    → EndsOne (cut (bytes ++ i.done)).place (cut (bytes ++ i.done)).rest prefix
    → HasReading (bytes ++ i.done) prefix (λ r. StandsFor next ((bytes ++ i.done) ++ prefix) ((rs ++ i.more) ++ r ∷ []) × Gains mid (text_of (length (rs ++ i.more) + 1) (answer (performed (rs ++ i.more)).state r)) now)
    → TakesAtMost (Complete (cut (bytes ++ i.done)).place ((cut (bytes ++ i.done)).rest ++ prefix)) (performed (rs ++ i.more)).state steps steps'
    → Since cutter' []
    → IsFed next cutter' piece behind bytes rs before now paid steps'
fed-more session next cutter cutter' piece rest prefix behind bytes rs before mid now paid steps steps' i e one (r, is, (stands, gained)) takes since =
    let same : (bytes ++ i.done) ++ prefix ≡ bytes ++ (i.done ++ prefix) = append_assoc bytes i.done prefix in
    let out : (performed_after rs (i.more ++ r ∷ [])).output ≡ (performed_after rs i.more).output ++ text_of (length (rs ++ i.more) + 1) (answer (performed (rs ++ i.more)).state r) = output-push rs i.more r in
    let rest_is : (cut (bytes ++ (i.done ++ prefix))).rest ≡ [] = ap (λ b. (cut b).rest) (sym same) ∙ ap (λ (c : Cut). c.rest) (cut-end (bytes ++ i.done) prefix one) in
    record {
      done = i.done ++ prefix;
      split = i.split ∙ ap (λ x. i.done ++ x) e ∙ sym (append_assoc i.done prefix behind);
      more = i.more ++ r ∷ [];
      stands = subst (λ b. StandsFor next b (rs ++ (i.more ++ r ∷ []))) same (subst (λ q. StandsFor next ((bytes ++ i.done) ++ prefix) q) (append_assoc rs i.more (r ∷ [])) stands);
      gained = subst (λ t. Gains before t now) (sym out) (Gains-more before mid now _ _ i.gained gained);
      since = subst (Since cutter') (sym rest_is) since;
      cost = omega (arith, i.cost, takes-of (Complete (cut (bytes ++ i.done)).place ((cut (bytes ++ i.done)).rest ++ prefix)) (performed (rs ++ i.more)).state steps steps' r takes is, cost_after-push rs i.more r);
    }

-- what the statements that end in more bytes begin with
pub more_statements : (bytes done rest : List ℕ) (piece : List ℕ) → piece ≡ done ++ rest → (more : List Statement) × (complete_statements (bytes ++ piece) ≡ complete_statements (bytes ++ done) ++ more)
more_statements bytes done rest piece e =
    let m = cut-more (bytes ++ done) rest in
    (m.0, ap (λ x. complete_statements (bytes ++ x)) e ∙ ap complete_statements (sym (append_assoc bytes done rest)) ∙ m.1)

-- one of them ends in the next bytes, and others may be behind it
pub next_ended : (bytes done prefix behind rest piece : List ℕ) → piece ≡ done ++ rest → rest ≡ prefix ++ behind → EndsOne (cut (bytes ++ done)).place (cut (bytes ++ done)).rest prefix
    → (more : List Statement) × (complete_statements (bytes ++ piece) ≡ (complete_statements (bytes ++ done) ++ Complete (cut (bytes ++ done)).place ((cut (bytes ++ done)).rest ++ prefix) ∷ []) ++ more)
next_ended bytes done prefix behind rest piece parts e one =
    let split : piece ≡ (done ++ prefix) ++ behind = parts ∙ ap (λ x. done ++ x) e ∙ sym (append_assoc done prefix behind) in
    let m = more_statements bytes (done ++ prefix) behind piece split in
    let ended = ap complete_statements (sym (append_assoc bytes done prefix)) ∙ ap (λ (c : Cut). c.ended) (cut-end (bytes ++ done) prefix one) in
    (m.0, m.1 ∙ ap (λ x. x ++ m.0) ended)

-- memory ran out behind some of them
pub fed-stop : (session : Session) (cutter : Cutter) (piece rest bytes : List ℕ) (rs : List Reading) (before mid now : Option (List ℕ)) (paid steps : ℕ) (database : Database) → state_of database ≡ state_of session.database → IsFed session cutter piece rest bytes rs before mid paid steps → now ≡ mid
    → (more : List Reading) × GoesOn (complete_statements (bytes ++ piece)) rs more before now (state_of database)
fed-stop session cutter piece rest bytes rs before mid now paid steps database kept i e =
    let m = more_statements bytes i.done rest piece i.split in (
      i.more,
      record {
        read = readings-prefix _ _ m.0 (rs ++ i.more) m.1 i.stands.read;
        gained = subst (Gains before (performed_after rs i.more).output) (sym e) i.gained;
        left = kept ∙ i.stands.state_is;
      },
    )

-- some of a text was gained
gained_prefix : (before mid now : Option (List ℕ)) (xs ys : List ℕ) → Gains before xs mid → GainsPrefix mid ys now → (text : List ℕ) × IsPrefixOf text ys × Gains before (xs ++ text) now
gained_prefix None mid now xs ys g h = ([], (ys, refl), tt)
gained_prefix (Some old) mid now xs ys g h =
    let k : GainsPrefix (Some (old ++ xs)) ys now = subst (λ o. GainsPrefix o ys now) g h in
    (take k.0 ys, (drop k.0 ys, sym (take-append-drop k.0 ys)), k.2 ∙ ap Some (append_assoc old xs (take k.0 ys)))

-- a write failed within the next statement
pub cut-off : (ss prefix more : List Statement) (s : Statement) (rs new : List Reading) (r : Reading) (before mid now : Option (List ℕ)) (database : Database) → state_of database ≡ (performed ((rs ++ new) ++ r ∷ [])).state → ss ≡ (prefix ++ s ∷ []) ++ more
    → AreReadings prefix (rs ++ new) → IsReading s r → Gains before (performed_after rs new).output mid → GainsPrefix mid (text_of (length (rs ++ new) + 1) (answer (performed (rs ++ new)).state r)) now
    → (text : List ℕ) × IsCutOff ss rs new r text before now (state_of database)
cut-off ss prefix more s rs new r before mid now database left e read is gained so_far =
    let g = gained_prefix before mid now _ _ gained so_far in
    let all : List Reading = (rs ++ new) ++ r ∷ [] in
    let len : length all ≡ length (rs ++ new) + 1 = length-append (rs ++ new) (r ∷ []) in (
      g.0,
      record {
        read = subst (λ n. AreReadings (take n ss) all) len (readings-prefix ss (prefix ++ s ∷ []) more all e (readings-push prefix s (rs ++ new) r read is));
        prefix = g.1;
        gained = g.2;
        left = left;
      },
    )

pub fed-cut-off : (session : Session) (cutter : Cutter) (piece rest prefix behind bytes : List ℕ) (rs : List Reading) (before mid now : Option (List ℕ)) (paid steps : ℕ) (database : Database) (i : IsFed session cutter piece rest bytes rs before mid paid steps)
    → rest ≡ prefix ++ behind
    → EndsOne (cut (bytes ++ i.done)).place (cut (bytes ++ i.done)).rest prefix
    → HasReading (bytes ++ i.done) prefix (λ r. GainsPrefix mid (text_of (length (rs ++ i.more) + 1) (answer (performed (rs ++ i.more)).state r)) now × (state_of database ≡ (performed ((rs ++ i.more) ++ r ∷ [])).state))
    → (more : List Reading) × (r : Reading) × (text : List ℕ) × IsCutOff (complete_statements (bytes ++ piece)) rs more r text before now (state_of database)
fed-cut-off session cutter piece rest prefix behind bytes rs before mid now paid steps database i e one (r, is, (so_far, left)) =
    let m = next_ended bytes i.done prefix behind rest piece i.split e one in
    let k = cut-off (complete_statements (bytes ++ piece)) (complete_statements (bytes ++ i.done)) m.0 (Complete (cut (bytes ++ i.done)).place ((cut (bytes ++ i.done)).rest ++ prefix)) rs i.more r before mid now database left m.1 i.stands.read is i.gained so_far in
    (i.more, r, k.0, k.1)

-- the state after one statement more
pub after_one : (s : Session) (bytes : List ℕ) (rs : List Reading) (r : Reading) (new : State) → StandsFor s bytes rs → new ≡ state_after (state_of s.database) (answer (state_of s.database) r)
    → new ≡ (performed (rs ++ r ∷ [])).state
after_one s bytes rs r new h left = left ∙ ap (λ st. state_after st (answer st r)) h.state_is ∙ sym (state-push rs r)

-- what a session stands for after one statement more
pub record IsEnd (s : Session) (bytes prefix : List ℕ) (rs : List Reading) (r : Reading) (one : Bool) (new : State) (now : List SourceText) : Type 0 where
  pub read : AreReadings (complete_statements (bytes ++ prefix)) (rs ++ r ∷ [])
  pub accepted : (one && s.all_accepted) ≡ (performed (rs ++ r ∷ [])).accepted
  pub number : s.number + 1 ≡ length (rs ++ r ∷ []) + 1
  pub place_is : (cut (bytes ++ prefix)).place ≡ place_after (cut bytes).place ((cut bytes).rest ++ prefix)
  pub rest_is : (cut (bytes ++ prefix)).rest ≡ []
  pub fed : s.fed + length prefix ≡ length (bytes ++ prefix)
  pub left : new ≡ (performed (rs ++ r ∷ [])).state
  pub texts : now ≡ texts_of (complete_statements (bytes ++ prefix)) (rs ++ r ∷ [])

pub is_end : (s : Session) (bytes prefix : List ℕ) (rs : List Reading) (r : Reading) (one : Bool) (new : State) (now : List SourceText) → StandsFor s bytes rs → EndsOne (cut bytes).place (cut bytes).rest prefix
    → IsReading (Complete (cut bytes).place ((cut bytes).rest ++ prefix)) r → one ≡ is_accepted (answer (state_of s.database) r)
    → new ≡ state_after (state_of s.database) (answer (state_of s.database) r)
    → now ≡ kept_after (state_of s.database) s.texts (Complete (cut bytes).place ((cut bytes).rest ++ prefix)) r → IsEnd s bytes prefix rs r one new now
is_end s bytes prefix rs r one new now h ends is accepts left kept =
    let c = cut-end bytes prefix ends in
    let statement : Statement = Complete (cut bytes).place ((cut bytes).rest ++ prefix) in
    let len : length (rs ++ r ∷ []) ≡ length rs + 1 = length-append rs (r ∷ []) in
    record {
      read = subst (λ ss. AreReadings ss (rs ++ r ∷ [])) (sym (ap (λ (x : Cut). x.ended) c)) (readings-push (complete_statements bytes) _ rs r h.read is);
      accepted = (λ i. accepts i && h.accepted i) ∙ ap (λ st. is_accepted (answer st r) && (performed rs).accepted) h.state_is ∙ sym (accepted-push rs r);
      number = omega (arith, h.number, len);
      place_is = ap (λ (x : Cut). x.place) c;
      rest_is = ap (λ (x : Cut). x.rest) c;
      fed = omega (arith, h.fed, length-append bytes prefix);
      left = after_one s bytes rs r new h left;
      texts = kept ∙ (λ i. kept_after (h.state_is i) (h.texts i) statement r) ∙ sym (texts-push (complete_statements bytes) rs statement r h.read)
          ∙ ap (λ ss. texts_of ss (rs ++ r ∷ [])) (sym (ap (λ (x : Cut). x.ended) c));
    }

-- a session's bounds, with more bytes of the statement that is not ended
pub with_more : (s : Session) (u : Unfinished) (prefix : List ℕ) → u.size ≡ s.unfinished.size + length prefix → u.start ≡ s.unfinished.start → u.next ≡ place_after s.unfinished.next prefix
    → (s.number + u.size ≤ s.fed + length prefix + 1)
    × ((u.start.line ≤ s.fed + length prefix + 1) × (u.start.column ≤ s.fed + length prefix + 1))
    × ((u.next.line ≤ s.fed + length prefix + 1) × (u.next.column ≤ s.fed + length prefix + 1))
with_more s u prefix size start next =
    let bound = place_bound s.unfinished.next prefix in
    let line = ap (λ (p : Place). p.line) next in
    let column = ap (λ (p : Place). p.column) next in
    let start_line = ap (λ (p : Place). p.line) start in
    let start_column = ap (λ (p : Place). p.column) start in (
      omega (arith, s.numbered, size),
      (omega (arith, s.begun.0, start_line), omega (arith, s.begun.1, start_column)),
      (omega (arith, s.placed.0, line, bound.0), omega (arith, s.placed.1, column, bound.1)),
    )

-- the text of the next statement
pub text_is : (s : Session) (bytes : List ℕ) (rs : List Reading) (r : Reading) → StandsFor s bytes rs → text_of s.number (answer (state_of s.database) r) ≡ text_of (length rs + 1) (answer (performed rs).state r)
text_is s bytes rs r h = λ i. text_of (h.number i) (answer (h.state_is i) r)

-- what the next statement takes
pub taken_in : (s : Session) (bytes : List ℕ) (rs : List Reading) (prefix : List ℕ) (before now : ℕ) → StandsFor s bytes rs → TakesAtMost (Complete (cut bytes).place ((cut bytes).rest ++ prefix)) (state_of s.database) before now
    → TakesAtMost (Complete (cut bytes).place ((cut bytes).rest ++ prefix)) (performed rs).state before now
taken_in s bytes rs prefix before now h takes = subst (λ state. TakesAtMost (Complete (cut bytes).place ((cut bytes).rest ++ prefix)) state before now) h.state_is takes

-- what a session stands for after bytes that end nothing
pub record IsKept (s : Session) (bytes piece : List ℕ) (rs : List Reading) : Type 0 where
  pub read : AreReadings (complete_statements (bytes ++ piece)) rs
  pub place_is : (cut (bytes ++ piece)).place ≡ (cut bytes).place
  pub rest_is : (cut (bytes ++ piece)).rest ≡ (cut bytes).rest ++ piece
  pub fed : s.fed + length piece ≡ length (bytes ++ piece)
  pub texts : s.texts ≡ texts_of (complete_statements (bytes ++ piece)) rs

pub is_kept : (s : Session) (bytes piece : List ℕ) (rs : List Reading) → StandsFor s bytes rs → NoEnd (cut bytes).place (cut bytes).rest piece → IsKept s bytes piece rs
is_kept s bytes piece rs h none =
    let c = cut-keep bytes piece none in
    record {
      read = subst (λ ss. AreReadings ss rs) (sym (ap (λ (x : Cut). x.ended) c)) h.read;
      place_is = ap (λ (x : Cut). x.place) c;
      rest_is = ap (λ (x : Cut). x.rest) c;
      fed = omega (arith, h.fed, length-append bytes piece);
      texts = h.texts ∙ ap (λ ss. texts_of ss rs) (sym (ap (λ (x : Cut). x.ended) c));
    }

-- the piece is at its end
pub fed-end : (session : Session) (cutter : Cutter) (piece rest bytes : List ℕ) (rs : List Reading) (before now : Option (List ℕ)) (paid steps : ℕ) (r : Result Session Ended) (i : IsFed session cutter piece rest bytes rs before now paid steps)
    → IfOk r (λ s. StandsFor s ((bytes ++ i.done) ++ rest) (rs ++ i.more))
    → IfOk r (λ s. (more : List Reading) × StandsFor s (bytes ++ piece) (rs ++ more) × Gains before (performed_after rs more).output now)
fed-end session cutter piece rest bytes rs before now paid steps (Ok s) i h =
    let same : (bytes ++ i.done) ++ rest ≡ bytes ++ piece = append_assoc bytes i.done rest ∙ ap (λ x. bytes ++ x) (sym i.split) in
    (i.more, subst (λ b. StandsFor s b (rs ++ i.more)) same h, i.gained)
fed-end session cutter piece rest bytes rs before now paid steps (Err e) i h = tt

pub fed-stop-at-end : (session : Session) (cutter : Cutter) (piece rest bytes : List ℕ) (rs : List Reading) (before now : Option (List ℕ)) (paid steps : ℕ) (r : Result Session Ended) → IsFed session cutter piece rest bytes rs before now paid steps → IfErr r (λ e. e.database ≡ session.database)
    → IfErr r (λ e. e.why ≡ Memory → (more : List Reading) × GoesOn (complete_statements (bytes ++ piece)) rs more before now (state_of e.database))
fed-stop-at-end session cutter piece rest bytes rs before now paid steps (Ok s) i kept = tt
fed-stop-at-end session cutter piece rest bytes rs before now paid steps (Err e) i kept = λ why. fed-stop session cutter piece rest bytes rs before now now paid steps e.database (ap state_of kept) i refl

-- ---- the end of a script

-- the cutter tells whether the rest is blank
pub blank_is : (bytes : List ℕ) (answer : Bool) → ((answer ≡ true) ↔ IsBlank bytes) → answer ≡ is_blank bytes
blank_is bytes answer h = same_bool answer (is_blank bytes) (λ e. (is_blank_is bytes).1 (h.0 e)) (λ e. h.1 ((is_blank_is bytes).0 e))

blank_statements : (bytes : List ℕ) → is_blank (cut bytes).rest ≡ true → statements bytes ≡ complete_statements bytes
blank_statements bytes e = ap (λ t. complete_statements bytes ++ cond t [] (Incomplete ∷ [])) e ∙ append-nil (complete_statements bytes)

open_statements : (bytes : List ℕ) → is_blank (cut bytes).rest ≡ false → statements bytes ≡ complete_statements bytes ++ Incomplete ∷ []
open_statements bytes e = ap (λ t. complete_statements bytes ++ cond t [] (Incomplete ∷ [])) e

pub finish-blank : (s : Session) (bytes : List ℕ) (rs : List Reading) (before : Option (List ℕ)) → StandsFor s bytes rs → is_blank (cut bytes).rest ≡ true
    → (more : List Reading) × IsFinished (statements bytes) rs more before before (state_of s.database) s.all_accepted
finish-blank s bytes rs before h e = (
  [],
  record {
    read = subst (λ ss. AreReadings ss (rs ++ [])) (sym (blank_statements bytes e)) (subst (AreReadings (complete_statements bytes)) (sym (append-nil rs)) h.read);
    gained = Gains-none before;
    left = h.state_is ∙ ap (λ q. (performed q).state) (sym (append-nil rs));
    accepted = h.accepted ∙ ap (λ q. (performed q).accepted) (sym (append-nil rs));
  },
)

abbrev pub not_ended : Reading
not_ended = Refused (Plain E04)

pub finish-open : (s : Session) (bytes : List ℕ) (rs : List Reading) (before now : Option (List ℕ)) (one both : Bool) → StandsFor s bytes rs → is_blank (cut bytes).rest ≡ false
    → one ≡ is_accepted (answer (state_of s.database) not_ended) → both ≡ (one && s.all_accepted) → Gains before (text_of s.number (answer (state_of s.database) not_ended)) now
    → (more : List Reading) × IsFinished (statements bytes) rs more before now (state_of s.database) both
finish-open s bytes rs before now one both h e accepts b gains =
    let all : List Reading = rs ++ not_ended ∷ [] in
    let text : text_of s.number (answer (state_of s.database) not_ended) ≡ (performed_after rs (not_ended ∷ [])).output = text_is s bytes rs not_ended h ∙ sym (output-one rs not_ended) in (
      not_ended ∷ [],
      record {
        read = subst (λ ss. AreReadings ss all) (sym (open_statements bytes e)) (readings-push (complete_statements bytes) Incomplete rs not_ended h.read refl);
        gained = subst (λ t. Gains before t now) text gains;
        left = after_one s bytes rs not_ended (state_of s.database) h refl;
        accepted = b ∙ (λ i. accepts i && h.accepted i) ∙ ap (λ st. is_accepted (answer st not_ended) && (performed rs).accepted) h.state_is ∙ sym (accepted-push rs not_ended);
      },
    )

-- the texts at the end of a script
pub finish-blank-texts : (s : Session) (bytes : List ℕ) (rs : List Reading) → StandsFor s bytes rs → is_blank (cut bytes).rest ≡ true → AreTextsOf bytes s.texts
finish-blank-texts s bytes rs h e =
    let same = sym (blank_statements bytes e) in
    (rs, subst (λ ss. AreReadings ss rs) same h.read, h.texts ∙ ap (λ ss. texts_of ss rs) same)

pub finish-open-texts : (s : Session) (bytes : List ℕ) (rs : List Reading) → StandsFor s bytes rs → is_blank (cut bytes).rest ≡ false → AreTextsOf bytes s.texts
finish-open-texts s bytes rs h e =
    let all : List Reading = rs ++ not_ended ∷ [] in
    let same = sym (open_statements bytes e) in (
      all,
      subst (λ ss. AreReadings ss all) same (readings-push (complete_statements bytes) Incomplete rs not_ended h.read refl),
      h.texts ∙ sym (texts-push (complete_statements bytes) rs Incomplete not_ended h.read) ∙ ap (λ ss. texts_of ss all) same,
    )

pub finish-stop : (s : Session) (bytes : List ℕ) (rs : List Reading) (before now : Option (List ℕ)) → StandsFor s bytes rs → now ≡ before
    → (more : List Reading) × GoesOn (statements bytes) rs more before now (state_of s.database)
finish-stop s bytes rs before now h e = (
  [],
  record {
    read = readings-prefix (statements bytes) (complete_statements bytes) (incomplete_rest (cut bytes).rest) (rs ++ []) refl (subst (AreReadings (complete_statements bytes)) (sym (append-nil rs)) h.read);
    gained = subst (Gains before []) (sym e) (Gains-none before);
    left = h.state_is ∙ ap (λ q. (performed q).state) (sym (append-nil rs));
  },
)

pub finish-cut-off : (s : Session) (bytes : List ℕ) (rs : List Reading) (before now : Option (List ℕ)) → StandsFor s bytes rs → is_blank (cut bytes).rest ≡ false
    → GainsPrefix before (text_of s.number (answer (state_of s.database) not_ended)) now
    → (more : List Reading) × (r : Reading) × (text : List ℕ) × IsCutOff (statements bytes) rs more r text before now (state_of s.database)
finish-cut-off s bytes rs before now h e so_far =
    let whole : statements bytes ≡ (complete_statements bytes ++ Incomplete ∷ []) ++ [] = open_statements bytes e ∙ sym (append-nil _) in
    let text : text_of s.number (answer (state_of s.database) not_ended) ≡ text_of (length (rs ++ []) + 1) (answer (performed (rs ++ [])).state not_ended) =
    text_is s bytes rs not_ended h ∙ ap (λ q. text_of (length q + 1) (answer (performed q).state not_ended)) (sym (append-nil rs)) in
    let left : state_of s.database ≡ (performed ((rs ++ []) ++ not_ended ∷ [])).state =
    after_one s bytes rs not_ended (state_of s.database) h refl ∙ ap (λ q. (performed (q ++ not_ended ∷ [])).state) (sym (append-nil rs)) in
    let k = cut-off (statements bytes) (complete_statements bytes) [] Incomplete rs [] not_ended before before now s.database left whole
    (subst (AreReadings (complete_statements bytes)) (sym (append-nil rs)) h.read) refl (Gains-none before) (subst (λ t. GainsPrefix before t now) text so_far) in
    ([], not_ended, k.0, k.1)
