-- What the logs of a script's machine tell, in whichever state it is.
--     logs-tell      each log that stands has told which rows its relvar had in which states, since it was declared
use Rattle.std.proofs.Common.{ℕ, ◌+◌, List, [], ◌∷◌, ◌++◌, refl, sym, subst, arith, append-nil, append_assoc}
use Rattle.std.proofs.lemmas.Int.{ints}
use Rattle.tree_core.specs.Relvars.{State}
use Rattle.assign_core.specs.Databases.{no_relvars}
use Rattle.utd_statement.specs.Answers.{Answer, Done, Changed, Table, Truth, Refusal, answer, made_by, is_accepted, state_after}
use Rattle.utd_statement.specs.Readings.{Reading}
use Rattle.utd_session.specs.Machine.{all_steps}
use Rattle.dump_laws.proofs.RunLaws.{none-made}
use Rattle.log_laws.specs.Past.{states_from, states_of, left_by, LogsTell}
use Rattle.log_laws.proofs.PastLaws.{IsPast, past-more, told-of}
use Rattle.log_laws.proofs.StatementLaws.{IsMadeSo, made-so}

-- one answer
past-answered : (past : List State) (w : State) (a : Answer) → IsPast past w → IsMadeSo w (made_by w a) → IsPast (past ++ left_by (is_accepted a) (state_after w a)) (state_after w a)
past-answered past w (Changed v) is so = past-more past w v is so.made so.long so.count so.logs
past-answered past w Done is so = past-more past w w is so.made so.long so.count so.logs
past-answered past w (Table types relation) is so = past-more past w w is so.made so.long so.count so.logs
past-answered past w (Truth b) is so = past-more past w w is so.made so.long so.count so.logs
past-answered past w (Refusal refuse) is so = subst (λ (l : List State). IsPast l w) (sym (append-nil past)) is

-- statements one after the other
past-after : (past : List State) (w : State) (n : ℕ) (rs : List Reading) → IsPast past w → IsPast (past ++ states_from w rs) (all_steps w n rs).state
past-after past w n [] is = subst (λ (l : List State). IsPast l w) (sym (append-nil past)) is
past-after past w n (r ∷ rs) is =
    let a : Answer = answer w r in
    let next : State = state_after w a in
    let one : List State = left_by (is_accepted a) next in
    subst (λ (l : List State). IsPast l (all_steps next (n + 1) rs).state) (append_assoc past one (states_from next rs))
    (past-after (past ++ one) next (n + 1) rs (past-answered past w a is (made-so w is.made is.long r)))

past-none : IsPast (no_relvars ∷ []) no_relvars
past-none = record {
  made = none-made;
  long = tt;
  front = [];
  ends = refl;
  number = omega (arith, ints);
  logs = λ name of side last value e. absurd (cc);
}

pub logs-tell : (rs : List Reading) → LogsTell rs
logs-tell rs =
    let past = past-after (no_relvars ∷ []) no_relvars 1 rs past-none in
    record {
      last = (past.front, past.ends);
      told = λ name of side last value e. told-of (states_of rs) name of side value.heading (past.logs name of side last value e);
    }
