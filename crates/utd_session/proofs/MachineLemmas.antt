-- Statements, one after the other.
use Rattle.std.proofs.Common.{◌≡◌, ℕ, suc, ◌+◌, ◌≤◌, Bool, true, false, ◌&&◌, List, [], ◌∷◌, ◌++◌, length, take, refl, sym, ap, ◌∙◌, subst, arith, append_assoc, append-nil, length-append, length-take}
use Rattle.std.proofs.lemmas.List.{take_at}
use Rattle.tree_core.specs.Relvars.{State}
use Rattle.assign_core.specs.Databases.{no_relvars}
use Rattle.utd_statement.specs.Readings.{Reading}
use Rattle.utd_statement.specs.Answers.{text_of, is_accepted, answer, state_after}
use Rattle.utd_session.specs.Statements.{Statement}
use Rattle.utd_session.specs.Readings.{IsReading, AreReadings}
use Rattle.utd_session.specs.Machine.{Step, step, in_turn, all_steps, performed, performed_after}

and_assoc : (a b c : Bool) → ((a && b) && c) ≡ (a && (b && c))
and_assoc true b c = refl
and_assoc false b c = refl

pub all_steps-append : (state : State) (n : ℕ) (rs more : List Reading) → all_steps state n (rs ++ more) ≡ in_turn (all_steps state n rs) (all_steps (all_steps state n rs).state (n + length rs) more)
all_steps-append state n [] more = let e : n ≡ n + 0 = omega arith in ap (λ m. all_steps state m more) e
all_steps-append state n (r ∷ rs) more =
    let first : Step = step state n r in
    let a : Step = all_steps first.state (n + 1) rs in
    let e : n + 1 + length rs ≡ n + suc (length rs) = omega arith in
    let rest : Step = all_steps a.state (n + suc (length rs)) more in
    ap (in_turn first) (all_steps-append first.state (n + 1) rs more ∙ ap (λ m. in_turn a (all_steps a.state m more)) e)
    ∙ (λ i. record { state = rest.state; output = sym (append_assoc first.output a.output rest.output) i; accepted = sym (and_assoc first.accepted a.accepted rest.accepted) i })

-- the first ones, and more
pub performed-more : (rs more : List Reading) → performed (rs ++ more) ≡ in_turn (performed rs) (performed_after rs more)
performed-more rs more =
    let e : 1 + length rs ≡ length rs + 1 = omega arith in
    all_steps-append no_relvars 1 rs more ∙ ap (λ m. in_turn (performed rs) (all_steps (performed rs).state m more)) e

-- one more of them
pub output-push : (rs more : List Reading) (r : Reading) → (performed_after rs (more ++ r ∷ [])).output ≡ (performed_after rs more).output ++ text_of (length (rs ++ more) + 1) (answer (performed (rs ++ more)).state r)
output-push rs more r =
    let st : State = (performed rs).state in
    let n : ℕ = length rs + 1 in
    let e : n + length more ≡ length (rs ++ more) + 1 = omega (arith, length-append rs more) in
    let s : (all_steps st n more).state ≡ (performed (rs ++ more)).state = ap (λ (x : Step). x.state) (sym (performed-more rs more)) in
    ap (λ (x : Step). x.output) (all_steps-append st n more (r ∷ []))
    ∙ ap (λ t. (performed_after rs more).output ++ t) (append-nil _ ∙ (λ i. text_of (e i) (answer (s i) r)))

pub output-one : (rs : List Reading) (r : Reading) → (performed_after rs (r ∷ [])).output ≡ text_of (length rs + 1) (answer (performed rs).state r)
output-one rs r = append-nil _

pub state-push : (rs : List Reading) (r : Reading) → (performed (rs ++ r ∷ [])).state ≡ state_after (performed rs).state (answer (performed rs).state r)
state-push rs r = ap (λ (x : Step). x.state) (performed-more rs (r ∷ []))

pub accepted-push : (rs : List Reading) (r : Reading) → (performed (rs ++ r ∷ [])).accepted ≡ (is_accepted (answer (performed rs).state r) && (performed rs).accepted)
accepted-push rs r = ap (λ (x : Step). x.accepted) (performed-more rs (r ∷ [])) ∙ swap (performed rs).accepted (is_accepted (answer (performed rs).state r))
  where
    swap : (a b : Bool) → (a && (b && true)) ≡ (b && a)
    swap true true = refl
    swap true false = refl
    swap false true = refl
    swap false false = refl

-- ---- readings

pub readings-length : (ss : List Statement) (rs : List Reading) → AreReadings ss rs → length ss ≡ length rs
readings-length [] [] h = refl
readings-length [] (r ∷ rs) h = absurd h
readings-length (s ∷ ss) [] h = absurd h
readings-length (s ∷ ss) (r ∷ rs) h = ap suc (readings-length ss rs h.1)

pub readings-append : (ss ts : List Statement) (rs us : List Reading) → AreReadings ss rs → AreReadings ts us → AreReadings (ss ++ ts) (rs ++ us)
readings-append [] ts [] us h k = k
readings-append [] ts (r ∷ rs) us h k = absurd h
readings-append (s ∷ ss) ts [] us h k = absurd h
readings-append (s ∷ ss) ts (r ∷ rs) us h k = (h.0, readings-append ss ts rs us h.1 k)

pub readings-push : (ss : List Statement) (s : Statement) (rs : List Reading) (r : Reading) → AreReadings ss rs → IsReading s r → AreReadings (ss ++ s ∷ []) (rs ++ r ∷ [])
readings-push ss s rs r h k = readings-append ss (s ∷ []) rs (r ∷ []) h (k, tt)

-- readings of the first ones of these
pub readings-prefix : (all ss more : List Statement) (rs : List Reading) → all ≡ ss ++ more → AreReadings ss rs → AreReadings (take (length rs) all) rs
readings-prefix all ss more rs e h =
    let len : length ss ≡ length rs = readings-length ss rs h in
    subst (λ ts. AreReadings ts rs) (sym (ap (take (length rs)) e ∙ take_at ss more (length rs) len)) h

-- readings of the first ones are no more than there are
pub readings-within : (all : List Statement) (n : ℕ) (rs : List Reading) → length rs ≡ n → AreReadings (take n all) rs → n ≤ length all
readings-within all n rs len h = omega (arith, readings-length (take n all) rs h, length-take {A = Statement} n all, len)
