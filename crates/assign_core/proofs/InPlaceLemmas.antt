-- A base relvar whose rows are exchanged in place, with its log.
--     differing      any exchange by rows that are new and rows that were there
--     held_passed, hashed_passed      what is held, and hashes, where logs are brought to a statement
--     to_change_held, once_held      the log that is to change, while rows of its relvar are held
--     passed_then      the rows come to their relvar once its log has them
--     hashed_brought      hashes where all logs are brought to the statement
--     may_exchange, log_to_change, in_place_kept      what is asked of the change is enough
use Rattle.std.proofs.Common.{◌≡◌, inl, inr, ℕ, zero, suc, ◌+◌, ◌≤◌, ℤ, Bool, true, false, cond, List, [], ◌∷◌, length, refl, sym, ap, ap₂, subst, ◌∙◌, arith, None, Ok}
use Rattle.std.proofs.lemmas.List.Elements.{All-nil, All-cons, All-head, All-tail}
use Rattle.value_core.specs.Values.{Name, Row, Relation}
use Rattle.relation_core.specs.Hashes.{HashList}
use Rattle.relation_core.specs.Operators.{subtracted, united}
use Rattle.log_times.specs.Turns.{IsExact}
use Rattle.change_rows.specs.declared.exchange.Exchange.{Exchange}
use Rattle.log_turns.proofs.DifferingLemmas.{differing_exact, differing_fewer, differing_same}
use Rattle.tree_core.specs.Items.{PlainAssignment}
use Rattle.tree_core.specs.Relvars.{PlainRelvar, base, view, log, Entries, State}
use Rattle.meaning_core.specs.Logs.{turned_logs, AreInStep}
use Rattle.relvar_logs.specs.Changes.{turned_at, IsSoAt}
use Rattle.relvar_logs.specs.LoggedChanges.{is_log_of, logs_of, IsChangeOf, AreChanging}
use Rattle.relvar_logs.specs.Passed.{ArePassed, IsOnTheWay}
use Rattle.assign_core.specs.declared.exchange.Change.TheVariants.{Rows}
use Rattle.assign_core.specs.declared.hashed.Hashed.{Hashed}
use Rattle.assign_core.specs.declared.in_place.InPlace.{InPlace}
use Rattle.assign_core.specs.declared.room.Held.{Held}
use Rattle.assign_core.specs.Assignments.{after_assignments}
use Rattle.assign_core.specs.Breaches.{first_rule_broken}
use Rattle.assign_core.specs.Databases.{IsKept}
use Rattle.assign_core.specs.Exchanges.{refilled_relvar, IsHeldOf}
use Rattle.assign_core.specs.Hashed.{AreHashed, AreHashesAt, AreHashesIn}
use Rattle.assign_core.specs.InPlace.{changed_in_place, IsDiffering, IsInPlace}
use Rattle.assign_core.specs.Turnovers.{renewed, renewed_at, renewed_relvar, IsExchangeAt}
use Rattle.assign_core.proofs.AssignedLemmas.{assigned_kept}
use Rattle.assign_core.proofs.ExchangeLemmas.{turned_twice}
use Rattle.assign_core.proofs.LoggedLemmas.{to_change}
use Rattle.assign_core.proofs.LogLemmas.{hashed_turned}
use Rattle.assign_core.proofs.NameLemmas.{relvars_differ}
use Rattle.assign_core.proofs.RenewedLemmas.{bare_exchanged}
use Rattle.assign_core.proofs.TurnoverLemmas.{is_exchange_at, renewed_given}

-- ---- the rows

pub differing : (value : Relation) (x d : Exchange) (less none : Relation) → less.rows ≡ subtracted x.come.rows value.rows → none.rows ≡ subtracted x.gone.rows value.rows
    → d.come.heading ≡ x.come.heading → d.gone.heading ≡ x.gone.heading → d.come.rows ≡ subtracted less.rows x.gone.rows → d.gone.rows ≡ subtracted x.gone.rows none.rows → IsDiffering value x d
differing value x d less none l n come gone news olds =
    let v = value.rows in
    let c : d.come.rows ≡ subtracted (subtracted x.come.rows v) x.gone.rows = news ∙ ap (λ (zs : List Row). subtracted zs x.gone.rows) l in
    let g : d.gone.rows ≡ subtracted x.gone.rows (subtracted x.gone.rows v) = olds ∙ ap (subtracted x.gone.rows) n in
    record {
      come = come;
      gone = gone;
      exact = subst (λ (zs : List Row). IsExact v zs d.gone.rows) (sym c) (subst (λ (zs : List Row). IsExact v (subtracted (subtracted x.come.rows v) x.gone.rows) zs) (sym g) (differing_exact v x.come.rows x.gone.rows));
      same = ap₂ (λ (cs gs : List Row). subtracted (united v cs) gs) c g ∙ differing_same v x.come.rows x.gone.rows;
      fewer =
          let news : length d.come.rows ≡ length (subtracted (subtracted x.come.rows v) x.gone.rows) = ap (λ (zs : List Row). length zs) c in
          let olds : length d.gone.rows ≡ length (subtracted x.gone.rows (subtracted x.gone.rows v)) = ap (λ (zs : List Row). length zs) g in
          let fewer = differing_fewer v x.come.rows x.gone.rows in
          omega (arith, news, olds, fewer);
    }

-- ---- rows that are held

module _ (h : Held) (x : Exchange) where
  abbrev comes : PlainRelvar → PlainRelvar
  comes r = renewed_relvar x (refilled_relvar h r)

  held_one : (n : ℤ) (all : Entries) (e r : PlainRelvar) → IsHeldOf h x e → IsOnTheWay n all e r → r ≡ e
  held_one n all (base value constraints) r held way = elim way [ inl p ↦ p.0 | inr b ↦ b.is ]
  held_one n all (view t kind) r held way = absurd held
  held_one n all (log of side last w) r held way = absurd held

  pub held_passed : (n : ℤ) (all es now : Entries) (i : ℕ) → ArePassed n all zero es now → IsSoAt i (IsHeldOf h x) es → IsSoAt i (IsHeldOf h x) now
  held_passed n all [] now i are held = absurd held
  held_passed n all (e ∷ es) [] i are held = absurd are
  held_passed n all (e ∷ es) (r ∷ rest) zero are held = subst (IsHeldOf h x) (sym (held_one n all e.1 r.1 held are.1)) held
  held_passed n all (e ∷ es) (r ∷ rest) (suc i) are held = held_passed n all es rest i are.2 held

  turned_way : (n : ℤ) (all : Entries) (e r : PlainRelvar) → IsHeldOf h x e → IsOnTheWay n all e r → IsOnTheWay n all (comes e) (comes r)
  turned_way n all (base value constraints) r held way = inl (ap comes (held_one n all (base value constraints) r held way), tt)
  turned_way n all (view t kind) r held way = absurd held
  turned_way n all (log of side last w) r held way = absurd held

  passed_turned : (n : ℤ) (all es now : Entries) (i : ℕ) → ArePassed n all zero es now → IsSoAt i (IsHeldOf h x) es → ArePassed n all zero (turned_at i comes es) (turned_at i comes now)
  passed_turned n all [] now i are held = absurd held
  passed_turned n all (e ∷ es) [] i are held = absurd are
  passed_turned n all (e ∷ es) (r ∷ rest) zero are held = (are.0, turned_way n all e.1 r.1 held are.1, are.2)
  passed_turned n all (e ∷ es) (r ∷ rest) (suc i) are held = (are.0, are.1, passed_turned n all es rest i are.2 held)

  -- the rows come to their relvar once its log has them
  pub passed_then : (n m : ℤ) (all es held now last : Entries) (i : ℕ) → turned_at i (refilled_relvar h) held ≡ es → IsSoAt i (IsHeldOf h x) held → ArePassed n all zero held now
      → last ≡ turned_at i comes now → all ≡ renewed_at i x es → n ≡ m → ArePassed m all zero all last
  passed_then n m all es held now last i back own are is all_is same =
      let before : turned_at i comes held ≡ all = sym (turned_twice held i (renewed_relvar x) (refilled_relvar h)) ∙ (ap (turned_at i (renewed_relvar x)) back ∙ sym all_is) in
      subst (λ (k : ℤ). ArePassed k all zero all last) same
      (subst (λ (z : Entries). ArePassed n all zero all z) (sym is)
      (subst (λ (z : Entries). ArePassed n all zero z (turned_at i comes now)) before (passed_turned n all held now i are own)))

  -- the log of the relvar is to change also while its rows are held
  refilled_change : (n : ℤ) (all : Entries) (name : Name) (come gone : Relation) (r : PlainRelvar) → IsChangeOf n all name come gone (refilled_relvar h r) → IsChangeOf n all name come gone r
  refilled_change n all name come gone (base value constraints) k = tt
  refilled_change n all name come gone (view t kind) k = tt
  refilled_change n all name come gone (log of side last w) k = k

  changing_held : (n : ℤ) (all : Entries) (name : Name) (come gone : Relation) (es : Entries) (i : ℕ) → AreChanging n all name come gone (turned_at i (refilled_relvar h) es) → AreChanging n all name come gone es
  changing_held n all name come gone [] i are = All-nil (λ r. IsChangeOf n all name come gone r.1)
  changing_held n all name come gone (e ∷ es) zero are =
      All-cons (λ r. IsChangeOf n all name come gone r.1) e es
      (refilled_change n all name come gone e.1 (All-head (λ r. IsChangeOf n all name come gone r.1) (e.0, refilled_relvar h e.1) es are))
      (All-tail (λ r. IsChangeOf n all name come gone r.1) (e.0, refilled_relvar h e.1) es are)
  changing_held n all name come gone (e ∷ es) (suc i) are =
      All-cons (λ r. IsChangeOf n all name come gone r.1) e es (All-head (λ r. IsChangeOf n all name come gone r.1) e (turned_at i (refilled_relvar h) es) are)
      (changing_held n all name come gone es i (All-tail (λ r. IsChangeOf n all name come gone r.1) e (turned_at i (refilled_relvar h) es) are))

  pub to_change_held : (n : ℤ) (all : Entries) (name : Name) (come gone : Relation) (held old : Entries) (i : ℕ) → turned_at i (refilled_relvar h) held ≡ old → AreChanging n all name come gone old → AreChanging n all name come gone held
  to_change_held n all name come gone held old i back are = changing_held n all name come gone held i (subst (AreChanging n all name come gone) (sym back) are)

  refilled_log : (name : Name) (r : PlainRelvar) → is_log_of name (refilled_relvar h r) ≡ is_log_of name r
  refilled_log name (base value constraints) = refl
  refilled_log name (view t kind) = refl
  refilled_log name (log of side last w) = refl

  logs_held : (name : Name) (es : Entries) (i : ℕ) → length (logs_of name (turned_at i (refilled_relvar h) es)) ≡ length (logs_of name es)
  logs_held name [] i = refl
  logs_held name (e ∷ es) zero = by (is_log_of name (refilled_relvar h e.1)) (is_log_of name e.1) (refilled_log name e.1)
    where
      by : (b d : Bool) → b ≡ d → length (cond b ((e.0, refilled_relvar h e.1) ∷ logs_of name es) (logs_of name es)) ≡ length (cond d (e ∷ logs_of name es) (logs_of name es))
      by true true q = refl
      by false false q = refl
      by true false q = absurd (cc)
      by false true q = absurd (cc)
  logs_held name (e ∷ es) (suc i) = by (is_log_of name e.1) (logs_held name es i)
    where
      by : (b : Bool) → length (logs_of name (turned_at i (refilled_relvar h) es)) ≡ length (logs_of name es)
          → length (cond b (e ∷ logs_of name (turned_at i (refilled_relvar h) es)) (logs_of name (turned_at i (refilled_relvar h) es))) ≡ length (cond b (e ∷ logs_of name es) (logs_of name es))
      by true ih = ap suc ih
      by false ih = ih

  pub once_held : (name : Name) (held old : Entries) (i : ℕ) → turned_at i (refilled_relvar h) held ≡ old → length (logs_of name old) ≤ 1 → length (logs_of name held) ≤ 1
  once_held name held old i back once =
      let same = logs_held name held i in
      let now = ap (λ (es : Entries). length (logs_of name es)) back in
      omega (arith, same, now, once)

-- ---- hashes

hashes_one : (n : ℤ) (all : Entries) (ms : List HashList) (e r : PlainRelvar) → IsOnTheWay n all e r → AreHashesIn ms e → AreHashesIn ms r
hashes_one n all ms (base value constraints) r way k = subst (AreHashesIn ms) (sym (elim way [ inl p ↦ p.0 | inr b ↦ b.is ])) k
hashes_one n all ms (view t kind) r way k = subst (AreHashesIn ms) (sym (elim way [ inl p ↦ p.0 | inr b ↦ b.is ])) tt
hashes_one n all ms (log of side last w) r way k = elim way [
  | inl p ↦ subst (AreHashesIn ms) (sym p.0) tt
  | inr b ↦ subst (AreHashesIn ms) (sym b.is) tt
]

hashes_passed : (n : ℤ) (all : Entries) (i : ℕ) (ms : List HashList) (es now : Entries) → ArePassed n all zero es now → AreHashesAt i ms es → AreHashesAt i ms now
hashes_passed n all i ms [] [] are h = h
hashes_passed n all i ms [] (r ∷ rest) are h = absurd are
hashes_passed n all i ms (e ∷ es) [] are h = absurd are
hashes_passed n all zero ms (e ∷ es) (r ∷ rest) are h = hashes_one n all ms e.1 r.1 are.1 h
hashes_passed n all (suc i) ms (e ∷ es) (r ∷ rest) are h = hashes_passed n all i ms es rest are.2 h

pub hashed_passed : (n : ℤ) (all : Entries) (m : Hashed) (es now : Entries) → ArePassed n all zero es now → AreHashed m es → AreHashed m now
hashed_passed n all m es now are h k d l = hashes_passed n all _ _ es now are (h k d l)

hashes_back : (n : ℤ) (all : Entries) (ms : List HashList) (e r : PlainRelvar) → IsOnTheWay n all e r → AreHashesIn ms r → AreHashesIn ms e
hashes_back n all ms (base value constraints) r way k = subst (AreHashesIn ms) (elim way [ inl p ↦ p.0 | inr b ↦ b.is ]) k
hashes_back n all ms (view t kind) r way k = tt
hashes_back n all ms (log of side last w) r way k = tt

hashes_before : (n : ℤ) (all : Entries) (i : ℕ) (ms : List HashList) (es now : Entries) → ArePassed n all zero es now → AreHashesAt i ms now → AreHashesAt i ms es
hashes_before n all i ms [] now are h = tt
hashes_before n all i ms (e ∷ es) [] are h = absurd are
hashes_before n all zero ms (e ∷ es) (r ∷ rest) are h = hashes_back n all ms e.1 r.1 are.1 h
hashes_before n all (suc i) ms (e ∷ es) (r ∷ rest) are h = hashes_before n all i ms es rest are.2 h

-- all logs are brought to the statement
pub hashed_brought : (n : ℤ) (m : Hashed) (all now last : Entries) → ArePassed n all zero all now → last ≡ turned_logs all → AreHashed m now → AreHashed m last
hashed_brought n m all now last are is h =
    subst (AreHashed m) (sym is) (hashed_turned m all (λ k d l. hashes_before n all _ _ all now are (h k d l)))

-- ---- the change

module _ (s : State) (c : InPlace) (kept : IsKept s) (is : IsInPlace s c) where
  pub may_exchange : IsExchangeAt c.at c.rows s.relvars
  may_exchange = is_exchange_at s.relvars c.name c.at is.value is.constraints c.rows is.first is.may.0 is.may.1

  pub log_to_change : AreInStep s.accepted s.relvars → AreChanging s.accepted (changed_in_place c s.relvars) c.name c.differ.come c.differ.gone s.relvars
  log_to_change step =
      subst (λ (z : Entries). AreChanging s.accepted z c.name c.differ.come c.differ.gone s.relvars)
      (sym (renewed_given s.relvars c.name c.at is.value is.constraints c.rows (relvars_differ s kept.well_made) is.first))
      (to_change s c.name c.at is.value is.constraints (renewed is.value c.rows) c.differ.come c.differ.gone (length c.rows.come.rows + length c.rows.gone.rows) kept step is.first (is.differ.come ∙ is.may.0)
      (is.differ.gone ∙ is.gone) is.differ.fewer is.differ.exact (sym is.differ.same) is.fits)

  -- the state with it keeps what a database keeps
  pub in_place_kept : (list : List PlainAssignment) → after_assignments s.relvars list ≡ Ok (changed_in_place c s.relvars) → first_rule_broken (changed_in_place c s.relvars) s.rules ≡ None
      → IsKept (record s { relvars = changed_in_place c s.relvars })
  in_place_kept list meant none =
      assigned_kept s (changed_in_place c s.relvars) list kept (bare_exchanged (Rows c.at c.rows ∷ []) s.relvars (may_exchange, tt, tt)) meant none
