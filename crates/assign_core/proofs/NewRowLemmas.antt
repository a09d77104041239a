-- Rows that come to a base relvar as they are.
--     headings_same      headings that are compared
--     sum_fits      rows that there is room for are not too many
--     readied_so      what is told of the base relvar that is found
--     is_new      the value that the relvar gets
--     brought_of, paid_of      what is meant, and what it takes, wherever the rows are written
--     refused_so, entered, refused_rule, entered_keeps      what becomes of the state
use Rattle.std.proofs.Common.{◌≡◌, ℕ, ◌+◌, ◌≤◌, Bool, true, List, [], ◌∷◌, length, refl, sym, ap, ap₂, subst, ◌∙◌, arith, Option, Some, Result, Ok, Err}
use Rattle.std.specs.Prelude.{◌&&◌}
use Rattle.std.specs.Cmp.Lexicographic.{pointwise}
use Rattle.std.specs.Str.{bytes_eq}
use Rattle.std.proofs.lemmas.Slice.Eq.{bytes_eq-Decides}
use Rattle.base_core.proofs.BoolLemmas.{and_left, and_right}
use Rattle.base_core.specs.Outcomes.{then_give}
use Rattle.point_core.specs.Faults.{OrFault}
use Rattle.point_core.specs.declared.fault.Place.{Place}
use Rattle.point_core.proofs.OrderLemmas.{type_eq_decides}
use Rattle.value_core.specs.contracts.kind.KindPartialEq.TheImpl.{eq-value as derived_kind_eq}
use Rattle.value_core.specs.declared.constraint.Constraint.{Constraint}
use Rattle.value_core.specs.declared.kind.Kind.{Kind}
use Rattle.value_core.specs.declared.kind.Kind.TheVariants.{Truth, Char, Point, Span}
use Rattle.value_core.specs.declared.refuse.Refuse.{Refuse}
use Rattle.value_core.specs.declared.refuse.Refuse.TheVariants.{Plain, At, Broken, Memory}
use Rattle.value_core.specs.Values.{Name, Heading, Row, Relation, most_rows, rows_of}
use Rattle.relation_core.specs.Answers.{under}
use Rattle.tree_core.specs.Relvars.{PlainRelvar, base, Entries, Rules, State, relvar_named}
use Rattle.meaning_core.specs.Meanings.{RowsMeant, limited}
use Rattle.meaning_core.proofs.EntryLemmas.{named_first}
use Rattle.meaning_core.proofs.LimitLemmas.{limited_few}
use Rattle.algebra_core.specs.Costs.{paid}
use Rattle.assign_core.specs.declared.exchange.Ready.{Ready}
use Rattle.assign_core.specs.Arrivals.{entries_then, IsArrival, IsBaseFor}
use Rattle.assign_core.specs.Assignments.{kept_or_refused, of_values, unless_broken, unless_rule_broken, with_target, IsRefusedFor}
use Rattle.assign_core.specs.Breaches.{first_rule_broken}
use Rattle.assign_core.specs.Costs.{constraints_cost, constraints_cost_of, rules_cost, rules_cost_of}
use Rattle.assign_core.specs.Databases.{IsKept, IsSettled}
use Rattle.assign_core.specs.Insertions.{sum_in, united_in}
use Rattle.assign_core.specs.NewRows.{Arriving, replacing, joining, rows_then, arriving_cost, joined_cost, values_brought, IsBrought, IsGivenTo, IsPaidFor, IsToldOf}
use Rattle.assign_core.specs.Targets.{entries_before, entries_with}
use Rattle.assign_core.specs.Exchanges.{with_ready, IsReady}
use Rattle.assign_core.specs.declared.target.Target.{Target}
use Rattle.assign_core.proofs.AssignedLemmas.{is_fine}
use Rattle.assign_core.proofs.RenewedLemmas.{settled_made}
use Rattle.assign_core.proofs.RuleLemmas.{broken_told, rules_hold}

-- ---- headings

abbrev pub kind_eq : Kind → Kind → Bool
kind_eq = derived_kind_eq.it

kind_same : (j k : Kind) → kind_eq j k ≡ true → j ≡ k
kind_same Truth Truth h = refl
kind_same Char Char h = refl
kind_same (Point t) (Point u) h = ap Point ((type_eq_decides t u).0 h)
kind_same (Span t) (Span u) h = ap Span ((type_eq_decides t u).0 h)
kind_same Truth Char h = absurd (cc)
kind_same Truth (Point u) h = absurd (cc)
kind_same Truth (Span u) h = absurd (cc)
kind_same Char Truth h = absurd (cc)
kind_same Char (Point u) h = absurd (cc)
kind_same Char (Span u) h = absurd (cc)
kind_same (Point t) Truth h = absurd (cc)
kind_same (Point t) Char h = absurd (cc)
kind_same (Point t) (Span u) h = absurd (cc)
kind_same (Span t) Truth h = absurd (cc)
kind_same (Span t) Char h = absurd (cc)
kind_same (Span t) (Point u) h = absurd (cc)

abbrev pub attribute_eq : Name × Kind → Name × Kind → Bool
attribute_eq a b = bytes_eq a.0 b.0 && kind_eq a.1 b.1

attribute_same : (a b : Name × Kind) → attribute_eq a b ≡ true → a ≡ b
attribute_same a b h =
    let name : a.0 ≡ b.0 = (bytes_eq-Decides a.0 b.0).0 (and_left (bytes_eq a.0 b.0) (kind_eq a.1 b.1) h) in
    let kind : a.1 ≡ b.1 = kind_same a.1 b.1 (and_right (bytes_eq a.0 b.0) (kind_eq a.1 b.1) h) in
    λ i. (name i, kind i)

pub headings_same : (a b : Heading) → pointwise attribute_eq a b ≡ true → a ≡ b
headings_same [] [] h = refl
headings_same [] (y ∷ ys) h = absurd (cc)
headings_same (x ∷ xs) [] h = absurd (cc)
headings_same (x ∷ xs) (y ∷ ys) h =
    let here : attribute_eq x y ≡ true = and_left (attribute_eq x y) (pointwise attribute_eq xs ys) h in
    let rest : pointwise attribute_eq xs ys ≡ true = and_right (attribute_eq x y) (pointwise attribute_eq xs ys) h in
    ap₂ (λ (z : Name × Kind) (zs : Heading). z ∷ zs) (attribute_same x y here) (headings_same xs ys rest)

-- ---- what stands ready

-- rows that there is room for are not too many
pub sum_fits : (t : Target) (list : Option (List ℕ)) (rows : Relation) → rows.heading ≡ t.value.now.heading → length (united_in list t.value.now.rows rows.rows) ≤ most_rows
    → sum_in t list rows.rows ≡ Ok (entries_then (entries_before t) (joining list) t.name.now t.value.now.rows rows)
sum_fits t list rows headed fits =
    ap (λ (m : RowsMeant). entries_with t (under t.value.now.heading m)) (limited_few t.place (united_in list t.value.now.rows rows.rows) fits)
    ∙ ap (λ (h : Heading). Ok (with_target (entries_before t) t.name.now (record { heading = h; rows = united_in list t.value.now.rows rows.rows }))) (sym headed)

-- what is told of the base relvar that is found
pub readied_so : (s : State) (name : Name) (way : Arriving) (rows : Relation) (at : ℕ) (value : Relation) (k : IsBaseFor s.relvars name way rows at value)
    → (P : Result Entries Refuse → Type 0) (before after : ℕ) → P (kept_or_refused (entries_then s.relvars way name value.rows rows))
    → after ≤ before + (joined_cost way value.rows rows.rows + constraints_cost (entries_then s.relvars way name value.rows rows)) → IsArrival s way name rows P before after
readied_so s name way rows at value k P before after told cost = record {
  base = record { old = value; constraints = k.constraints; there = named_first s.relvars name at (base value k.constraints) k.first; headed = k.headed; relation = k.relation };
  few = k.few;
  fits = k.fits;
  told = told;
  cost = cost;
}

-- ---- what is meant

values_so : (es : Entries) (way : Arriving) (at there : Place) (name : Name) (old rows : Relation) (given : List Row) → rows.heading ≡ old.heading → rows.rows ≡ rows_of given → length rows.rows ≤ most_rows
    → length (rows_then way old.rows rows.rows) ≤ most_rows → values_brought es way at there name old given ≡ Ok (entries_then es way name old.rows rows)
values_so es replacing at there name old rows given headed are few fits =
    ap (λ (m : RowsMeant). then_give (under old.heading m) (λ v. Ok (with_target es name v))) (ap (limited there) (sym are) ∙ limited_few there rows.rows few)
    ∙ ap (λ (h : Heading). Ok (with_target es name (record { heading = h; rows = rows.rows }))) (sym headed)
values_so es (joining list) at there name old rows given headed are few fits =
    ap (λ (m : RowsMeant). then_give (then_give m (λ new. under old.heading (limited at (united_in list old.rows new)))) (λ v. Ok (with_target es name v))) (ap (limited there) (sym are) ∙ limited_few there rows.rows few)
    ∙ (ap (λ (m : RowsMeant). then_give (under old.heading m) (λ v. Ok (with_target es name v))) (limited_few at (united_in list old.rows rows.rows) fits)
    ∙ ap (λ (h : Heading). Ok (with_target es name (record { heading = h; rows = united_in list old.rows rows.rows }))) (sym headed))

same_base : (o : Option PlainRelvar) (v w : Relation) (cs ds : List Constraint) → o ≡ Some (base v cs) → o ≡ Some (base w ds) → v ≡ w
same_base o v w cs ds e f = cc

module _ (s : State) (way : Arriving) (name : Name) (rows : Relation) (P : Result Entries Refuse → Type 0) (before mid : ℕ) (k : IsArrival s way name rows P before mid) where
  abbrev becoming : Entries
  becoming = entries_then s.relvars way name k.base.old.rows rows

  same_old : (old : Relation) (given : List Row) → IsGivenTo s name rows old given → k.base.old ≡ old
  same_old old given g = same_base (relvar_named s.relvars name) k.base.old old k.base.constraints g.constraints k.base.there g.there

  pub is_new : (old : Relation) (at there : Place) (given : List Row) → IsGivenTo s name rows old given → values_brought s.relvars way at there name old given ≡ Ok becoming
  is_new old at there given g =
      subst (λ (v : Relation). values_brought s.relvars way at there name v given ≡ Ok becoming) (same_old old given g) (values_so s.relvars way at there name k.base.old rows given k.base.headed g.are k.few k.fits)

  pub brought_of : (result : Result Bool Refuse) (now : State) → IsBrought result s now (unless_rule_broken s.rules (kept_or_refused becoming)) → IsToldOf way result s now name rows
  brought_of result now told = λ old at there given g.
      subst (λ (v : OrFault Entries). IsBrought result s now (unless_rule_broken s.rules (of_values v))) (sym (is_new old at there given g)) told

  pub paid_of : (after : ℕ) → after ≤ mid + rules_cost_of s.rules (kept_or_refused becoming) → IsPaidFor way s name rows before after
  paid_of after less = λ old at there given g.
      let both : arriving_cost way there old given ≡ joined_cost way k.base.old.rows rows.rows =
      ap (λ (m : RowsMeant). paid m (joined_cost way old.rows)) (ap (limited there) (sym g.are) ∙ limited_few there rows.rows k.few)
      ∙ ap (λ (v : Relation). joined_cost way v.rows rows.rows) (sym (same_old old given g)) in
      let ready = k.cost in
      let all : after ≤ before + (arriving_cost way there old given + (constraints_cost becoming + rules_cost_of s.rules (kept_or_refused becoming))) = omega (arith, less, ready, both) in
      subst (λ (v : OrFault Entries). after ≤ before + (arriving_cost way there old given + (constraints_cost_of v + rules_cost_of s.rules (of_values v)))) (sym (is_new old at there given g)) all

-- ---- what becomes of the state

pub refused_so : (refuse : Refuse) (rules : Rules) (new : Entries) → IsRefusedFor refuse (kept_or_refused new) → IsRefusedFor refuse (unless_rule_broken rules (kept_or_refused new))
refused_so (Plain code) rules new e = ap (unless_rule_broken rules) e
refused_so (At fault) rules new e = ap (unless_rule_broken rules) e
refused_so (Broken code relvar number) rules new e = ap (unless_rule_broken rules) e
refused_so Memory rules new e = tt

module _ (s now : State) (meant : Result Entries Refuse) (new : Entries) (admitted : meant ≡ Ok new) where
  pub refused_rule : (refuse : Refuse) → IsSettled (Err refuse) s now new → IsBrought (Err refuse) s now (unless_rule_broken s.rules meant)
  refused_rule refuse told = (
    subst (λ (r : Result Entries Refuse). IsRefusedFor refuse r) (sym (ap (unless_rule_broken s.rules) admitted)) (broken_told refuse new (first_rule_broken new s.rules) told.0),
    told.1,
  )

  pub entered : IsSettled (Ok tt) s now new → IsBrought (Ok true) s now (unless_rule_broken s.rules meant)
  entered told = (
    ap (unless_rule_broken s.rules) admitted ∙ (ap (unless_broken new) told.0 ∙ ap (λ (t : State). Ok t.relvars) (sym told.1)),
    told.1 ∙ ap (λ (t : State). record s { relvars = t.relvars }) (sym told.1),
  )

  pub rules_price : rules_cost_of s.rules meant ≡ rules_cost new s.rules
  rules_price = ap (rules_cost_of s.rules) admitted

-- what a database keeps
pub entered_keeps : (result : Result (Unit {0}) Refuse) (s now : State) (r : Ready) (new : Entries) → IsKept s → IsReady r s.relvars → kept_or_refused new ≡ Ok (with_ready r s.relvars)
    → IsSettled result s now (with_ready r s.relvars) → IsKept now
entered_keeps (Ok done) s now r new kept ready admitted told =
    let fine = is_fine (Ok new) (with_ready r s.relvars) admitted in
    subst IsKept (sym told.1) (record {
      well_made = settled_made s r kept ready;
      holds = fine.1;
      few = fine.0;
      rules = rules_hold (with_ready r s.relvars) s.rules told.0;
    })
entered_keeps (Err refuse) s now r new kept ready admitted told = subst IsKept (sym told.1) kept
