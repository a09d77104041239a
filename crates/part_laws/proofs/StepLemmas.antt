-- The next rows of a relvar are brought to a database so far, and are refused by nothing.
--     loaded-unbroken, loaded-in-all      what a database keeps, it keeps so far
--     whole-if-own      as many rows as a statement has at most, where they may refer to each other
--     some-a-statement      a statement has some
--     brought-next      the law: with the next rows it is the database so far, rows and constraints asked
use Rattle.std.proofs.Common.{◌≡◌, ◌⊎◌, inr, ℕ, zero, suc, ◌+◌, ◌≤◌, Bool, true, false, cond, List, [], ◌∷◌, take, drop, length, sym, ap, ap₂, ◌∙◌, subst, arith, None, Ok, Err, IsTrue}
use Rattle.std.specs.List.{list_any}
use Rattle.std.proofs.lemmas.Bool.{le-leb, true≢false}
use Rattle.std.proofs.lemmas.List.{length-take, length-drop}
use Rattle.base_core.specs.Outcomes.{then_give}
use Rattle.point_core.specs.declared.fault.Code.TheVariants.{E46}
use Rattle.point_core.specs.declared.fault.Place.{Place}
use Rattle.point_core.specs.Faults.{OrFault}
use Rattle.relation_core.specs.Answers.{under}
use Rattle.relation_core.specs.Operators.{united}
use Rattle.relation_core.proofs.FilterLemmas.{rows_ascend, rows_of-ascending}
use Rattle.value_core.specs.declared.constraint.Constraint.{Constraint}
use Rattle.value_core.specs.declared.refuse.Refuse.TheVariants.{Plain}
use Rattle.value_core.specs.Limits.{most_rows_in_all}
use Rattle.value_core.specs.Values.{Name, Row, Relation, IsRelation, rows_of, most_rows}
use Rattle.tree_core.specs.Relvars.{PlainRelvar, base, Entries, State}
use Rattle.meaning_core.specs.Meanings.{limited}
use Rattle.meaning_core.proofs.LimitLemmas.{limited_few}
use Rattle.dump_core.specs.Inserts.{references, rows_a_statement}
use Rattle.assign_core.specs.Assignments.{with_target, unless_broken, kept_or_refused, of_values, unless_rule_broken}
use Rattle.assign_core.specs.Breaches.{rows_of_all, first_broken}
use Rattle.assign_core.specs.NewRows.{joining, value_brought, values_brought, brought, brought_in}
use Rattle.part_laws.specs.Parts.{first_of_value, loaded, IsAt, MayHave, IsWholeIfOwn, IsLoadable}
use Rattle.part_laws.proofs.LoadedLemmas.{loaded-next, loaded-few, relation-at}
use Rattle.part_laws.proofs.RowLemmas.{next-ascend, part-united}
use Rattle.part_laws.proofs.UnbrokenLemmas.{loaded-unbroken-where}

-- ---- what a database keeps

pub loaded-unbroken : (es : Entries) (i n : ℕ) → IsLoadable es → IsWholeIfOwn es i n → first_broken (loaded i n es) ≡ None
loaded-unbroken es i n is may = loaded-unbroken-where es i n is.different is.constrained is.relations may is.unbroken

pub loaded-in-all : (es : Entries) (i n : ℕ) → IsLoadable es → rows_of_all (loaded i n es) ≤ most_rows_in_all
loaded-in-all es i n is = let less = loaded-few i n es in let few = is.few in omega (arith, less, few)

-- ---- rows that may refer to each other

all-at-once : (b : Bool) (n long most : ℕ) → IsTrue b → long ≤ most → (n + cond b most 100 ≡ 0) ⊎ (long ≤ n + cond b most 100)
all-at-once true n long most t h = inr (omega (arith, h))
all-at-once false n long most t h = absurd (true≢false (sym t))

pub whole-if-own : (es : Entries) (i n : ℕ) (name : Name) (v : Relation) (c : List Constraint) → IsAt es i (name, base v c) → length v.rows ≤ most_rows
    → IsWholeIfOwn es i (n + rows_a_statement name c)
whole-if-own [] i n name v c at h = absurd at
whole-if-own (e ∷ es) zero n name v c at h =
    subst (λ (x : Name × PlainRelvar). MayHave x.0 (n + rows_a_statement name c) x.1) (sym at) (λ t. all-at-once (list_any (references name) c) n (length v.rows) most_rows t h)
whole-if-own (e ∷ es) (suc i) n name v c at h = whole-if-own es i n name v c at h

pub some-a-statement : (name : Name) (c : List Constraint) → 1 ≤ rows_a_statement name c
some-a-statement name c =
    elim (list_any (references name) c) as (λ b. 1 ≤ cond b most_rows 100) [
      | true ↦ omega arith
      | false ↦ omega arith
    ]

-- ---- the rows of both

module _ (at there : Place) (n m : ℕ) (v : Relation) (is : IsRelation v) where
  abbrev next : List Row
  next = take m (drop n v.rows)

  next-limited : limited there (rows_of next) ≡ Ok next
  next-limited =
      let less : length next ≤ most_rows = let few = is.few in omega (arith, length-take m (drop n v.rows), length-drop n v.rows, few) in
      ap (limited there) (rows_of-ascending next (next-ascend n m v.rows (rows_ascend v is))) ∙ limited_few there next less

  both-limited : limited at (united (take n v.rows) next) ≡ Ok (take (n + m) v.rows)
  both-limited =
      let up = rows_ascend v is in
      let same = ap (united (take n v.rows)) (sym (rows_of-ascending next (next-ascend n m v.rows up))) ∙ part-united n m v.rows up in
      let less : length (take (n + m) v.rows) ≤ most_rows = let few = is.few in omega (arith, length-take (n + m) v.rows, few) in
      ap (limited at) same ∙ limited_few at (take (n + m) v.rows) less

  value-next : value_brought (joining None) at there (first_of_value n v) next ≡ Ok (first_of_value (n + m) v)
  value-next =
      ap (λ (r : OrFault (List Row)). then_give r (λ new. under v.heading (limited at (united (take n v.rows) new)))) next-limited ∙ ap (under v.heading) both-limited

-- ---- the database

kept : (new : Entries) → rows_of_all new ≤ most_rows_in_all → first_broken new ≡ None → kept_or_refused new ≡ Ok new
kept new few e =
    ap (λ (b : Bool). cond b (unless_broken new (first_broken new)) (Err (Plain E46))) (le-leb (rows_of_all new) most_rows_in_all few)
    ∙ ap (unless_broken new) e

pub brought-next : (es : Entries) (i n m : ℕ) (name : Name) (v : Relation) (c : List Constraint) → IsLoadable es → IsAt es i (name, base v c) → IsWholeIfOwn es i (n + m)
    → (s : State) → s.relvars ≡ loaded i n es → s.rules ≡ [] → (at there : Place)
    → brought_in s (joining None) at there name (first_of_value n v) (take m (drop n v.rows)) ≡ Ok (loaded i (n + m) es)
brought-next es i n m name v c is stands may s now none at there =
    let relation = relation-at es i name v c is.relations stands in
    let value = value-next at there n m v relation in
    let next : with_target s.relvars name (first_of_value (n + m) v) ≡ loaded i (n + m) es =
    ap (λ (l : Entries). with_target l name (first_of_value (n + m) v)) now ∙ loaded-next es i n (n + m) name v c is.different stands in
    let values : values_brought s.relvars (joining None) at there name (first_of_value n v) (take m (drop n v.rows)) ≡ Ok (loaded i (n + m) es) =
    ap (λ (r : OrFault Relation). then_give r (λ value. Ok (with_target s.relvars name value))) value ∙ ap (λ (l : Entries). Ok l) next in
    let all : brought s.relvars (joining None) at there name (first_of_value n v) (take m (drop n v.rows)) ≡ Ok (loaded i (n + m) es) =
    ap of_values values ∙ kept (loaded i (n + m) es) (loaded-in-all es i (n + m) is) (loaded-unbroken es i (n + m) is may) in
    ap₂ unless_rule_broken none all
