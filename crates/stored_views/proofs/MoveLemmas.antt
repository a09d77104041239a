-- What a stored view gains and loses where its operands get new values.
--     values_are      the values of the operands
--     moved_fits, moved_heads, moved_view, moved_told, moved_cost      what the call asks that tells it, what it tells, and what it takes
--     no_items, stays, exchanged_value      the rows of the view then
--     next_cost, takes_put, idle_takes      what is taken entry by entry
use Rattle.std.proofs.Common.{◌≡◌, ℕ, zero, suc, ◌+◌, ◌≤◌, Bool, true, false, cond, nat_eq, nat_le, List, [], ◌∷◌, drop, map, length, refl, sym, ap, ◌∙◌, subst, arith, Option, Some, None, Result, Ok, Err}
use Rattle.std.specs.Prelude.{slice_get, IfSome, MatchResult}
use Rattle.std.proofs.lemmas.Bool.Decides.{nat_tests}
use Rattle.std.proofs.lemmas.List.{append-nil}
use Rattle.base_core.proofs.SetLemmas.{Ascends}
use Rattle.point_core.specs.Faults.{fault}
use Rattle.point_core.specs.declared.fault.Code.TheVariants.{E35}
use Rattle.point_core.specs.declared.fault.Place.{Place}
use Rattle.value_core.specs.Values.{Name, Row, Relation, IsRelation, row_cmp, rows_of, most_rows}
use Rattle.value_core.specs.declared.refuse.RowsRefuse.{RowsRefuse}
use Rattle.value_core.specs.declared.refuse.RowsRefuse.TheVariants.{TooMany, Memory}
use Rattle.relation_core.specs.Answers.{IsRefusal}
use Rattle.relation_core.specs.Operators.{united, subtracted}
use Rattle.relation_core.proofs.FilterLemmas.{filter_all, rows_ascend, rows_of-ascending}
use Rattle.tree_core.specs.declared.relvar.Relvar.{Relvar}
use Rattle.tree_core.specs.Relvars.{Entries, read_entry, read_relvar}
use Rattle.tree_core.specs.Trees.{Tree, named, literal, infix_of, project, rename, restrict, extend, summarize, pack, unpack, using}
use Rattle.meaning_core.specs.Meanings.{limited, meaning_in}
use Rattle.meaning_core.specs.StoredRows.{IsValueOf, IsValueThere}
use Rattle.meaning_core.specs.Typing.{Headings, IsTypedTree}
use Rattle.meaning_core.proofs.LimitLemmas.{limited_few}
use Rattle.relvar_logs.specs.Changes.{IsSoAt}
use Rattle.relvar_logs.proofs.EntryLemmas.{so_put}
use Rattle.kept_views.specs.declared.group_moves.Moved.{Moved}
use Rattle.kept_views.specs.declared.rule.KeptRule.{KeptRule}
use Rattle.kept_views.specs.Kept.{kept_heading, kept_rows, Fits, IsMoved}
use Rattle.kept_views.specs.Touched.{groups_cost, touched_keys, AreRelations, HaveOneHeading}
use Rattle.kept_views.proofs.MovedLemmas.{view_after}
use Rattle.kept_views.proofs.TouchedLemmas.{kept_up}
use Rattle.stored_views.specs.Moves.{value_or_none, operand_value, left_of_part, right_of_part, left_value, right_value, move_cost, move_cost_if, moves_among, TakesSo}
use Rattle.stored_views.specs.NextRows.{newer, IsMoveOf}
use Rattle.stored_views.specs.Operands.{IsValue, ArePartValues, AreValues}
use Rattle.stored_views.specs.Rules.{rule_for, place_for, IsUnmade}
use Rattle.stored_views.specs.Stored.{stored_tree}
use Rattle.stored_views.proofs.MadeLemmas.{limited_many, made_fits}
use Rattle.stored_views.proofs.MeantLemmas.{IsRuleOf, rule_means}
use Rattle.stored_views.proofs.ValueLemmas.{value_headed}

-- ---- the operands

operand_is : (all : Entries) (t : Tree) (x : Relation) → IsValue all t x → operand_value all t ≡ x
operand_is all (named place h name) x is = ap value_or_none is.0
operand_is all (literal place h tuples) x is = absurd is
operand_is all (infix_of place h word l r) x is = absurd is
operand_is all (project place h kept t) x is = absurd is
operand_is all (rename place h names t) x is = absurd is
operand_is all (restrict place h c t) x is = absurd is
operand_is all (extend place h sets t) x is = absurd is
operand_is all (summarize place h by aggregates t) x is = absurd is
operand_is all (pack place h commalist t) x is = absurd is
operand_is all (unpack place h commalist t) x is = absurd is
operand_is all (using place h commalist t) x is = absurd is

parts_are : (all : Entries) (t : Tree) (left : Relation) (right : Option Relation) → ArePartValues all t left right → (left_of_part all t ≡ left) × (right_of_part all t ≡ right)
parts_are all (infix_of place h word l r) left None are = absurd are
parts_are all (infix_of place h word l r) left (Some right) are = (operand_is all l left are.0, ap Some (operand_is all r right are.1))
parts_are all (project place h kept t) left None are = (operand_is all t left are, refl)
parts_are all (project place h kept t) left (Some right) are = absurd are
parts_are all (named place h name) left right are = absurd are
parts_are all (literal place h tuples) left right are = absurd are
parts_are all (rename place h names t) left right are = absurd are
parts_are all (restrict place h c t) left right are = absurd are
parts_are all (extend place h sets t) left right are = absurd are
parts_are all (summarize place h by aggregates t) left right are = absurd are
parts_are all (pack place h commalist t) left right are = absurd are
parts_are all (unpack place h commalist t) left right are = absurd are
parts_are all (using place h commalist t) left right are = absurd are

pub values_are : (all : Entries) (t : Tree) (left : Relation) (right : Option Relation) → AreValues all t left right → (left_value all t ≡ left) × (right_value all t ≡ right)
values_are all (using place h commalist t) left right are = parts_are all t left right are
values_are all (pack place h commalist t) left None are = (operand_is all t left are, refl)
values_are all (pack place h commalist t) left (Some right) are = absurd are
values_are all (named place h name) left right are = absurd are
values_are all (literal place h tuples) left right are = absurd are
values_are all (infix_of place h word l r) left right are = absurd are
values_are all (project place h kept t) left right are = absurd are
values_are all (rename place h names t) left right are = absurd are
values_are all (restrict place h c t) left right are = absurd are
values_are all (extend place h sets t) left right are = absurd are
values_are all (summarize place h by aggregates t) left right are = absurd are
values_are all (unpack place h commalist t) left right are = absurd are

-- an operand has one heading
one_heading : (a b : Entries) (t : Tree) (x y : Relation) → IsValue a t x → IsValue b t y → x.heading ≡ y.heading
one_heading a b t x y v w = value_headed a t x v ∙ sym (value_headed b t y w)

module _ (a b : Entries) where
  part_headings : (t : Tree) (left new_left : Relation) (right new_right : Option Relation) → ArePartValues a t left right → ArePartValues b t new_left new_right
      → (left.heading ≡ new_left.heading) × HaveOneHeading right new_right
  part_headings (infix_of place h word l r) left new_left None new_right v w = absurd v
  part_headings (infix_of place h word l r) left new_left (Some right) None v w = absurd w
  part_headings (infix_of place h word l r) left new_left (Some right) (Some new_right) v w = (one_heading a b l left new_left v.0 w.0, one_heading a b r right new_right v.1 w.1)
  part_headings (project place h kept t) left new_left (Some right) new_right v w = absurd v
  part_headings (project place h kept t) left new_left None (Some new_right) v w = absurd w
  part_headings (project place h kept t) left new_left None None v w = (one_heading a b t left new_left v w, tt)
  part_headings (named place h name) left new_left right new_right v w = absurd v
  part_headings (literal place h tuples) left new_left right new_right v w = absurd v
  part_headings (rename place h names t) left new_left right new_right v w = absurd v
  part_headings (restrict place h c t) left new_left right new_right v w = absurd v
  part_headings (extend place h sets t) left new_left right new_right v w = absurd v
  part_headings (summarize place h by aggregates t) left new_left right new_right v w = absurd v
  part_headings (pack place h commalist t) left new_left right new_right v w = absurd v
  part_headings (unpack place h commalist t) left new_left right new_right v w = absurd v
  part_headings (using place h commalist t) left new_left right new_right v w = absurd v

  pub moved_heads : (t : Tree) (left new_left : Relation) (right new_right : Option Relation) → AreValues a t left right → AreValues b t new_left new_right
      → (left.heading ≡ new_left.heading) × HaveOneHeading right new_right
  moved_heads (using place h commalist t) left new_left right new_right v w = part_headings t left new_left right new_right v w
  moved_heads (pack place h commalist t) left new_left (Some right) new_right v w = absurd v
  moved_heads (pack place h commalist t) left new_left None (Some new_right) v w = absurd w
  moved_heads (pack place h commalist t) left new_left None None v w = (one_heading a b t left new_left v w, tt)
  moved_heads (named place h name) left new_left right new_right v w = absurd v
  moved_heads (literal place h tuples) left new_left right new_right v w = absurd v
  moved_heads (infix_of place h word l r) left new_left right new_right v w = absurd v
  moved_heads (project place h kept t) left new_left right new_right v w = absurd v
  moved_heads (rename place h names t) left new_left right new_right v w = absurd v
  moved_heads (restrict place h c t) left new_left right new_right v w = absurd v
  moved_heads (extend place h sets t) left new_left right new_right v w = absurd v
  moved_heads (summarize place h by aggregates t) left new_left right new_right v w = absurd v
  moved_heads (unpack place h commalist t) left new_left right new_right v w = absurd v

-- ---- what is gained and lost

within_limit : (place : Place) (rows value : List Row) → limited place rows ≡ Ok value → value ≡ rows
within_limit place rows value e = by (nat_le (length rows) most_rows) e
  where
    by : (b : Bool) → cond b (Ok rows) (Err (fault place E35)) ≡ Ok value → value ≡ rows
    by true f = cc
    by false f = absurd (cc)

relations : (left : Relation) (right : Option Relation) → IsRelation left → IfSome right (λ r. IsRelation r) → AreRelations left right
relations left None il ir = il
relations left (Some right) il ir = (il, ir)

module _ (sizes : List ℕ) (headings : Headings) (t : Tree) (typed : IsTypedTree sizes headings t) (rule : KeptRule) (same : rule ≡ rule_for t) where
  module _ (all : Entries) (left : Relation) (right : Option Relation) (il : IsRelation left) (ir : IfSome right (λ r. IsRelation r)) (values : AreValues all t left right) where
    is-rule : IsRuleOf all t left right
    is-rule = rule_means sizes headings all t left right il ir typed values

    pub moved_fits : Fits rule left right
    moved_fits = made_fits all t left right rule same is-rule

    pub is-meant : meaning_in all t ≡ limited (place_for t) (kept_rows rule left right)
    is-meant = is-rule.meant ∙ ap (λ (k : KeptRule). limited (place_for t) (kept_rows k left right)) (sym same)

    pub is-up : Ascends row_cmp (kept_rows rule left right)
    is-up = kept_up rule left right (relations left right il ir)

    -- the rows that the view had
    pub moved_view : (view : Relation) → IsValueOf all t view → (view.heading ≡ kept_heading rule left right) × (view.rows ≡ kept_rows rule left right)
    moved_view view is = (
      is.headed ∙ (sym is-rule.headed ∙ ap (λ (k : KeptRule). kept_heading k left right) (sym same)),
      within_limit (place_for t) (kept_rows rule left right) view.rows (sym is-meant ∙ is.means),
    )

    -- the rows that it has then
    pub moved_told : (view : Relation) → Ascends row_cmp view.rows → (result : Result Moved RowsRefuse) → MatchResult result (IsMoved view.heading view.rows (kept_rows rule left right)) (IsRefusal (kept_rows rule left right))
        → MatchResult result (IsMoveOf all t view) (IsUnmade t (meaning_in all t))
    moved_told view up (Ok m) h =
        let after = view_after view.heading view.rows (kept_rows rule left right) m up is-up h in
        record {
          means = is-meant ∙ (limited_few (place_for t) (kept_rows rule left right) h.few ∙ ap (λ (rows : List Row). Ok rows) (sym after));
          few = subst (λ (rows : List Row). length rows ≤ most_rows) (sym after) h.few;
          heading = h.come_heading;
        }
    moved_told view up (Err TooMany) h = is-meant ∙ limited_many (place_for t) (kept_rows rule left right) h
    moved_told view up (Err Memory) h = tt

    pub view_up : (view : Relation) → IsValueOf all t view → Ascends row_cmp view.rows
    view_up view is = subst (λ (rows : List Row). Ascends row_cmp rows) (sym (moved_view view is).1) is-up

  pub moved_cost : (before after : Entries) (left new_left : Relation) (right new_right : Option Relation) (old new : ℕ) → AreValues before t left right → AreValues after t new_left new_right
      → new ≤ old + groups_cost rule new_left new_right (touched_keys rule left right new_left new_right) → new ≤ old + move_cost before after t
  moved_cost before after left new_left right new_right old new v w h =
      let a = values_are before t left right v in
      let b = values_are after t new_left new_right w in
      subst (λ (n : ℕ). new ≤ old + n) (λ i. groups_cost (same i) (sym b.0 i) (sym b.1 i) (touched_keys (same i) (sym a.0 i) (sym a.1 i) (sym b.0 i) (sym b.1 i))) h

-- ---- the rows of the view

pub no_items : (rows : List Row) → nat_eq (length rows) 0 ≡ true → rows ≡ []
no_items [] e = refl
no_items (x ∷ rows) e = let m : length (x ∷ rows) ≡ 0 = grind (arith, nat_tests) in absurd (omega (arith, m))

-- it stays as it is where no rows come or go
pub stays : (view : Relation) (gone come : List Row) → IsRelation view → gone ≡ [] → come ≡ [] → Some view ≡ Some (record { heading = view.heading; rows = united (subtracted view.rows gone) come })
stays view gone come is e d =
    let rows = view.rows in
    let kept : subtracted rows [] ≡ rows = filter_all _ rows (λ z m. refl) in
    let all : united rows [] ≡ rows = ap rows_of (append-nil rows) ∙ rows_of-ascending rows (rows_ascend view is) in
    let same : rows ≡ united (subtracted rows gone) come = sym ((λ i. united (subtracted rows (e i)) (d i)) ∙ (ap (λ (l : List Row). united l []) kept ∙ all)) in
    λ i. Some (record { heading = view.heading; rows = same i })

-- what it has then is its value
pub exchanged_value : (all before : Entries) (t : Tree) (view : Relation) (moved : Moved) (next : Option Relation) → IsMoveOf all t view moved → IsValueOf before t view
    → newer next (Some view) ≡ Some (record { heading = view.heading; rows = united (subtracted view.rows moved.gone.rows) moved.come.rows }) → IsValueThere all t (newer next (Some view))
exchanged_value all before t view moved next h is e = subst (IsValueThere all t) (sym e) (record { means = h.means; headed = is.headed })

-- ---- what is taken

pub next_cost : (before after es : Entries) (i old new most : ℕ) → IsSoAt i (TakesSo before after old new) es → old + moves_among before after (drop i es) ≤ most
    → new + moves_among before after (drop (suc i) es) ≤ most
next_cost before after [] i old new most h l = absurd h
next_cost before after (e ∷ es) zero old new most h l = let m = h.most in omega (arith, m, l)
next_cost before after (e ∷ es) (suc i) old new most h l = next_cost before after es i old new most h l

module _ (before after : Entries) (es : List (Name × Relvar)) (i : ℕ) (k : Name) (r : Relvar) (there : slice_get es i ≡ Some (k, r)) where
  pub takes_put : (t : Tree) (old new : ℕ) → Some t ≡ stored_tree (read_relvar r) → new ≤ old + move_cost before after t → IsSoAt i (TakesSo before after old new) (map read_entry es)
  takes_put t old new e h = so_put es i (TakesSo before after old new) k r there (record { most = subst (λ (o : Option Tree). new ≤ old + move_cost_if before after o) e h })

  pub idle_takes : (old : ℕ) → IsSoAt i (TakesSo before after old old) (map read_entry es)
  idle_takes old = so_put es i (TakesSo before after old old) k r there (record { most = omega arith })
