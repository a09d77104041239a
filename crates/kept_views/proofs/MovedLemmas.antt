-- What is gathered group by group is what the view gains and loses.
--     small_refused, group_refused      where a group has too many rows, the view has too
--     less_gone      not more rows go than are there
--     all_moved      the sum is what the view gains and loses
--     less, whole      of touched groups
--     view_after      the view less the rows that go, with those that come
use Rattle.std.proofs.Common.{◌≡◌, ◌≤◌, ℕ, Bool, List, length, Option, Result, Ok, Err, sym, ap, ◌∙◌, subst, arith}
use Rattle.std.specs.List.{filter}
use Rattle.std.specs.Result.{MatchResult}
use Rattle.base_core.proofs.SetLemmas.{In, Ascends}
use Rattle.value_core.specs.Values.{Row, Heading, Relation, row_cmp, rows_of}
use Rattle.value_core.specs.declared.refuse.RowsRefuse.{RowsRefuse}
use Rattle.value_core.specs.declared.refuse.RowsRefuse.TheVariants.{TooMany, Memory}
use Rattle.relation_core.specs.Answers.{IsRefusal}
use Rattle.relation_core.specs.Operators.{united, subtracted}
use Rattle.relation_core.proofs.FilterLemmas.{length-filter_at_most}
use Rattle.kept_views.specs.declared.group_moves.Moved.{Moved}
use Rattle.kept_views.specs.declared.moving.Moves.{Moves}
use Rattle.kept_views.specs.declared.rule.KeptRule.{KeptRule}
use Rattle.kept_views.specs.Kept.{heading_or_none, kept_rows, view_key, has_key, of_key, Fits, IsMoved}
use Rattle.kept_views.specs.Touched.{AreRelations, HaveOneHeading, touched_keys, AreMoves, IsSummed, IsOver, IsRefusedGroup}
use Rattle.kept_views.proofs.TouchedLemmas.{kept_up, settled, gathered, counted, renewed}

-- ---- too many rows

pub small_refused : (p : Row → Bool) (rows : List Row) (e : RowsRefuse) → IsRefusal (filter p rows) e → IsRefusal rows e
small_refused p rows TooMany h = let less = length-filter_at_most p rows in omega (arith, h, less)
small_refused p rows Memory h = tt

pub group_refused : (places : List ℕ) (keys rows : List Row) (e : RowsRefuse) → IsRefusedGroup places keys rows e → IsRefusal rows e
group_refused places keys rows e h = small_refused (has_key places h.key) rows e h.refused

-- ---- the sum

pub less_gone : (old new gone : List Row) → rows_of gone ≡ subtracted old new → length (rows_of gone) ≤ length old
less_gone old new gone e = subst (λ (rows : List Row). length rows ≤ length old) (sym e) (length-filter_at_most _ old)

pub all_moved : (heading : Heading) (old new come gone : List Row) → Ascends row_cmp old → Ascends row_cmp new → rows_of come ≡ subtracted new old → rows_of gone ≡ subtracted old new → (result : Result Moved RowsRefuse)
    → MatchResult result (IsSummed heading old come gone) (IsOver old come gone) → MatchResult result (IsMoved heading old new) (IsRefusal new)
all_moved heading old new come gone up up' e f (Ok m) h =
    let all = counted old new up up' in
    let a : length (rows_of come) ≡ length (subtracted new old) = ap (λ (rows : List Row). length rows) e in
    let b : length (rows_of gone) ≡ length (subtracted old new) = ap (λ (rows : List Row). length rows) f in
    let few = h.few in
    record {
      few = omega (arith, all, a, b, few);
      come_heading = h.come_heading;
      come = h.come ∙ e;
      gone_heading = h.gone_heading;
      gone = h.gone ∙ f;
    }
all_moved heading old new come gone up up' e f (Err TooMany) h =
    let all = counted old new up up' in
    let a : length (rows_of come) ≡ length (subtracted new old) = ap (λ (rows : List Row). length rows) e in
    let b : length (rows_of gone) ≡ length (subtracted old new) = ap (λ (rows : List Row). length rows) f in
    omega (arith, all, a, b, h)
all_moved heading old new come gone up up' e f (Err Memory) h = tt

-- the view less the rows that go, with those that come, has the new rows
pub view_after : (heading : Heading) (old new : List Row) (m : Moved) → Ascends row_cmp old → Ascends row_cmp new → IsMoved heading old new m → united (subtracted old m.gone.rows) m.come.rows ≡ new
view_after heading old new m up up' h = (λ t. united (subtracted old (h.gone t)) (h.come t)) ∙ renewed old new up up'

-- ---- the touched groups of operands before and after

module _ (rule : KeptRule) (old_left left : Relation) (old_right right : Option Relation) (were : AreRelations old_left old_right) (are : AreRelations left right)
    (fitted : Fits rule old_left old_right) (fits : Fits rule left right) (same : old_left.heading ≡ left.heading) (same' : HaveOneHeading old_right right)
    (view : List Row) (is : view ≡ kept_rows rule old_left old_right) (keys : List Row) (told : keys ≡ touched_keys rule old_left old_right left right)
    (heading : Heading) (moves : Moves) (h : AreMoves heading (view_key rule.op rule.left left.heading (heading_or_none right)) keys view (kept_rows rule left right) moves) where
  abbrev places : List ℕ
  places = view_key rule.op rule.left left.heading (heading_or_none right)

  abbrev new : List Row
  new = kept_rows rule left right

  new_up : Ascends row_cmp new
  new_up = kept_up rule left right are

  view_up : Ascends row_cmp view
  view_up = subst (λ (rows : List Row). Ascends row_cmp rows) (sym is) (kept_up rule old_left old_right were)

  stay : (key : Row) → (In key keys → ⊥) → of_key places key new ≡ of_key places key view
  stay key out =
      settled rule old_left left old_right right were are fitted fits same same' key (λ i. out (subst (λ (ks : List Row). In key ks) (sym told) i))
      ∙ ap (of_key places key) (sym is)

  come_is : rows_of moves.come.items ≡ subtracted new view
  come_is = ap (λ (rows : List Row). rows_of rows) h.come ∙ gathered places keys view new new_up stay

  gone_is : rows_of moves.gone.items ≡ subtracted view new
  gone_is = ap (λ (rows : List Row). rows_of rows) h.gone ∙ gathered places keys new view view_up (λ key out. sym (stay key out))

  pub less : length (rows_of moves.gone.items) ≤ length view
  less = less_gone view new moves.gone.items gone_is

  pub whole : (result : Result Moved RowsRefuse) → MatchResult result (IsSummed heading view moves.come.items moves.gone.items) (IsOver view moves.come.items moves.gone.items)
      → MatchResult result (IsMoved heading view new) (IsRefusal new)
  whole = all_moved heading view new moves.come.items moves.gone.items view_up new_up come_is gone_is
