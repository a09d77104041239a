-- What stored views gain and lose.
--     exchanged_new      the rows less those that go, and with those that come
--     right_if, relations_if      what is known of operands
--     placed_told      what is told of a view
--     still_view, told_unmade      one that gains and loses nothing, and why it is refused
--     move_put, idle_move      what is told of the entry at a place
--     AreMovesFor, move_more, move_all, move_places      of the first entries, of one more, and of all
--     placed_there, place_there, nothing_there      the rows of the entry at a place then
--     moved_counted      how many they are
use Rattle.std.proofs.Common.{◌≡◌, inl, inr, ℕ, zero, suc, ◌+◌, ◌<◌, ◌≤◌, List, [], ◌∷◌, ◌++◌, map, get_or, length, refl, sym, ap, ◌∙◌, subst, arith, Option, Some, None, Result, Ok, Err}
use Rattle.std.specs.Prelude.{slice_get, IfErr, IfOk, IfSome, MatchResult}
use Rattle.std.proofs.lemmas.Bool.{cases_Bool, true≢false}
use Rattle.base_core.specs.Sets.{has}
use Rattle.base_core.proofs.MemberLemmas.{has-In}
use Rattle.base_core.proofs.SetLemmas.{In, Ascends, same_by_members}
use Rattle.base_core.proofs.SetOperatorLemmas.{Ascends-union_of, Ascends-difference_of, In-union_of, In-difference_of}
use Rattle.value_core.specs.Order.{row_total, row_separates}
use Rattle.value_core.specs.Values.{Name, Row, Relation, IsRelation, row_cmp, most_rows}
use Rattle.value_core.specs.declared.refuse.RowsRefuse.{RowsRefuse}
use Rattle.value_core.specs.declared.refuse.RowsRefuse.TheVariants.{TooMany, Memory}
use Rattle.relation_core.specs.Answers.{IsRefusal}
use Rattle.relation_core.specs.Operators.{united, subtracted}
use Rattle.tree_core.specs.declared.relvar.Relvar.{Relvar}
use Rattle.tree_core.specs.Relvars.{PlainRelvar, Entries, read_entry, read_relvar}
use Rattle.tree_core.specs.Trees.{Tree}
use Rattle.meaning_core.specs.Meanings.{meaning_in}
use Rattle.meaning_core.specs.StoredRows.{IsValueOf, HasItsRows, HaveTheirRows}
use Rattle.meaning_core.specs.Typing.{Headings, IsTypedTree}
use Rattle.meaning_core.proofs.LimitLemmas.{limited_few}
use Rattle.relvar_logs.specs.Changes.{IsSoAt}
use Rattle.relvar_logs.proofs.EntryLemmas.{so_put}
use Rattle.u_constraints.specs.Growth.{exchanged}
use Rattle.kept_views.specs.Kept.{kept_rows, IsMoved}
use Rattle.kept_views.specs.Touched.{AreRelations}
use Rattle.kept_views.specs.declared.group_moves.Moved.{Moved}
use Rattle.kept_views.specs.declared.rule.KeptRule.{KeptRule}
use Rattle.kept_views.proofs.TouchedLemmas.{counted, there_unless}
use Rattle.stored_views.specs.Operands.{AreValues}
use Rattle.stored_views.specs.Rules.{rule_for, place_for, IsUnmade}
use Rattle.stored_views.specs.Stored.{stored_tree, IsCounted}
use Rattle.stored_views.specs.ViewMoves.{all_placed, placed, AreMovesAt, IsPlaced, IsMoveAt, IsMoveFor, IsMoveTo}
use Rattle.stored_views.proofs.CountLemmas.{bare_there, view_there, view_put, none_put, view_counted}
use Rattle.stored_views.proofs.MadeLemmas.{limited_many}
use Rattle.stored_views.proofs.MoveLemmas.{is-meant, is-up}

-- ---- rows that come and go

pub exchanged_new : (old new : List Row) → Ascends row_cmp new → exchanged old (subtracted old new) (subtracted new old) ≡ new
exchanged_new old new up =
    same_by_members row_cmp row_total row_separates (subtracted (united old (subtracted new old)) (subtracted old new)) new
    (Ascends-difference_of row_cmp row_total row_separates (united old (subtracted new old)) (subtracted old new) (Ascends-union_of row_cmp row_total row_separates old (subtracted new old))) up (λ x.
    let a = In-difference_of row_cmp row_total row_separates x (united old (subtracted new old)) (subtracted old new) in
    let b = In-union_of row_cmp row_total row_separates x old (subtracted new old) in
    let c = In-difference_of row_cmp row_total row_separates x old new in
    let d = In-difference_of row_cmp row_total row_separates x new old in (
      λ h.
          let w = a.0 h in
          elim (b.0 w.0) [
            | inl i ↦ there_unless new x (λ missing. w.1 (c.1 (i, missing)))
            | inr i ↦ (d.0 i).0
          ],
      λ h.
          let stays : In x (subtracted old new) → ⊥ = λ j. (c.0 j).1 h in
          let k = has-In row_cmp row_total row_separates old x in
          elim (cases_Bool (has row_cmp old x)) [
            | inl e ↦ a.1 (b.1 (inl (k.0 e)), stays)
            | inr e ↦ a.1 (b.1 (inr (d.1 (h, λ i. true≢false (sym (k.1 i) ∙ e)))), stays)
          ],
    ))

-- the rows that a view then has
module _ (view : Relation) (new : List Row) (m : Moved) (up : Ascends row_cmp view.rows) (up' : Ascends row_cmp new) (h : IsMoved view.heading view.rows new m) where
  moved_rows : exchanged view.rows m.gone.rows m.come.rows ≡ new
  moved_rows = (λ i. exchanged view.rows (h.gone i) (h.come i)) ∙ exchanged_new view.rows new up'

  is_placed : IsPlaced view m
  is_placed =
      let all = counted view.rows new up up' in
      let many : length (exchanged view.rows m.gone.rows m.come.rows) ≡ length new = ap (λ (rows : List Row). length rows) moved_rows in
      let come : length m.come.rows ≡ length (subtracted new view.rows) = ap (λ (rows : List Row). length rows) h.come in
      let gone : length m.gone.rows ≡ length (subtracted view.rows new) = ap (λ (rows : List Row). length rows) h.gone in
      record {
        come_heading = h.come_heading;
        gone_heading = h.gone_heading;
        few = subst (λ (rows : List Row). length rows ≤ most_rows) (sym moved_rows) h.few;
        counted = omega (arith, all, many, come, gone);
      }

-- ---- one view

pub right_if : (left : Relation) (right : Option Relation) → AreRelations left right → IsRelation left × IfSome right (λ r. IsRelation r)
right_if left None are = (are, tt)
right_if left (Some right) are = are

pub relations_if : (left : Relation) (right : Option Relation) → IsRelation left → IfSome right (λ r. IsRelation r) → AreRelations left right
relations_if left None il ir = il
relations_if left (Some right) il ir = (il, ir)

module _ (sizes : List ℕ) (headings : Headings) (t : Tree) (typed : IsTypedTree sizes headings t) (rule : KeptRule) (same : rule ≡ rule_for t)
    (all : Entries) (left : Relation) (right : Option Relation) (are : AreRelations left right) (values : AreValues all t left right) where
  pub placed_told : (before : Entries) (view : Relation) → IsValueOf before t view → Ascends row_cmp view.rows → (result : Result Moved RowsRefuse)
      → MatchResult result (IsMoved view.heading view.rows (kept_rows rule left right)) (IsRefusal (kept_rows rule left right))
      → MatchResult result (λ m. IsMoveTo all t view (Some m)) (IsUnmade t (meaning_in all t))
  placed_told before view is up (Ok m) h =
      let both = right_if left right are in
      let meant = is-meant sizes headings t typed rule same all left right both.0 both.1 values in
      let up' = is-up sizes headings t typed rule same all left right both.0 both.1 values in
      let rows = moved_rows view (kept_rows rule left right) m up up' h in
      record {
        rows = record {
          means = meant ∙ (limited_few (place_for t) (kept_rows rule left right) h.few ∙ ap (λ (rows : List Row). Ok rows) (sym rows));
          headed = is.headed;
        };
        place = is_placed view (kept_rows rule left right) m up up' h;
      }
  placed_told before view is up (Err TooMany) h =
      let both = right_if left right are in
      is-meant sizes headings t typed rule same all left right both.0 both.1 values ∙ limited_many (place_for t) (kept_rows rule left right) h
  placed_told before view is up (Err Memory) h = tt

pub still_view : (all : Entries) (t : Tree) (view : Relation) → IsValueOf all t view → IsMoveTo all t view None
still_view all t view is = record { rows = is; place = tt }

-- why it is refused
pub told_unmade : (all : Entries) (t : Tree) (view : Relation) (result : Result (Option Moved) RowsRefuse) → MatchResult result (IsMoveTo all t view) (IsUnmade t (meaning_in all t))
    → IfErr result (IsUnmade t (meaning_in all t))
told_unmade all t view (Ok m) h = tt
told_unmade all t view (Err e) h = h

-- ---- one entry

module _ (all : Entries) (es : List (Name × Relvar)) (i : ℕ) (k : Name) (r : Relvar) (there : slice_get es i ≡ Some (k, r)) where
  -- of a stored view with these rows
  pub move_put : (t : Tree) (view : Relation) (old : Option Relation) (result : Result (Option Moved) RowsRefuse) → Some t ≡ stored_tree (read_relvar r) → Some view ≡ old
      → MatchResult result (IsMoveTo all t view) (IsUnmade t (meaning_in all t)) → IfOk result (λ m. IsSoAt i (IsMoveFor all old m) (map read_entry es))
  move_put t view old (Ok m) e o h =
      so_put es i (IsMoveFor all old m) k r there (record {
        rows = subst (λ (p : Option Relation). HasItsRows all (read_relvar r) (placed m p)) o (view_put all (read_relvar r) t (placed m (Some view)) e h.rows);
        place = subst (IsMoveAt m) o h.place;
      })
  move_put t view old (Err d) e o h = tt

  -- of another entry
  pub idle_move : (old : Option Relation) → None ≡ stored_tree (read_relvar r) → IsSoAt i (IsMoveFor all old None) (map read_entry es)
  idle_move old e = so_put es i (IsMoveFor all old None) k r there (record { rows = none_put all (read_relvar r) old e; place = tt })

-- ---- the list

module _ (all : Entries) where
  -- so much the first entries gain and lose, beside the stored rows
  abbrev pub AreMovesFor : List (Option Relation) → List (Option Moved) → Entries → Type 0
  AreMovesFor rows [] es = Unit {0}
  AreMovesFor rows (m ∷ ms) [] = ⊥
  AreMovesFor [] (m ∷ ms) (e ∷ es) = IsMoveFor all None m e.1 × AreMovesFor [] ms es
  AreMovesFor (o ∷ rows) (m ∷ ms) (e ∷ es) = IsMoveFor all o m e.1 × AreMovesFor rows ms es

  pub move_more : (rows : List (Option Relation)) (ms : List (Option Moved)) (es : Entries) (i : ℕ) (m : Option Moved) → length ms ≡ i → AreMovesFor rows ms es
      → IsSoAt i (IsMoveFor all (get_or rows i None) m) es → AreMovesFor rows (ms ++ m ∷ []) es
  move_more rows [] [] i m l are h = absurd h
  move_more [] [] (e ∷ es) zero m l are h = (h, tt)
  move_more (o ∷ rows) [] (e ∷ es) zero m l are h = (h, tt)
  move_more rows [] (e ∷ es) (suc i) m l are h = absurd (omega (arith, l))
  move_more rows (n ∷ ms) [] i m l are h = absurd h
  move_more rows (n ∷ ms) (e ∷ es) zero m l are h = absurd (omega (arith, l))
  move_more [] (n ∷ ms) (e ∷ es) (suc i) m l are h = (are.0, move_more [] ms es i m (omega (arith, l)) are.1 h)
  move_more (o ∷ rows) (n ∷ ms) (e ∷ es) (suc i) m l are h = (are.0, move_more rows ms es i m (omega (arith, l)) are.1 h)

  no_places : (ms : List (Option Moved)) → all_placed ms [] ≡ []
  no_places [] = refl
  no_places (m ∷ ms) = refl

  bare_here : (m : Option Moved) (r : PlainRelvar) → IsMoveFor all None m r → HasItsRows all r None
  bare_here None r h = h.rows
  bare_here (Some m) r h = absurd h.place

  pub move_all : (rows : List (Option Relation)) (ms : List (Option Moved)) (es : Entries) → length ms ≡ length es → AreMovesFor rows ms es → HaveTheirRows all es (all_placed ms rows)
  move_all rows [] [] l are = tt
  move_all rows [] (e ∷ es) l are = absurd (omega (arith, l))
  move_all rows (m ∷ ms) [] l are = absurd are
  move_all [] (m ∷ ms) (e ∷ es) l are =
      (bare_here m e.1 are.0, subst (λ (rest : List (Option Relation)). HaveTheirRows all es rest) (no_places ms) (move_all [] ms es (omega (arith, l)) are.1))
  move_all (o ∷ rows) (m ∷ ms) (e ∷ es) l are = (are.0.rows, move_all rows ms es (omega (arith, l)) are.1)

  pub move_places : (rows : List (Option Relation)) (ms : List (Option Moved)) (es : Entries) → AreMovesFor rows ms es → AreMovesAt ms rows
  move_places rows [] es are = tt
  move_places rows (m ∷ ms) [] are = absurd are
  move_places [] (m ∷ ms) (e ∷ es) are = (are.0.place, move_places [] ms es are.1)
  move_places (o ∷ rows) (m ∷ ms) (e ∷ es) are = (are.0.place, move_places rows ms es are.1)

pub one_move_longer : (ms : List (Option Moved)) (m : Option Moved) → length (ms ++ m ∷ []) ≡ length ms + 1
one_move_longer [] m = refl
one_move_longer (n ∷ ms) m = let h = one_move_longer ms m in omega (arith, h)

-- ---- the rows then

pub placed_there : (all es : Entries) (ms : List (Option Moved)) (rows : List (Option Relation)) (i : ℕ) → HaveTheirRows all es (all_placed ms rows) → i < length es
    → IsSoAt i (λ r. HasItsRows all r (placed (get_or ms i None) (get_or rows i None))) es
placed_there all [] ms rows i h l = absurd (omega (arith, l))
placed_there all (e ∷ es) [] [] i h l = bare_there all (e ∷ es) i None h l
placed_there all (e ∷ es) [] (o ∷ rows) zero h l = h.0
placed_there all (e ∷ es) [] (o ∷ rows) (suc i) h l = placed_there all es [] rows i h.1 (omega (arith, l))
placed_there all (e ∷ es) (m ∷ ms) [] i h l = bare_there all (e ∷ es) i (placed (get_or (m ∷ ms) i None) None) h l
placed_there all (e ∷ es) (m ∷ ms) (o ∷ rows) zero h l = h.0
placed_there all (e ∷ es) (m ∷ ms) (o ∷ rows) (suc i) h l = placed_there all es ms rows i h.1 (omega (arith, l))

pub place_there : (ms : List (Option Moved)) (rows : List (Option Relation)) (i : ℕ) → AreMovesAt ms rows → IsMoveAt (get_or ms i None) (get_or rows i None)
place_there [] rows i are = tt
place_there (m ∷ ms) [] zero are = are.0
place_there (m ∷ ms) [] (suc i) are = place_there ms [] i are.1
place_there (m ∷ ms) (o ∷ rows) zero are = are.0
place_there (m ∷ ms) (o ∷ rows) (suc i) are = place_there ms rows i are.1

pub nothing_there : (all : Entries) (r : PlainRelvar) (t : Tree) (m : Option Moved) → Some t ≡ stored_tree r → HasItsRows all r (placed m None) → ⊥
nothing_there all r t None e h = view_there all r t None e h
nothing_there all r t (Some m) e h = view_there all r t None e h

-- how many they are
pub moved_counted : (all : Entries) (r : PlainRelvar) (t : Tree) (m : Option Moved) (view : Relation) (count : ℕ) → Some t ≡ stored_tree r → HasItsRows all r (placed m (Some view))
    → IfSome (placed m (Some view)) (λ x. count ≡ length x.rows) → IsCounted all count r
moved_counted all r t None view count e h l = view_counted all r t view count e (view_there all r t (Some view) e h) l
moved_counted all r t (Some m) view count e h l =
    view_counted all r t (record { heading = view.heading; rows = exchanged view.rows m.gone.rows m.come.rows }) count e (view_there all r t (placed (Some m) (Some view)) e h) l
