-- What a stored log's beginning, its turns and its reading answer.
use Rattle.std.proofs.Common.{◌≡◌, ◌≤◌, ℕ, ℤ, pos, ◌-ℤ◌, ◌<ℤ◌, ◌≤ℤ◌, false, List, [], ◌∷◌, ◌++◌, length, sym, ap, ◌∙◌, subst}
use Rattle.std.specs.Bool.{IsTrue}
use Rattle.std.specs.List.{All}
use Rattle.base_core.proofs.SetLemmas.{Ascends-from_sorted, in_order_of_ascending}
use Rattle.point_core.specs.Whole.{least_whole}
use Rattle.value_core.specs.Headings.{has_name, IsHeadingOf}
use Rattle.value_core.specs.Order.{row_total, row_separates}
use Rattle.value_core.specs.Relations.{all_fit}
use Rattle.value_core.specs.Values.{Name, Row, Heading, Relation, IsRelation, row_cmp, rows_of}
use Rattle.log_times.specs.Logs.{standing, closed, open_end, IsStored}
use Rattle.log_times.specs.Turns.{kind_of_statements, IsLogHeading, without, log_heading, side_of, begun, lost, gained, IsOpened, IsExact, IsTurned}
use Rattle.log_times.proofs.GainLemmas.{closed_fit, begun_fit, long_In, long_rows, gained_fit}
use Rattle.log_times.proofs.HeadingLemmas.{log_placed, log_without}
use Rattle.log_times.proofs.OrderLemmas.{less_is_le, closed_ascends}
use Rattle.log_times.proofs.TurnLemmas.{first, turn}

-- ---- the first statement

module _ (now : Relation) (name : Name) (n : ℤ) (is : IsRelation now) (new : has_name now.heading name ≡ false) (low : least_whole ≤ℤ n) (below : n <ℤ open_end) where
  fits_relvar : IsTrue (all_fit (without (side_of now.heading name) (log_heading now.heading name)) now.rows)
  fits_relvar = subst (λ (h : Heading). IsTrue (all_fit h now.rows)) (sym (log_without now.heading name is.headed new)) is.fitting

  pub open_long : All (λ (x : Row). side_of now.heading name ≤ length x) now.rows
  open_long = long_rows (log_heading now.heading name) (side_of now.heading name) (log_placed now.heading name is.headed new) now.rows fits_relvar

  pub open_fit : IsTrue (all_fit (log_heading now.heading name) (begun (side_of now.heading name) n now.rows))
  open_fit = begun_fit (log_heading now.heading name) (side_of now.heading name) (log_placed now.heading name is.headed new) n now.rows low (less_is_le n open_end below) fits_relvar

  pub open_is : (log : Relation) → IsHeadingOf (now.heading ++ (name, kind_of_statements) ∷ []) log.heading → log.heading ≡ log_heading now.heading name → log.rows ≡ rows_of (begun (side_of now.heading name) n now.rows)
      → IsOpened name n now log
  open_is log attributes heading rows =
      let f = first (side_of now.heading name) n now.rows (Ascends-from_sorted row_cmp now.rows is.ascending) below
      (long_In (log_heading now.heading name) (side_of now.heading name) (log_placed now.heading name is.headed new) now.rows fits_relvar) in
      record {
        attributes = attributes;
        heading = heading;
        place = subst (λ (h : Heading). IsLogHeading (side_of now.heading name) h) (sym heading) (log_placed now.heading name is.headed new);
        relvar = ap (without (side_of now.heading name)) heading ∙ log_without now.heading name is.headed new;
        rows = rows;
        stored = subst (λ (l : List Row). IsStored (side_of now.heading name) n l) (sym rows) f.stored;
        stands = ap (standing (side_of now.heading name)) rows ∙ f.stands;
        reads = ap (closed (side_of now.heading name) n) rows ∙ f.reads;
      }

-- the rows that are added to none
pub begun_same : (items old rows now : List Row) (side s : ℕ) (n m : ℤ) → items ≡ old ++ begun side n rows → old ≡ [] → side ≡ s → n ≡ m → rows ≡ now → items ≡ begun s m now
begun_same items old rows now side s n m e o p q r = e ∙ (λ t. o t ++ begun (p t) (q t) (r t))

-- the rows that go and those that come
pub gained_same : (items lost gone rows come : List Row) (side : ℕ) (n m : ℤ) → items ≡ closed side (n -ℤ pos 1) lost ++ begun side n rows → lost ≡ gone → rows ≡ come → n ≡ m → items ≡ closed side (m -ℤ pos 1) gone ++ begun side m come
gained_same items lost gone rows come side n m e o r q = e ∙ (λ t. closed side (q t -ℤ pos 1) (o t) ++ begun side (q t) (r t))

-- ---- the log that is read

module _ (log : Relation) (side : ℕ) (n : ℤ) (is : IsRelation log) (headed : IsLogHeading side log.heading) (stored : IsStored side n log.rows) where
  pub read_fit : IsTrue (all_fit log.heading (closed side n log.rows))
  read_fit = closed_fit log.heading side headed n log.rows (less_is_le n open_end stored.before) stored.rows is.fitting

  pub read_is : rows_of (closed side n log.rows) ≡ closed side n log.rows
  read_is = in_order_of_ascending row_cmp row_total row_separates (closed side n log.rows) (closed_ascends side n log.rows stored (Ascends-from_sorted row_cmp log.rows is.ascending))

-- ---- a turn

module _ (log come gone : Relation) (side : ℕ) (n : ℤ) (is : IsRelation log) (came : IsRelation come) (headed : IsLogHeading side log.heading) (relvar : come.heading ≡ without side log.heading)
    (stored : IsStored side (n -ℤ pos 1) log.rows) (low : least_whole <ℤ n) (below : n <ℤ open_end) where
  fits_turned : IsTrue (all_fit (without side log.heading) come.rows)
  fits_turned = subst (λ (h : Heading). IsTrue (all_fit h come.rows)) relvar came.fitting

  pub turn_long : All (λ (x : Row). side ≤ length x) come.rows
  turn_long = long_rows log.heading side headed come.rows fits_turned

  pub turn_fit : IsTrue (all_fit log.heading (closed side (n -ℤ pos 1) (lost side gone.rows log.rows) ++ begun side n come.rows))
  turn_fit = gained_fit log.heading side headed n come.rows gone.rows log.rows low below stored is.fitting fits_turned

  pub turn_is : IsExact (standing side log.rows) come.rows gone.rows → (more less : List Row) → more ≡ gained side n come.rows gone.rows log.rows → less ≡ lost side gone.rows log.rows → IsTurned side n come.rows gone.rows log.rows more less
  turn_is exact more less m l =
      let t = turn side n come.rows gone.rows log.rows stored below (long_In log.heading side headed come.rows fits_turned) exact in
      subst (λ (k : List Row). IsTurned side n come.rows gone.rows log.rows more k) (sym l) (subst (λ (k : List Row). IsTurned side n come.rows gone.rows log.rows k (lost side gone.rows log.rows)) (sym m) t)
