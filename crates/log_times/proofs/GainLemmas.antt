-- The rows that a stored log gains fit its heading.
use Rattle.std.proofs.Common.{◌≡◌, ◌↔◌, inl, inr, ℕ, ◌≤◌, ℤ, pos, ◌-ℤ◌, ◌<ℤ◌, ◌≤ℤ◌, Bool, true, false, List, [], ◌∷◌, ◌++◌, length, refl, sym, ap, ◌∙◌, subst, arith}
use Rattle.std.specs.Bool.{IsTrue}
use Rattle.std.specs.List.{All}
use Rattle.std.proofs.lemmas.Int.{ints}
use Rattle.base_core.proofs.IntLemmas.{le_itself}
use Rattle.base_core.proofs.ListLemmas.{All-In}
use Rattle.base_core.proofs.MemberLemmas.{In-append, In-map, In-filter, list_all-In}
use Rattle.base_core.proofs.SetLemmas.{In}
use Rattle.point_core.specs.Whole.{least_whole}
use Rattle.value_core.specs.Relations.{all_fit}
use Rattle.value_core.specs.Values.{Row, Heading, fits_heading}
use Rattle.log_times.specs.Logs.{stamped, statements, open_end, is_standing, closed_row, closed, HasStatements, IsStoredRow, IsStored}
use Rattle.log_times.specs.Turns.{IsLogHeading, without, begun, goes, lost}
use Rattle.log_times.proofs.RowLemmas.{closed-standing, closed-ended}
use Rattle.log_times.proofs.OrderLemmas.{all_In, less_is_le}
use Rattle.log_times.proofs.TurnLemmas.{lost_none}
use Rattle.log_times.proofs.HeadingLemmas.{whole_interval, stamped_fits, long_enough, begin_whole, put_fits}

all_fit_In : (heading : Heading) (rows : List Row) → IsTrue (all_fit heading rows) ↔ ((x : Row) → In x rows → IsTrue (fits_heading heading x))
all_fit_In heading rows = list_all-In (fits_heading heading) rows

one_less : (n m : ℤ) → n <ℤ m → (n -ℤ pos 1) ≤ℤ m
one_less n m l = omega (arith, ints, l)

module _ (heading : Heading) (side : ℕ) (headed : IsLogHeading side heading) where
  closed_row_fits : (n : ℤ) (r : Row) (b : Bool) → n ≤ℤ open_end → IsStoredRow side n r → IsTrue (fits_heading heading r) → is_standing side r ≡ b → IsTrue (fits_heading heading (closed_row side n r))
  closed_row_fits n r true high s fit e =
      let low = begin_whole heading side r headed.within headed.kind fit in
      let put = put_fits heading side ((statements side r).0, n) r headed.within headed.kind (whole_interval (statements side r).0 n low s.begun high) fit in
      subst (λ y. IsTrue (fits_heading heading y)) (sym (closed-standing side n r e)) put
  closed_row_fits n r false high s fit e = subst (λ y. IsTrue (fits_heading heading y)) (sym (closed-ended side n r e)) fit

  -- the rows of the log
  pub closed_fit : (n : ℤ) (rows : List Row) → n ≤ℤ open_end → All (IsStoredRow side n) rows → IsTrue (all_fit heading rows) → IsTrue (all_fit heading (closed side n rows))
  closed_fit n rows high stored fit = (all_fit_In heading (closed side n rows)).1 (λ y i.
      let m = (In-map (closed_row side n) y rows).0 i in
      subst (λ z. IsTrue (fits_heading heading z)) (sym m.2)
      (closed_row_fits n m.0 (is_standing side m.0) high (all_In (IsStoredRow side n) rows stored m.0 m.1) ((all_fit_In heading rows).0 fit m.0 m.1) refl))

  -- rows that stand from a statement on
  pub begun_fit : (n : ℤ) (rows : List Row) → least_whole ≤ℤ n → n ≤ℤ open_end → IsTrue (all_fit (without side heading) rows) → IsTrue (all_fit heading (begun side n rows))
  begun_fit n rows low high fit = (all_fit_In heading (begun side n rows)).1 (λ y i.
      let m = (In-map (stamped side (n, open_end)) y rows).0 i in
      subst (λ z. IsTrue (fits_heading heading z)) (sym m.2)
      (stamped_fits heading side (n, open_end) m.0 headed.within headed.kind (whole_interval n open_end low high (le_itself open_end)) ((all_fit_In (without side heading) rows).0 fit m.0 m.1)))

  -- the place is one of the relvar's rows, or behind them
  pub long_In : (rows : List Row) → IsTrue (all_fit (without side heading) rows) → (x : Row) → In x rows → side ≤ length x
  long_In rows fit x i = long_enough heading side x headed.within ((all_fit_In (without side heading) rows).0 fit x i)

  pub long_rows : (rows : List Row) → IsTrue (all_fit (without side heading) rows) → All (λ (x : Row). side ≤ length x) rows
  long_rows rows fit = All-In (λ (x : Row). side ≤ length x) rows (long_In rows fit)

  pub gained_fit : (n : ℤ) (come gone log : List Row) → least_whole <ℤ n → n <ℤ open_end → IsStored side (n -ℤ pos 1) log → IsTrue (all_fit heading log) → IsTrue (all_fit (without side heading) come)
      → IsTrue (all_fit heading (closed side (n -ℤ pos 1) (lost side gone log) ++ begun side n come))
  gained_fit n come gone log low high stored fit fits =
      let ended : List Row = lost side gone log in
      let there : IsTrue (all_fit heading (lost side gone log)) = (all_fit_In heading ended).1 (λ y i. (all_fit_In heading log).0 fit y ((In-filter (goes side gone) y log).0 i).0) in
      let kept : All (IsStoredRow side (n -ℤ pos 1)) (lost side gone log) = All-In (IsStoredRow side (n -ℤ pos 1)) ended (λ y i. all_In (IsStoredRow side (n -ℤ pos 1)) log stored.rows y ((In-filter (goes side gone) y log).0 i).0) in
      let first = closed_fit (n -ℤ pos 1) ended (one_less n open_end high) kept there in
      let second = begun_fit n come (less_is_le least_whole n low) (less_is_le n open_end high) fits in
      (all_fit_In heading (closed side (n -ℤ pos 1) ended ++ begun side n come)).1 (λ y i. elim ((In-append y (closed side (n -ℤ pos 1) ended) (begun side n come)).0 i) [
        | inl j ↦ (all_fit_In heading (closed side (n -ℤ pos 1) ended)).0 first y j
        | inr j ↦ (all_fit_In heading (begun side n come)).0 second y j
      ])

-- the rows that go are stored ones
pub lost_stored : (side : ℕ) (n : ℤ) (gone log : List Row) → All (IsStoredRow side n) log → All (IsStoredRow side n) (lost side gone log)
lost_stored side n gone log stored = All-In (IsStoredRow side n) (lost side gone log) (λ y i. all_In (IsStoredRow side n) log stored y ((In-filter (goes side gone) y log).0 i).0)

pub have_statements : (side : ℕ) (n : ℤ) (rows : List Row) → All (IsStoredRow side n) rows → All (HasStatements side) rows
have_statements side n rows stored = λ k d l. (stored k d l).interval

-- none go
pub lost_of_none : (side : ℕ) (gone log : List Row) → gone ≡ [] → lost side gone log ≡ []
lost_of_none side gone log e = ap (λ (g : List Row). lost side g log) e ∙ lost_none side log

pub none_from_empty : (xs : List Row) → length xs ≡ 0 → xs ≡ []
none_from_empty [] e = refl
none_from_empty (x ∷ xs) e = absurd (omega (arith, e))
