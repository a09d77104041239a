-- One statement more: a log that tells of the values before it does so of them and the value after it.
--     goes_on-stamped, prolonged-stamped      the tests of a log's rows, by the relvar's row and the interval
--     told_more, more_told      each row is told of, and what is told of is there
use Rattle.std.proofs.Common.{◌≡◌, ◌↔◌, inl, inr, ℕ, suc, ◌-◌, ◌<◌, ◌≤◌, ℤ, pos, ◌+ℤ◌, ◌-ℤ◌, Bool, true, false, not, ◌&&◌, if◌then◌else◌, List, [], ◌∷◌, ◌++◌, map, filter, length, refl, sym, ap, ap₂, ◌∙◌, subst, arith, eq-or-lt_of_le}
use Rattle.std.specs.Cmp.{signed_Decides}
use Rattle.std.specs.Ordering.{int_eq}
use Rattle.std.proofs.lemmas.Bool.{true≢false, and_parts, and_from, not-true, not_from_false, false_from_ne_true, cases_lt}
use Rattle.std.proofs.lemmas.Int.{ints}
use Rattle.base_core.specs.Sets.{has}
use Rattle.base_core.proofs.SetLemmas.{In, In-in_order}
use Rattle.base_core.proofs.MemberLemmas.{In-append, In-map, In-filter, list_any-In, has-In}
use Rattle.base_core.proofs.ListLemmas.{length_more}
use Rattle.interval_core.specs.Members.{Span, at_point}
use Rattle.value_core.specs.Attributes.{put_span}
use Rattle.value_core.specs.Order.{row_total, row_separates}
use Rattle.value_core.specs.Values.{Row, row_cmp}
use Rattle.log_times.specs.Logs.{stamped, statements, after, IsStretch, IsInLog, goes_on, prolonged, stood_at, moved}
use Rattle.log_times.proofs.StampLemmas.{unstamped-stamped, statements-stamped, put_span-stamped}
use Rattle.log_times.proofs.StretchLemmas.{around, kept, longer, begun, earlier, ended, still, shorter, new}

-- ---- membership

pub has_row : (rows : List Row) (x : Row) → (has row_cmp rows x ≡ true) ↔ In x rows
has_row rows x = has-In row_cmp row_total row_separates rows x

only : (x y : Row) → has row_cmp (x ∷ []) y ≡ true → y ≡ x
only x y h = elim ((has_row (x ∷ []) y).0 h) [ inl e ↦ e | inr i ↦ absurd i ]

itself : (x : Row) → has row_cmp (x ∷ []) x ≡ true
itself x = (has_row (x ∷ []) x).1 (inl refl)

-- ---- the tests of a log's rows

pub goes_on-stamped : (side : ℕ) (n : ℤ) (now : List Row) (i : Span) (x : Row) → side ≤ length x → goes_on side n now (stamped side i x) ≡ (int_eq i.1 n && has row_cmp now x)
goes_on-stamped side n now i x l = ap₂ (λ (s : Span) (r : Row). int_eq s.1 n && has row_cmp now r) (statements-stamped side i x l) (unstamped-stamped side i x l)

-- a row that ends at n
at_end : (side : ℕ) (n : ℤ) (i : Span) (x : Row) → side ≤ length x → put_span (stamped side i x) side ((statements side (stamped side i x)).0, n) ≡ stamped side (i.0, n) x
at_end side n i x l = ap (λ (s : Span). put_span (stamped side i x) side (s.0, n)) (statements-stamped side i x l) ∙ put_span-stamped side i (i.0, n) x l

pub prolonged-stamped : (side : ℕ) (n : ℤ) (now : List Row) (i : Span) (x : Row) → side ≤ length x
    → prolonged side n now (stamped side i x) ≡ (if int_eq i.1 (n -ℤ pos 1) && has row_cmp now x then stamped side (i.0, n) x else stamped side i x)
prolonged-stamped side n now i x l =
    ap (λ (b : Bool). if b then put_span (stamped side i x) side ((statements side (stamped side i x)).0, n) else stamped side i x) (goes_on-stamped side (n -ℤ pos 1) now i x l)
    ∙ ap (λ (r : Row). if int_eq i.1 (n -ℤ pos 1) && has row_cmp now x then r else stamped side i x) (at_end side n i x l)

goes_on-true : (side : ℕ) (n : ℤ) (now : List Row) (i : Span) (x : Row) → side ≤ length x → (int_eq i.1 (n -ℤ pos 1) && has row_cmp now x) ≡ true
    → prolonged side n now (stamped side i x) ≡ stamped side (i.0, n) x
goes_on-true side n now i x l e = prolonged-stamped side n now i x l ∙ ap (λ (b : Bool). if b then stamped side (i.0, n) x else stamped side i x) e

goes_on-false : (side : ℕ) (n : ℤ) (now : List Row) (i : Span) (x : Row) → side ≤ length x → (int_eq i.1 (n -ℤ pos 1) && has row_cmp now x) ≡ false
    → prolonged side n now (stamped side i x) ≡ stamped side i x
goes_on-false side n now i x l e = prolonged-stamped side n now i x l ∙ ap (λ (b : Bool). if b then stamped side (i.0, n) x else stamped side i x) e

-- a stretch that ends right before the statement behind `size` others
ends_before : (m : ℤ) (e size : ℕ) → int_eq (m +ℤ pos e) ((m +ℤ pos size) -ℤ pos 1) ≡ true → suc e ≡ size
ends_before m e size h =
    let same : m +ℤ pos e ≡ (m +ℤ pos size) -ℤ pos 1 = (signed_Decides (m +ℤ pos e) ((m +ℤ pos size) -ℤ pos 1)).0 h in
    omega (arith, ints, same)

before_ends : (m : ℤ) (e size : ℕ) → suc e ≡ size → int_eq (m +ℤ pos e) ((m +ℤ pos size) -ℤ pos 1) ≡ true
before_ends m e size h = (signed_Decides (m +ℤ pos e) ((m +ℤ pos size) -ℤ pos 1)).1 (omega (arith, ints, h))

-- ---- the log after the statement

-- each row that the relvar had has a place for the interval
abbrev pub AreLongAt : ℕ → List (List Row) → Type 0
AreLongAt side values = (k : ℕ) (x : Row) → k < length values → has row_cmp (after values k) x ≡ true → side ≤ length x

-- the rows of the log are what is to be told of the values
abbrev pub IsTold : ℕ → ℤ → List (List Row) → List Row → Type 0
IsTold side m values log = (y : Row) → In y log ↔ IsInLog side m values y

pub long_stretch : (side : ℕ) (values : List (List Row)) (x : Row) (b e : ℕ) → AreLongAt side values → IsStretch values x b e → side ≤ length x
long_stretch side values x b e long s =
    let ordered : b ≤ e = s.ordered in
    let within : e < length values = s.within in
    long b x (omega (arith, ordered, within)) (s.stood b (omega arith) ordered)

module _ (side : ℕ) (m : ℤ) (past : List (List Row)) (now log : List Row) (long : AreLongAt side past) (long_now : (x : Row) → has row_cmp now x ≡ true → side ≤ length x)
    (told : IsTold side m past log) where
  -- the statement's number, and the one before
  abbrev here : ℤ
  here = m +ℤ pos (length past)

  abbrev before : ℤ
  before = here -ℤ pos 1

  abbrev goes : ℕ → Row → Bool
  goes e x = int_eq (m +ℤ pos e) before && has row_cmp now x

  abbrev listed : List Row
  listed = map (prolonged side here now) log ++ map (stamped side (at_point here)) (filter (λ x. not (stood_at side before log x)) now)

  -- ---- whether a row of the relvar stood right before the statement

  stood_there : (x : Row) (k : ℕ) → suc k ≡ length past → has row_cmp (after past k) x ≡ true → stood_at side before log x ≡ true
  stood_there x k near h =
      let w = around past x k (omega (arith, near)) h in
      let behind : k ≤ w.1 = w.3 in
      let within : w.1 < length past = w.4.within in
      let end : suc w.1 ≡ length past = omega (arith, near, behind, within) in
      let row : Row = stamped side (m +ℤ pos w.0, m +ℤ pos w.1) x in
      let inside : In row log = (told row).1 (record { x = x; b = w.0; e = w.1; row = refl; stretch = w.4 }) in
      let goes_on_here : goes_on side before (x ∷ []) row ≡ true =
      goes_on-stamped side before (x ∷ []) (m +ℤ pos w.0, m +ℤ pos w.1) x (long_stretch side past x w.0 w.1 long w.4)
      ∙ and_from (int_eq (m +ℤ pos w.1) before) (has row_cmp (x ∷ []) x) (before_ends m w.1 (length past) end) (itself x) in
      (list_any-In (λ r. goes_on side before (x ∷ []) r) log).1 (row, inside, goes_on_here)

  there_stood : (x : Row) → stood_at side before log x ≡ true → (k : ℕ) × (suc k ≡ length past) × (has row_cmp (after past k) x ≡ true)
  there_stood x h =
      let w = (list_any-In (λ r. goes_on side before (x ∷ []) r) log).0 h in
      let s = (told w.0).0 w.1 in
      let test : (int_eq (m +ℤ pos s.e) before && has row_cmp (x ∷ []) s.x) ≡ true =
      sym (goes_on-stamped side before (x ∷ []) (m +ℤ pos s.b, m +ℤ pos s.e) s.x (long_stretch side past s.x s.b s.e long s.stretch)) ∙ (ap (goes_on side before (x ∷ [])) (sym s.row) ∙ w.2) in
      let parts = and_parts (int_eq (m +ℤ pos s.e) before) (has row_cmp (x ∷ []) s.x) test in
      let stood : has row_cmp (after past s.e) s.x ≡ true = s.stretch.stood s.e s.stretch.ordered (omega arith) in
      (s.e, ends_before m s.e (length past) parts.0, subst (λ (r : Row). has row_cmp (after past s.e) r ≡ true) (only x s.x parts.1) stood)

  -- ---- each row is told of

  old_more : (b e : ℕ) (x : Row) → IsStretch past x b e → IsInLog side m (past ++ now ∷ []) (prolonged side here now (stamped side (m +ℤ pos b, m +ℤ pos e) x))
  old_more b e x s =
      let l = long_stretch side past x b e long s in
      elim (goes e x) as (λ a. goes e x ≡ a → IsInLog side m (past ++ now ∷ []) (prolonged side here now (stamped side (m +ℤ pos b, m +ℤ pos e) x))) [
        | true ↦ λ h.
            let parts = and_parts (int_eq (m +ℤ pos e) before) (has row_cmp now x) h in
            record {
              x = x;
              b = b;
              e = length past;
              row = goes_on-true side here now (m +ℤ pos b, m +ℤ pos e) x l h;
              stretch = longer past now x b e s (ends_before m e (length past) parts.0) parts.1;
            }
        | false ↦ λ h. record {
          x = x;
          b = b;
          e = e;
          row = goes_on-false side here now (m +ℤ pos b, m +ℤ pos e) x l h;
          stretch = kept past now x b e s (λ end. false_from_ne_true (has row_cmp now x)
              (λ k. true≢false (sym (and_from (int_eq (m +ℤ pos e) before) (has row_cmp now x) (before_ends m e (length past) end) k) ∙ h)));
        }
      ] refl

  new_more : (x : Row) → has row_cmp now x ≡ true → stood_at side before log x ≡ false → IsInLog side m (past ++ now ∷ []) (stamped side (at_point here) x)
  new_more x h none = record {
    x = x;
    b = length past;
    e = length past;
    row = refl;
    stretch = begun past now x h (λ k near. false_from_ne_true (has row_cmp (after past k) x) (λ stood. true≢false (sym (stood_there x k near stood) ∙ none)));
  }

  pub told_more : (y : Row) → In y (moved side here now log) → IsInLog side m (past ++ now ∷ []) y
  told_more y i =
      elim ((In-append y (map (prolonged side here now) log) (map (stamped side (at_point here)) (filter (λ x. not (stood_at side before log x)) now))).0 ((In-in_order row_cmp row_total row_separates y listed).0 i)) [
        | inl j ↦
            let w = (In-map (prolonged side here now) y log).0 j in
            let s = (told w.0).0 w.1 in
            subst (λ (r : Row). IsInLog side m (past ++ now ∷ []) r) (ap (prolonged side here now) (sym s.row) ∙ sym w.2) (old_more s.b s.e s.x s.stretch)
        | inr j ↦
            let w = (In-map (stamped side (at_point here)) y (filter (λ x. not (stood_at side before log x)) now)).0 j in
            let v = (In-filter (λ x. not (stood_at side before log x)) w.0 now).0 w.1 in
            subst (λ (r : Row). IsInLog side m (past ++ now ∷ []) r) (sym w.2) (new_more w.0 ((has_row now w.0).1 v.0) (not-true (stood_at side before log w.0) v.1))
      ]

  -- ---- what is told of is there

  in_old : (row y : Row) → In row log → y ≡ prolonged side here now row → In y (moved side here now log)
  in_old row y i e =
      (In-in_order row_cmp row_total row_separates y listed).1
      ((In-append y (map (prolonged side here now) log) (map (stamped side (at_point here)) (filter (λ x. not (stood_at side before log x)) now))).1
      (inl ((In-map (prolonged side here now) y log).1 (row, i, e))))

  in_new : (x y : Row) → In x now → stood_at side before log x ≡ false → y ≡ stamped side (at_point here) x → In y (moved side here now log)
  in_new x y i none e =
      (In-in_order row_cmp row_total row_separates y listed).1
      ((In-append y (map (prolonged side here now) log) (map (stamped side (at_point here)) (filter (λ x. not (stood_at side before log x)) now))).1
      (inr ((In-map (stamped side (at_point here)) y (filter (λ x. not (stood_at side before log x)) now)).1
      (x, (In-filter (λ x. not (stood_at side before log x)) x now).1 (i, not_from_false (stood_at side before log x) none), e))))

  over : (b e : ℕ) (x : Row) → IsStretch (past ++ now ∷ []) x b e → e < length past → In (stamped side (m +ℤ pos b, m +ℤ pos e) x) (moved side here now log)
  over b e x t within =
      let s = earlier past now x b e t within in
      let row : Row = stamped side (m +ℤ pos b, m +ℤ pos e) x in
      let stays : goes e x ≡ false = false_from_ne_true (goes e x) (λ h.
      let parts = and_parts (int_eq (m +ℤ pos e) before) (has row_cmp now x) h in
      true≢false (sym parts.1 ∙ ended past now x b e t (ends_before m e (length past) parts.0))) in
      in_old row row ((told row).1 (record { x = x; b = b; e = e; row = refl; stretch = s }))
      (sym (goes_on-false side here now (m +ℤ pos b, m +ℤ pos e) x (long_stretch side past x b e long s) stays))

  starting : (b e : ℕ) (x : Row) → IsStretch (past ++ now ∷ []) x b e → e ≡ length past → b ≡ e → In (stamped side (m +ℤ pos b, m +ℤ pos e) x) (moved side here now log)
  starting b e x t end begin =
      in_new x (stamped side (m +ℤ pos b, m +ℤ pos e) x) ((has_row now x).0 (still past now x b e t end))
      (false_from_ne_true (stood_at side before log x) (λ h.
      let w = there_stood x h in
      true≢false (sym w.2 ∙ new past now x b e t (begin ∙ end) w.0 w.1)))
      (ap₂ (λ (i j : ℕ). stamped side (m +ℤ pos i, m +ℤ pos j) x) (begin ∙ end) end)

  going_on : (b k e : ℕ) (x : Row) → IsStretch (past ++ now ∷ []) x b e → e ≡ length past → suc k ≡ length past → b ≤ k
      → In (stamped side (m +ℤ pos b, m +ℤ pos e) x) (moved side here now log)
  going_on b k e x t end near ordered =
      let s = shorter past now x b k e t end near ordered in
      let row : Row = stamped side (m +ℤ pos b, m +ℤ pos k) x in
      let goes_there : goes k x ≡ true = and_from (int_eq (m +ℤ pos k) before) (has row_cmp now x) (before_ends m k (length past) near) (still past now x b e t end) in
      in_old row (stamped side (m +ℤ pos b, m +ℤ pos e) x) ((told row).1 (record { x = x; b = b; e = k; row = refl; stretch = s }))
      (ap (λ (j : ℕ). stamped side (m +ℤ pos b, m +ℤ pos j) x) end ∙ sym (goes_on-true side here now (m +ℤ pos b, m +ℤ pos k) x (long_stretch side past x b k long s) goes_there))

  each : (b e : ℕ) (x : Row) → IsStretch (past ++ now ∷ []) x b e → In (stamped side (m +ℤ pos b, m +ℤ pos e) x) (moved side here now log)
  each b e x t =
      let size = length_more past now in
      let within : e < length (past ++ now ∷ []) = t.within in
      elim (cases_lt e (length past)) [
        | inl l ↦ over b e x t l
        | inr l ↦
            let end : e ≡ length past = omega (arith, size, within, l) in
            elim (eq-or-lt_of_le t.ordered) [
              | inl begin ↦ starting b e x t end begin
              | inr less ↦ going_on b (e - 1) e x t end (omega (arith, less, end)) (omega (arith, less))
            ]
      ]

  pub more_told : (y : Row) → IsInLog side m (past ++ now ∷ []) y → In y (moved side here now log)
  more_told y s = subst (λ (r : Row). In r (moved side here now log)) (sym s.row) (each s.b s.e s.x s.stretch)
