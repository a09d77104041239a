-- A log is what its sentence says: the relvar's rows, each with the longest stretches of statements after which it was there.
--     moved_on-append, moved-is-logged      more statements, and one more
--     logged-set      a log's rows are a set
--     long-fitting      rows that fit a heading have the place that it has
--     in_log, is_told, is_in      its rows are those of the sentence
--     logged-row      each has an interval of statements among those that there were
--     logged-at, logged-value      the relvar's rows after each statement, by the log
--     logged-apart      two rows of the log with one row of the relvar neither meet nor overlap
use Rattle.std.proofs.Common.{◌≡◌, ◌⊎◌, ◌↔◌, IsTrue, get_or, inl, inr, ℕ, suc, ◌<◌, ◌≤◌, ℤ, pos, ◌+ℤ◌, ◌-ℤ◌, ◌≤ℤ◌, ◌<ℤ◌, true, not, List, [], ◌∷◌, ◌++◌, map, filter, length, refl, sym, ap, ap₂, ◌∙◌, subst, arith}
use Rattle.std.specs.List.{All, list_all}
use Rattle.std.proofs.Math.Seq.{get_or-append_seam}
use Rattle.std.proofs.lemmas.Bool.{cases_lt}
use Rattle.std.proofs.lemmas.Int.{ints}
use Rattle.std.proofs.lemmas.List.{append-nil, append_assoc, get_or_append_left}
use Rattle.std.proofs.lemmas.List.Elements.{All-contains}
use Rattle.base_core.specs.Sets.{has, is_set}
use Rattle.base_core.proofs.SetLemmas.{Ascends, Contains-from_In, In-in_order, Ascends-in_order, same_by_members}
use Rattle.base_core.proofs.MemberLemmas.{In-map, In-filter, list_all-In}
use Rattle.base_core.proofs.SetOperatorLemmas.{is_set-Ascends}
use Rattle.base_core.proofs.ListLemmas.{length_more, In-get_or}
use Rattle.interval_core.specs.Members.{Span, has_member, at_point}
use Rattle.interval_core.proofs.MembersLemmas.{has_member-between}
use Rattle.value_core.specs.Order.{row_total, row_separates}
use Rattle.point_core.specs.Points.{integers}
use Rattle.value_core.specs.Values.{Row, Heading, interval, row_cmp, fits_heading}
use Rattle.relation_core.proofs.AgreementLemmas.{length_of_fit}
use Rattle.log_times.specs.Logs.{stamped, unstamped, statements, after, IsStretch, IsInLog, prolonged, stood_at, moved, moved_on, logged}
use Rattle.log_times.specs.Told.{AreLong, IsLogRow, value_after, AreApart}
use Rattle.log_times.proofs.StampLemmas.{length-stamped, value_at-stamped, unstamped-stamped, statements-stamped}
use Rattle.log_times.proofs.StretchLemmas.{around, one_stretch}
use Rattle.log_times.proofs.StatementLemmas.{has_row, AreLongAt, IsTold, long_stretch, told_more, more_told}

-- ---- more statements

pub moved_on-append : (side : ℕ) (n : ℤ) (values more : List (List Row)) (log : List Row) → moved_on side n (values ++ more) log ≡ moved_on side (n +ℤ pos (length values)) more (moved_on side n values log)
moved_on-append side n [] more log = ap (λ (i : ℤ). moved_on side i more log) (omega (arith, ints))
moved_on-append side n (now ∷ rest) more log =
    moved_on-append side (n +ℤ pos 1) rest more (moved side n now log)
    ∙ ap (λ (i : ℤ). moved_on side i more (moved_on side (n +ℤ pos 1) rest (moved side n now log))) (omega (arith, ints))

pub moved-is-logged : (side : ℕ) (m : ℤ) (values : List (List Row)) (now : List Row) → logged side m (values ++ now ∷ []) ≡ moved side (m +ℤ pos (length values)) now (logged side m values)
moved-is-logged side m values now = moved_on-append side m values (now ∷ []) []

-- ---- a log's rows are a set

moved_on-ascends : (side : ℕ) (n : ℤ) (values : List (List Row)) (log : List Row) → Ascends row_cmp log → Ascends row_cmp (moved_on side n values log)
moved_on-ascends side n [] log a = a
moved_on-ascends side n (now ∷ rest) log a = moved_on-ascends side (n +ℤ pos 1) rest (moved side n now log)
    (Ascends-in_order row_cmp row_total row_separates (map (prolonged side n now) log ++ map (stamped side (at_point n)) (filter (λ x. not (stood_at side (n -ℤ pos 1) log x)) now)))

pub logged-set : (side : ℕ) (m : ℤ) (values : List (List Row)) → is_set row_cmp (logged side m values) ≡ true
logged-set side m values = (is_set-Ascends row_cmp row_total (logged side m values)).1 (moved_on-ascends side m values [] tt)

-- ---- its rows are those of the sentence

long_at : (side : ℕ) (values : List (List Row)) → AreLong side values → AreLongAt side values
long_at side values long k x l h = All-contains (λ (r : Row). side ≤ length r) (after values k) x (long k [] l) (Contains-from_In (after values k) x ((has_row (after values k) x).0 h))

-- rows that fit a heading have the place that it has
pub long-fitting : (side : ℕ) (heading : Heading) (values : List (List Row)) → side ≤ length heading → All (λ (rows : List Row). IsTrue (list_all (fits_heading heading) rows)) values → AreLong side values
long-fitting side heading values l fit k d within j e inside =
    let rows : List Row = get_or values k d in
    let row : Row = get_or rows j e in
    let fits : IsTrue (fits_heading heading row) = (list_all-In (fits_heading heading) rows).0 (fit k d within) row (In-get_or rows j e inside) in
    let size : length row ≡ length heading = length_of_fit heading row fits in
    subst (λ (n : ℕ). side ≤ n) (sym size) l

log_after : (side : ℕ) (m : ℤ) (rest past : List (List Row)) (log : List Row) → AreLongAt side (past ++ rest) → IsTold side m past log
    → IsTold side m (past ++ rest) (moved_on side (m +ℤ pos (length past)) rest log)
log_after side m [] past log long told = subst (λ (values : List (List Row)). IsTold side m values log) (sym (append-nil past)) told
log_after side m (now ∷ rest) past log long told =
    let size = length_more past now in
    let number : m +ℤ pos (length (past ++ now ∷ [])) ≡ (m +ℤ pos (length past)) +ℤ pos 1 = omega (arith, ints, size) in
    let joined : (past ++ now ∷ []) ++ rest ≡ past ++ now ∷ rest = append_assoc past (now ∷ []) rest in
    let long_past : AreLongAt side past = λ k x l h. long k x (length_less past rest now k l)
    (ap (λ (rows : List Row). has row_cmp rows x) (get_or_append_left past (now ∷ rest) [] k l) ∙ h) in
    let long_now : (x : Row) → has row_cmp now x ≡ true → side ≤ length x = λ x h. long (length past) x (length_here past rest now)
    (ap (λ (rows : List Row). has row_cmp rows x) (get_or-append_seam past now rest []) ∙ h) in
    let next : IsTold side m (past ++ now ∷ []) (moved side (m +ℤ pos (length past)) now log) =
    λ y. (told_more side m past now log long_past long_now told y, more_told side m past now log long_past long_now told y) in
    let all = log_after side m rest (past ++ now ∷ []) (moved side (m +ℤ pos (length past)) now log) (subst (λ (values : List (List Row)). AreLongAt side values) (sym joined) long) next in
    subst (λ (i : ℤ). IsTold side m (past ++ now ∷ rest) (moved_on side i rest (moved side (m +ℤ pos (length past)) now log))) number
    (subst (λ (values : List (List Row)). IsTold side m values (moved_on side (m +ℤ pos (length (past ++ now ∷ []))) rest (moved side (m +ℤ pos (length past)) now log))) joined all)
  where
    length_here : (past rest : List (List Row)) (now : List Row) → length past < length (past ++ now ∷ rest)
    length_here [] rest now = omega arith
    length_here (v ∷ past) rest now = let h = length_here past rest now in omega (arith, h)

    length_less : (past rest : List (List Row)) (now : List Row) (k : ℕ) → k < length past → k < length (past ++ now ∷ rest)
    length_less past rest now k l = let h = length_here past rest now in omega (arith, h, l)

none_told : (side : ℕ) (m : ℤ) → IsTold side m [] []
none_told side m y = (λ i. absurd i, λ s. let within : s.e < 0 = s.stretch.within in absurd (omega (arith, within)))

logged-told : (side : ℕ) (m : ℤ) (values : List (List Row)) → AreLongAt side values → IsTold side m values (logged side m values)
logged-told side m values long =
    subst (λ (i : ℤ). IsTold side m values (moved_on side i values [])) (omega (arith, ints)) (log_after side m values [] [] long (none_told side m))

pub in_log : (side : ℕ) (m : ℤ) (values : List (List Row)) → AreLong side values → (y : Row) → (has row_cmp (logged side m values) y ≡ true) ↔ IsInLog side m values y
in_log side m values long y =
    let there = has_row (logged side m values) y in
    let told = logged-told side m values (long_at side values long) y in
    (λ h. told.0 (there.0 h), λ s. there.1 (told.1 s))

-- each row of the log is one of the sentence, and the other way round
pub is_told : (side : ℕ) (m : ℤ) (values : List (List Row)) → AreLong side values → (y : Row) → has row_cmp (logged side m values) y ≡ true → IsInLog side m values y
is_told side m values long y = (in_log side m values long y).0

pub is_in : (side : ℕ) (m : ℤ) (values : List (List Row)) → AreLong side values → (y : Row) → IsInLog side m values y → has row_cmp (logged side m values) y ≡ true
is_in side m values long y = (in_log side m values long y).1

-- ---- the parts of its rows

-- what the parts of a log's row are
row_is : (side : ℕ) (m : ℤ) (values : List (List Row)) → AreLongAt side values → (y : Row) (s : IsInLog side m values y) → (unstamped side y ≡ s.x) × (statements side y ≡ (m +ℤ pos s.b, m +ℤ pos s.e))
row_is side m values long y s =
    let l = long_stretch side values s.x s.b s.e long s.stretch in (
      ap (unstamped side) s.row ∙ unstamped-stamped side (m +ℤ pos s.b, m +ℤ pos s.e) s.x l,
      ap (statements side) s.row ∙ statements-stamped side (m +ℤ pos s.b, m +ℤ pos s.e) s.x l,
    )

log_row : (side : ℕ) (m : ℤ) (size b e : ℕ) (x : Row) → side ≤ length x → b ≤ e → e < size → IsLogRow side m size (stamped side (m +ℤ pos b, m +ℤ pos e) x)
log_row side m size b e x l ordered within =
    let parts = statements-stamped side (m +ℤ pos b, m +ℤ pos e) x l in
    record {
      within = length-stamped side (m +ℤ pos b, m +ℤ pos e) x l;
      line = value_at-stamped side (m +ℤ pos b, m +ℤ pos e) x l ∙ ap (interval integers) (sym parts);
      begun = subst (λ (i : Span). m ≤ℤ i.0) (sym parts) (omega (arith, ints));
      ordered = subst (λ (i : Span). i.0 ≤ℤ i.1) (sym parts) (omega (arith, ints, ordered));
      ended = subst (λ (i : Span). i.1 <ℤ (m +ℤ pos size)) (sym parts) (omega (arith, ints, within));
    }

-- each row has the place, an interval of statements at it, and these are among those that there were
pub logged-row : (side : ℕ) (m : ℤ) (values : List (List Row)) → AreLong side values → (y : Row) → has row_cmp (logged side m values) y ≡ true → IsLogRow side m (length values) y
logged-row side m values long y h =
    let s = (in_log side m values long y).0 h in
    let ordered : s.b ≤ s.e = s.stretch.ordered in
    let within : s.e < length values = s.stretch.within in
    let l = long_stretch side values s.x s.b s.e (long_at side values long) s.stretch in
    subst (λ (r : Row). IsLogRow side m (length values) r) (sym s.row) (log_row side m (length values) s.b s.e s.x l ordered within)

-- ---- the relvar's rows after each statement, by the log

member_of : (m : ℤ) (b e k : ℕ) → (has_member (m +ℤ pos b, m +ℤ pos e) (m +ℤ pos k) ≡ true) ↔ ((b ≤ k) × (k ≤ e))
member_of m b e k =
    let w = has_member-between (m +ℤ pos b, m +ℤ pos e) (m +ℤ pos k) in (
      λ h. let v = w.0 h in let low = v.0 in let high = v.1 in (omega (arith, ints, low), omega (arith, ints, high)),
      λ h. let low = h.0 in let high = h.1 in w.1 (omega (arith, ints, low), omega (arith, ints, high)),
    )

pub logged-at : (side : ℕ) (m : ℤ) (values : List (List Row)) → AreLong side values → (k : ℕ) → k < length values → (x : Row)
    → (has row_cmp (after values k) x ≡ true)
    ↔ ((row : Row) × (has row_cmp (logged side m values) row ≡ true) × (unstamped side row ≡ x) × (has_member (statements side row) (m +ℤ pos k) ≡ true))
logged-at side m values long k l x = (
  λ h. let w = around values x k l h in
      let row : Row = stamped side (m +ℤ pos w.0, m +ℤ pos w.1) x in
      let there : IsInLog side m values row = record { x = x; b = w.0; e = w.1; row = refl; stretch = w.4 } in
      let parts = row_is side m values (long_at side values long) row there in (
        row,
        (in_log side m values long row).1 there,
        parts.0,
        ap (λ (i : Span). has_member i (m +ℤ pos k)) parts.1 ∙ (member_of m w.0 w.1 k).1 (w.2, w.3),
      ),
  λ w. let s = (in_log side m values long w.0).0 w.1 in
      let parts = row_is side m values (long_at side values long) w.0 s in
      let inside = (member_of m s.b s.e k).0 (ap (λ (i : Span). has_member i (m +ℤ pos k)) (sym parts.1) ∙ w.3) in
      subst (λ (r : Row). has row_cmp (after values k) r ≡ true) (sym parts.0 ∙ w.2) (s.stretch.stood k inside.0 inside.1),
)

-- and as a set
pub logged-value : (side : ℕ) (m : ℤ) (values : List (List Row)) → AreLong side values → (k : ℕ) → k < length values → is_set row_cmp (after values k) ≡ true
    → value_after side (m +ℤ pos k) (logged side m values) ≡ after values k
logged-value side m values long k l set =
    same_by_members row_cmp row_total row_separates (value_after side (m +ℤ pos k) (logged side m values)) (after values k)
    (Ascends-in_order row_cmp row_total row_separates (map (unstamped side) (filter (λ (row : Row). has_member (statements side row) (m +ℤ pos k)) (logged side m values))))
    ((is_set-Ascends row_cmp row_total (after values k)).0 set) (λ x.
    let rows = filter (λ (row : Row). has_member (statements side row) (m +ℤ pos k)) (logged side m values) in
    let whole = logged-at side m values long k l x in
    let placed = In-in_order row_cmp row_total row_separates x (map (unstamped side) rows) in
    let mapped = In-map (unstamped side) x rows in (
      λ i. let w = mapped.0 (placed.0 i) in
          let v = (In-filter (λ (row : Row). has_member (statements side row) (m +ℤ pos k)) w.0 (logged side m values)).0 w.1 in
          (has_row (after values k) x).0 (whole.1 (w.0, (has_row (logged side m values) w.0).1 v.0, sym w.2, v.1)),
      λ i. let w = whole.0 ((has_row (after values k) x).1 i) in
          let v = (In-filter (λ (row : Row). has_member (statements side row) (m +ℤ pos k)) w.0 (logged side m values)).1 ((has_row (logged side m values) w.0).0 w.1, w.3) in
          placed.1 (mapped.1 (w.0, v, sym w.2)),
    ))

-- ---- no two rows meet or overlap

apart_at : (side : ℕ) (m : ℤ) (values : List (List Row)) (x : Row) (b e c f : ℕ) → IsStretch values x b e → IsStretch values x c f
    → (stamped side (m +ℤ pos b, m +ℤ pos e) x ≡ stamped side (m +ℤ pos c, m +ℤ pos f) x)
    ⊎ ((((m +ℤ pos e) +ℤ pos 1) <ℤ (m +ℤ pos c)) ⊎ (((m +ℤ pos f) +ℤ pos 1) <ℤ (m +ℤ pos b)))
apart_at side m values x b e c f s t =
    elim (cases_lt (suc e) c) [
      | inl l ↦ inr (inl (omega (arith, ints, l)))
      | inr l ↦ elim (cases_lt (suc f) b) [
        | inl n ↦ inr (inr (omega (arith, ints, n)))
        | inr n ↦
            let one = one_stretch values x b e c f s t l n in
            inl (ap₂ (λ (i j : ℕ). stamped side (m +ℤ pos i, m +ℤ pos j) x) one.0 one.1)
      ]
    ]

pub logged-apart : (side : ℕ) (m : ℤ) (values : List (List Row)) → AreLong side values → (y z : Row) → has row_cmp (logged side m values) y ≡ true → has row_cmp (logged side m values) z ≡ true
    → AreApart side y z
logged-apart side m values long y z h k same =
    let s = (in_log side m values long y).0 h in
    let t = (in_log side m values long z).0 k in
    let first = row_is side m values (long_at side values long) y s in
    let second = row_is side m values (long_at side values long) z t in
    let one : t.x ≡ s.x = sym second.0 ∙ (sym same ∙ first.0) in
    let row : z ≡ stamped side (m +ℤ pos t.b, m +ℤ pos t.e) s.x = t.row ∙ ap (stamped side (m +ℤ pos t.b, m +ℤ pos t.e)) one in
    let stretch : IsStretch values s.x t.b t.e = subst (λ (x : Row). IsStretch values x t.b t.e) one t.stretch in
    elim (apart_at side m values s.x s.b s.e t.b t.e s.stretch stretch) [
      | inl e ↦ inl (s.row ∙ (e ∙ sym row))
      | inr e ↦ inr (subst (λ (i : Span). ((i.1 +ℤ pos 1) <ℤ (statements side z).0) ⊎ (((statements side z).1 +ℤ pos 1) <ℤ i.0)) (sym first.1)
          (subst (λ (j : Span). (((m +ℤ pos s.e) +ℤ pos 1) <ℤ j.0) ⊎ ((j.1 +ℤ pos 1) <ℤ (m +ℤ pos s.b))) (sym second.1) e))
    ]
