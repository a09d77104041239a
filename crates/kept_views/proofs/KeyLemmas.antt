-- Rows of one key whose positions are not listed: they are unpacked, and packed, by themselves.
--     AreClear      no position is one of the list
--     unpacked_of_key, packed_of_key      of a key at clear positions
--     unpacked_long      unpacked rows are as long as the rows
use Rattle.std.proofs.Common.{◌≡◌, ◌⊎◌, inl, inr, ℕ, zero, suc, false, List, [], ◌∷◌, length, get_or, set, map, refl, sym, ap, ◌∙◌, subst}
use Rattle.std.specs.List.{flat_map}
use Rattle.std.specs.Ordering.{eq_by_cmp}
use Rattle.std.proofs.lemmas.List.{length-set}
use Rattle.base_core.proofs.SetLemmas.{In, In-in_order}
use Rattle.base_core.proofs.MemberLemmas.{In-map, In-flat_map}
use Rattle.base_core.proofs.ListLemmas.{map-In}
use Rattle.interval_core.specs.Members.{Span, at_point, members}
use Rattle.interval_core.specs.Packing.{unpack1}
use Rattle.value_core.specs.Attributes.{value_at, span_of, with_span, put_span}
use Rattle.value_core.specs.Order.{row_total, row_separates}
use Rattle.value_core.specs.RowPacking.{attribute, packed, unpacked}
use Rattle.value_core.specs.Values.{Value, truth, text, point, interval, Row, row_cmp}
use Rattle.relation_core.specs.Agreement.{part_of}
use Rattle.scalar_core.proofs.SweepLemmas.{span_there}
use Rattle.kept_views.specs.Kept.{has_key, of_key}
use Rattle.kept_views.proofs.PartedLemmas.{AreUnseen, unpack_parted, pack_parted}

-- ---- a row with another interval

set_own : (row : Row) (i : ℕ) → set row i (value_at row i) ≡ row
set_own [] i = refl
set_own (v ∷ row) zero = refl
set_own (v ∷ row) (suc i) = ap (λ (r : Row). v ∷ r) (set_own row i)

get_elsewhere : (row : Row) (i j : ℕ) (v : Value) → (j ≡ i → ⊥) → get_or (set row i v) j (truth false) ≡ get_or row j (truth false)
get_elsewhere [] i j v other = refl
get_elsewhere (u ∷ row) zero zero v other = absurd (other refl)
get_elsewhere (u ∷ row) zero (suc j) v other = refl
get_elsewhere (u ∷ row) (suc i) zero v other = refl
get_elsewhere (u ∷ row) (suc i) (suc j) v other = get_elsewhere row i j v (λ e. other (ap suc e))

-- the interval is the one that was put, or there is none to be put
held_at : (i : ℕ) (row : Row) → ((s : Span) → span_of (value_at (put_span row i s) i) ≡ s) ⊎ ((s : Span) → put_span row i s ≡ row)
held_at i row = by_value (value_at row i) refl
  where
    same : (v : Value) → value_at row i ≡ v → ((s : Span) → with_span v s ≡ v) → (s : Span) → put_span row i s ≡ row
    same v e h s = ap (set row i) (ap (λ w. with_span w s) e ∙ h s ∙ sym e) ∙ set_own row i

    by_value : (v : Value) → value_at row i ≡ v → ((s : Span) → span_of (value_at (put_span row i s) i) ≡ s) ⊎ ((s : Span) → put_span row i s ≡ row)
    by_value (truth b) e = inr (same (truth b) e (λ s. refl))
    by_value (text bytes) e = inr (same (text bytes) e (λ s. refl))
    by_value (point l p) e = inr (same (point l p) e (λ s. refl))
    by_value (interval l j) e = inl (λ s. ap span_of (span_there row i s ∙ ap (λ w. with_span w s) e))

-- ---- keys apart from the list

abbrev pub AreClear : List ℕ → List ℕ → Type 0
AreClear positions commalist = (i : ℕ) → In i positions → In i commalist → ⊥

part_elsewhere : (positions : List ℕ) (k : ℕ) (row : Row) (s : Span) → (In k positions → ⊥) → part_of positions (put_span row k s) ≡ part_of positions row
part_elsewhere positions k row s out =
    map-In (λ i. get_or (put_span row k s) i (truth false)) (λ i. get_or row i (truth false)) positions (λ i m.
    get_elsewhere row k i (with_span (value_at row k) s) (λ e. out (subst (λ j. In j positions) e m)))

keys_unseen : (positions : List ℕ) (key : Row) (commalist : List ℕ) → AreClear positions commalist → AreUnseen (has_key positions key) (map attribute commalist)
keys_unseen positions key [] c = tt
keys_unseen positions key (k ∷ commalist) c = (
  record {
    unseen = λ row s. ap (λ (r : Row). eq_by_cmp row_cmp r key) (part_elsewhere positions k row s (λ m. c k m (inl refl)));
    held = held_at k;
  },
  keys_unseen positions key commalist (λ i m n. c i m (inr n)),
)

pub unpacked_of_key : (positions : List ℕ) (key : Row) (commalist : List ℕ) → AreClear positions commalist → (rows : List Row) → of_key positions key (unpacked commalist rows) ≡ unpacked commalist (of_key positions key rows)
unpacked_of_key positions key commalist c rows = unpack_parted row_cmp row_total row_separates (has_key positions key) (map attribute commalist) (keys_unseen positions key commalist c) rows

pub packed_of_key : (positions : List ℕ) (key : Row) (commalist : List ℕ) → AreClear positions commalist → (rows : List Row) → of_key positions key (packed commalist rows) ≡ packed commalist (of_key positions key rows)
packed_of_key positions key commalist c rows = pack_parted row_cmp row_total row_separates (has_key positions key) (map attribute commalist) (keys_unseen positions key commalist c) rows

-- ---- how long rows are

pub unpacked_long : (n : ℕ) (commalist : List ℕ) (rows : List Row) → ((x : Row) → In x rows → length x ≡ n) → (x : Row) → In x (unpacked commalist rows) → length x ≡ n
unpacked_long n [] rows h = h
unpacked_long n (k ∷ commalist) rows h =
    unpacked_long n commalist (unpack1 row_cmp (attribute k) rows) (λ x i.
    let f : Row → List Row = λ y. map (λ p. put_span y k (at_point p)) (members (span_of (value_at y k))) in
    let w = (In-flat_map f x rows).0 ((In-in_order row_cmp row_total row_separates x (flat_map f rows)).0 i) in
    let v = (In-map (λ p. put_span w.0 k (at_point p)) x (members (span_of (value_at w.0 k)))).0 w.2 in
    ap length v.2 ∙ length-set w.0 k (with_span (value_at w.0 k) (at_point v.0)) ∙ h w.0 w.1)
