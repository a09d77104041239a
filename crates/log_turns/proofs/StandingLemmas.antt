-- The relvar's rows of those that still stand.
--     taken_out      a row of the log without its interval
--     one_more      one row more is looked at
--     standing_fit, fewer_standing      they fit the relvar's heading, and are no more than those that are stored
use Rattle.std.proofs.Common.{◌≡◌, ℕ, zero, suc, ◌+◌, ◌<◌, ◌≤◌, Bool, true, false, List, [], ◌∷◌, ◌++◌, length, map, take, get_or, refl, sym, ap, ap₂, ◌∙◌, subst, arith, cond, if◌then◌else◌}
use Rattle.std.specs.Bool.{IsTrue}
use Rattle.std.specs.List.{filter, remove}
use Rattle.std.proofs.lemmas.Bool.{true≢false, and_parts, and_from}
use Rattle.std.proofs.lemmas.List.{length-map, map-append}
use Rattle.std.proofs.lemmas.List.Elements.{filter_more}
use Rattle.base_core.proofs.MemberLemmas.{In-map, In-filter, list_all-In}
use Rattle.value_core.specs.Plain.{plain}
use Rattle.value_core.specs.Relations.{all_fit}
use Rattle.value_core.specs.Values.{Row, Heading, fits, fits_heading}
use Rattle.value_core.specs.declared.value.Value.{Value as CodeValue}
use Rattle.relation_core.proofs.FilterLemmas.{length-filter_at_most}
use Rattle.log_times.specs.Logs.{unstamped, is_standing}
use Rattle.log_times.specs.Turns.{without}

-- ---- one row

map_remove : {X Y : Type 0} (f : X → Y) (xs : List X) (i : ℕ) → map f (remove xs i) ≡ remove (map f xs) i
map_remove f [] zero = refl
map_remove f [] (suc i) = refl
map_remove f (x ∷ xs) zero = refl
map_remove f (x ∷ xs) (suc i) = ap (λ ys. f x ∷ ys) (map_remove f xs i)

pub taken_out : (values now : List CodeValue) (row : Row) (side : ℕ) → map plain values ≡ row → now ≡ remove values side → map plain now ≡ unstamped side row
taken_out values now row side same e = ap (map plain) e ∙ (map_remove plain values side ∙ ap (unstamped side) same)

unstamped_fits : (heading : Heading) (side : ℕ) (row : Row) → IsTrue (fits_heading heading row) → IsTrue (fits_heading (without side heading) (unstamped side row))
unstamped_fits [] zero [] h = h
unstamped_fits [] (suc side) [] h = h
unstamped_fits [] side (v ∷ row) h = absurd (true≢false (sym h))
unstamped_fits (a ∷ rest) side [] h = absurd (true≢false (sym h))
unstamped_fits (a ∷ rest) zero (v ∷ row) h = (and_parts (fits a.1 v) (fits_heading rest row) h).1
unstamped_fits (a ∷ rest) (suc side) (v ∷ row) h =
    let parts = and_parts (fits a.1 v) (fits_heading rest row) h in
    and_from (fits a.1 v) (fits_heading (without side rest) (unstamped side row)) parts.0 (unstamped_fits rest side row parts.1)

-- ---- those that stand

abbrev standing_list : ℕ → List Row → List Row
standing_list side rows = map (unstamped side) (filter (is_standing side) rows)

one_or_none : (side : ℕ) (b : Bool) (x : Row) → map (unstamped side) (cond b (x ∷ []) []) ≡ (if b then unstamped side x ∷ [] else [])
one_or_none side true x = refl
one_or_none side false x = refl

more_rows : (side : ℕ) (rows : List Row) (i : ℕ) (d : Row) → i < length rows
    → standing_list side (take (i + 1) rows) ≡ standing_list side (take i rows) ++ (if is_standing side (get_or rows i d) then unstamped side (get_or rows i d) ∷ [] else [])
more_rows side rows i d l =
    let x : Row = get_or rows i d in
    let more : List Row = cond (is_standing side x) (x ∷ []) [] in
    ap (map (unstamped side)) (filter_more (is_standing side) rows i d l)
    ∙ (map-append (unstamped side) (filter (is_standing side) (take i rows)) more ∙ ap (λ (l : List Row). standing_list side (take i rows) ++ l) (one_or_none side (is_standing side x) x))

pub one_more : (side : ℕ) (rows list now : List Row) (i : ℕ) (x : Row) → i < length rows → x ≡ get_or rows i x → list ≡ standing_list side (take i rows)
    → now ≡ list ++ (if is_standing side x then unstamped side x ∷ [] else []) → now ≡ standing_list side (take (i + 1) rows)
one_more side rows list now i x l same before e =
    e ∙ (ap₂ (λ (r : List Row) (y : Row). r ++ (if is_standing side y then unstamped side y ∷ [] else [])) before same ∙ sym (more_rows side rows i x l))

pub standing_fit : (heading : Heading) (side : ℕ) (rows : List Row) → IsTrue (all_fit heading rows) → IsTrue (all_fit (without side heading) (standing_list side rows))
standing_fit heading side rows fit = (list_all-In (fits_heading (without side heading)) (standing_list side rows)).1 (λ y i.
    let m = (In-map (unstamped side) y (filter (is_standing side) rows)).0 i in
    let f = (In-filter (is_standing side) m.0 rows).0 m.1 in
    subst (λ z. IsTrue (fits_heading (without side heading) z)) (sym m.2) (unstamped_fits heading side m.0 ((list_all-In (fits_heading heading) rows).0 fit m.0 f.0)))

pub fewer_standing : (most side : ℕ) (rows : List Row) → length rows ≤ most → length (standing_list side rows) ≤ most
fewer_standing most side rows few =
    let same = length-map (filter (is_standing side) rows) (unstamped side) in
    let less = length-filter_at_most (is_standing side) rows in
    omega (arith, same, less, few)
