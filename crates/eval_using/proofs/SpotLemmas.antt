-- Spots of values, and that those of the unlisted ones are the places of a label's values.
use Rattle.std.proofs.Common.{◌≡◌, ℕ, zero, suc, ◌+◌, ◌<◌, Bool, true, false, Option, Some, None, Result, Ok, Err, List, [], ◌∷◌, ◌++◌, map, take, drop, length, get_or, arith, refl, sym, ap, ap₂, ◌∙◌}
use Rattle.std.specs.Option.{IfSome}
use Rattle.std.specs.Result.{IfOk}
use Rattle.std.proofs.lemmas.List.{map-append, append_assoc, get_or-append-add, get_or-map}
use Rattle.value_core.specs.Attributes.{among}
use Rattle.value_core.specs.Values.{Row, Value, truth}
use Rattle.relation_core.specs.Agreement.{part_of}
use Rattle.u_set.specs.Boxes.{unless, others_from, others}
use Rattle.u_row.specs.Kept.{unlisted, inner}
use Rattle.u_row.proofs.LabelLemmas.{inner_values}
use Rattle.eval_using.specs.Columns.{ArePlaces}
use Rattle.eval_using.specs.Spots.{IsSpot, AreSpots}

-- ---- what holds of values that may be there

pub if_some : {X : Type 0} (P Q : X → Type 0) (o : Option X) → ((x : X) → P x → Q x) → IfSome o P → IfSome o Q
if_some P Q (Some x) h p = h x p
if_some P Q None h p = tt

pub if_ok : {X E : Type 0} (P Q : X → Type 0) (r : Result X E) → ((x : X) → P x → Q x) → IfOk r P → IfOk r Q
if_ok P Q (Ok x) h p = h x p
if_ok P Q (Err e) h p = tt

-- ---- spots

abbrev none : Value
none = truth false

-- and a value of the part behind the made ones
pub spot_by_index : (many : ℕ) (part : List ℕ) (position i : ℕ) → i < length part → get_or part i 0 ≡ position → IsSpot many part (many + position) (many + i)
spot_by_index many part position i l e made row n =
    ap (λ m. get_or (made ++ row) (m + position) none) (sym n) ∙ get_or-append-add made row position none
    ∙ ap (λ p. get_or row p none) (sym e) ∙ sym (get_or-map (λ p. get_or row p none) part i 0 none l)
    ∙ sym (get_or-append-add made (part_of part row) i none) ∙ ap (λ m. get_or (made ++ part_of part row) (m + i) none) n

taken : {X : Type 0} (f : ℕ → X) (ps : List ℕ) (i p : ℕ) → i < length ps → p ≡ get_or ps i 0 → map f (take (suc i) ps) ≡ map f (take i ps) ++ f p ∷ []
taken f [] i p l e = absurd (omega (arith, l))
taken f (q ∷ ps) zero p l e = ap (λ z. f z ∷ []) (sym e)
taken f (q ∷ ps) (suc i) p l e = ap (λ zs. f q ∷ zs) (taken f ps i p (omega (arith, l)) e)

pub spots_more : (many : ℕ) (part places : List ℕ) (i place spot : ℕ) (old new : List ℕ) → i < length places → place ≡ get_or places i 0 → AreSpots many part (take i places) old → IsSpot many part place spot
    → new ≡ old ++ spot ∷ [] → AreSpots many part (take (i + 1) places) new
spots_more many part places i place spot old new l at are is made_of made row n =
    let s : i + 1 ≡ suc i = omega arith in
    ap (λ k. part_of (take k places) (made ++ row)) s
    ∙ taken (λ p. get_or (made ++ row) p none) places i place l at
    ∙ ap₂ (λ (xs : Row) (x : Value). xs ++ x ∷ []) (are made row n) (is made row n)
    ∙ sym (map-append (λ p. get_or (made ++ part_of part row) p none) old (spot ∷ []))
    ∙ ap (λ ps. part_of ps (made ++ part_of part row)) (sym made_of)

others_mapped : {X : Type 0} (f : ℕ → X) (n : ℕ) (commalist ps : List ℕ) → others_from n commalist (map f ps) ≡ map f (others_from n commalist ps)
others_mapped f n commalist [] = refl
others_mapped {X} f n commalist (p ∷ ps) = go (among commalist n) (others_from (suc n) commalist (map f ps)) (others_from (suc n) commalist ps) (others_mapped f (suc n) commalist ps)
  where
    go : (b : Bool) (us : List X) (vs : List ℕ) → us ≡ map f vs → unless b (f p) us ≡ map f (unless b p vs)
    go true us vs e = e
    go false us vs e = ap (λ us. f p ∷ us) e

-- ---- what is not listed

dropped : (xs : List ℕ) (i x : ℕ) → i < length xs → x ≡ get_or xs i 0 → drop i xs ≡ x ∷ drop (suc i) xs
dropped [] i x l e = absurd (omega (arith, l))
dropped (y ∷ xs) zero x l e = ap (λ z. z ∷ xs) (sym e)
dropped (y ∷ xs) (suc i) x l e = dropped xs i x (omega (arith, l)) e

others_at : (commalist list : List ℕ) (i x : ℕ) → i < length list → x ≡ get_or list i 0 → others_from i commalist (drop i list) ≡ unless (among commalist i) x (others_from (i + 1) commalist (drop (i + 1) list))
others_at commalist list i x l e =
    let s : suc i ≡ i + 1 = omega arith in
    ap (others_from i commalist) (dropped list i x l e) ∙ ap (λ k. unless (among commalist i) x (others_from k commalist (drop k list))) s

pub others_passed : (commalist list kept : List ℕ) (i x : ℕ) → i < length list → x ≡ get_or list i 0 → among commalist i ≡ true → kept ++ others_from i commalist (drop i list) ≡ others commalist list
    → kept ++ others_from (i + 1) commalist (drop (i + 1) list) ≡ others commalist list
others_passed commalist list kept i x l e b h =
    ap (λ us. kept ++ us) (sym (others_at commalist list i x l e ∙ ap (λ t. unless t x (others_from (i + 1) commalist (drop (i + 1) list))) b)) ∙ h

pub others_kept : (commalist list kept more : List ℕ) (i x : ℕ) → i < length list → x ≡ get_or list i 0 → among commalist i ≡ false → more ≡ kept ++ x ∷ [] → kept ++ others_from i commalist (drop i list) ≡ others commalist list
    → more ++ others_from (i + 1) commalist (drop (i + 1) list) ≡ others commalist list
others_kept commalist list kept more i x l e b m h =
    ap (λ us. us ++ others_from (i + 1) commalist (drop (i + 1) list)) m
    ∙ append_assoc kept (x ∷ []) (others_from (i + 1) commalist (drop (i + 1) list))
    ∙ ap (λ us. kept ++ us) (sym (others_at commalist list i x l e ∙ ap (λ t. unless t x (others_from (i + 1) commalist (drop (i + 1) list))) b)) ∙ h

pub places_of_spots : (to at commalist by : List ℕ) (many : ℕ) (spots : List ℕ) → AreSpots many (unlisted commalist by) (others to at) spots → (rows : List Row) → ArePlaces spots to at (inner commalist by) many rows (map (others commalist) rows)
places_of_spots to at commalist by many spots are rows made r n l =
    let x : Row = get_or rows r [] in
    others_mapped (λ p. get_or (made ++ x) p none) 0 to at
    ∙ are made x n
    ∙ ap (λ (k : Row). part_of spots (made ++ k)) (sym (inner_values commalist by x none))
    ∙ ap (λ (k : Row). part_of spots (made ++ part_of (inner commalist by) k)) (sym (get_or-map (others commalist) rows r [] [] l))
