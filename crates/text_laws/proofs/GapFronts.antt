-- The longest front of bytes that is white space and whole comments.
--     gap-behind      behind a gap, bytes are a gap where they are one alone
--     gaps-add      what the gaps are behind a gap
--     without-front      a gap in front changes nothing of the bytes without gaps
--     all-front      the front that is taken off is a gap, and no longer than the bytes
--     no-gaps, gaps-once, gaps-behind      bytes without gaps have none, also behind a byte 10
use Rattle.std.proofs.Common.{◌≡◌, ℕ, zero, suc, ◌+◌, ◌≤◌, List, [], ◌∷◌, ◌++◌, length, take, drop, Bool, true, false, ◌&&◌, if◌then◌else◌, refl, sym, ◌∙◌, ap, arith, length-append, length-take-le, take-append-drop, take-add}
use Rattle.std.proofs.lemmas.List.{take_at, drop_at}
use Rattle.utd_lexer.specs.declared.cutter.Mode.{Mode}
use Rattle.utd_lexer.specs.declared.cutter.Mode.TheVariants.{Between, Slash, Text, Block, Star, Line}
use Rattle.utd_lexer.specs.Cutting.{can_be_blank, is_between, run}
use Rattle.utd_lexer.specs.Gaps.{is_gap, gaps_len, without_gaps}
use Rattle.utd_lexer.proofs.CutLemmas.{run-append}
use Rattle.std.proofs.lemmas.Bool.{false≢true}
use Rattle.utd_lexer.proofs.BlankLemmas.{can_be_blank-append}
use Rattle.base_core.proofs.BoolLemmas.{and_left, and_right}

-- ---- one gap behind another

ends-between : (bytes : List ℕ) (m : Mode) → run Between bytes ≡ m → is_between m ≡ true → run Between bytes ≡ Between
ends-between bytes Between e h = e
ends-between bytes Slash e h = absurd (false≢true h)
ends-between bytes Text e h = absurd (false≢true h)
ends-between bytes Block e h = absurd (false≢true h)
ends-between bytes Star e h = absurd (false≢true h)
ends-between bytes Line e h = absurd (false≢true h)

pub gap-ends : (g : List ℕ) → is_gap g ≡ true → run Between g ≡ Between
gap-ends g h = ends-between g (run Between g) refl (and_right (can_be_blank Between true g) (is_between (run Between g)) h)

pub gap-blank : (g : List ℕ) → is_gap g ≡ true → can_be_blank Between true g ≡ true
gap-blank g h = and_left (can_be_blank Between true g) (is_between (run Between g)) h

pub gap-behind : (g s : List ℕ) → is_gap g ≡ true → is_gap (g ++ s) ≡ is_gap s
gap-behind g s h =
    let mode : run Between (g ++ s) ≡ run Between s = run-append Between g s ∙ ap (λ m. run m s) (gap-ends g h) in
    let blank : can_be_blank Between true (g ++ s) ≡ can_be_blank Between true s =
    can_be_blank-append Between true g s ∙ ap (λ m. can_be_blank m (can_be_blank Between true g) s) (gap-ends g h) ∙ ap (λ ok. can_be_blank Between ok s) (gap-blank g h) in
    ap (λ ok. ok && is_between (run Between (g ++ s))) blank ∙ ap (λ m. can_be_blank Between true s && is_between m) mode

pub gap-join : (g s : List ℕ) → is_gap g ≡ true → is_gap s ≡ true → is_gap (g ++ s) ≡ true
gap-join g s h i = gap-behind g s h ∙ i

-- ---- the longest front

gaps-at : (bytes : List ℕ) (n : ℕ) → is_gap (take n bytes) ≡ true → gaps_len bytes n ≡ n
gaps-at bytes zero h = refl
gaps-at bytes (suc n) h = ap (λ b. if b then suc n else gaps_len bytes n) h

longer : (g s : List ℕ) (k : ℕ) → take (length g + k) (g ++ s) ≡ g ++ take k s
longer g s k =
    take-add (length g) k (g ++ s) ∙ ap (λ z. z ++ take k (drop (length g) (g ++ s))) (take_at g s (length g) refl)
    ∙ ap (λ z. g ++ take k z) (drop_at g s (length g) refl)

shorter : (g s : List ℕ) → take (length g + 0) (g ++ s) ≡ g
shorter g s = let same : length g + 0 ≡ length g = omega arith in ap (λ n. take n (g ++ s)) same ∙ take_at g s (length g) refl

add-chosen : (l n m : ℕ) (b : Bool) → (if b then suc (l + n) else l + m) ≡ l + (if b then suc n else m)
add-chosen l n m true = omega arith
add-chosen l n m false = refl

pub gaps-add : (g s : List ℕ) (k : ℕ) → is_gap g ≡ true → gaps_len (g ++ s) (length g + k) ≡ length g + gaps_len s k
gaps-add g s zero h = gaps-at (g ++ s) (length g + 0) (ap is_gap (shorter g s) ∙ h)
gaps-add g s (suc k) h =
    let next : length g + suc k ≡ suc (length g + k) = omega arith in
    let same : is_gap (take (suc (length g + k)) (g ++ s)) ≡ is_gap (take (suc k) s) =
    ap (λ n. is_gap (take n (g ++ s))) (sym next) ∙ ap is_gap (longer g s (suc k)) ∙ gap-behind g (take (suc k) s) h in
    ap (gaps_len (g ++ s)) next
    ∙ ap (λ b. if b then suc (length g + k) else gaps_len (g ++ s) (length g + k)) same
    ∙ ap (λ n. if is_gap (take (suc k) s) then suc (length g + k) else n) (gaps-add g s k h)
    ∙ add-chosen (length g) k (gaps_len s k) (is_gap (take (suc k) s))

pub gaps-all : (g s : List ℕ) → is_gap g ≡ true → gaps_len (g ++ s) (length (g ++ s)) ≡ length g + gaps_len s (length s)
gaps-all g s h = ap (gaps_len (g ++ s)) (length-append g s) ∙ gaps-add g s (length s) h

drop-more : (g s : List ℕ) (n : ℕ) → drop (length g + n) (g ++ s) ≡ drop n s
drop-more [] s n = let same : 0 + n ≡ n = omega arith in ap (λ m. drop m s) same
drop-more (x ∷ g) s n = let same : suc (length g) + n ≡ suc (length g + n) = omega arith in ap (λ m. drop m (x ∷ (g ++ s))) same ∙ drop-more g s n

pub without-front : (g s : List ℕ) → is_gap g ≡ true → without_gaps (g ++ s) ≡ without_gaps s
without-front g s h = ap (λ n. drop n (g ++ s)) (gaps-all g s h) ∙ drop-more g s (gaps_len s (length s))

-- ---- what is taken off

-- so many of the first bytes are a gap, and they are at most n
abbrev IsFront : List ℕ → ℕ → ℕ → Type 0
IsFront bytes n m = (m ≤ n) × (is_gap (take m bytes) ≡ true)

front-case : (bytes : List ℕ) (n m : ℕ) (b : Bool) → is_gap (take (suc n) bytes) ≡ b → IsFront bytes n m → IsFront bytes (suc n) (if b then suc n else m)
front-case bytes n m true e h = (omega arith, e)
front-case bytes n m false e h = (omega (arith, h.0), h.1)

front-is : (bytes : List ℕ) (n : ℕ) → IsFront bytes n (gaps_len bytes n)
front-is bytes zero = (omega arith, refl)
front-is bytes (suc n) = front-case bytes n (gaps_len bytes n) (is_gap (take (suc n) bytes)) refl (front-is bytes n)

-- the gaps in front of bytes are a gap, and no longer than the bytes
pub all-front : (bytes : List ℕ) → (gaps_len bytes (length bytes) ≤ length bytes) × (is_gap (take (gaps_len bytes (length bytes)) bytes) ≡ true)
all-front bytes = front-is bytes (length bytes)

taken-off : (bytes : List ℕ) (n : ℕ) → n ≤ length bytes → is_gap (take n bytes) ≡ true
    → gaps_len bytes (length bytes) ≡ n + gaps_len (drop n bytes) (length (drop n bytes))
taken-off bytes n le h =
    let front : List ℕ = take n bytes in
    let behind : List ℕ = drop n bytes in
    let whole : front ++ behind ≡ bytes = take-append-drop n bytes in
    let len : length front ≡ n = length-take-le n bytes le in
    ap (λ z. gaps_len z (length z)) (sym whole) ∙ gaps-all front behind h ∙ ap (λ m. m + gaps_len behind (length behind)) len

pub no-gaps : (bytes : List ℕ) → gaps_len (without_gaps bytes) (length (without_gaps bytes)) ≡ 0
no-gaps bytes =
    let n : ℕ = gaps_len bytes (length bytes) in
    let twice : n ≡ n + gaps_len (without_gaps bytes) (length (without_gaps bytes)) =
    taken-off bytes n (all-front bytes).0 (all-front bytes).1 in
    omega (arith, twice)

pub none-taken : (bytes : List ℕ) → gaps_len bytes (length bytes) ≡ 0 → without_gaps bytes ≡ bytes
none-taken bytes h = ap (λ n. drop n bytes) h

pub gaps-once : (bytes : List ℕ) → without_gaps (without_gaps bytes) ≡ without_gaps bytes
gaps-once bytes = none-taken (without_gaps bytes) (no-gaps bytes)

pub gaps-behind : (bytes : List ℕ) → without_gaps (10 ∷ without_gaps bytes) ≡ without_gaps bytes
gaps-behind bytes = without-front (10 ∷ []) (without_gaps bytes) refl ∙ gaps-once bytes
