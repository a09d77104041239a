-- The longest front that is white space and whole comments.
use Rattle.std.proofs.Common.{◌≡◌, ℕ, zero, suc, ◌+◌, ◌-◌, ◌<◌, ◌≤◌, List, [], ◌∷◌, ◌++◌, length, take, drop, get_or, Bool, true, false, ◌&&◌, if◌then◌else◌, refl, sym, ◌∙◌, ap, arith, take-suc, take-add, take-append-drop}
use Rattle.utd_lexer.specs.declared.cutter.Mode.{Mode}
use Rattle.utd_lexer.specs.declared.cutter.Mode.TheVariants.{Between, Slash, Text, Block, Star, Line}
use Rattle.utd_lexer.specs.Cutting.{blank_next, can_be_blank, is_between, next, run}
use Rattle.utd_lexer.specs.Gaps.{is_gap, gaps_len, without_gaps}
use Rattle.utd_lexer.proofs.CutLemmas.{run-append}
use Rattle.base_core.proofs.BoolLemmas.{and_left, and_right}
use Rattle.std.proofs.lemmas.Bool.{false≢true}
use Rattle.utd_lexer.specs.Parts.{Part, AreParts, AllBlank, bytes_of}
use Rattle.utd_lexer.proofs.BlankLemmas.{can_be_blank-append, blank-parts}

-- what is known behind the first n bytes, all of which can still be blank
pub record GapSoFar (bytes : List ℕ) (n : ℕ) (mode : Mode) (gap : ℕ) : Type 0 where
  pub stands : mode ≡ run Between (take n bytes)
  pub blank : can_be_blank Between true (take n bytes) ≡ true
  pub longest : gap ≡ gaps_len bytes n
  pub within : gap ≤ n

-- ---- one byte more

flag-more : (bytes : List ℕ) (n : ℕ) (mode : Mode) (gap b : ℕ) → GapSoFar bytes n mode gap → n < length bytes → b ≡ get_or bytes n 0
    → can_be_blank Between true (take (suc n) bytes) ≡ blank_next mode true b
flag-more bytes n mode gap b h within is =
    let front : take (suc n) bytes ≡ take n bytes ++ b ∷ [] = take-suc bytes n 0 within ∙ ap (λ z. take n bytes ++ z ∷ []) (sym is) in
    ap (can_be_blank Between true) front ∙ can_be_blank-append Between true (take n bytes) (b ∷ [])
    ∙ ap (λ m. blank_next m (can_be_blank Between true (take n bytes)) b) (sym h.stands) ∙ ap (λ ok. blank_next mode ok b) h.blank

mode-more : (bytes : List ℕ) (n : ℕ) (mode : Mode) (gap b : ℕ) → GapSoFar bytes n mode gap → n < length bytes → b ≡ get_or bytes n 0
    → run Between (take (suc n) bytes) ≡ next mode b
mode-more bytes n mode gap b h within is =
    let front : take (suc n) bytes ≡ take n bytes ++ b ∷ [] = take-suc bytes n 0 within ∙ ap (λ z. take n bytes ++ z ∷ []) (sym is) in
    ap (run Between) front ∙ run-append Between (take n bytes) (b ∷ []) ∙ ap (λ m. next m b) (sym h.stands)

len-more : (bytes : List ℕ) (n : ℕ) (between : Bool) (gap now : ℕ) → gap ≡ gaps_len bytes n → gap ≤ n → is_gap (take (suc n) bytes) ≡ between
    → now ≡ (if between then n + 1 else gap) → (now ≡ gaps_len bytes (suc n)) × (now ≤ n + 1)
len-more bytes n true gap now longest within e is =
    let plus : n + 1 ≡ suc n = omega arith in
    (is ∙ plus ∙ sym (ap (λ x. if x then suc n else gaps_len bytes n) e), omega (arith, is))
len-more bytes n false gap now longest within e is =
    (is ∙ longest ∙ sym (ap (λ x. if x then suc n else gaps_len bytes n) e), omega (arith, is, within))

pub gap-more : (bytes : List ℕ) (n : ℕ) (mode later : Mode) (gap now b : ℕ) → GapSoFar bytes n mode gap → n < length bytes → b ≡ get_or bytes n 0
    → blank_next mode true b ≡ true → later ≡ next mode b → now ≡ (if is_between later then n + 1 else gap) → GapSoFar bytes (n + 1) later now
gap-more bytes n mode later gap now b h within is ok moved chosen =
    let plus : suc n ≡ n + 1 = omega arith in
    let flag : can_be_blank Between true (take (suc n) bytes) ≡ true = flag-more bytes n mode gap b h within is ∙ ok in
    let stands : later ≡ run Between (take (suc n) bytes) = moved ∙ sym (mode-more bytes n mode gap b h within is) in
    let gapped : is_gap (take (suc n) bytes) ≡ is_between later =
    ap (λ x. x && is_between (run Between (take (suc n) bytes))) flag ∙ ap is_between (sym stands) in
    let long = len-more bytes n (is_between later) gap now h.longest h.within gapped chosen in
    record {
      stands = stands ∙ ap (λ k. run Between (take k bytes)) plus;
      blank = sym (ap (λ k. can_be_blank Between true (take k bytes)) plus) ∙ flag;
      longest = long.0 ∙ ap (gaps_len bytes) plus;
      within = long.1;
    }

-- ---- bytes that are not blank any more

never_again : (m : Mode) (b : ℕ) → blank_next m false b ≡ false
never_again Between b = refl
never_again Slash b = refl
never_again Text b = refl
never_again Block b = refl
never_again Star b = refl
never_again Line b = refl

not_blank : (m : Mode) (bytes : List ℕ) → can_be_blank m false bytes ≡ false
not_blank m [] = refl
not_blank m (b ∷ bytes) = ap (λ ok. can_be_blank (next m b) ok bytes) (never_again m b) ∙ not_blank (next m b) bytes

not_gap : (bytes : List ℕ) (n k : ℕ) → can_be_blank Between true (take n bytes) ≡ false → is_gap (take (n + k) bytes) ≡ false
not_gap bytes n k e =
    let front : take (n + k) bytes ≡ take n bytes ++ take k (drop n bytes) = take-add n k bytes in
    let flag : can_be_blank Between true (take (n + k) bytes) ≡ false =
    ap (can_be_blank Between true) front ∙ can_be_blank-append Between true (take n bytes) (take k (drop n bytes))
    ∙ ap (λ ok. can_be_blank (run Between (take n bytes)) ok (take k (drop n bytes))) e ∙ not_blank (run Between (take n bytes)) (take k (drop n bytes)) in
    ap (λ x. x && is_between (run Between (take (n + k) bytes))) flag

no_longer : (bytes : List ℕ) (n k : ℕ) → can_be_blank Between true (take (suc n) bytes) ≡ false → gaps_len bytes (n + k) ≡ gaps_len bytes n
no_longer bytes n zero e = let same : n + 0 ≡ n = omega arith in ap (gaps_len bytes) same
no_longer bytes n (suc k) e =
    let same : n + suc k ≡ suc (n + k) = omega arith in
    let longer : suc n + k ≡ suc (n + k) = omega arith in
    let none : is_gap (take (suc (n + k)) bytes) ≡ false = sym (ap (λ i. is_gap (take i bytes)) longer) ∙ not_gap bytes (suc n) k e in
    ap (gaps_len bytes) same ∙ ap (λ x. if x then suc (n + k) else gaps_len bytes (n + k)) none ∙ no_longer bytes n k e

-- the byte at n is not blank: the longest front ends before it
pub gap-ends : (bytes : List ℕ) (n : ℕ) (mode : Mode) (gap b : ℕ) → GapSoFar bytes n mode gap → n < length bytes → b ≡ get_or bytes n 0
    → blank_next mode true b ≡ false → gap ≡ gaps_len bytes (length bytes)
gap-ends bytes n mode gap b h within is ok =
    let flag : can_be_blank Between true (take (suc n) bytes) ≡ false = flag-more bytes n mode gap b h within is ∙ ok in
    let all : n + (length bytes - n) ≡ length bytes = omega arith in
    h.longest ∙ sym (no_longer bytes n (length bytes - n) flag) ∙ ap (gaps_len bytes) all

-- ---- what lies in front

one_front : (bytes : List ℕ) (n : ℕ) (b : Bool) → is_gap (take (suc n) bytes) ≡ b → is_gap (take (gaps_len bytes n) bytes) ≡ true
    → is_gap (take (if b then suc n else gaps_len bytes n) bytes) ≡ true
one_front bytes n true e h = e
one_front bytes n false e h = h

front-is_gap : (bytes : List ℕ) (n : ℕ) → is_gap (take (gaps_len bytes n) bytes) ≡ true
front-is_gap bytes zero = refl
front-is_gap bytes (suc n) = one_front bytes n (is_gap (take (suc n) bytes)) refl (front-is_gap bytes n)

between-is : (m : Mode) → is_between m ≡ true → m ≡ Between
between-is Between e = refl
between-is Slash e = absurd (false≢true e)
between-is Text e = absurd (false≢true e)
between-is Block e = absurd (false≢true e)
between-is Star e = absurd (false≢true e)
between-is Line e = absurd (false≢true e)

-- the bytes are white space and whole comments, and behind these those without gaps
pub gaps-in_front : (bytes : List ℕ) → (ps : List Part) × AreParts ps × AllBlank ps × (bytes ≡ bytes_of ps ++ without_gaps bytes)
gaps-in_front bytes =
    let n : ℕ = gaps_len bytes (length bytes) in
    let front : List ℕ = take n bytes in
    let gap : is_gap front ≡ true = front-is_gap bytes (length bytes) in
    let (ps, are, blank, is) = blank-parts front (and_left (can_be_blank Between true front) (is_between (run Between front)) gap)
    (between-is (run Between front) (and_right (can_be_blank Between true front) (is_between (run Between front)) gap)) in
    (ps, are, blank, sym (take-append-drop n bytes) ∙ ap (λ z. z ++ drop n bytes) is)
