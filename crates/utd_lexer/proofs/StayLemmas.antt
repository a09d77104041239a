-- Bytes that change nothing.
use Rattle.std.proofs.Common.{◌≡◌, ◌≢◌, ℕ, ◌+◌, ◌≤◌, List, [], ◌∷◌, ◌++◌, length, take, Bool, true, false, eqb, not, ◌&&◌, refl, sym, ◌∙◌, ap, subst, arith, length-append, inl, inr}
use Rattle.std.proofs.lemmas.List.{take_at}
use Rattle.std.specs.List.{prefix_len}
use Rattle.std.proofs.lemmas.Bool.Decides.{eqb_tells}
use Rattle.utd_lexer.specs.declared.cutter.Mode.{Mode}
use Rattle.utd_lexer.specs.declared.cutter.Mode.TheVariants.{Between, Slash, Text, Block, Star, Line}
use Rattle.utd_lexer.specs.declared.cutter.Cutter.{Cutter}
use Rattle.utd_lexer.specs.Tokens.{unquoted, AllOf}
use Rattle.utd_lexer.specs.Cutting.{run, next, is_outside, is_between, is_plain, blank_next, can_be_blank, Passes, AllPass, Since}
use Rattle.utd_lexer.proofs.CutLemmas.{run-append}
use Rattle.utd_lexer.proofs.BlankLemmas.{can_be_blank-append}
use Rattle.utd_lexer.proofs.WordLemmas.{taken}

-- the byte stands between parts, behind bytes that are not blank, and is none that begins or ends
pub record Stays (m : Mode) (blank : Bool) (b : ℕ) : Type 0 where
  pub mode : next m b ≡ m
  pub still : blank_next m blank b ≡ blank
  pub on : b ≢ 59

plain-stays : (b : ℕ) → (not (eqb b 39) && (not (eqb b 47) && not (eqb b 59))) ≡ true → Stays Between false b
plain-stays b h = elim (eqb_tells b 39) [
  | inl p ↦ let f : (not (eqb b 39) && (not (eqb b 47) && not (eqb b 59))) ≡ false = rw p.0 refl in cc
  | inr p ↦ elim (eqb_tells b 47) [
    | inl q ↦ let f : (not (eqb b 39) && (not (eqb b 47) && not (eqb b 59))) ≡ false = rw (p.0, q.0) refl in cc
    | inr q ↦ elim (eqb_tells b 59) [
      | inl r ↦ let f : (not (eqb b 39) && (not (eqb b 47) && not (eqb b 59))) ≡ false = rw (p.0, q.0, r.0) refl in cc
      | inr r ↦ record { mode = rw (p.0, q.0) refl; still = refl; on = r.1 }
    ]
  ]
]

pub stays-so : (m : Mode) (blank : Bool) (b : ℕ) → (is_between m && (not blank && (not (eqb b 39) && (not (eqb b 47) && not (eqb b 59))))) ≡ true → Stays m blank b
stays-so Between true b h = cc
stays-so Between false b h = plain-stays b h
stays-so Slash blank b h = cc
stays-so Text blank b h = cc
stays-so Block blank b h = cc
stays-so Star blank b h = cc
stays-so Line blank b h = cc

pub stays-mode : (m : Mode) (blank : Bool) (b : ℕ) (bytes : List ℕ) → Stays m blank b → m ≡ run Between bytes → m ≡ run Between (bytes ++ b ∷ [])
stays-mode m blank b bytes s is = sym s.mode ∙ ap (λ z. next z b) is ∙ sym (run-append Between bytes (b ∷ []))

pub stays-blank : (m : Mode) (blank : Bool) (b : ℕ) (bytes : List ℕ) → Stays m blank b → m ≡ run Between bytes → blank ≡ can_be_blank Between true bytes → blank ≡ can_be_blank Between true (bytes ++ b ∷ [])
stays-blank m blank b bytes s is h = sym s.still ∙ ap (λ z. blank_next z blank b) is ∙ ap (λ z. blank_next (run Between bytes) z b) h ∙ sym (can_be_blank-append Between true bytes (b ∷ []))

-- bytes that are passed without a step

abbrev PassesIn : Mode → Bool → ℕ → Type 0
PassesIn m blank b = (next m b ≡ m) × (blank_next m blank b ≡ blank) × (is_outside m ≡ true → b ≢ 59)

in-text : (m : Mode) (blank : Bool) (b : ℕ) → m ≡ Text → unquoted b ≡ true → PassesIn m blank b
in-text Text blank b e h = elim (eqb_tells b 39) [
  | inl p ↦ let f : unquoted b ≡ false = ap not p.0 in cc
  | inr p ↦ (rw p.0 refl, refl, λ o. let f : false ≡ true = o in cc)
]
in-text Between blank b e h = cc
in-text Slash blank b e h = cc
in-text Block blank b e h = cc
in-text Star blank b e h = cc
in-text Line blank b e h = cc

between-parts : (m : Mode) (blank : Bool) (b : ℕ) → m ≡ Between → blank ≡ false → is_plain b ≡ true → PassesIn m blank b
between-parts Between true b e f h = cc
between-parts Between false b e f h = let s = plain-stays b h in (s.mode, s.still, λ o. s.on)
between-parts Slash blank b e f h = cc
between-parts Text blank b e f h = cc
between-parts Block blank b e f h = cc
between-parts Star blank b e f h = cc
between-parts Line blank b e f h = cc

all-pass : (p : ℕ → Bool) (c : Cutter) (bs : List ℕ) → ((b : ℕ) → p b ≡ true → Passes c b) → AllOf p bs → AllPass c bs
all-pass p c [] f h = tt
all-pass p c (b ∷ bs) f h = (f b h.0, all-pass p c bs f h.1)

front-pass : (p : ℕ → Bool) (c : Cutter) (bytes : List ℕ) (n : ℕ) → ((b : ℕ) → p b ≡ true → Passes c b) → n ≡ prefix_len p bytes → (n ≤ length bytes) × AllPass c (take n bytes)
front-pass p c bytes n f is =
    let (prefix, rest, split, all, stop, len) = taken p bytes n is in
    let total : length bytes ≡ length prefix + length rest = ap length split ∙ length-append prefix rest in
    let front : take n bytes ≡ prefix = ap (take n) split ∙ take_at prefix rest n len in
    (omega (arith, total, len), subst (AllPass c) (sym front) (all-pass p c prefix f all))

pub text-front : (c : Cutter) (bytes : List ℕ) (n : ℕ) → c.mode ≡ Text → n ≡ prefix_len unquoted bytes → (n ≤ length bytes) × AllPass c (take n bytes)
text-front c bytes n at is = front-pass unquoted c bytes n (λ b h. in-text c.mode c.blank b at h) is

pub plain-front : (c : Cutter) (bytes : List ℕ) (n : ℕ) → c.mode ≡ Between → c.blank ≡ false → n ≡ prefix_len is_plain bytes → (n ≤ length bytes) × AllPass c (take n bytes)
plain-front c bytes n at started is = front-pass is_plain c bytes n (λ b h. between-parts c.mode c.blank b at started h) is

-- the bytes that are given are those of before and this one
pub pass-one : (c : Cutter) (bytes : List ℕ) (b : ℕ) → Passes c b → Since c bytes → Since c (bytes ++ b ∷ [])
pass-one c bytes b p since = (
  sym p.0 ∙ ap (λ z. next z b) since.0 ∙ sym (run-append Between bytes (b ∷ [])),
  sym p.1 ∙ ap (λ z. blank_next z c.blank b) since.0 ∙ ap (λ z. blank_next (run Between bytes) z b) since.1 ∙ sym (can_be_blank-append Between true bytes (b ∷ [])),
)
