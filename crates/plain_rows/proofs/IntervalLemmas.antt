-- Points and intervals at the front of bytes.
use Rattle.std.proofs.Common.{◌≡◌, inl, inr, ℕ, ◌≤◌, ℤ, pos, neg_ℤ, w64, to_z, of_z, arith, Bool, true, false, cond, leb, Some, None, List, [], ◌∷◌, ◌++◌, Ok, refl, sym, subst}
use Rattle.std.proofs.lemmas.Bool.{leb-true}
use Rattle.std.proofs.lemmas.Int.{ints, to_z-of_z}
use Rattle.utd_syntax.specs.Literals.{value_of}
use Rattle.utd_lexer.specs.declared.token.TokenKind.TheVariants.{Text}
use Rattle.point_core.specs.declared.any_type.AnyType.{AnyType}
use Rattle.point_core.specs.declared.any_type.AnyType.TheVariants as points
use Rattle.point_core.specs.Points.{first_of, last_of}
use Rattle.interval_core.specs.Members.{Span}
use Rattle.interval_core.specs.Selector.{selected}
use Rattle.value_core.specs.declared.list.OrdinalNames.{OrdinalNames}
use Rattle.plain_rows.specs.Lexemes.{Lexeme, Begins}
use Rattle.plain_rows.specs.Written.{date_word, moment_word, brackets_of, opening, closing, colon, BeginsWithInteger, BeginsWithDate, BeginsWithMoment, BeginsWithPoint, BeginsWithInterval}
use Rattle.plain_rows.proofs.BeginLemmas.{begins-then}

-- ---- integers have 64 bits

some-of : (b : Bool) (m n : ℤ) → cond b (Some m) None ≡ Some n → (b ≡ true) × (n ≡ m)
some-of true m n e = (refl, cc)
some-of false m n e = cc

fits-unsigned : (n : ℤ) (v : ℕ) → n ≡ pos v → v ≤ 9223372036854775807 → to_z w64 (of_z w64 n) ≡ n
fits-unsigned n v is le = grind (arith, ints, to_z-of_z)

fits-signed : (n : ℤ) (v : ℕ) → n ≡ neg_ℤ (pos v) → v ≤ 9223372036854775808 → to_z w64 (of_z w64 n) ≡ n
fits-signed n v is le = grind (arith, ints, to_z-of_z)

pub integer-fits : (text : List ℕ) (n : ℤ) (rest : List ℕ) → BeginsWithInteger text n rest → to_z w64 (of_z w64 n) ≡ n
integer-fits text n rest h = elim h.written [
  | inl k ↦
      let s = some-of (leb (value_of k.0) 9223372036854775807) (pos (value_of k.0)) n k.2 in
      fits-unsigned n (value_of k.0) s.1 (leb-true (value_of k.0) 9223372036854775807 s.0)
  | inr k ↦
      let s = some-of (leb (value_of k.0) 9223372036854775808) (neg_ℤ (pos (value_of k.0))) n k.2 in
      fits-signed n (value_of k.0) s.1 (leb-true (value_of k.0) 9223372036854775808 s.0)
]

pub integer-point : {types : List OrdinalNames} → (text : List ℕ) (n m : ℤ) (rest : List ℕ) → m ≡ n → BeginsWithInteger text n rest → BeginsWithPoint types text points.Integer m rest
integer-point {types} text n m rest e h = subst (λ z. BeginsWithPoint types text points.Integer z rest) (sym e) (record { lexemes = h.lexemes; begins = h.begins; written = h.written })

pub date-point : {types : List OrdinalNames} → (text : List ℕ) (n m : ℤ) (rest : List ℕ) → m ≡ n → BeginsWithDate text n rest → BeginsWithPoint types text points.Date m rest
date-point {types} text n m rest e h = subst (λ z. BeginsWithPoint types text points.Date z rest) (sym e) (record { lexemes = date_word ∷ (Text, h.text) ∷ []; begins = h.begins; written = (h.text, refl, h.written) })

pub moment-point : {types : List OrdinalNames} → (text : List ℕ) (n m : ℤ) (rest : List ℕ) → m ≡ n → BeginsWithMoment text n rest → BeginsWithPoint types text points.Moment m rest
moment-point {types} text n m rest e h = subst (λ z. BeginsWithPoint types text points.Moment z rest) (sym e) (record { lexemes = moment_word ∷ (Text, h.text) ∷ []; begins = h.begins; written = (h.text, refl, h.written) })

-- with a gap behind
pub begins-gap : (a b c : List ℕ) (f : List Lexeme) → Begins a f b → Begins b [] c → Begins a f c
begins-gap a b c f h k = record { goes_on = λ ls r. h.goes_on ls (k.goes_on ls r) }

pub interval : {types : List OrdinalNames} → (a b c d e f g i rest : List ℕ) (t : AnyType) (begin end : Bool) (from to : ℤ) (span : Span)
    → Begins a (opening begin ∷ []) b → Begins b [] c → BeginsWithPoint types c t from d → Begins d [] e → Begins e (colon ∷ []) f → Begins f [] g
    → BeginsWithPoint types g t to i → (j : List ℕ) → Begins i [] j → Begins j (closing end ∷ []) rest
    → selected (first_of t) (last_of t) (brackets_of begin end) from to ≡ Ok span → BeginsWithInterval types a t span rest
interval {types} a b c d e f g i rest t begin end from to span opens gap first gap2 middle gap3 second j gap4 closes selects =
    let last = begins-then g j rest second.lexemes (closing end ∷ []) (begins-gap g i j second.lexemes second.begins gap4) closes in
    let behind = begins-then e g rest (colon ∷ []) (second.lexemes ++ closing end ∷ []) (begins-gap e f g (colon ∷ []) middle gap3) last in
    let points = begins-then c e rest first.lexemes ((colon ∷ []) ++ (second.lexemes ++ closing end ∷ [])) (begins-gap c d e first.lexemes first.begins gap2) behind in
    record {
      lexemes = (opening begin ∷ []) ++ (first.lexemes ++ ((colon ∷ []) ++ (second.lexemes ++ closing end ∷ [])));
      begins = begins-then a c rest (opening begin ∷ []) (first.lexemes ++ ((colon ∷ []) ++ (second.lexemes ++ closing end ∷ []))) (begins-gap a b c (opening begin ∷ []) opens gap) points;
      written = record { begin = begin; end = end; from = from; to = to; first = first.lexemes; second = second.lexemes; spelled = refl; begins_at = first.written; ends_at = second.written; selects = selects };
    }

-- two parts with a gap between them, and a gap behind them
pub begins-both : (a b c d : List ℕ) (f g : List Lexeme) → Begins a f b → Begins b [] c → Begins c g d → Begins a (f ++ g) d
begins-both a b c d f g h gap k = begins-then a c d f g (begins-gap a b c f h gap) k

pub begins-both-gap : (a b c d e : List ℕ) (f g : List Lexeme) → Begins a f b → Begins b [] c → Begins c g d → Begins d [] e → Begins a (f ++ g) e
begins-both-gap a b c d e f g h gap k behind = begins-both a b c e f g h gap (begins-gap c d e g k behind)
