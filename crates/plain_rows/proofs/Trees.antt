-- Tokens of constants, taken one after another: the tree that they spell.
--     constant-found      the scalar that the tokens of a constant are
use Rattle.std.proofs.lemmas.Bool.{true≢false, le-ltb, leb-true, le-leb, eq-eqb}
use Rattle.std.proofs.lemmas.Option.{none-some}
use Rattle.std.proofs.lemmas.Str.{utf8_valid_len-IsUtf8}
use Rattle.std.specs.Str.Lossy.{utf8_valid_len}
use Rattle.std.proofs.Common.{◌&&◌, ◌≡◌, inl, inr, ℕ, ℤ, List, [], ◌∷◌, ◌++◌, map, length, Bool, true, false, not, ◌||◌, Some, None, cond, refl, sym, ◌∙◌, ap, subst, arith, append_assoc}
use Rattle.std.specs.Prelude.{nat_lt, nat_le}
use Rattle.std.specs.Str.{IsUtf8}
use Rattle.point_core.specs.declared.any_type.AnyType.{AnyType}
use Rattle.point_core.specs.declared.any_type.AnyType.TheVariants as points
use Rattle.point_core.specs.declared.fault.Place.{Place}
use Rattle.point_core.specs.Points.{line_of, first_of, last_of}
use Rattle.interval_core.specs.Selector.{selected}
use Rattle.interval_core.specs.Members.{Span}
use Rattle.utd_syntax.specs.declared.terminal.Terminal.{Terminal}
use Rattle.utd_syntax.specs.declared.terminal.Terminal.TheVariants as t
use Rattle.utd_syntax.specs.declared.words.BeginBracket.{BeginBracket}
use Rattle.utd_syntax.specs.declared.words.BeginBracket.TheVariants as begins
use Rattle.utd_syntax.specs.declared.words.EndBracket.{EndBracket}
use Rattle.utd_syntax.specs.declared.words.EndBracket.TheVariants as finishes
use Rattle.utd_syntax.specs.Literals.{value_of, is_date, is_moment}
use Rattle.utd_syntax.specs.Pieces.{Piece}
use Rattle.utd_syntax.specs.Plain as syntax
use Rattle.utd_syntax.specs.Plain.{word, ScalarP, SignP}
use Rattle.utd_syntax.specs.Written.{Mark, fixed, at, spelled, token, begin_bracket, end_bracket, Spells, of_scalar, of_sign}
use Rattle.utd_syntax.proofs.Marks.{Spells-append}
use Rattle.interval_core.specs.declared.selector.Ends.{Ends}
use Rattle.std.specs.Prelude.{Ok}
use Rattle.utd_ranges.specs.Limits.{is_out_of_range}
use Rattle.utd_ranges.specs.Ranges.{SignIn, ScalarIn}
use Rattle.utd_lexer.specs.declared.token.TokenKind.TheVariants.{Word, Integer, Text}
use Rattle.utd_lexer.specs.declared.token.Token.{Token}
use Rattle.utd_parser.specs.Tokens.{terminal_of, seen, pieces}
use Rattle.value_core.specs.declared.kind.Kind.{Kind}
use Rattle.value_core.specs.declared.kind.Kind.TheVariants as kinds
use Rattle.value_core.specs.declared.list.OrdinalNames.{OrdinalNames}
use Rattle.value_core.specs.Lengths.{IsTextLength, has_control}
use Rattle.value_core.proofs.TextLemmas.{text-of-parts, utf8-known}
use Rattle.value_core.specs.Limits.{most_name_bytes, most_text_bytes}
use Rattle.value_core.specs.Values.{Value, truth, text, point, interval}
use Rattle.scalar_typing.specs.Literals.{integer_of, negative_of, text_of, date_of, moment_of}
use Rattle.scalar_typing.specs.Operators.{ends_of}
use Rattle.constant_laws.specs.Constants.{alone, WritesPoint, SignWrites, Writes}
use Rattle.plain_rows.specs.Lexemes.{Lexeme, lexeme_of}
use Rattle.plain_rows.specs.Written.{dash, date_word, moment_word, colon, opening, closing, brackets_of, truth_word, dot, IsInteger, IsDotted, IsPoint, IsInterval, IsConstant}

-- ---- one token

-- the token with which they begin
pub record Next (l : Lexeme) (ls : List Lexeme) (ts : List Token) : Type 0 where
  pub place : Place
  pub left : List Token
  pub is : pieces ts ≡ seen (terminal_of l.0 l.1) place l.1 ∷ pieces left
  pub others : map lexeme_of left ≡ ls

first-or : Lexeme → List Lexeme → Lexeme
first-or d [] = d
first-or d (x ∷ xs) = x

behind : List Lexeme → List Lexeme
behind [] = []
behind (x ∷ xs) = xs

pub next : (l : Lexeme) (ls : List Lexeme) (ts : List Token) → map lexeme_of ts ≡ l ∷ ls → Next l ls ts
unfolding first-or behind
next l ls [] e = let n : 0 ≡ length (l ∷ ls) = ap length e in absurd (omega (arith, n))
next l ls (x ∷ ts) e = record {
  place = x.place;
  left = ts;
  is = ap (λ (z : Lexeme). seen (terminal_of z.0 z.1) x.place z.1 ∷ pieces ts) (ap (first-or l) e);
  others = ap behind e;
}

pub nothing : (ts : List Piece) → Spells [] ts ts
unfolding Spells
nothing ts = refl

-- a mark of that token
pub fixed-next : (x : Terminal) (ms : List Mark) (l : Lexeme) (ls : List Lexeme) (ts : List Token) (rest : List Piece) (n : Next l ls ts) → terminal_of l.0 l.1 ≡ x → Spells ms (pieces n.left) rest → Spells (fixed x ∷ ms) (pieces ts) rest
unfolding Spells
fixed-next x ms l ls ts rest n e h = subst (λ (z : List Piece). Spells (fixed x ∷ ms) z rest) (sym n.is) (e, h)

pub at-next : (x : Terminal) (ms : List Mark) (l : Lexeme) (ls : List Lexeme) (ts : List Token) (rest : List Piece) (n : Next l ls ts) → terminal_of l.0 l.1 ≡ x → Spells ms (pieces n.left) rest → Spells (at x n.place ∷ ms) (pieces ts) rest
unfolding Spells
at-next x ms l ls ts rest n e h = subst (λ (z : List Piece). Spells (at x n.place ∷ ms) z rest) (sym n.is) ((e, refl), h)

pub spelled-next : (x : Terminal) (ms : List Mark) (l : Lexeme) (ls : List Lexeme) (ts : List Token) (rest : List Piece) (n : Next l ls ts) → terminal_of l.0 l.1 ≡ x → Spells ms (pieces n.left) rest → Spells (spelled x n.place l.1 ∷ ms) (pieces ts) rest
unfolding Spells
spelled-next x ms l ls ts rest n e h = subst (λ (z : List Piece). Spells (spelled x n.place l.1 ∷ ms) z rest) (sym n.is) ((e, refl, refl), h)

-- ---- ranges

taken-so : (b : Bool) (z n : ℤ) → (cond b (Some z) None) ≡ Some n → b ≡ true
taken-so true z n h = refl
taken-so false z n h = absurd (none-some n h)

not-less : (m k : ℕ) → nat_le k m ≡ true → nat_lt m k ≡ false
not-less m k h = le-ltb m k (leb-true k m h)

integer-in : (digits : List ℕ) (n : ℤ) → integer_of digits ≡ Some n → nat_lt 9223372036854775807 (value_of digits) ≡ false
integer-in digits n h = not-less _ (value_of digits) (taken-so _ _ n h)

negative-in : (digits : List ℕ) (n : ℤ) → negative_of digits ≡ Some n → nat_lt 9223372036854775808 (value_of digits) ≡ false
negative-in digits n h = not-less _ (value_of digits) (taken-so _ _ n h)

date-in : (bytes : List ℕ) (n : ℤ) → date_of bytes ≡ Some n → not (is_date bytes) ≡ false
date-in bytes n h = ap not (taken-so (is_date bytes) _ n h)

moment-in : (bytes : List ℕ) (n : ℤ) → moment_of bytes ≡ Some n → not (is_moment bytes) ≡ false
moment-in bytes n h = ap not (taken-so (is_moment bytes) _ n h)

either-not : (a b : Bool) → a ≡ false → b ≡ false → (a || b) ≡ false
either-not false b e f = f
either-not true b e f = absurd (true≢false e)

text-in : (bytes : List ℕ) → IsTextLength bytes → has_control bytes ≡ false → (nat_lt most_text_bytes (length bytes) || has_control bytes) ≡ false
text-in bytes short printed = either-not _ (has_control bytes) (le-ltb most_text_bytes (length bytes) short) printed

text-made : (bytes : List ℕ) → IsUtf8 bytes → IsTextLength bytes → has_control bytes ≡ false → text_of bytes ≡ Some bytes
text-made bytes utf8 short printed = ap (λ (b : Bool). cond b (Some bytes) None) (text-of-parts bytes (utf8-known bytes utf8) (le-leb (length bytes) most_text_bytes short) printed)

-- ---- points

-- the tokens begin with a sign that writes the point
pub record FoundPoint (types : List OrdinalNames) (u : AnyType) (n : ℤ) (ts : List Token) (ls : List Lexeme) : Type 0 where
  x : SignP
  left : List Token
  others : map lexeme_of left ≡ ls
  writes : WritesPoint types u n x
  is_point : SignWrites types (kinds.Point u) (point (line_of u) n) x
  in_range : SignIn is_out_of_range x
  spells : Spells (of_sign x) (pieces ts) (pieces left)

integer-found : (types : List OrdinalNames) (n : ℤ) (p ls : List Lexeme) (ts : List Token) → IsInteger n p → map lexeme_of ts ≡ p ++ ls → FoundPoint types points.Integer n ts ls
integer-found types n p ls ts (inl h) e =
    let a = next (Integer, h.0) ls ts (e ∙ ap (λ (z : List Lexeme). z ++ ls) h.1) in record {
      x = syntax.OnePrimary (syntax.IntegerLiteral a.place h.0);
      left = a.left;
      others = a.others;
      writes = (refl, h.2);
      is_point = (points.Integer, n, (refl, h.2), refl, refl);
      in_range = integer-in h.0 n h.2;
      spells = spelled-next t.Digits [] (Integer, h.0) ls ts (pieces a.left) a refl (nothing (pieces a.left));
    }
integer-found types n p ls ts (inr h) e =
    let a = next dash ((Integer, h.0) ∷ ls) ts (e ∙ ap (λ (z : List Lexeme). z ++ ls) h.1) in
    let b = next (Integer, h.0) ls a.left a.others in record {
      x = syntax.NegativeInteger a.place b.place h.0;
      left = b.left;
      others = b.others;
      writes = (refl, h.2);
      is_point = (points.Integer, n, (refl, h.2), refl, refl);
      in_range = negative-in h.0 n h.2;
      spells = at-next t.Dash (spelled t.Digits b.place h.0 ∷ []) dash ((Integer, h.0) ∷ ls) ts (pieces b.left) a refl (spelled-next t.Digits [] (Integer, h.0) ls a.left (pieces b.left) b refl (nothing (pieces b.left)));
    }

date-found : (types : List OrdinalNames) (n : ℤ) (bytes : List ℕ) (p ls : List Lexeme) (ts : List Token) → p ≡ date_word ∷ (Text, bytes) ∷ [] → date_of bytes ≡ Some n → map lexeme_of ts ≡ p ++ ls → FoundPoint types points.Date n ts ls
date-found types n bytes p ls ts is h e =
    let a = next date_word ((Text, bytes) ∷ ls) ts (e ∙ ap (λ (z : List Lexeme). z ++ ls) is) in
    let b = next (Text, bytes) ls a.left a.others in record {
      x = syntax.OnePrimary (syntax.DateLiteral a.place b.place bytes);
      left = b.left;
      others = b.others;
      writes = (refl, h);
      is_point = (points.Date, n, (refl, h), refl, refl);
      in_range = date-in bytes n h;
      spells = at-next t.Date (spelled t.Quoted b.place bytes ∷ []) date_word ((Text, bytes) ∷ ls) ts (pieces b.left) a refl (spelled-next t.Quoted [] (Text, bytes) ls a.left (pieces b.left) b refl (nothing (pieces b.left)));
    }

moment-found : (types : List OrdinalNames) (n : ℤ) (bytes : List ℕ) (p ls : List Lexeme) (ts : List Token) → p ≡ moment_word ∷ (Text, bytes) ∷ [] → moment_of bytes ≡ Some n → map lexeme_of ts ≡ p ++ ls → FoundPoint types points.Moment n ts ls
moment-found types n bytes p ls ts is h e =
    let a = next moment_word ((Text, bytes) ∷ ls) ts (e ∙ ap (λ (z : List Lexeme). z ++ ls) is) in
    let b = next (Text, bytes) ls a.left a.others in record {
      x = syntax.OnePrimary (syntax.MomentLiteral a.place b.place bytes);
      left = b.left;
      others = b.others;
      writes = (refl, h);
      is_point = (points.Moment, n, (refl, h), refl, refl);
      in_range = moment-in bytes n h;
      spells = at-next t.Moment (spelled t.Quoted b.place bytes ∷ []) moment_word ((Text, bytes) ∷ ls) ts (pieces b.left) a refl (spelled-next t.Quoted [] (Text, bytes) ls a.left (pieces b.left) b refl (nothing (pieces b.left)));
    }

dotted-found : (types : List OrdinalNames) (u : AnyType) (n : ℤ) (p ls : List Lexeme) (ts : List Token) → IsDotted types u n p → map lexeme_of ts ≡ p ++ ls → FoundPoint types u n ts ls
dotted-found types u n p ls ts h e =
    let a = next (Word, h.name) (dot ∷ (Word, h.value) ∷ ls) ts (e ∙ ap (λ (z : List Lexeme). z ++ ls) h.spelled) in
    let d = next dot ((Word, h.value) ∷ ls) a.left a.others in
    let v = next (Word, h.value) ls d.left d.others in record {
      x = syntax.OnePrimary (syntax.Dotted (word a.place h.name) (word v.place h.value));
      left = v.left;
      others = v.others;
      writes = h.written a.place v.place;
      is_point = (u, n, h.written a.place v.place, refl, refl);
      in_range = (le-ltb most_name_bytes (length h.name) h.names.0.1, le-ltb most_name_bytes (length h.value) h.names.1.1);
      spells =
          spelled-next t.Name (fixed t.Dot ∷ spelled t.Name v.place h.value ∷ []) (Word, h.name) (dot ∷ (Word, h.value) ∷ ls) ts (pieces v.left) a h.names.0.0
          (fixed-next t.Dot (spelled t.Name v.place h.value ∷ []) dot ((Word, h.value) ∷ ls) a.left (pieces v.left) d refl
          (spelled-next t.Name [] (Word, h.value) ls d.left (pieces v.left) v h.names.1.0 (nothing (pieces v.left))));
    }

point-found : (types : List OrdinalNames) (u : AnyType) (n : ℤ) (p ls : List Lexeme) (ts : List Token) → IsPoint types u n p → map lexeme_of ts ≡ p ++ ls → FoundPoint types u n ts ls
point-found types points.Integer n p ls ts h e = integer-found types n p ls ts h e
point-found types points.Date n p ls ts h e = date-found types n h.0 p ls ts h.1 h.2 e
point-found types points.Moment n p ls ts h e = moment-found types n h.0 p ls ts h.1 h.2 e
point-found types (points.Ordinal of last) n p ls ts h e = dotted-found types (points.Ordinal of last) n p ls ts h e

-- ---- brackets

begin_of : Bool → BeginBracket
begin_of true = begins.Closed
begin_of false = begins.Open

end_of : Bool → EndBracket
end_of true = finishes.Closed
end_of false = finishes.Open

same-ends : (b e : Bool) → brackets_of b e ≡ ends_of (begin_of b) (end_of e)
unfolding begin_of end_of
same-ends true true = refl
same-ends true false = refl
same-ends false true = refl
same-ends false false = refl

begin-terminal : (b : Bool) → terminal_of (opening b).0 (opening b).1 ≡ begin_bracket (begin_of b)
unfolding begin_of
begin-terminal true = refl
begin-terminal false = refl

end-terminal : (b : Bool) → terminal_of (closing b).0 (closing b).1 ≡ end_bracket (end_of b)
unfolding end_of
end-terminal true = refl
end-terminal false = refl

-- ---- constants

-- the tokens begin with a scalar that writes the value
pub record FoundScalar (types : List OrdinalNames) (k : Kind) (v : Value) (ts : List Token) (ls : List Lexeme) : Type 0 where
  pub s : ScalarP
  pub left : List Token
  pub others : map lexeme_of left ≡ ls
  pub writes : Writes types k v s
  pub in_range : ScalarIn is_out_of_range s
  pub spells : Spells (of_scalar s) (pieces ts) (pieces left)

-- the parts of an interval, found one after another
between-found : (types : List OrdinalNames) (u : AnyType) (i : Span) (b e : Bool) (n m : ℤ) (ts : List Token) (al fs cs gs ls : List Lexeme) (a : Next (opening b) al ts) (f : FoundPoint types u n a.left fs) (c : Next colon cs f.left) (g : FoundPoint types u m c.left gs)
    (z : Next (closing e) ls g.left) → selected (first_of u) (last_of u) (brackets_of b e) n m ≡ Ok i → FoundScalar types (kinds.Span u) (interval (line_of u) i) ts ls
between-found types u i b e n m ts al fs cs gs ls a f c g z selects = record {
  s = alone (syntax.OnePrimary (syntax.Selector a.place (begin_of b) (alone f.x) (alone g.x) (end_of e)));
  left = z.left;
  others = z.others;
  writes = (
    syntax.OnePrimary (syntax.Selector a.place (begin_of b) (alone f.x) (alone g.x) (end_of e)),
    refl,
    (
      u,
      i,
      record {
        first = f.x;
        second = g.x;
        from = n;
        to = m;
        begins_so = refl;
        ends_so = refl;
        begins_at = f.writes;
        ends_at = g.writes;
        selects = subst (λ (o : Ends). selected (first_of u) (last_of u) o n m ≡ Ok i) (same-ends b e) selects;
      },
      refl,
      refl,
    ),
  );
  in_range = (f.in_range, g.in_range);
  spells =
      at-next (begin_bracket (begin_of b)) (of_sign f.x ++ token t.Colon ++ of_sign g.x ++ token (end_bracket (end_of e))) (opening b) al ts (pieces z.left) a (begin-terminal b)
      (Spells-append (of_sign f.x ++ token t.Colon ++ of_sign g.x) (token (end_bracket (end_of e))) (pieces a.left) (pieces g.left) (pieces z.left)
      (Spells-append (of_sign f.x ++ token t.Colon) (of_sign g.x) (pieces a.left) (pieces c.left) (pieces g.left)
      (Spells-append (of_sign f.x) (token t.Colon) (pieces a.left) (pieces f.left) (pieces c.left) f.spells
      (fixed-next t.Colon [] colon cs f.left (pieces c.left) c refl (nothing (pieces c.left)))) g.spells)
      (fixed-next (end_bracket (end_of e)) [] (closing e) ls g.left (pieces z.left) z (end-terminal e) (nothing (pieces z.left))));
}

interval-found : (types : List OrdinalNames) (u : AnyType) (i : Span) (p ls : List Lexeme) (ts : List Token) → IsInterval types u i p → map lexeme_of ts ≡ p ++ ls → FoundScalar types (kinds.Span u) (interval (line_of u) i) ts ls
interval-found types u i p ls ts h e =
    let a = next (opening h.begin) ((h.first ++ (colon ∷ (h.second ++ closing h.end ∷ []))) ++ ls) ts (e ∙ ap (λ (z : List Lexeme). z ++ ls) h.spelled) in
    let f = point-found types u h.from h.first (colon ∷ ((h.second ++ closing h.end ∷ []) ++ ls)) a.left h.begins_at (a.others ∙ append_assoc h.first (colon ∷ (h.second ++ closing h.end ∷ [])) ls) in
    let c = next colon ((h.second ++ closing h.end ∷ []) ++ ls) f.left f.others in
    let g = point-found types u h.to h.second (closing h.end ∷ ls) c.left h.ends_at (c.others ∙ append_assoc h.second (closing h.end ∷ []) ls) in
    let z = next (closing h.end) ls g.left g.others in
    between-found types u i h.begin h.end h.from h.to ts ((h.first ++ (colon ∷ (h.second ++ closing h.end ∷ []))) ++ ls) (colon ∷ ((h.second ++ closing h.end ∷ []) ++ ls)) ((h.second ++ closing h.end ∷ []) ++ ls) (closing h.end ∷ ls) ls a f c g z h.selects

truth-found : (types : List OrdinalNames) (b : Bool) (p ls : List Lexeme) (ts : List Token) → p ≡ truth_word b ∷ [] → map lexeme_of ts ≡ p ++ ls → FoundScalar types kinds.Truth (truth b) ts ls
truth-found types true p ls ts h e = let a = next (truth_word true) ls ts (e ∙ ap (λ (z : List Lexeme). z ++ ls) h) in record {
  s = alone (syntax.OnePrimary (syntax.TrueLiteral a.place));
  left = a.left;
  others = a.others;
  writes = (syntax.OnePrimary (syntax.TrueLiteral a.place), refl, (refl, refl));
  in_range = tt;
  spells = at-next t.True [] (truth_word true) ls ts (pieces a.left) a refl (nothing (pieces a.left));
}
truth-found types false p ls ts h e = let a = next (truth_word false) ls ts (e ∙ ap (λ (z : List Lexeme). z ++ ls) h) in record {
  s = alone (syntax.OnePrimary (syntax.FalseLiteral a.place));
  left = a.left;
  others = a.others;
  writes = (syntax.OnePrimary (syntax.FalseLiteral a.place), refl, (refl, refl));
  in_range = tt;
  spells = at-next t.False [] (truth_word false) ls ts (pieces a.left) a refl (nothing (pieces a.left));
}

text-found : (types : List OrdinalNames) (bytes : List ℕ) (p ls : List Lexeme) (ts : List Token) → p ≡ (Text, bytes) ∷ [] → IsUtf8 bytes → IsTextLength bytes → has_control bytes ≡ false → map lexeme_of ts ≡ p ++ ls → FoundScalar types kinds.Char (text bytes) ts ls
text-found types bytes p ls ts h utf8 short printed e = let a = next (Text, bytes) ls ts (e ∙ ap (λ (z : List Lexeme). z ++ ls) h) in record {
  s = alone (syntax.OnePrimary (syntax.TextLiteral a.place bytes));
  left = a.left;
  others = a.others;
  writes = (syntax.OnePrimary (syntax.TextLiteral a.place bytes), refl, (bytes, text-made bytes utf8 short printed, refl, refl));
  in_range = text-in bytes short printed;
  spells = spelled-next t.Quoted [] (Text, bytes) ls ts (pieces a.left) a refl (nothing (pieces a.left));
}

of-point : (types : List OrdinalNames) (u : AnyType) (n : ℤ) (ts : List Token) (ls : List Lexeme) → FoundPoint types u n ts ls → FoundScalar types (kinds.Point u) (point (line_of u) n) ts ls
of-point types u n ts ls f = record {
  s = alone f.x;
  left = f.left;
  others = f.others;
  writes = (f.x, refl, f.is_point);
  in_range = f.in_range;
  spells = f.spells;
}

pub constant-found : (types : List OrdinalNames) (k : Kind) (v : Value) (p ls : List Lexeme) (ts : List Token) → IsConstant types k v p → map lexeme_of ts ≡ p ++ ls → FoundScalar types k v ts ls
constant-found types kinds.Truth (truth b) p ls ts h e = truth-found types b p ls ts h e
constant-found types kinds.Char (text bytes) p ls ts h e = text-found types bytes p ls ts h.0 h.1 h.2 h.3 e
constant-found types (kinds.Point u) (point l n) p ls ts h e = subst (λ z. FoundScalar types (kinds.Point u) (point z n) ts ls) (sym h.0) (of-point types u n ts ls (point-found types u n p ls ts h.1 e))
constant-found types (kinds.Span u) (interval l i) p ls ts h e = subst (λ z. FoundScalar types (kinds.Span u) (interval z i) ts ls) (sym h.0) (interval-found types u i p ls ts h.1 e)
constant-found types _ _ p ls ts h e = absurd h
