-- Comments at the front of bytes.
use Rattle.std.proofs.Common.{◌≡◌, ◌≢◌, ℕ, ◌<◌, ◌≤◌, lit<, List, [], ◌∷◌, ◌++◌, length, drop, true, false, eqb, refl, sym, ◌∙◌, ap, ap₂, subst, arith, append_assoc}
use Rattle.std.proofs.lemmas.Bool.{true≢false, eqb-true, and_parts}
use Rattle.std.proofs.lemmas.List.{length-append}
use Rattle.std.proofs.lemmas.Str.{IsUtf8-append, IsUtf8-from_ascii, IsAscii-append}
use Rattle.std.proofs.lemmas.Str.Ascii.{IsAscii-nil, IsAscii-cons}
use Rattle.std.specs.Str.{chars, IsAscii}
use Rattle.utd_lexer.specs.Parts.{Lacks, LacksEnd}
use Rattle.utd_lexer.specs.Tokens.{Lexed, Gap, gap, block, line, past, spelling_of_gap, IsGap}
use Rattle.plain_rows.specs.Comments.{is_end, IsBehindBlock, IsBehindLine, IsBlockPart, IsLinePart}
use Rattle.plain_rows.specs.Lexemes.{Begins}
use Rattle.plain_rows.proofs.BeginLemmas.{chars-ascii, one-ascii}

-- ---- a gap of ASCII

gap-begins : (g : Gap) (rest : List ℕ) → IsAscii (spelling_of_gap g) → IsGap g (chars rest) → Begins (spelling_of_gap g ++ rest) [] rest
gap-begins g rest small h = record {
  goes_on = λ ls r p.
      let q = r (past p (spelling_of_gap g)) in (
        q.0,
        (
          IsUtf8-append (spelling_of_gap g) rest (IsUtf8-from_ascii (spelling_of_gap g) small) q.1.0,
          subst (λ z. Lexed p z q.0) (sym (chars-ascii (spelling_of_gap g) rest small)) (gap p g (chars rest) q.0 h q.1.1),
        ),
        q.2,
      );
}

two-ascii : (x y : ℕ) → x < 128 → y < 128 → IsAscii (x ∷ y ∷ [])
two-ascii x y h k = IsAscii-cons x (y ∷ []) h (one-ascii y k)

-- ---- lines

lacks-more : (b x : ℕ) (xs : List ℕ) → Lacks b xs → x ≢ b → Lacks b (xs ++ x ∷ [])
lacks-more b x [] h n = (n, tt)
lacks-more b x (y ∷ xs) h n = (h.0, lacks-more b x xs h.1 n)

pub line-none : (bytes : List ℕ) → IsLinePart bytes bytes
line-none bytes = record { line = []; is = refl; small = IsAscii-nil; lacks = tt }

pub line-more : (bytes rest behind : List ℕ) (x : ℕ) → IsLinePart bytes rest → rest ≡ x ∷ behind → x < 128 → x ≢ 10 → IsLinePart bytes behind
line-more bytes rest behind x h is small other = record {
  line = h.line ++ x ∷ [];
  is = h.is ∙ (ap (λ z. h.line ++ z) is ∙ sym (append_assoc h.line (x ∷ []) behind));
  small = IsAscii-append h.line (x ∷ []) h.small (one-ascii x small);
  lacks = lacks-more 10 x h.line h.lacks other;
}

pub line-done : (bytes rest behind : List ℕ) (x : ℕ) → IsLinePart bytes rest → rest ≡ x ∷ behind → x ≡ 10 → IsBehindLine bytes behind
line-done bytes rest behind x h is ten = record {
  line = h.line;
  is = h.is ∙ ap (λ z. h.line ++ z) (is ∙ ap (λ z. z ∷ behind) ten);
  small = h.small;
  lacks = h.lacks;
}

line-ascii : (cs : List ℕ) → IsAscii cs → IsAscii (47 ∷ 47 ∷ (cs ++ 10 ∷ []))
line-ascii cs h = IsAscii-cons 47 (47 ∷ (cs ++ 10 ∷ [])) (lit< tt) (IsAscii-cons 47 (cs ++ 10 ∷ []) (lit< tt) (IsAscii-append cs (10 ∷ []) h (one-ascii 10 (lit< tt))))

line-is : (text behind body rest : List ℕ) (x y : ℕ) (h : IsBehindLine body rest) → text ≡ x ∷ behind → x ≡ 47 → behind ≡ y ∷ body → y ≡ 47 → text ≡ (47 ∷ 47 ∷ (h.line ++ 10 ∷ [])) ++ rest
line-is text behind body rest x y h is first on second =
    is
    ∙ (ap (λ z. z ∷ behind) first
    ∙ ap (λ z. 47 ∷ z) (on ∙ (ap (λ z. z ∷ body) second ∙ ap (λ z. 47 ∷ z) (h.is ∙ sym (append_assoc h.line (10 ∷ []) rest)))))

pub line-begins : (text behind body rest : List ℕ) (x y : ℕ) → text ≡ x ∷ behind → x ≡ 47 → behind ≡ y ∷ body → y ≡ 47 → IsBehindLine body rest → Begins text [] rest
line-begins text behind body rest x y is first on second h =
    subst (λ z. Begins z [] rest) (sym (line-is text behind body rest x y h is first on second)) (gap-begins (line h.line) rest (line-ascii h.line h.small) h.lacks)

-- ---- blocks

end-is : (r : List ℕ) → is_end r ≡ true → r ≡ 42 ∷ 47 ∷ drop 2 r
end-is [] h = absurd (true≢false (sym h))
end-is (x ∷ []) h = absurd (true≢false (sym h))
end-is (x ∷ y ∷ ys) h =
    let both = and_parts (eqb x 42) (eqb y 47) h in
    ap₂ (λ (a b : ℕ). a ∷ b ∷ ys) (eqb-true x 42 both.0) (eqb-true y 47 both.1)

pub end-long : (r : List ℕ) → is_end r ≡ true → 2 ≤ length r
end-long [] h = absurd (true≢false (sym h))
end-long (x ∷ []) h = absurd (true≢false (sym h))
end-long (x ∷ y ∷ ys) h = omega arith

no-end : (x y : ℕ) (r behind ys : List ℕ) → is_end r ≡ false → r ≡ x ∷ behind → behind ≡ y ∷ ys → x ≡ 42 → y ≢ 47
no-end x y r behind ys h is on star slash =
    let so : r ≡ 42 ∷ 47 ∷ ys = is ∙ ap₂ (λ (a : ℕ) (b : List ℕ). a ∷ b) star (on ∙ ap (λ z. z ∷ ys) slash) in
    true≢false (sym (ap is_end so) ∙ h)

ends-more : (xs : List ℕ) (x y : ℕ) → LacksEnd (xs ++ x ∷ []) → (x ≡ 42 → y ≢ 47) → LacksEnd ((xs ++ x ∷ []) ++ y ∷ [])
ends-more [] x y h n = (n, tt)
ends-more (a ∷ []) x y h n = (h.0, (n, tt))
ends-more (a ∷ b ∷ xs) x y h n = (h.0, ends-more (b ∷ xs) x y h.1 n)

ends-less : (xs : List ℕ) (x : ℕ) → LacksEnd (xs ++ x ∷ []) → LacksEnd xs
ends-less [] x h = tt
ends-less (a ∷ []) x h = tt
ends-less (a ∷ b ∷ xs) x h = (h.0, ends-less (b ∷ xs) x h.1)

pub block-none : (bytes : List ℕ) → IsBlockPart bytes bytes
block-none bytes = record { block = []; is = refl; small = IsAscii-nil; lacks = λ y ys e. tt }

pub block-more : (bytes rest behind : List ℕ) (x : ℕ) → IsBlockPart bytes rest → rest ≡ x ∷ behind → x < 128 → is_end rest ≡ false → IsBlockPart bytes behind
block-more bytes rest behind x h is small on_goes = record {
  block = h.block ++ x ∷ [];
  is = h.is ∙ (ap (λ z. h.block ++ z) is ∙ sym (append_assoc h.block (x ∷ []) behind));
  small = IsAscii-append h.block (x ∷ []) h.small (one-ascii x small);
  lacks = λ y ys on. ends-more h.block x y (h.lacks x behind is) (no-end x y rest behind ys on_goes is on);
}

pub block-done : (bytes rest after : List ℕ) → IsBlockPart bytes rest → is_end rest ≡ true → after ≡ drop 2 rest → IsBehindBlock bytes after
block-done bytes rest after h end e =
    let so : rest ≡ 42 ∷ 47 ∷ after = end-is rest end ∙ ap (λ z. 42 ∷ 47 ∷ z) (sym e) in
    record {
      block = h.block;
      is = h.is ∙ ap (λ z. h.block ++ z) so;
      small = h.small;
      lacks = ends-less h.block 42 (h.lacks 42 (47 ∷ after) so);
    }

block-ascii : (cs : List ℕ) → IsAscii cs → IsAscii (47 ∷ 42 ∷ (cs ++ 42 ∷ 47 ∷ []))
block-ascii cs h =
    IsAscii-cons 47 (42 ∷ (cs ++ 42 ∷ 47 ∷ [])) (lit< tt) (IsAscii-cons 42 (cs ++ 42 ∷ 47 ∷ []) (lit< tt) (IsAscii-append cs (42 ∷ 47 ∷ []) h (two-ascii 42 47 (lit< tt) (lit< tt))))

block-is : (text behind body rest : List ℕ) (x y : ℕ) (h : IsBehindBlock body rest) → text ≡ x ∷ behind → x ≡ 47 → behind ≡ y ∷ body → y ≡ 42 → text ≡ (47 ∷ 42 ∷ (h.block ++ 42 ∷ 47 ∷ [])) ++ rest
block-is text behind body rest x y h is first on second =
    is
    ∙ (ap (λ z. z ∷ behind) first
    ∙ ap (λ z. 47 ∷ z) (on ∙ (ap (λ z. z ∷ body) second ∙ ap (λ z. 42 ∷ z) (h.is ∙ sym (append_assoc h.block (42 ∷ 47 ∷ []) rest)))))

pub block-begins : (text behind body rest : List ℕ) (x y : ℕ) → text ≡ x ∷ behind → x ≡ 47 → behind ≡ y ∷ body → y ≡ 42 → IsBehindBlock body rest → Begins text [] rest
block-begins text behind body rest x y is first on second h =
    subst (λ z. Begins z [] rest) (sym (block-is text behind body rest x y h is first on second)) (gap-begins (block h.block) rest (block-ascii h.block h.small) h.lacks)

-- ---- a comment has bytes

shorter : (front rest : List ℕ) (c d : ℕ) → length rest < length ((c ∷ d ∷ front) ++ rest)
shorter front rest c d = let long = length-append front rest in omega (arith, long)

pub line-less : (text behind body rest : List ℕ) (x y : ℕ) → text ≡ x ∷ behind → x ≡ 47 → behind ≡ y ∷ body → y ≡ 47 → IsBehindLine body rest → length rest < length text
line-less text behind body rest x y is first on second h =
    subst (λ z. length rest < length z) (sym (line-is text behind body rest x y h is first on second)) (shorter (h.line ++ 10 ∷ []) rest 47 47)

pub block-less : (text behind body rest : List ℕ) (x y : ℕ) → text ≡ x ∷ behind → x ≡ 47 → behind ≡ y ∷ body → y ≡ 42 → IsBehindBlock body rest → length rest < length text
block-less text behind body rest x y is first on second h =
    subst (λ z. length rest < length z) (sym (block-is text behind body rest x y h is first on second)) (shorter (h.block ++ 42 ∷ 47 ∷ []) rest 47 42)
