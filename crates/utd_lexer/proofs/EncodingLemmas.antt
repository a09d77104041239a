-- The bytes of characters, those of the first and those of the others.
use Rattle.std.proofs.Common.{◌≡◌, ℕ, ◌+◌, ◌<◌, ◌≤◌, List, [], ◌∷◌, ◌++◌, length, take, drop, get_or, sym, ◌∙◌, ap, arith, length-append, length-drop, encode_utf8, encode_utf8_all}
use Rattle.std.proofs.lemmas.List.{take-append-drop, take_more, take_at, drop_at}
use Rattle.std.proofs.lemmas.Str.{encodes-append, length-le-encodes}
use Rattle.utd_lexer.proofs.TextLemmas.{encode-snoc}

encoded-parts : (n : ℕ) (cs : List ℕ) → encode_utf8_all cs ≡ encode_utf8_all (take n cs) ++ encode_utf8_all (drop n cs)
encoded-parts n cs = ap encode_utf8_all (sym (take-append-drop n cs)) ∙ encodes-append (take n cs) (drop n cs)

pub prefix-width : (n : ℕ) (cs : List ℕ) → length (encode_utf8_all (take n cs)) ≤ length (encode_utf8_all cs)
prefix-width n cs =
    let e : length (encode_utf8_all cs) ≡ length (encode_utf8_all (take n cs)) + length (encode_utf8_all (drop n cs)) =
    ap length (encoded-parts n cs) ∙ length-append (encode_utf8_all (take n cs)) (encode_utf8_all (drop n cs)) in
    omega (arith, e)

-- where there are no more bytes than characters, each has one
pub one-byte-each : (n : ℕ) (cs : List ℕ) → n ≤ length cs → length cs ≡ length (encode_utf8_all cs) → n ≡ length (encode_utf8_all (take n cs))
one-byte-each n cs le same =
    let bytes : length (encode_utf8_all cs) ≡ length (encode_utf8_all (take n cs)) + length (encode_utf8_all (drop n cs)) =
    ap length (encoded-parts n cs) ∙ length-append (encode_utf8_all (take n cs)) (encode_utf8_all (drop n cs)) in
    let prefix = length-le-encodes (take n cs) in
    let back = length-le-encodes (drop n cs) in
    let all : length cs ≡ length (take n cs) + length (drop n cs) = ap length (sym (take-append-drop n cs)) ∙ length-append (take n cs) (drop n cs) in
    let behind = length-drop n cs in
    omega (arith, bytes, prefix, back, all, behind, le, same)

-- a character further
pub width-more : (xs : List ℕ) (i x n m : ℕ) → i < length xs → x ≡ get_or xs i x → n ≡ length (encode_utf8_all (take i xs)) → m ≡ length (encode_utf8 x) → n + m ≡ length (encode_utf8_all (take (i + 1) xs))
width-more xs i x n m lt is h e =
    let last : take (i + 1) xs ≡ take i xs ++ x ∷ [] = take_more xs i x lt ∙ ap (λ z. take i xs ++ z ∷ []) (sym is) in
    let more : length (encode_utf8_all (take (i + 1) xs)) ≡ length (encode_utf8_all (take i xs)) + length (encode_utf8 x) =
    ap (λ z. length (encode_utf8_all z)) last ∙ ap length (encode-snoc (take i xs) x) ∙ length-append (encode_utf8_all (take i xs)) (encode_utf8 x) in
    omega (arith, h, e, more)

pub prefix-bytes : (cs bytes prefix : List ℕ) (n k : ℕ) → bytes ≡ encode_utf8_all cs → k ≡ length (encode_utf8_all (take n cs)) → prefix ≡ take k bytes → prefix ≡ encode_utf8_all (take n cs)
prefix-bytes cs bytes prefix n k e len is =
    is ∙ ap (take k) (e ∙ encoded-parts n cs) ∙ take_at (encode_utf8_all (take n cs)) (encode_utf8_all (drop n cs)) k (sym len)

pub bytes-behind : (cs bytes rest : List ℕ) (n k : ℕ) → bytes ≡ encode_utf8_all cs → k ≡ length (encode_utf8_all (take n cs)) → rest ≡ drop k bytes → rest ≡ encode_utf8_all (drop n cs)
bytes-behind cs bytes rest n k e len is =
    is ∙ ap (drop k) (e ∙ encoded-parts n cs) ∙ drop_at (encode_utf8_all (take n cs)) (encode_utf8_all (drop n cs)) k (sym len)
