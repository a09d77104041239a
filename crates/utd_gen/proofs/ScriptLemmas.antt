-- A tuple more, and a line more.
use Rattle.std.proofs.Common.{◌≡◌, ℕ, zero, suc, ◌+◌, ◌-◌, ◌<◌, List, ◌++◌, codes, append_assoc, append-nil, sym, ◌∙◌, ap, arith}
use Rattle.std.specs.List.{flat_map, join_by, range_with_len}
use Rattle.utd_gen.specs.Script.{tuple_text, tuples_text, thousand_line}

flat_map-range-more : (f : ℕ → List ℕ) (a n j : ℕ) → a + n ≡ j → flat_map f (range_with_len a (suc n)) ≡ flat_map f (range_with_len a n) ++ f j
flat_map-range-more f a zero j is = let same : a ≡ j = omega arith in append-nil (f a) ∙ ap f same
flat_map-range-more f a (suc n) j is =
    ap (λ z. f a ++ z) (flat_map-range-more f (a + 1) n j (omega arith)) ∙ sym (append_assoc (f a) (flat_map f (range_with_len (a + 1) n)) (f j))

-- ---- tuples

tuples : ℕ → ℕ → List ℕ
tuples begin n = join_by tuple_text (codes ", ") (range_with_len begin n)

tuples-suc : (begin k number : ℕ) → begin + suc k ≡ number → tuples begin (suc (suc k)) ≡ tuples begin (suc k) ++ (codes ", " ++ tuple_text number)
unfolding tuples
tuples-suc begin k number is =
    let more : ℕ → List ℕ = λ i. codes ", " ++ tuple_text i in
    ap (λ z. tuple_text begin ++ z) (flat_map-range-more more (begin + 1) k number (omega arith))
    ∙ sym (append_assoc (tuple_text begin) (flat_map more (range_with_len (begin + 1) k)) (more number))

pub tuples-first : (begin : ℕ) → tuples_text begin (begin + 1) ≡ tuple_text begin
unfolding tuples_text
tuples-first begin =
    let one : (begin + 1) - begin ≡ 1 = omega arith in
    ap (λ n. join_by tuple_text (codes ", ") (range_with_len begin n)) one ∙ append-nil (tuple_text begin)

pub tuples-more : (begin number : ℕ) (start out now : List ℕ) → begin < number → out ≡ start ++ tuples_text begin number
    → now ≡ (out ++ codes ", ") ++ tuple_text number → now ≡ start ++ tuples_text begin (number + 1)
unfolding tuples_text tuples
tuples-more begin number start out now below is grows =
    let k = number - suc begin in
    let before : number - begin ≡ suc k = omega arith in
    let after : (number + 1) - begin ≡ suc (suc k) = omega arith in
    let at : begin + suc k ≡ number = omega arith in
    let t : List ℕ = tuple_text number in
    let old : List ℕ = tuples begin (suc k) in
    grows
    ∙ ap (λ z. (z ++ codes ", ") ++ t) (is ∙ ap (λ n. start ++ tuples begin n) before)
    ∙ append_assoc (start ++ old) (codes ", ") t
    ∙ append_assoc start old (codes ", " ++ t)
    ∙ ap (λ z. start ++ z) (sym (tuples-suc begin k number at))
    ∙ ap (λ n. start ++ tuples begin n) (sym after)

-- ---- lines

pub inserts-more : (n k : ℕ) (start out now : List ℕ) → out ≡ start ++ flat_map (thousand_line n) (range_with_len 0 k)
    → now ≡ out ++ thousand_line n k → now ≡ start ++ flat_map (thousand_line n) (range_with_len 0 (k + 1))
inserts-more n k start out now is grows =
    let next : suc k ≡ k + 1 = omega arith in
    grows
    ∙ ap (λ z. z ++ thousand_line n k) is
    ∙ append_assoc start (flat_map (thousand_line n) (range_with_len 0 k)) (thousand_line n k)
    ∙ ap (λ z. start ++ z) (sym (flat_map-range-more (thousand_line n) 0 k k (omega arith)) ∙ ap (λ m. flat_map (thousand_line n) (range_with_len 0 m)) next)
