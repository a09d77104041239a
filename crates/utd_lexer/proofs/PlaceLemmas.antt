-- Places behind bytes, and that they fit.
use Rattle.std.proofs.Common.{◌≡◌, ℕ, suc, ◌+◌, ◌≤◌, List, [], ◌∷◌, ◌++◌, length, refl, ◌∙◌, ap, subst, arith, length-append, inl, inr, encode_utf8_all}
use Rattle.std.proofs.lemmas.Bool.Decides.{eqb_tells}
use Rattle.point_core.specs.declared.fault.Place.{Place}
use Rattle.utd_lexer.specs.Tokens.{Fits, next_place, place_after, past}

pub place_after-append : (p : Place) (a b : List ℕ) → place_after p (a ++ b) ≡ place_after (place_after p a) b
place_after-append p [] b = refl
place_after-append p (x ∷ a) b = place_after-append (next_place p x) a b

pub fits-less : (p : Place) (m n : ℕ) → Fits p n → m ≤ n → Fits p m
fits-less p m n h le = (omega (arith, h.0), omega (arith, h.1))

pub fits-next : (p : Place) (b n : ℕ) → Fits p (n + 1) → Fits (next_place p b) n
fits-next p b n h = elim (eqb_tells b 10) [
  | inl e ↦ rw e.0 (omega (arith, h.0), omega (arith, h.0))
  | inr e ↦ rw e.0 (omega (arith, h.0), omega (arith, h.1))
]

pub fits-after : (p : Place) (bs : List ℕ) (n : ℕ) → Fits p (length bs + n) → Fits (place_after p bs) n
fits-after p [] n h = fits-less p n (0 + n) h (omega arith)
fits-after p (b ∷ bs) n h = fits-after (next_place p b) bs n (fits-next p b (length bs + n) (fits-less p (length bs + n + 1) (suc (length bs) + n) h (omega arith)))

-- characters further
pub chars-step : (p : Place) (cs prefix rest : List ℕ) → cs ≡ prefix ++ rest → encode_utf8_all cs ≡ encode_utf8_all prefix ++ encode_utf8_all rest → Fits p (length (encode_utf8_all cs))
    → Fits p (length (encode_utf8_all prefix)) × Fits (past p prefix) (length (encode_utf8_all rest))
chars-step p cs prefix rest is bytes fits =
    let n : length (encode_utf8_all cs) ≡ length (encode_utf8_all prefix) + length (encode_utf8_all rest) = ap length bytes ∙ length-append (encode_utf8_all prefix) (encode_utf8_all rest) in
    let all : Fits p (length (encode_utf8_all prefix) + length (encode_utf8_all rest)) = subst (Fits p) n fits in
    (fits-less p (length (encode_utf8_all prefix)) _ all (omega arith), fits-after p (encode_utf8_all prefix) (length (encode_utf8_all rest)) all)
