-- How a script is read piece by piece.
use Rattle.std.proofs.Common.{◌≡◌, ℕ, zero, suc, ◌+◌, ◌≤◌, List, [], ◌∷◌, ◌++◌, length, take, drop, Option, Some, refl, sym, ap, ◌∙◌, subst, arith, length-drop, length-take, take-add}
use Rattle.std.proofs.lemmas.List.{drop-drop}
use Rattle.utd_io.specs.Io.{Gives}
use Rattle.utd_session.specs.declared.feeding.Session.{Session}
use Rattle.utd_session.specs.Sessions.{fed_of}
use Rattle.utd_session.specs.Progress.{HasFed, ComesNext}

pub take-take : (k m : ℕ) (xs : List ℕ) → k ≤ m → take k (take m xs) ≡ take k xs
take-take zero m xs l = refl
take-take (suc k) zero xs l = absurd (omega arith)
take-take (suc k) (suc m) [] l = refl
take-take (suc k) (suc m) (x ∷ xs) l = ap (λ ys. x ∷ ys) (take-take k m xs (omega arith))

-- a front of the next piece
pub record NextPrefix (all : List ℕ) (n : ℕ) (piece prefix : List ℕ) : Type 0 where
  pub joined : take n all ++ prefix ≡ take (n + length prefix) all
  pub within : n + length prefix ≤ length all

pub next_prefix : (all : List ℕ) (n k : ℕ) (piece prefix : List ℕ) (left : Option (List ℕ)) → ComesNext all n piece left → prefix ≡ take k piece → k ≤ length piece → NextPrefix all n piece prefix
next_prefix all n k piece prefix left next is l =
    let len : length prefix ≡ k = omega (arith, ap length is, length-take {A = ℕ} k piece, l) in
    let same : prefix ≡ take k (drop n all) = is ∙ ap (take k) next.is ∙ take-take k (length piece) (drop n all) l in
    record {
      joined = ap (λ x. take n all ++ x) same ∙ sym (take-add n k all) ∙ ap (λ m. take (n + m) all) (sym len);
      within = omega (arith, next.within, len, l);
    }

-- what was read comes next
pub comes_next : (all : List ℕ) (mid after before now : Option (List ℕ)) (session : Session) (paid steps : ℕ) (buffer piece : List ℕ) (n : ℕ) → HasFed all mid session before now paid steps → Gives mid n buffer after → piece ≡ take n buffer → ComesNext all (fed_of session) piece after
comes_next all mid after before now session paid steps buffer piece n h g e =
    let k : ℕ = fed_of session in
    let gives : Gives (Some (drop k all)) n buffer after = subst (λ m. Gives m n buffer after) h.left_is g in
    let same : piece ≡ take n (drop k all) = e ∙ gives.0 in
    let len : length piece ≡ n = omega (arith, ap length same, length-take {A = ℕ} n (drop k all), gives.1) in
    let at : k + n ≡ k + length piece = omega (arith, len) in
    record {
      is = same ∙ ap (λ m. take m (drop k all)) (sym len);
      within = omega (arith, len, gives.1, length-drop {A = ℕ} k all, h.within);
      left_is = gives.2 ∙ ap Some (drop-drop n k all) ∙ ap (λ m. Some (drop m all)) at;
    }
