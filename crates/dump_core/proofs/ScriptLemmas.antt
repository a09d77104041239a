-- A script as it is written is the script of its statements.
use Rattle.std.proofs.Common.{◌≡◌, ℕ, suc, ◌+◌, ◌<◌, ◌≤◌, List, [], ◌∷◌, ◌++◌, length, Bool, true, false, ◌&&◌, Option, Some, None, ◌⊎◌, inl, inr, if◌then◌else◌, cond, refl, sym, ◌∙◌, ap, subst, arith, append_assoc, append-nil, length-append}
use Rattle.std.specs.Prelude.{nat_le, nat_lt}
use Rattle.std.specs.List.{flat_map, list_all}
use Rattle.std.specs.Option.{option_and_then}
use Rattle.std.proofs.Math.Bool.{and-false}
use Rattle.std.proofs.lemmas.Bool.{and_parts, le-leb, lt-leb, leb-true, leb-false}
use Rattle.std.proofs.lemmas.Bool.Decides.{leb_tells}
use Rattle.value_core.specs.Limits.{most_statement_bytes, most_script_bytes}
use Rattle.dump_core.specs.Dumps.{behind_another, lines_of, ended, script_text, is_script, script_with}
use Rattle.dump_core.specs.Drafts.{Written, nothing, piece, has_room, with_statement, with_statements, finished}

abbrev is_short : List ℕ → Bool
is_short s = nat_le (length s) most_statement_bytes

-- what statements add to a script
abbrev added : Bool → List (List ℕ) → List ℕ
added begun [] = []
added begun (s ∷ rest) = piece begun s ++ flat_map behind_another rest

abbrev begun-after : Bool → List (List ℕ) → Bool
begun-after begun [] = begun
begun-after begun (s ∷ rest) = true

added-behind : (ss : List (List ℕ)) → added true ss ≡ flat_map behind_another ss
added-behind [] = refl
added-behind (s ∷ rest) = refl

added-more : (text : List ℕ) (begun : Bool) (s : List ℕ) (rest : List (List ℕ)) → (text ++ piece begun s) ++ added true rest ≡ text ++ added begun (s ∷ rest)
added-more text begun s rest = append_assoc text (piece begun s) (added true rest) ∙ ap (λ z. text ++ (piece begun s ++ z)) (added-behind rest)

-- the script with one statement more
abbrev grown : List ℕ → Written → Written
grown s w = record { text = w.text ++ piece w.begun s; begun = true }

-- ---- statements that have room

record Reached (ss : List (List ℕ)) (w x : Written) : Type 0 where
  pub text : x.text ≡ w.text ++ added w.begun ss
  pub begun : x.begun ≡ begun-after w.begun ss
  pub short : list_all is_short ss ≡ true
  pub within : length w.text ≤ most_script_bytes → length x.text ≤ most_script_bytes

some-same : {A : Type 0} (a b : A) → Some a ≡ Some b → a ≡ b
some-same a b e = ap (λ o. value_or o a) e
  where
    value_or : {A : Type 0} → Option A → A → A
    value_or None d = d
    value_or (Some x) d = x

after : (rest : List (List ℕ)) → begun-after true rest ≡ true
after [] = refl
after (s ∷ rest) = refl

reached-by : (s : List ℕ) (rest : List (List ℕ)) → ((w x : Written) → with_statements rest w ≡ Some x → Reached rest w x)
    → (w x : Written) (b : Bool) → has_room s w ≡ b
    → option_and_then (with_statements rest) (if b then Some (grown s w) else None) ≡ Some x → Reached (s ∷ rest) w x
reached-by s rest behind w x false has e = absurd cc
reached-by s rest behind w x true has e =
    let both = and_parts (is_short s) (nat_le (length (w.text ++ piece w.begun s)) most_script_bytes) has in
    let h = behind (grown s w) x e in
    record {
      text = h.text ∙ added-more w.text w.begun s rest;
      begun = h.begun ∙ after rest;
      short = ap (λ (b : Bool). b && list_all is_short rest) both.0 ∙ h.short;
      within = λ _. h.within (leb-true (length (w.text ++ piece w.begun s)) most_script_bytes both.1);
    }

reached : (ss : List (List ℕ)) (w x : Written) → with_statements ss w ≡ Some x → Reached ss w x
reached [] w x e =
    let same : w ≡ x = some-same w x e in
    subst (Reached [] w) same (record { text = sym (append-nil w.text); begun = refl; short = refl; within = λ h. h })
reached (s ∷ rest) w x e = reached-by s rest (λ v y h. reached rest v y h) w x (has_room s w) refl e

-- ---- statements that have none

longer : (a b c : List ℕ) (most : ℕ) → most < length (a ++ b) → most < length (a ++ (b ++ c))
longer a b c most over = omega (arith, over, length-append a b, length-append b c, length-append a (b ++ c))

abbrev IsRefused : List (List ℕ) → Written → Type 0
IsRefused ss w = (list_all is_short ss ≡ false) ⊎ (most_script_bytes < length (w.text ++ added w.begun ss))

refused-here : (s : List ℕ) (rest : List (List ℕ)) (w : Written) (b : Bool) → is_short s ≡ b
    → (b && nat_le (length (w.text ++ piece w.begun s)) most_script_bytes) ≡ false → IsRefused (s ∷ rest) w
refused-here s rest w false long has = inl (ap (λ (b : Bool). b && list_all is_short rest) long)
refused-here s rest w true short has =
    inr (longer w.text (piece w.begun s) (flat_map behind_another rest) most_script_bytes (leb-false (length (w.text ++ piece w.begun s)) most_script_bytes has))

refused-by : (s : List ℕ) (rest : List (List ℕ)) → ((w : Written) → with_statements rest w ≡ None → IsRefused rest w)
    → (w : Written) (b : Bool) → has_room s w ≡ b
    → option_and_then (with_statements rest) (if b then Some (grown s w) else None) ≡ None → IsRefused (s ∷ rest) w
refused-by s rest behind w true has e = elim (behind (grown s w) e) [
  | inl long ↦ inl (ap (λ (b : Bool). is_short s && b) long ∙ and-false (is_short s))
  | inr over ↦ inr (subst (λ (z : List ℕ). most_script_bytes < length z) (added-more w.text w.begun s rest) over)
]
refused-by s rest behind w false has e = refused-here s rest w (is_short s) refl has

refused : (ss : List (List ℕ)) (w : Written) → with_statements ss w ≡ None → IsRefused ss w
refused [] w e = absurd cc
refused (s ∷ rest) w e = refused-by s rest (λ v h. refused rest v h) w (has_room s w) refl e

-- ---- the script

-- the end of a script has room where the script has
end-fits : (text : List ℕ) (most : ℕ) → length text ≤ most → length (if nat_lt (length text) most then text ++ 10 ∷ [] else text) ≤ most
end-fits text most within = elim (leb_tells (suc (length text)) most) [
  | inl p ↦ rw p.0 (omega (arith, p.1, length-append text (10 ∷ [])))
  | inr p ↦ rw p.0 within
]

end-over : (text : List ℕ) (most : ℕ) → most < length text → most < length (if nat_lt (length text) most then text ++ 10 ∷ [] else text)
end-over text most over = elim (leb_tells (suc (length text)) most) [
  | inl p ↦ absurd (omega (arith, p.1, over))
  | inr p ↦ rw p.0 over
]

pub script-written : (ss : List (List ℕ)) (x : Written) → with_statements ss nothing ≡ Some x → script_with ss ≡ Some (finished x)
script-written [] x e = ap (λ (w : Written). Some (finished w)) (some-same nothing x e)
script-written (s ∷ rest) x e =
    let h = reached (s ∷ rest) nothing x e in
    let within : length (lines_of (s ∷ rest)) ≤ most_script_bytes = subst (λ (z : List ℕ). length z ≤ most_script_bytes) h.text (h.within (omega arith)) in
    let fits : is_script (s ∷ rest) ≡ true =
    ap (λ (b : Bool). b && nat_le (length (ended (lines_of (s ∷ rest)))) most_script_bytes) h.short
    ∙ le-leb (length (ended (lines_of (s ∷ rest)))) most_script_bytes (end-fits (lines_of (s ∷ rest)) most_script_bytes within) in
    ap (λ (b : Bool). if b then Some (ended (lines_of (s ∷ rest))) else None) fits
    ∙ ap (λ (z : List ℕ). Some (ended z)) (sym h.text) ∙ ap (λ (b : Bool). Some (if b then ended x.text else x.text)) (sym h.begun)

pub script-refused : (ss : List (List ℕ)) → with_statements ss nothing ≡ None → script_with ss ≡ None
script-refused [] e = absurd cc
script-refused (s ∷ rest) e =
    let text : List ℕ = ended (lines_of (s ∷ rest)) in
    ap (λ (b : Bool). if b then Some text else None) (elim (refused (s ∷ rest) nothing e) [
      | inl long ↦ ap (λ (b : Bool). b && nat_le (length text) most_script_bytes) long
      | inr over ↦ ap (λ (b : Bool). list_all is_short (s ∷ rest) && b) (lt-leb (length text) most_script_bytes (end-over (lines_of (s ∷ rest)) most_script_bytes over))
          ∙ and-false (list_all is_short (s ∷ rest))
    ])
