-- The verdict by where the next token stands.
use Rattle.std.proofs.Common.{◌≡◌, ℕ, List, [], ◌∷◌, Bool, true, false, cond, Option, Some, None, Result, refl, sym, ◌∙◌, ap, subst}
use Rattle.point_core.specs.declared.fault.Place.{Place}
use Rattle.point_core.specs.declared.fault.Code.{Code}
use Rattle.point_core.specs.declared.fault.Code.TheVariants.{E01, E05, E06}
use Rattle.utd_syntax.specs.declared.terminal.Terminal.{Terminal}
use Rattle.utd_syntax.specs.declared.terminal.Terminal.TheVariants.{Finish}
use Rattle.utd_syntax.specs.Pieces.{Piece, first, bytes_of}
use Rattle.utd_syntax.specs.Table.{Symbol, Load, Taking}
use Rattle.utd_syntax.specs.Verdict.{Verdict, Whole, Refused, Reach, Reaches, verdict, reach, taken, ended, stack_after, load_after}
use Rattle.utd_ranges.specs.Limits.{is_too_deep, is_out_of_range, limits}
use Rattle.utd_parser.specs.Tokens.{seen}
use Rattle.value_core.specs.declared.refuse.Refuse.{Refuse}
use Rattle.utd_builder.specs.Building.{behind}
use Rattle.utd_parser.specs.Frames.{excess_of, verdict_behind, Comes}

-- where no token is left, and where one is
reach-first : (ps : List Piece) (stack : List Symbol) (load : Load) (x : Terminal) (b : List ℕ) (n : Terminal) (r : Reach) → x ≡ first ps → b ≡ bytes_of ps → n ≡ first (behind ps) → reach stack load x b n ≡ r → reach stack load (first ps) (bytes_of ps) (first (behind ps)) ≡ r
reach-first ps stack load x b n r ex eb en is = ap (λ z. reach stack load z (bytes_of ps) (first (behind ps))) (sym ex) ∙ ap (λ z. reach stack load x z (first (behind ps))) (sym eb) ∙ ap (reach stack load x b) (sym en) ∙ is

verdict-none : (stack : List Symbol) (load : Load) → verdict limits [] stack load ≡ ended (reach stack load Finish [] Finish)
unfolding verdict
verdict-none stack load = refl

verdict-some : (t : Piece) (ts : List Piece) (stack : List Symbol) (load : Load) → verdict limits (t ∷ ts) stack load ≡ taken limits (reach stack load t.terminal t.bytes (first ts)) t (verdict limits ts)
unfolding verdict
verdict-some t ts stack load = refl

-- what is so of one verdict and the next is so of those that they are
comes-by : {A : Type 0} → (r : Result A Refuse) (old old' new new' : Verdict) → old' ≡ old → new ≡ new' → Comes r old new → Comes r old' new'
comes-by r old old' new new' e f h = subst (λ z. Comes r z new') (sym e) (subst (λ z. Comes r old z) f h)

pub comes-end : {A : Type 0} → (res : Result A Refuse) (ps : List Piece) (stack stack' : List Symbol) (load load' : Load) (x : Terminal) (b : List ℕ) (n : Terminal) (r : Reach) → ps ≡ [] → x ≡ first ps → b ≡ bytes_of ps → n ≡ first (behind ps) → reach stack load x b n ≡ r → Comes res (ended r) Whole → Comes res (verdict limits ps stack load) (verdict_behind ps stack' load')
comes-end res ps stack stack' load load' x b n r is ex eb en er h =
    let f : first ps ≡ Finish = ap first is in
    let g : bytes_of ps ≡ [] = ap bytes_of is in
    let k : first (behind ps) ≡ Finish = ap (λ q. first (behind q)) is in
    comes-by res _ _ _ _ (ap (λ q. verdict limits q stack load) is ∙ verdict-none stack load ∙ ap ended (reach-first [] stack load x b n r (ex ∙ f) (eb ∙ g) (en ∙ k) er)) (sym (ap (λ q. verdict_behind q stack' load') is)) h

pub comes-token : {A : Type 0} → (res : Result A Refuse) (ps : List Piece) (t : Piece) (ts : List Piece) (stack stack' : List Symbol) (load load' : Load) (x : Terminal) (b : List ℕ) (n : Terminal) (r : Reach) → ps ≡ t ∷ ts → x ≡ first ps → b ≡ bytes_of ps → n ≡ first (behind ps) → reach stack load x b n ≡ r → Comes res (taken limits r t (verdict limits ts)) (verdict limits ts stack' load') → Comes res (verdict limits ps stack load) (verdict_behind ps stack' load')
comes-token res ps t ts stack stack' load load' x b n r is ex eb en er h =
    let f : first ps ≡ t.terminal = ap first is in
    let g : bytes_of ps ≡ t.bytes = ap bytes_of is in
    let k : first (behind ps) ≡ first ts = ap (λ q. first (behind q)) is in
    comes-by res _ _ _ _ (ap (λ q. verdict limits q stack load) is ∙ verdict-some t ts stack load ∙ ap (λ q. taken limits q t (verdict limits ts)) (reach-first (t ∷ ts) stack load x b n r (ex ∙ f) (eb ∙ g) (en ∙ k) er)) (sym (ap (λ q. verdict_behind q stack' load') is)) h

code_or : Option Code → Code
code_or None = E01
code_or (Some code) = code

refused-with : (code code' : Code) (p : Place) → Some code ≡ Some code' → Refused code p ≡ Refused code' p
unfolding code_or
refused-with code code' p e = ap (λ c. Refused c p) (ap code_or e)

excess-case : (deep off : Bool) (code : Code) (p : Place) (v : Verdict) → excess_of deep off ≡ Some code → cond deep (Refused E05 p) (cond off (Refused E06 p) v) ≡ Refused code p
excess-case true off code p v e = refused-with E05 code p e
excess-case false true code p v e = refused-with E06 code p e
excess-case false false code p v e = cc

-- a token that is refused, and one that is not
pub verdict-excess : (x : Terminal) (p : Place) (b : List ℕ) (ts : List Piece) (how : Taking) (stack : List Symbol) (load : Load) (o : Option Code) (code : Code) → o ≡ excess_of (is_too_deep how load) (is_out_of_range how x b) → o ≡ Some code → taken limits (Reaches how stack load) (seen x p b) (verdict limits ts) ≡ Refused code p
verdict-excess x p b ts how stack load o code is at = excess-case (is_too_deep how load) (is_out_of_range how x b) code p _ (sym is ∙ at)

fits-case : (deep off : Bool) (p : Place) (v : Verdict) → excess_of deep off ≡ None → cond deep (Refused E05 p) (cond off (Refused E06 p) v) ≡ v
fits-case true off p v e = cc
fits-case false true p v e = cc
fits-case false false p v e = refl

pub verdict-fits : (x : Terminal) (p : Place) (b : List ℕ) (ts : List Piece) (how : Taking) (stack : List Symbol) (load : Load) (o : Option Code) → o ≡ excess_of (is_too_deep how load) (is_out_of_range how x b) → o ≡ None → taken limits (Reaches how stack load) (seen x p b) (verdict limits ts) ≡ verdict limits ts (stack_after how load stack) (load_after how load)
verdict-fits x p b ts how stack load o is at = fits-case (is_too_deep how load) (is_out_of_range how x b) p _ (sym is ∙ at)

pub verdict-same : (ts : List Piece) (stack stack' : List Symbol) (load load' : Load) → stack' ≡ stack → load' ≡ load → verdict limits ts stack load ≡ verdict limits ts stack' load'
verdict-same ts stack stack' load load' s l = ap (λ z. verdict limits ts z load) (sym s) ∙ ap (verdict limits ts stack') (sym l)
