-- The forms to come, over the frames.
use Rattle.std.proofs.Common.{◌≡◌, ℕ, List, [], ◌∷◌, ◌++◌, refl, sym, ◌∙◌, ap, Option, Some, None}
use Rattle.std.specs.Prelude.{IfSome}
use Rattle.std.specs.Option.{option_to_list}
use Rattle.utd_syntax.specs.declared.terminal.Terminal.{Terminal}
use Rattle.utd_syntax.specs.Table as table
use Rattle.utd_syntax.specs.Verdict as verdict
use Rattle.utd_syntax.specs.Verdict.{reach, at_form, outside}
use Rattle.utd_parser.specs.declared.form.Form.{Form}
use Rattle.utd_parser.specs.declared.form.Form.TheVariants as forms
use Rattle.utd_parser.specs.declared.stack.Frame.{Frame}
use Rattle.utd_parser.specs.declared.stack.Load.{Load}
use Rattle.utd_parser.specs.Forms.{form_of, forms_of}
use Rattle.utd_parser.specs.Frames.{load_of, symbols_in, above, stack_of}

above-push : (base : List table.Symbol) (fs : List Frame) (f : Frame) → above base (fs ++ f ∷ []) ≡ symbols_in f ++ above base fs
above-push base [] f = refl
above-push base (g ∷ fs) f = above-push (symbols_in g ++ base) fs f

-- one more frame
pub stack-push : (fs : List Frame) (f : Frame) → stack_of (fs ++ f ∷ []) ≡ symbols_in f ++ stack_of fs
stack-push fs f = above-push [] fs f

-- a form carries no load
outside-form : (f : Form) (load : table.Load) → outside (form_of f) load ≡ load
outside-form (forms.Just x) load = refl
outside-form _ load = refl

-- the first of the forms decides
pub reach-form : (list : List Form) (f : Form) (fs : List Form) (base : List table.Symbol) (load : table.Load) (x : Terminal) (b : List ℕ) (n : Terminal) → list ≡ f ∷ fs → reach (forms_of list ++ base) load x b n ≡ at_form (table.turn (form_of f) x b n) (forms_of fs ++ base) load (reach (forms_of fs ++ base) load x b n)
unfolding reach
reach-form list f fs base load x b n is = ap (λ l. reach (forms_of l ++ base) load x b n) is ∙ ap (λ o. at_form (table.turn (form_of f) x b n) (forms_of fs ++ base) load (reach (forms_of fs ++ base) o x b n)) (outside-form f load)

pub pass-turn : (list : List Form) (f : Form) (fs : List Form) (x : Terminal) (b : List ℕ) (n : Terminal) (r : table.Turn) → list ≡ f ∷ fs → r ≡ table.turn (form_of f) x b n → (base : List table.Symbol) (load : table.Load) → reach (forms_of list ++ base) load x b n ≡ at_form r (forms_of fs ++ base) load (reach (forms_of fs ++ base) load x b n)
pass-turn list f fs x b n r is e base load = reach-form list f fs base load x b n is ∙ ap (λ q. at_form q (forms_of fs ++ base) load (reach (forms_of fs ++ base) load x b n)) (sym e)

-- the last frame, if there is one
pub stack-pop : (old new : List Frame) (o : Option Frame) → old ≡ new ++ option_to_list o → IfSome o (λ f. stack_of old ≡ symbols_in f ++ stack_of new)
stack-pop old new None is = tt
stack-pop old new (Some f) is = ap stack_of is ∙ stack-push new f

-- the end of a level gives the load outside it
pub reach-shut : (outer load : table.Load) (base : List table.Symbol) (x : Terminal) (b : List ℕ) (n : Terminal) → reach (table.Shut outer ∷ base) load x b n ≡ reach base outer x b n
unfolding reach
reach-shut outer load base x b n = refl

pub reach-level : (old : List table.Symbol) (f : Frame) (outer : Load) (forms : List Form) (base : List table.Symbol) (load : table.Load) (x : Terminal) (b : List ℕ) (n : Terminal) → old ≡ symbols_in f ++ base → symbols_in f ≡ table.Shut (load_of outer) ∷ forms_of forms → reach old load x b n ≡ reach (forms_of forms ++ base) (load_of outer) x b n
reach-level old f outer forms base load x b n is at = ap (λ s. reach s load x b n) (is ∙ ap (λ g. g ++ base) at) ∙ reach-shut (load_of outer) load (forms_of forms ++ base) x b n

pub reach-over : (old : List table.Symbol) (load : table.Load) (x : Terminal) (b : List ℕ) (n : Terminal) → old ≡ [] → reach old load x b n ≡ verdict.Over
unfolding reach
reach-over old load x b n is = ap (λ s. reach s load x b n) is
