-- What a declaration says it goes on to say where more is declared behind.
--     alike-behind      more entries behind
--     said-none      what is said names none of no names
--     says-more, says-with      the law, for more of all, and for one declaration more
use Rattle.std.proofs.Common.{◌≡◌, Bool, true, false, not, List, [], ◌∷◌, ◌++◌, Some, refl, sym, subst}
use Rattle.std.specs.Prelude.{◌&&◌, ◌||◌, if◌then◌else◌}
use Rattle.std.specs.List.{list_any}
use Rattle.std.specs.Str.{bytes_eq}
use Rattle.utd_syntax.specs.Plain.{StatementP}
use Rattle.value_core.specs.declared.constraint.Constraint.{Constraint}
use Rattle.value_core.specs.declared.constraint.Constraint.TheVariants.{Key, Packed, WhenUnpacked, UKey, Foreign, History}
use Rattle.value_core.specs.declared.list.OrdinalNames.{OrdinalNames}
use Rattle.value_core.specs.Values.{Name}
use Rattle.tree_core.specs.Relvars.{State, Entries, relvar_named}
use Rattle.meaning_laws.specs.Likeness.{LikeIf, Alike}
use Rattle.meaning_laws.proofs.ApartLemmas.{none-named, none-test-named}
use Rattle.meaning_laws.proofs.LikeLemmas.{like-itself}
use Rattle.typing_laws.specs.Saying.{Said, said_ordinal, said_base, said_view, said_stored, said_history, said_rule, Says, names_other, references_other, said_names_any, ordinals_said, with_said, entries_said}
use Rattle.typing_laws.proofs.LogsAlike.{SameLogs, logs-behind}
use Rattle.typing_laws.proofs.SaysElsewhere.{says-stays}

behind-like : (es more : Entries) (name : Name) → LikeIf (relvar_named es name) (relvar_named (es ++ more) name)
behind-like [] more name = tt
behind-like (e ∷ es) more name = by-test (bytes_eq e.0 name) (behind-like es more name)
  where
    by-test : (b : Bool) → LikeIf (relvar_named es name) (relvar_named (es ++ more) name)
        → LikeIf (if b then Some e.1 else relvar_named es name) (if b then Some e.1 else relvar_named (es ++ more) name)
    by-test true like = like-itself e.1
    by-test false like = like

pub alike-behind : (some : Name → Bool) (es more : Entries) → Alike some es (es ++ more)
alike-behind some es more name out = behind-like es more name

-- ---- what is said names none of no names

abbrev no_name : Name → Bool
no_name name = false

none-other : (own name : Name) → names_other no_name own name ≡ false
none-other own name = by-test (bytes_eq own name)
  where
    by-test : (b : Bool) → (not b && false) ≡ false
    by-test true = refl
    by-test false = refl

none-referenced : (own : Name) (c : Constraint) → references_other no_name own c ≡ false
none-referenced own (Key k) = refl
none-referenced own (Packed commalist) = refl
none-referenced own (WhenUnpacked commalist k) = refl
none-referenced own (UKey commalist k) = refl
none-referenced own (Foreign commalist k other there) = none-other own other
none-referenced own (History rule) = none-other own rule.since

none-among : (own : Name) (cs : List Constraint) → list_any (references_other no_name own) cs ≡ false
none-among own [] = refl
none-among own (c ∷ cs) = λ i. none-referenced own c i || none-among own cs i

pub said-none : (d : Said) → said_names_any (λ name. false) d ≡ false
said-none (said_ordinal name names) = refl
said-none (said_base name heading typed) = none-among name typed
said-none (said_view name t) = none-named t
said-none (said_stored name t) = none-named t
said-none (said_history made) = refl
said-none (said_rule name t) = none-test-named t

-- ---- the law

pub says-more : (s r : State) (types : List OrdinalNames) (entries : Entries) → r.ordinals ≡ s.ordinals ++ types → r.relvars ≡ s.relvars ++ entries → (tree : StatementP) (d : Said)
    → Says s tree d → Says r tree d
says-more s r types entries same relvars tree d says =
    says-stays (λ name. false) s r types (subst (λ (es : Entries). Alike (λ name. false) s.relvars es) (sym relvars) (alike-behind (λ name. false) s.relvars entries)) same
    (subst (λ (es : Entries). SameLogs (λ name. false) s.relvars es) (sym relvars) (logs-behind (λ name. false) s.relvars entries)) tree d (said-none d) says

pub says-with : (s : State) (e : Said) (tree : StatementP) (d : Said) → Says s tree d → Says (with_said s e) tree d
says-with s e tree d says = says-more s (with_said s e) (ordinals_said e) (entries_said e) refl refl tree d says
