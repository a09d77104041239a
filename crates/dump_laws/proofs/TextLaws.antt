-- Texts and what they say.
--     text-key, text-kind      a text has the name and the kind of what it says
--     texts-stay      texts of which each says the same in another state
--     texts-more, texts-left, all-left      one text more, and texts of which one is forgotten, or none
use Rattle.std.proofs.Common.{◌≡◌, inl, inr, Bool, true, false, not, cond, List, [], ◌∷◌, ◌++◌, refl, sym, ap, ◌∙◌, subst, append_assoc, append-nil, Ok}
use Rattle.std.specs.List.{flat_map}
use Rattle.std.specs.Str.{bytes_eq}
use Rattle.base_core.proofs.SetLemmas.{In}
use Rattle.value_core.specs.declared.list.OrdinalNames.{OrdinalNames}
use Rattle.value_core.specs.Values.{Name}
use Rattle.relation_typing.specs.Attributes.{name_typed}
use Rattle.tree_core.specs.Relvars.{State}
use Rattle.dump_core.specs.declared.texts.TextKind.{TextKind}
use Rattle.dump_core.specs.declared.texts.TextKind.TheVariants.{Early, View, Rule}
use Rattle.dump_core.specs.Texts.{SourceText, forgotten}
use Rattle.utd_syntax.specs.Plain as syntax
use Rattle.utd_syntax.specs.Plain.{Word, VarFormP, StatementP}
use Rattle.utd_statement.specs.Keeping.{Keeping, Keeps, Forgets, Leaves, kind_of, keeping_of}
use Rattle.meaning_core.proofs.MadeLemmas.{own_name}
use Rattle.row_typing_laws.proofs.HeadingNames.{name-written}
use Rattle.typing_laws.specs.Saying.{Said, said_ordinal, said_base, said_view, said_stored, said_history, said_rule, Says, names_said, ordinals_said}
use Rattle.dump_laws.specs.Kept.{kind_said, key_said, IsTextOf, AreTextsFrom}

-- ---- the name and the kind

-- what is kept
abbrev kind_kept : TextKind → Keeping → TextKind
kind_kept other (Keeps kind name) = kind
kind_kept other (Forgets name) = other
kind_kept other Leaves = other

abbrev name_kept : Name → Keeping → Name
name_kept other (Keeps kind name) = name
name_kept other (Forgets name) = other
name_kept other Leaves = other

-- the kind and the name of a text that is kept
abbrev IsOf : TextKind → Name → Said → Type 0
IsOf kind name d = (kind ≡ kind_said d) × (name ≡ key_said d)

of-word : (w : Word) (kind own : TextKind) (name key : Name) → Keeps own w.bytes ≡ Keeps kind name → name_typed w ≡ Ok key → (kind ≡ own) × (name ≡ key)
of-word w kind own name key e typed =
    (ap (kind_kept own) (sym e), ap (name_kept w.bytes) (sym e) ∙ sym (name-written w key typed))

ordinal-of : (w : Word) (values : _) (kind : TextKind) (name : Name) (s : State) (at : _) (d : Said) → Keeps Early w.bytes ≡ Keeps kind name
    → Says s (syntax.DeclareOrdinal at w values) d → IsOf kind name d
ordinal-of w values kind name s at (said_ordinal own names) e h = of-word w kind Early name own e h.0
ordinal-of w values kind name s at (said_base own heading typed) e h = absurd h
ordinal-of w values kind name s at (said_view own t) e h = absurd h
ordinal-of w values kind name s at (said_stored own t) e h = absurd h
ordinal-of w values kind name s at (said_history made) e h = absurd h
ordinal-of w values kind name s at (said_rule own t) e h = absurd h

relvar-of : (w : Word) (form : VarFormP) (kind : TextKind) (name : Name) (s : State) (at : _) (d : Said) → Keeps (kind_of form) w.bytes ≡ Keeps kind name → Says s (syntax.DeclareRelvar at w form) d
    → IsOf kind name d
relvar-of w (syntax.BaseRelvar there h cs) kind name s at (said_ordinal own names) e h2 = absurd h2
relvar-of w (syntax.BaseRelvar there h cs) kind name s at (said_base own heading typed) e h2 = of-word w kind Early name own e h2.0
relvar-of w (syntax.BaseRelvar there h cs) kind name s at (said_view own t) e h2 = absurd h2
relvar-of w (syntax.BaseRelvar there h cs) kind name s at (said_stored own t) e h2 = absurd h2
relvar-of w (syntax.BaseRelvar there h cs) kind name s at (said_history made) e h2 = absurd h2
relvar-of w (syntax.BaseRelvar there h cs) kind name s at (said_rule own t) e h2 = absurd h2
relvar-of w (syntax.View there rel) kind name s at (said_ordinal own names) e h2 = absurd h2
relvar-of w (syntax.View there rel) kind name s at (said_base own heading typed) e h2 = absurd h2
relvar-of w (syntax.View there rel) kind name s at (said_view own t) e h2 = of-word w kind View name own e h2.0
relvar-of w (syntax.View there rel) kind name s at (said_stored own t) e h2 = absurd h2
relvar-of w (syntax.View there rel) kind name s at (said_history made) e h2 = absurd h2
relvar-of w (syntax.View there rel) kind name s at (said_rule own t) e h2 = absurd h2
relvar-of w (syntax.Kept there kept) kind name s at (said_ordinal own names) e h2 = absurd h2
relvar-of w (syntax.Kept there kept) kind name s at (said_base own heading typed) e h2 = absurd h2
relvar-of w (syntax.Kept there kept) kind name s at (said_view own t) e h2 = absurd h2
relvar-of w (syntax.Kept there kept) kind name s at (said_stored own t) e h2 = of-word w kind View name own e h2.view
relvar-of w (syntax.Kept there kept) kind name s at (said_history made) e h2 = absurd h2
relvar-of w (syntax.Kept there kept) kind name s at (said_rule own t) e h2 = absurd h2

history-of : (at : _) (v : Word) (h : _) (key : _) (b p d i : Word) (t : _) (kind : TextKind) (name : Name) (s : State) (x : Said) → Keeps Early v.bytes ≡ Keeps kind name
    → Says s (syntax.DeclareHistory at v h key b p d i t) x → IsOf kind name x
history-of at v h key b p d i t kind name s (said_ordinal own names) e k = absurd k
history-of at v h key b p d i t kind name s (said_base own heading typed) e k = absurd k
history-of at v h key b p d i t kind name s (said_view own tree) e k = absurd k
history-of at v h key b p d i t kind name s (said_stored own tree) e k = absurd k
history-of at v h key b p d i t kind name s (said_history made) e k = of-word v kind Early name made.view e k.view
history-of at v h key b p d i t kind name s (said_rule own test) e k = absurd k

rule-of : (w : Word) (test : _) (kind : TextKind) (name : Name) (s : State) (at : _) (d : Said) → Keeps Rule w.bytes ≡ Keeps kind name → Says s (syntax.DeclareRule at w test) d → IsOf kind name d
rule-of w test kind name s at (said_ordinal own names) e h = absurd h
rule-of w test kind name s at (said_base own heading typed) e h = absurd h
rule-of w test kind name s at (said_view own t) e h = absurd h
rule-of w test kind name s at (said_stored own t) e h = absurd h
rule-of w test kind name s at (said_history made) e h = absurd h
rule-of w test kind name s at (said_rule own t) e h = of-word w kind Rule name own e h.0

pub kept-as : (s : State) (tree : StatementP) (d : Said) (kind : TextKind) (name : Name) → keeping_of tree ≡ Keeps kind name → Says s tree d → IsOf kind name d
kept-as s syntax.Nothing d kind name e h = absurd h
kept-as s (syntax.DeclareOrdinal at w values) d kind name e h = ordinal-of w values kind name s at d e h
kept-as s (syntax.DeclareRelvar at w form) d kind name e h = relvar-of w form kind name s at d e h
kept-as s (syntax.DeclareHistory at v h key b p during i t) d kind name e k = history-of at v h key b p during i t kind name s d e k
kept-as s (syntax.DeclareLog at log source attribute) d kind name e h = absurd h
kept-as s (syntax.DeclareRule at w test) d kind name e h = rule-of w test kind name s at d e h
kept-as s (syntax.Drop at w) d kind name e h = absurd h
kept-as s (syntax.DropRule at con w) d kind name e h = absurd h
kept-as s (syntax.Print at rel) d kind name e h = absurd h
kept-as s (syntax.Ask at test) d kind name e h = absurd h
kept-as s (syntax.Assignment assignment) d kind name e h = absurd h

pub text-kind : (w : State) (t : SourceText) (d : Said) → IsTextOf w t d → t.kind ≡ kind_said d
text-kind w t d is = (kept-as w is.tree d t.kind t.name is.keeping is.says).0

pub text-key : (w : State) (t : SourceText) (d : Said) → IsTextOf w t d → t.name ≡ key_said d
text-key w t d is = (kept-as w is.tree d t.kind t.name is.keeping is.says).1

-- the key is one of the names
pub key-name : (d : Said) → In (key_said d) (names_said d)
key-name (said_ordinal name names) = inl refl
key-name (said_base name heading typed) = inl refl
key-name (said_view name t) = inl refl
key-name (said_stored name t) = inl refl
key-name (said_history made) = inr (inr (inl refl))
key-name (said_rule name t) = inl refl

-- ---- in another state

-- what says it in one state says it in the other
abbrev pub StaysSaid : State → State → Said → Type 0
StaysSaid w r d = (types : List OrdinalNames) (tree : StatementP) → Says (record w { ordinals = types }) tree d → Says (record r { ordinals = types }) tree d

pub text-stays : (w r : State) (types : List OrdinalNames) (t : SourceText) (d : Said) → StaysSaid w r d → IsTextOf (record w { ordinals = types }) t d → IsTextOf (record r { ordinals = types }) t d
text-stays w r types t d stays is = record {
  place = is.place;
  bytes = is.bytes;
  tree = is.tree;
  text = is.text;
  begun = is.begun;
  one = is.one;
  short = is.short;
  keeping = is.keeping;
  says = stays types is.tree is.says;
}

pub texts-stay : (w r : State) (types : List OrdinalNames) (texts : List SourceText) (ds : List Said) → ((d : Said) → In d ds → StaysSaid w r d)
    → AreTextsFrom w types texts ds → AreTextsFrom r types texts ds
texts-stay w r types [] [] stays are = tt
texts-stay w r types [] (d ∷ ds) stays are = absurd are
texts-stay w r types (t ∷ texts) [] stays are = absurd are
texts-stay w r types (t ∷ texts) (d ∷ ds) stays are =
    (text-stays w r types t d (stays d (inl refl)) are.0, texts-stay w r (types ++ ordinals_said d) texts ds (λ z i. stays z (inr i)) are.1)

-- ---- one more, and one less

pub texts-more : (w : State) (types : List OrdinalNames) (texts : List SourceText) (ds : List Said) (t : SourceText) (d : Said) → AreTextsFrom w types texts ds
    → IsTextOf (record w { ordinals = types ++ flat_map ordinals_said ds }) t d → AreTextsFrom w types (texts ++ t ∷ []) (ds ++ d ∷ [])
texts-more w types [] [] t d are is = (subst (λ (l : List OrdinalNames). IsTextOf (record w { ordinals = l }) t d) (append-nil types) is, tt)
texts-more w types [] (z ∷ ds) t d are is = absurd are
texts-more w types (k ∷ texts) [] t d are is = absurd are
texts-more w types (k ∷ texts) (z ∷ ds) t d are is = (
  are.0,
  texts-more w (types ++ ordinals_said z) texts ds t d are.1
      (subst (λ (l : List OrdinalNames). IsTextOf (record w { ordinals = l }) t d) (sym (append_assoc types (ordinals_said z) (flat_map ordinals_said ds))) is),
)

-- none of them has the name
pub all-left : (w : State) (types : List OrdinalNames) (texts : List SourceText) (ds : List Said) (name : Name) → ((z : Said) → In z ds → bytes_eq (key_said z) name ≡ false)
    → AreTextsFrom w types texts ds → AreTextsFrom w types (forgotten name texts) ds
all-left w types [] [] name others are = tt
all-left w types [] (d ∷ ds) name others are = absurd are
all-left w types (t ∷ texts) [] name others are = absurd are
all-left w types (t ∷ texts) (d ∷ ds) name others are =
    let other : bytes_eq t.name name ≡ false = ap (λ (n : Name). bytes_eq n name) (text-key (record w { ordinals = types }) t d are.0) ∙ others d (inl refl) in
    subst (λ (b : Bool). AreTextsFrom w types (cond (not b) (t ∷ forgotten name texts) (forgotten name texts)) (d ∷ ds)) (sym other)
    (are.0, all-left w (types ++ ordinals_said d) texts ds name (λ z i. others z (inr i)) are.1)

-- one has it, which declares no ordinal type
pub texts-left : (w : State) (types : List OrdinalNames) (texts : List SourceText) (front back : List Said) (d : Said) (name : Name) → ordinals_said d ≡ [] → key_said d ≡ name
    → ((z : Said) → In z (front ++ back) → bytes_eq (key_said z) name ≡ false) → AreTextsFrom w types texts (front ++ d ∷ back) → AreTextsFrom w types (forgotten name texts) (front ++ back)
texts-left w types [] [] back d name none key others are = absurd are
texts-left w types (t ∷ texts) [] back d name none key others are =
    let own : bytes_eq t.name name ≡ true = ap (λ (n : Name). bytes_eq n name) (text-key (record w { ordinals = types }) t d are.0 ∙ key) ∙ own_name name in
    let rest : AreTextsFrom w types texts back = subst (λ (l : List OrdinalNames). AreTextsFrom w l texts back) (ap (λ (l : List OrdinalNames). types ++ l) none ∙ append-nil types) are.1 in
    subst (λ (b : Bool). AreTextsFrom w types (cond (not b) (t ∷ forgotten name texts) (forgotten name texts)) back) (sym own) (all-left w types texts back name others rest)
texts-left w types [] (z ∷ front) back d name none key others are = absurd are
texts-left w types (t ∷ texts) (z ∷ front) back d name none key others are =
    let other : bytes_eq t.name name ≡ false = ap (λ (n : Name). bytes_eq n name) (text-key (record w { ordinals = types }) t z are.0) ∙ others z (inl refl) in
    subst (λ (b : Bool). AreTextsFrom w types (cond (not b) (t ∷ forgotten name texts) (forgotten name texts)) (z ∷ (front ++ back))) (sym other)
    (are.0, texts-left w (types ++ ordinals_said z) texts front back d name none key (λ y i. others y (inr i)) are.1)
