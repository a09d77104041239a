-- Which names stand for logs, or for views over logs, does not hang on places, nor on the order of the entries.
--     SameLogs      names that are known stand for such here as there
--     logs-alike      the law, for entries that are alike
--     logs-behind      more entries behind
use Rattle.std.proofs.Common.{◌≡◌, ℕ, Bool, false, List, [], ◌++◌, refl, sym, ap, ◌∙◌}
use Rattle.value_core.specs.Values.{Name}
use Rattle.tree_core.specs.Relvars.{PlainRelvar, base, view, Entries, log}
use Rattle.tree_core.specs.Uses.{names_any}
use Rattle.meaning_core.specs.Logs.{is_over_log, over_log}
use Rattle.meaning_core.specs.Names.{found}
use Rattle.meaning_core.specs.WellMade.{AreRelvars}
use Rattle.meaning_core.proofs.ElsewhereLemmas.{view_names, IsApart, names-alike}
use Rattle.meaning_laws.specs.Likeness.{IsLike, Alike, unknown}
use Rattle.meaning_laws.proofs.EachAlike.{each-known, unknown-not}
use Rattle.meaning_laws.proofs.EntriesFound.{front-found}
use Rattle.meaning_laws.proofs.LikeLemmas.{alike-same}
use Rattle.meaning_laws.proofs.SameMoved.{names-moved}

abbrev pub SameLogs : (Name → Bool) → Entries → Entries → Type 0
SameLogs some es fs = (name : Name) → unknown some es name ≡ false → over_log es name ≡ over_log fs name

one-over : (known there : List (Name × Bool)) (out : Name → Bool) (x y : PlainRelvar) → IsLike x y → ((name : Name) → out name ≡ false → found false known name ≡ found false there name)
    → view_names out x ≡ false → is_over_log known x ≡ is_over_log there y
one-over known there out (base v c) (base u d) like agree none = refl
one-over known there out (base v c) (view u g) like agree none = absurd like
one-over known there out (base v c) (log o i last w) like agree none = absurd like
one-over known there out (view t h) (base u d) like agree none = absurd like
one-over known there out (view t h) (log o i last w) like agree none = absurd like
one-over known there out (log o i last w) (base u d) like agree none = absurd like
one-over known there out (log o i last w) (view u g) like agree none = absurd like
one-over known there out (log o i last w) (log p j n v) like agree none = refl
one-over known there out (view t h) (view u g) like agree none =
    names-alike out (found false known) (found false there) agree t none
    ∙ (sym (names-moved like.0.0 (found false there) t) ∙ ap (names_any (found false there)) (sym like.0.1))

pub logs-alike : (some : Name → Bool) (sizes more : List ℕ) (es fs : Entries) → AreRelvars sizes [] es → AreRelvars more [] fs → Alike some es fs → IsApart some es → SameLogs some es fs
logs-alike some sizes more es fs made others alike apart name q =
    each-known is_over_log false (λ (m n : Bool). m ≡ n) IsLike (λ x y like. like) one-over some sizes more es fs made others (alike-same some es fs alike) apart name q

pub logs-behind : (some : Name → Bool) (es more : Entries) → SameLogs some es (es ++ more)
logs-behind some es more name q = sym (front-found is_over_log false es more name (unknown-not some es name q).1)
