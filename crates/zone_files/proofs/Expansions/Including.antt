-- What becomes of an `$INCLUDE`.
use Rattle.std.specs.Prelude.{IfNone}
use Rattle.zone_words.specs.Origin.{NamesOrigin}
use Rattle.std.proofs.Common.{Bool, false, length, map, ◌==◌, ◌≡◌, ℕ, List, [], ◌∷◌, Option, Some, None, refl, sym, subst}
use Rattle.zone_name.specs.Common.{Labels, NothingIs}
use Rattle.zone_name.specs.Spelling.{SpellsCased}
use Rattle.zone_rdata.specs.Item.{RawItem, bare, raw}
use Rattle.zone_rdata.specs.declared.item.Item.{Item}
use Rattle.zone_words.specs.Inherited.{IsOneOrNone}
use Rattle.zone_files.specs.Expansion.{Holds, Includes, MayOpen, SpellsOwner, StatesInclude, bad_name, fails, is_opened, opens, too_many}
use Rattle.zone_files.specs.FileName.{NamesFile}
use Rattle.zone_files.specs.FileNameRefusal.{RefusesName}
use Rattle.zone_files.specs.Machine.Stepping.{included}
use Rattle.zone_files.specs.declared.fault.ExpansionFault.{ExpansionFault}
use Rattle.zone_files.specs.declared.fault.ExpansionFault.TheVariants as faults
use Rattle.zone_files.specs.declared.fault.ExpansionFailing.TheVariants as failings

no_name : (directory : Option (List ℕ)) (file : List ℕ) (fault : ExpansionFault) → RefusesName directory file (failings.Fault fault) → NothingIs (NamesFile directory file)
no_name directory file faults.BadFileName p = p
no_name directory file faults.NoOwner p = absurd p
no_name directory file faults.BadInclude p = absurd p
no_name directory file faults.TooManyIncludes p = absurd p
no_name directory file faults.BadGenerate p = absurd p
no_name directory file faults.BadRange p = absurd p
no_name directory file faults.TooManyValues p = absurd p
no_name directory file faults.BadTemplate p = absurd p
no_name directory file faults.InputTooLong p = absurd p

module _ (h : Holds) (items : List RawItem) (file : List ℕ) (origin : Labels) (directory : Option (List ℕ)) (same : directory ≡ h.directory) (states : StatesInclude h.origin items (included file origin)) where
  pub refused_name : (fault : ExpansionFault) → RefusesName directory file (failings.Fault fault) → Includes h items (fails faults.BadFileName)
  refused_name fault p = bad_name (included file origin) states (no_name h.directory file fault (subst (λ d. RefusesName d file (failings.Fault fault)) same p)) refl

  pub opened_name : (name : List ℕ) → NamesFile directory file name → MayOpen h name → Includes h items (opens name origin)
  opened_name name n m = is_opened (included file origin) name states (subst (λ d. NamesFile d file name) same n) m refl

  pub many_opened : (name : List ℕ) → NamesFile directory file name → (MayOpen h name → ⊥) → Includes h items (fails faults.TooManyIncludes)
  many_opened name n m = too_many (included file origin) name states (subst (λ d. NamesFile d file name) same n) m refl

-- the owner of a record
pub owner_bare : (origin : Labels) (owner : Item) (t : List ℕ) (found : Option Labels) → raw owner ≡ bare t → IsOneOrNone (SpellsCased (Some origin) t) found → IsOneOrNone (SpellsOwner origin (raw owner)) found
owner_bare origin owner t found is spelt = subst (λ i. IsOneOrNone (SpellsOwner origin i) found) (sym is) spelt

-- ---- no origin

pub if_none : {T P : Type 0} (o : Option T) → P → IfNone o P
if_none None p = p
if_none (Some x) p = tt

map_none : (items : List Item) → map raw items ≡ [] → items ≡ []
map_none [] e = refl
map_none (item ∷ items) e = absurd cc

no_rest : (above : Labels) (file : RawItem) (after : List RawItem) → (after ≡ [] → ⊥) → IsOneOrNone (NamesOrigin above after) None → NothingIs (StatesInclude above (file ∷ after))
no_rest above file [] some none it s = some refl
no_rest above file (item ∷ items) some none it s = none it.origin s.1

pub no_include : (above : Labels) (items : List RawItem) (file : RawItem) (after : List Item) (found : Option Labels) → items ≡ file ∷ map raw after → (after ≡ [] → ⊥) → found ≡ None → IsOneOrNone (NamesOrigin above (map raw after)) found → NothingIs (StatesInclude above items)
no_include above items file after found is some none named =
    subst (λ i. NothingIs (StatesInclude above i)) (sym is)
    (no_rest above file (map raw after) (λ e. some (map_none after e)) (subst (IsOneOrNone (NamesOrigin above (map raw after))) none named))

pub items_left : (items : List Item) (n : ℕ) (empty : Bool) → n ≡ length items → empty ≡ (n == 0) → empty ≡ false → items ≡ [] → ⊥
items_left items n empty len is some none = cc
