-- Names that are read with their letters kept or folded.
use Rattle.std.specs.Prelude.{◌≡◌, ℕ, ◌<◌, List, [], ◌∷◌, ◌++◌, length, Bool, true, false, Option, Result, Ok, Err, option_map}
use Rattle.zone_name.specs.Common.{Labels}
use Rattle.zone_name.specs.Name.{folded, folded_octet, labels_of, wire, HoldsCasedName, HoldsLabels, HoldsName}
use Rattle.zone_name.specs.Spelling.{Spells, SpellsCased}
use Rattle.zone_name.specs.Machine.LabelWalk.{Collects, reading, under_origin}
use Rattle.zone_name.specs.Machine.Seen.{HoldsCasedLabels}
use Rattle.zone_name.specs.declared.fault.NameFault.{NameFault}
use Rattle.zone_name.specs.declared.reading.Letters.{Letters}
use Rattle.zone_name.specs.declared.reading.Letters.TheVariants.{Kept, Folded}
use Rattle.zone_name.specs.declared.reading.Spelled.{Spelled}

-- what becomes of an octet of a label
abbrev pub lettered_octet : Letters → ℕ → ℕ
lettered_octet Kept = λ c. c
lettered_octet Folded = folded_octet

-- what becomes of labels
abbrev pub lettered : Letters → Labels → Labels
lettered Kept labels = labels
lettered Folded labels = folded labels

-- what is true of the octets of a name, and of labels
abbrev pub HoldsNameBy : Letters → List ℕ → Type 0
HoldsNameBy Kept = HoldsCasedName
HoldsNameBy Folded = HoldsName

abbrev pub HoldsLabelsBy : Letters → List ℕ → Type 0
HoldsLabelsBy Kept = HoldsCasedLabels
HoldsLabelsBy Folded = HoldsLabels

abbrev pub SpellsBy : Letters → Option Labels → List ℕ → Labels → Type 0
SpellsBy Kept = SpellsCased
SpellsBy Folded = Spells

-- what was read
abbrev pub lettered_in : Letters → Result (Labels × Bool) NameFault
    → Result (Labels × Bool) NameFault
lettered_in letters (Ok (labels, is_absolute)) = Ok (lettered letters labels, is_absolute)
lettered_in letters (Err fault) = Err fault

-- the labels of an origin's octets
abbrev pub origin_in : Option (List ℕ) → Option Labels
origin_in = option_map labels_of

-- the name of the labels that are read
abbrev pub name_read : Letters → Option Labels → List ℕ → Result Labels NameFault
name_read letters origin text = under_origin origin (lettered_in letters (reading text))

-- a label is added after others, or left out where it makes them too long
abbrev pub Joins : Letters → Labels → List ℕ → Bool → Labels → Type 0
Joins letters before label true after = after ≡ before ++ lettered letters (label ∷ [])
Joins letters before label false after =
    (after ≡ before) × (255 < length (wire (before ++ label ∷ [])))

-- the labels that a text spells are in octets with their letters kept or folded, or take too many
-- octets for a name
abbrev pub IsReadBy : Letters → List ℕ → List ℕ → Spelled → Type 0
IsReadBy letters text octets spelled =
    (labels : Labels) × (reading text ≡ Ok (labels, spelled.is_absolute))
    × Collects (labels_of octets) spelled.is_too_long (lettered letters labels)
