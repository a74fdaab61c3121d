-- Main files that are read with the files that they include: which octets of which files (this
-- project's own; RFC 1035 5.1 speaks of whole files).
use Rattle.std.specs.Prelude.{◌≡◌, ℕ, ◌≤◌, List, [], ◌∷◌, ◌++◌, length, Option, Some, IfSome}
use Rattle.std.specs.List.{AllByRecursion}
use Rattle.zone_print.specs.Canonical.{text_limit}
use Rattle.zone_print.specs.Device.{Device}
use Rattle.zone_files.specs.Expansion.{Files, file, no_files}

-- A file that was opened: the name under which it was, and its reader then
pub record OpenedFile (F : Type 0) : Type 0 where
  pub name : List ℕ
  pub reader : F

-- these files were opened one after another, from the one state of what opens them to the other
abbrev pub OpensEach : {S F : Type 0} → (S → List ℕ → Option F → S → Type 0) → S → List (OpenedFile F) → S → Type 0
OpensEach Opens old [] new = new ≡ old
OpensEach {S} Opens old (it ∷ others) new =
    (next : S) × Opens old it.name (Some it.reader) next × OpensEach Opens next others new

-- the octets of each file of a tree, in the order in which the files are opened
abbrev pub octets_in : Files → List (List ℕ)
octets_in no_files = []
octets_in (file octets inner others) = octets ∷ (octets_in inner ++ octets_in others)

-- none of the files has more octets than the limit
abbrev pub AreWithinLimit : List ℕ → Files → Type 0
AreWithinLimit octets files =
    AllByRecursion (λ (each : List ℕ). length each ≤ text_limit) (octets ∷ octets_in files)

-- a reader and the octets of its file, for each file
abbrev pub EachFile : {F : Type 0} → (F → List ℕ → Type 0) → List (OpenedFile F) → List (List ℕ) → Type 0
EachFile Reads [] [] = Unit {0}
EachFile Reads [] (octets ∷ others) = ⊥
EachFile Reads (it ∷ opened) [] = ⊥
EachFile Reads (it ∷ opened) (octets ∷ others) =
    Reads it.reader octets × EachFile Reads opened others

module _ {F : Type 0} (state : F → Device) where
  -- the octets that a reader has to give, where they are known
  abbrev pub Has : F → List ℕ → Type 0
  Has reader octets = IfSome (state reader).octets (λ known. known ≡ octets)

  -- the octets that a reader has to give begin so, where they are known
  abbrev pub Begins : F → List ℕ → Type 0
  Begins reader octets =
      IfSome (state reader).octets (λ known. (rest : List ℕ) × (known ≡ octets ++ rest))

-- A main file and those that it includes were read to their ends: these are the octets that their
-- readers had to give, in the order in which they were opened. At most 10,000 were included, and none
-- has more octets than the limit.
pub record ReadsFiles {S F : Type 0} (Opens : S → List ℕ → Option F → S → Type 0)
    (state : F → Device) (main : F) (old new : S) (octets : List ℕ) (files : Files) : Type 0 where
  pub main_has : Has state main octets
  pub opened : List (OpenedFile F)
  pub opens : OpensEach Opens old opened new
  pub each : EachFile (Has state) opened (octets_in files)
  pub few : length opened ≤ 10000
  pub within : AreWithinLimit octets files

-- The same where some of the files weren't read to their ends: the octets that their readers had to
-- give begin so.
pub record ReadsPart {S F : Type 0} (Opens : S → List ℕ → Option F → S → Type 0)
    (state : F → Device) (main : F) (old new : S) (octets : List ℕ) (files : Files) : Type 0 where
  pub main_begins : Begins state main octets
  pub opened : List (OpenedFile F)
  pub opens : OpensEach Opens old opened new
  pub each : EachFile (Begins state) opened (octets_in files)
  pub few : length opened ≤ 10000
