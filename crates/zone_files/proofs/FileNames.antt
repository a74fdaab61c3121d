-- The file names of `$INCLUDE` entries: one that is absolute and below a folder.
use Rattle.std.proofs.Common.{◌≡◌, ℕ, ◌<◌, List, [], ◌∷◌, ◌++◌, length, take, drop, get_or, sym, ap, ap₂, ◌∙◌, refl, arith, length-append, take-append-drop}
use Rattle.std.proofs.Math.Seq.{take-append_seam, drop-append_seam}
use Rattle.std.specs.Prelude.{Option, Some}
use Rattle.zone_files.specs.FileName.{IsAbsoluteBelow, IsFileText, IsPath, NamesFile, absolute, relative, under}

-- the front is the folder, and a slash and a path follow
pub is_below : (folder file path rest : List ℕ) → take (length folder) file ≡ folder → drop (length folder) file ≡ 47 ∷ path → file ≡ 47 ∷ rest → IsPath path → IsAbsoluteBelow folder file
is_below folder file path rest front back slash good = record {
  path = path;
  rest = rest;
  absolute = slash;
  file_is = sym (take-append-drop (length folder) file) ∙ ap₂ (λ (a b : List ℕ). a ++ b) front back;
  is_path = good;
}

pub below_front : (folder file : List ℕ) → IsAbsoluteBelow folder file → take (length folder) file ≡ folder
below_front folder file h = ap (λ (t : List ℕ). take (length folder) t) h.file_is ∙ take-append_seam folder (47 ∷ h.path)

pub below_back : (folder file : List ℕ) (h : IsAbsoluteBelow folder file) → drop (length folder) file ≡ 47 ∷ h.path
below_back folder file h = ap (λ (t : List ℕ). drop (length folder) t) h.file_is ∙ drop-append_seam folder (47 ∷ h.path)

pub below_longer : (folder file : List ℕ) → IsAbsoluteBelow folder file → length folder < length file
below_longer folder file h = rw h.file_is (omega (arith, length-append folder (47 ∷ h.path)))

-- the octets of a list that begins with one
pub first_is : (c d : ℕ) (octets rest : List ℕ) → octets ≡ c ∷ rest → get_or octets 0 d ≡ c
first_is c d octets rest is = rw is refl

pub others_are : (c : ℕ) (octets rest : List ℕ) → octets ≡ c ∷ rest → drop 1 octets ≡ rest
others_are c octets rest is = rw is refl

pub begins_with : (c d : ℕ) (octets : List ℕ) → 0 < length octets → get_or octets 0 d ≡ c → octets ≡ c ∷ drop 1 octets
begins_with c d [] some is = absurd (omega arith)
begins_with c d (x ∷ octets) some is = ap (λ (h : ℕ). h ∷ octets) is

-- ---- what a file name denotes

pub relative_named : (directory : Option (List ℕ)) (file name text : List ℕ) → IsFileText file → IsPath file → text ≡ file → name ≡ under directory text → NamesFile directory file name
relative_named directory file name text of_text path same is = relative of_text path (rw (sym same) is)

pub absolute_named : (directory : Option (List ℕ)) (folder file name text : List ℕ) → IsFileText file → directory ≡ Some folder → IsAbsoluteBelow folder file → text ≡ file → name ≡ text → NamesFile directory file name
absolute_named directory folder file name text of_text of_folder is_below same is = absolute folder of_text of_folder is_below (is ∙ same)

pub ruleset below = (is_below, below_front, below_back, below_longer, first_is, others_are, begins_with)

pub ruleset names = (relative_named, absolute_named)
