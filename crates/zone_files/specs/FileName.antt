-- The file names that an `$INCLUDE` may have (RFC 1035 5.1; which files they are is this project's
-- own).
use Rattle.std.specs.Prelude.{◌≡◌, ℕ, ◌≤◌, ◌∷◌, ◌++◌, [], List, length, Bool, true, not, ◌==◌, ◌&&◌, nat_le, bytes_eq, Option, Some, None}
use Rattle.std.specs.List.{list_all, slice_split}
use Rattle.std.specs.Str.{IsUtf8}

-- an octet that is neither a control octet (0 to 31 and 127) nor a backslash
abbrev pub is_plain : ℕ → Bool
is_plain c = nat_le 32 c && (not (c == 127) && not (c == 92))

-- 1 to 4,095 octets of UTF-8 without control octets and backslashes
pub record IsFileText (file : List ℕ) : Type 0 where
  pub some : 1 ≤ length file
  pub short : length file ≤ 4095
  pub utf8 : IsUtf8 file
  pub plain : list_all is_plain file ≡ true

-- a part between slashes may not be empty, `.` or `..`
abbrev pub is_part : List ℕ → Bool
is_part part =
    not (bytes_eq part []) && (not (bytes_eq part (46 ∷ [])) && not (bytes_eq part (46 ∷ 46 ∷ [])))

-- the parts between slashes, which are 47, are such ones
abbrev pub IsPath : List ℕ → Type 0
IsPath path = list_all is_part (slice_split (λ c. c == 47) path) ≡ true

-- what a path under a folder is, and a path where no folder is given
abbrev pub under : Option (List ℕ) → List ℕ → List ℕ
under None path = path
under (Some folder) path = folder ++ 47 ∷ path

-- a name that begins with a slash, with the folder and a slash, and is a path behind them
pub record IsAbsoluteBelow (folder file : List ℕ) : Type 0 where
  pub path : List ℕ
  pub rest : List ℕ
  pub absolute : file ≡ 47 ∷ rest
  pub file_is : file ≡ folder ++ 47 ∷ path
  pub is_path : IsPath path

-- The file name denotes a file below the directory, and this is the name under which it is opened:
-- a relative one is the path under the directory, an absolute one is below it already.
pub data NamesFile (directory : Option (List ℕ)) (file name : List ℕ) : Type 0 where
  relative : IsFileText file → IsPath file → name ≡ under directory file
      → NamesFile directory file name
  absolute : (folder : List ℕ) → IsFileText file → directory ≡ Some folder
      → IsAbsoluteBelow folder file → name ≡ file → NamesFile directory file name
