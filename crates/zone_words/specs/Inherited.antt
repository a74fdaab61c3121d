-- What the entries of a file leave to those after them.
use Rattle.std.specs.Prelude.{◌≡◌, ◌↔◌, ℕ, Bool, true, List, Option, MatchOption}
use Rattle.zone_name.specs.Common.{Labels, NothingIs}
use Rattle.zone_rdata.specs.Table.{in_class}
use Rattle.zone_rdata.specs.Words.{IsClassWord}
use Rattle.zone_text.specs.Entries.{Entry}
use Rattle.zone_text.specs.Inherited.{latest, class_word}
use Rattle.zone_words.specs.Origin.{IsCasedOrigin}
use Rattle.zone_words.specs.declared.inherited.Inherited.{Inherited}

-- the one that is so, or none where nothing is
abbrev pub IsOneOrNone : {A : Type 0} → (A → Type 0) → Option A → Type 0
IsOneOrNone Is found = MatchOption found (NothingIs Is) Is

-- the class of a word is IN, or it is as before where there is no word
abbrev pub IsInternetAfter : Option (List ℕ) → Bool → Bool → Type 0
IsInternetAfter word before is =
    MatchOption word (is ≡ before) (λ text. (is ≡ true) ↔ IsClassWord text in_class)

-- the origin that holds after the entries, the latest first, and whether their class is IN
pub record IsInherited (origin : Labels) (before : List Entry) (i : Inherited) : Type 0 where
  pub under : IsOneOrNone (IsCasedOrigin origin before) i.origin
  pub internet : IsInternetAfter (latest class_word before) true i.is_internet
