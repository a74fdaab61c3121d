-- The parts of a line, and what a printer of lines keeps of one.
use Rattle.std.specs.Prelude.{◌≡◌, ◌≢◌, ◌⊎◌, ℕ, List, [], ◌∷◌, ◌++◌, length, decimal, slice_get, false, true, IfSome, Some}
use Rattle.std.specs.List.{AllByRecursion}
use Rattle.hex.specs.Hex.{encode_lower}
use Rattle.zone_print.specs.Laws.{EndsWithItsFeed}
use Rattle.zone_rdata.specs.Table.{in_class}
use Rattle.zone_rdata.specs.Words.{IsClass, IsClassWord}
use Rattle.zone_text.specs.Inherited.{IsTtl}
use Rattle.zone_text.specs.Tokens.{ends_item, text}
use Rattle.words_print.specs.Shown.{EndsWithData, HasTooManyItems, IsAtAWord, IsLineEnd, IsRecordInWords, StatesItsClass}
use Rattle.words_print.specs.declared.generic_line.GenericLine.{GenericLine}
use Rattle.words_print.specs.declared.line_printer.LinePrinter.{LinePrinter}
use Rattle.type_data.specs.Table.{FurtherType, further_of, further_type}
use Rattle.type_data.specs.StandingItem.{IsBareText}
use Rattle.zone_words.specs.Written.{generic_tokens}

-- octets are these two, one after the other
abbrev pub IsParted : List ℕ → List ℕ → List ℕ → Type 0
IsParted octets front back = octets ≡ front ++ back

-- none of the octets is this one
abbrev pub HasNone : ℕ → List ℕ → Type 0
HasNone c octets = AllByRecursion (λ d. d ≢ c) octets

-- none of them is a blank or a tab
abbrev pub HasNoSpace : List ℕ → Type 0
HasNoSpace octets = AllByRecursion (λ c. (c ≡ 32) ⊎ (c ≡ 9) → ⊥) octets

-- what stands before the last such octet, and what stands after it
pub record IsAroundLast (c : ℕ) (octets front back : List ℕ) : Type 0 where
  pub whole : octets ≡ front ++ c ∷ back
  pub none : HasNone c back

-- what stands before the first such octet, and what stands after it
pub record IsAroundFirst (c : ℕ) (octets front back : List ℕ) : Type 0 where
  pub whole : octets ≡ front ++ c ∷ back
  pub none : HasNone c front

-- the last of the octets is no line feed
abbrev pub HasNoFeedAtEnd : List ℕ → Type 0
HasNoFeedAtEnd octets = (front : List ℕ) → octets ≡ front ++ 10 ∷ [] → ⊥

-- a line without the line feed that ends it, and that, if there is one
pub record IsWithoutFeed (line octets end : List ℕ) : Type 0 where
  pub whole : line ≡ octets ++ end
  pub ends : IsLineEnd end
  pub last : end ≡ [] → HasNoFeedAtEnd octets

-- a line around the last word before its last backslash
pub record IsCut (line stem word form end : List ℕ) : Type 0 where
  pub octets : List ℕ
  pub ended : IsWithoutFeed line octets end
  pub parted : octets ≡ ((stem ++ 32 ∷ word) ++ 32 ∷ []) ++ 92 ∷ form
  pub no_backslash : HasNone 92 form
  pub no_blank : HasNone 32 word

-- what stands after the backslash of the generic form of octets
abbrev pub digit_text : List ℕ → List ℕ
digit_text [] = []
digit_text (c ∷ octets) = 32 ∷ encode_lower (c ∷ octets)

abbrev pub form_of : List ℕ → List ℕ
form_of octets = 35 ∷ 32 ∷ (decimal (length octets) ++ digit_text octets)

-- all data at the end of the line is that of the parts, of the octets of their digits
pub record IsThatOf (g : GenericLine) (front : List ℕ) (further : FurtherType) (octets end : List ℕ)
    : Type 0 where
  pub front_is : front ≡ g.stem.now ++ 32 ∷ []
  pub further_is : further ≡ further_of g.further.now
  pub end_is : end ≡ g.end.now
  pub digits_are : g.digits.now ≡ encode_lower octets

-- the parts of a line that may end with data of a further type, in a class that has the type
pub record FoundIn (line : List ℕ) (g : GenericLine) : Type 0 where
  pub class : ℕ
  pub parted : g.stem.now ≡ g.ahead.now ++ g.class.now
  pub at_a_word : IsAtAWord g.ahead.now
  pub named : IsClassWord g.class.now class
  pub is : IsClass class
  pub row : further_type (further_of g.further.now).number ≡ Some (further_of g.further.now)
  pub has_type : (further_of g.further.now).in_internet_alone ≡ true → class ≡ in_class
  pub ends : IsLineEnd g.end.now
  pub only : (front : List ℕ) (further : FurtherType) (octets end : List ℕ)
      → EndsWithData line front further octets end → IsThatOf g front further octets end

-- the line ends with no data of a further type
abbrev pub HasNoData : List ℕ → Type 0
HasNoData line =
    (front : List ℕ) (further : FurtherType) (octets end : List ℕ)
    → EndsWithData line front further octets end → ⊥

-- the line ends with the octets as the data of its parts
abbrev pub HasData : List ℕ → GenericLine → List ℕ → Type 0
HasData line g octets =
    EndsWithData line (g.stem.now ++ 32 ∷ []) (further_of g.further.now) octets g.end.now

-- the line as it is where it ends with the octets
abbrev pub with_octets : GenericLine → List ℕ → List ℕ
with_octets g octets =
    g.stem.now ++ 32 ∷ (text (generic_tokens (further_of g.further.now).number octets) ++ g.end.now)

-- one record that states its class, of which all items are kept
pub record StatesInFew (octets : List ℕ) : Type 0 where
  pub states : StatesItsClass octets
  pub few : HasTooManyItems octets → ⊥

-- an octet that stands for itself in a bare item
abbrev pub IsPlainOctet : ℕ → Type 0
IsPlainOctet c = (ends_item c ≡ false) × (c ≢ 92)

-- an owner and a TTL, a blank after each
pub record AreOwnerAndTtl (octets : List ℕ) : Type 0 where
  pub owner : List ℕ
  pub ttl : List ℕ
  pub whole : octets ≡ owner ++ 32 ∷ (ttl ++ 32 ∷ [])
  pub owner_stands : IsBareText owner
  pub no_directive : IfSome (slice_get owner 0) (λ c. c ≢ 36)
  pub ttl_stands : IsBareText ttl
  pub seconds : ℕ
  pub is_ttl : IsTtl ttl seconds

-- a line of a canonical text: an owner, a TTL and a class word, and a line feed at the end
pub record IsCanonicalLine (g : GenericLine) : Type 0 where
  pub ended : g.end.now ≢ []
  pub class_stands : IsBareText g.class.now
  pub before : AreOwnerAndTtl g.ahead.now

-- the record isn't that in words, or has very many items
abbrev pub DoesNotFit : List ℕ → List ℕ → Type 0
DoesNotFit line shown =
    (StatesItsClass line × (IsRecordInWords line shown → ⊥)) ⊎ HasTooManyItems line

-- the first line of octets, with its line feed
pub record IsFirstLine (octets line rest : List ℕ) : Type 0 where
  pub parted : octets ≡ line ++ rest
  pub ends : EndsWithItsFeed line

-- a printer of lines has nothing of a line in its rooms
pub record HoldsNothing (lines : LinePrinter) : Type 0 where
  pub octets : lines.octets.items ≡ []
  pub words : lines.words.items ≡ []
  pub shown : lines.shown.items ≡ []
  pub wanted : lines.wanted.items ≡ []
