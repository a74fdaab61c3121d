-- A salt after its length.
use Rattle.type_data.proofs.Common.{AppendsStated, IsHex, List, NothingIs, WordsFault, ap, arith, codes, length, sym, ℕ, ◌∙◌, ◌≡◌}
use Rattle.type_data.proofs.OfKinds.Hexadecimal.Digits.{one_hex, twice}
use Rattle.type_data.specs.Kinds.AfterLength.{FailsAfterLength, StatesAfterLength, of_no_octets, of_too_many}
use Rattle.type_data.specs.Kinds.Salt.{FailsSalt, IsSalt, StatesSalt, none, some}
use Rattle.type_data.specs.declared.fault.WordsFault.TheVariants.{NoHexadecimal}

pub one_salt : (text a b : List ℕ) → IsSalt text a → IsSalt text b → a ≡ b
one_salt text a b (none mark x) (none again y) = x ∙ sym y
one_salt text a b (none mark x) (some y) = absurd (omega (arith, ap length mark, twice text b y))
one_salt text a b (some x) (none mark y) = absurd (omega (arith, ap length mark, twice text a x))
one_salt text a b (some x) (some y) = one_hex text a b x y

no_salt_of_digits : (text : List ℕ) → (text ≡ codes "-" → ⊥) → NothingIs (IsHex text) → NothingIs (IsSalt text)
no_salt_of_digits text other nothing octets (none mark x) = other mark
no_salt_of_digits text other nothing octets (some x) = nothing octets x

-- what is told of the digits of a text that isn't a hyphen
pub salt_fails : (text : List ℕ) (fault : WordsFault) → (text ≡ codes "-" → ⊥) → FailsAfterLength NoHexadecimal IsHex text fault → FailsSalt text fault
salt_fails text _ other (of_no_octets nothing) = of_no_octets (no_salt_of_digits text other nothing)
salt_fails text _ other (of_too_many octets stands many) = of_too_many octets (some stands) many

salt_of_digits : (text octets : List ℕ) → StatesAfterLength IsHex text octets → StatesSalt text octets
salt_of_digits text octets is = record { value = is.value; stands = some is.stands; short = is.short; written = is.written }

pub salt_appended : (text old new : List ℕ) → AppendsStated (StatesAfterLength IsHex text) old new → AppendsStated (StatesSalt text) old new
salt_appended text old new more = record { octets = more.octets; stated = salt_of_digits text more.octets more.stated; written = more.written }
