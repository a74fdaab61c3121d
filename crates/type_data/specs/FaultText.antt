-- What is wrong with the words of a record, in words.
use Rattle.std.specs.Prelude.{ℕ, List, codes, None, Some}
use Rattle.zone_name.specs.declared.fault.NameFault.{NameFault}
use Rattle.zone_name.specs.declared.fault.NameFault.TheVariants as names
use Rattle.type_data.specs.declared.fault.WordsFailing.{WordsFailing}
use Rattle.type_data.specs.declared.fault.WordsFailing.TheVariants as failings
use Rattle.type_data.specs.declared.fault.WordsFault.{WordsFault}
use Rattle.type_data.specs.declared.fault.WordsFault.TheVariants as faults

abbrev pub name_fault_text : NameFault → List ℕ
name_fault_text names.EmptyLabel = codes "not a name: a label is empty"
name_fault_text names.LabelTooLong = codes "not a name: a label has more than 63 octets"
name_fault_text names.NameTooLong = codes "not a name: a name has more than 255 octets"
name_fault_text names.BadEscape = codes "not a name: a backslash escape is malformed"
name_fault_text names.RelativeName = codes "not a name: a relative name has no origin"

abbrev pub fault_text : WordsFault → List ℕ
fault_text faults.NothingLeft = codes "nothing left"
fault_text faults.ItemsLeftOver = codes "items left over"
fault_text faults.NotANumber = codes "not a number"
fault_text faults.TooLarge = codes "too large"
fault_text (faults.NotAName None) = codes "not a name"
fault_text (faults.NotAName (Some fault)) = name_fault_text fault
fault_text faults.NotATime = codes "not a time"
fault_text faults.NoBase64 = codes "not base64"
fault_text faults.NoHexadecimal = codes "not hexadecimal"
fault_text faults.NotAType = codes "not a type"
fault_text faults.StringTooLong = codes "a string is too long"
fault_text faults.BadEscape = codes "a bad escape"
fault_text faults.TooLong = codes "too long"
fault_text faults.TooManyItems = codes "too many items"
fault_text faults.LineFeedWithinQuotes = codes "a line feed within quotes"
fault_text faults.NotATag = codes "not a tag"
fault_text faults.NotAnAddress = codes "not an address"
fault_text faults.NoBase32Hex = codes "not base32hex"
fault_text faults.NotALocation = codes "not a location"
fault_text faults.NoPrefix = codes "not a prefix"
fault_text faults.NotQuoted = codes "not quoted"
fault_text faults.NotAKey = codes "not a key"
fault_text faults.RepeatedKey = codes "a repeated key"
fault_text faults.NotAValue = codes "not a value"
fault_text faults.MandatoryKeyMissing = codes "a mandatory key is missing"

-- of a failing: of a fault what is wrong
abbrev pub failing_text : WordsFailing → List ℕ
failing_text (failings.Fault fault) = fault_text fault
failing_text failings.OutOfMemory = codes "out of memory"
