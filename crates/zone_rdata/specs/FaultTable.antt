-- The table of faults: number, name and what is wrong (this project's own). `docs/FAULTS.md` lists
-- them.
use Rattle.std.specs.Prelude.{ℕ, List, codes}
use Rattle.zone_rdata.specs.declared.fault.Fault.{Fault}
use Rattle.zone_rdata.specs.declared.fault.Fault.TheVariants as faults

-- a row of the table of faults: number, name, and what is wrong
pub record FaultRow : Type 0 where
  pub number : ℕ
  pub name : List ℕ
  pub text : List ℕ

abbrev pub row : ℕ → List ℕ → List ℕ → FaultRow
row number name text = record { number = number; name = name; text = text }

-- the table of faults
abbrev pub fault_row : Fault → FaultRow
fault_row faults.EmptyLabel = row 1 (codes "EmptyLabel") (codes "a label is empty")
fault_row faults.LabelTooLong = row 2 (codes "LabelTooLong") (codes "a label has more than 63 octets")
fault_row faults.NameTooLong = row 3 (codes "NameTooLong") (codes "a name has more than 255 octets")
fault_row faults.BadEscape = row 4 (codes "BadEscape") (codes "a backslash escape is malformed")
fault_row faults.RelativeName = row 5 (codes "RelativeName") (codes "a relative name has no origin")
fault_row faults.BadClass = row 6 (codes "BadClass") (codes "the class can't hold zone data")
fault_row faults.UnknownType =
    row 7 (codes "UnknownType") (codes "the type word is missing or unknown")
fault_row faults.MetaType = row 8 (codes "MetaType") (codes "the type can't hold zone data")
fault_row faults.BadRdata = row 9 (codes "BadRdata") (codes "the data doesn't fit its type")
fault_row faults.BadGeneric = row 10 (codes "BadGeneric") (codes "the generic data is malformed")
fault_row faults.StringTooLong =
    row 11 (codes "StringTooLong") (codes "a character-string has more than 255 octets")
fault_row faults.RdataTooLong =
    row 12 (codes "RdataTooLong") (codes "the data has more than 65535 octets")
fault_row faults.BadNumber = row 13 (codes "BadNumber") (codes "a number is malformed or out of range")
fault_row faults.UnclosedQuote = row 14 (codes "UnclosedQuote") (codes "a quoted string isn't closed")
fault_row faults.UnbalancedParenthesis =
    row 15 (codes "UnbalancedParenthesis") (codes "parentheses don't balance")
fault_row faults.IncludeDirective = row 16 (codes "IncludeDirective") (codes "$INCLUDE isn't read")
fault_row faults.UnknownDirective =
    row 17 (codes "UnknownDirective") (codes "the directive is unknown")
fault_row faults.BadDirective =
    row 18 (codes "BadDirective") (codes "the directive needs one plain item")
fault_row faults.NoOwner = row 19 (codes "NoOwner") (codes "the record has no owner")
fault_row faults.NoTtl = row 20 (codes "NoTtl") (codes "the record has no TTL")
fault_row faults.BadTtl = row 21 (codes "BadTtl") (codes "the TTL is malformed or out of range")
fault_row faults.ShortFrame = row 22 (codes "ShortFrame") (codes "the stream ends inside a frame")
fault_row faults.ShortMessage = row 23 (codes "ShortMessage") (codes "the message ends too early")
fault_row faults.NotAResponse =
    row 24 (codes "NotAResponse") (codes "the message isn't an answer to a query")
fault_row faults.Truncated = row 25 (codes "Truncated") (codes "the message is marked as truncated")
fault_row (faults.ErrorCode code) =
    row 26 (codes "ErrorCode") (codes "the message carries an error code")
fault_row faults.BadCounts =
    row 27 (codes "BadCounts") (codes "the section counts don't fit a transfer")
fault_row faults.IdMismatch = row 28 (codes "IdMismatch") (codes "the message ID differs")
fault_row faults.BadQuestion = row 29 (codes "BadQuestion") (codes "question and zone don't agree")
fault_row faults.ReservedLabel = row 30 (codes "ReservedLabel") (codes "a label has a reserved form")
fault_row faults.BadPointer =
    row 31 (codes "BadPointer") (codes "a compression pointer has a bad target")
fault_row faults.TooManyPointers =
    row 32 (codes "TooManyPointers") (codes "a name has more than 128 pointers")
fault_row faults.CompressibleType =
    row 33 (codes "CompressibleType") (codes "the type may hold pointers and isn't read")
fault_row faults.TrailingOctets =
    row 34 (codes "TrailingOctets") (codes "octets follow the last record")
fault_row faults.NoOpeningSoa =
    row 35 (codes "NoOpeningSoa") (codes "the transfer doesn't begin with an SOA")
fault_row faults.SoaMismatch =
    row 36 (codes "SoaMismatch") (codes "a later SOA differs from the opening one")
fault_row faults.AfterClosing =
    row 37 (codes "AfterClosing") (codes "a record follows the closing SOA")
fault_row faults.NoClosingSoa = row 38 (codes "NoClosingSoa") (codes "the transfer has no closing SOA")
fault_row faults.ClassMismatch =
    row 39 (codes "ClassMismatch") (codes "the class differs from the zone's")
fault_row faults.MultipleSoa = row 40 (codes "MultipleSoa") (codes "the zone has two SOA records")
fault_row faults.DifferingTtl =
    row 41 (codes "DifferingTtl") (codes "the TTL differs from that of its record set")
fault_row faults.NoSoa = row 42 (codes "NoSoa") (codes "the zone has no SOA record")
fault_row (faults.OutOfZone owner) =
    row 43 (codes "OutOfZone") (codes "an owner lies outside the zone")
fault_row faults.ZoneTooLarge = row 44 (codes "ZoneTooLarge") (codes "the canonical text is too long")
fault_row faults.InputTooLong = row 45 (codes "InputTooLong") (codes "the input is too long")
