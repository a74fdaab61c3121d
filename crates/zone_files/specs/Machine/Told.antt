-- A line on a fault, piece by piece.
use Rattle.std.specs.Prelude.{ℕ, List, ◌++◌, codes}
use Rattle.zone_files.specs.declared.fault_line.Head.{Head}
use Rattle.zone_files.specs.declared.fault_line.PlacePieces.{PlacePieces}
use Rattle.zone_files.specs.declared.fault_line.Detail.{Detail}

-- before the place
abbrev pub head_of : Head → List ℕ
head_of head = head.letter.now ++ head.number.now ++ head.blank.now ++ head.name.now

-- the place
abbrev pub place_of : PlacePieces → List ℕ
place_of p = p.at.now ++ p.name.now ++ p.colon.now ++ p.line.now ++ p.value_words.now ++ p.value.now

-- behind the place
abbrev pub detail_of : Detail → List ℕ
detail_of d = d.mnemonic.now ++ d.comma.now ++ d.field.now ++ d.colon.now ++ d.text.now

abbrev pub told_text : Head → PlacePieces → Detail → List ℕ
told_text head place detail = head_of head ++ place_of place ++ codes ": " ++ detail_of detail
