use Rattle.std.proofs.Common.{arith, refl}
use Rattle.zone_files.specs.FileName.{IsAbsoluteBelow}
use Rattle.zone_files.proofs.FileNames.{absolute_named}
use Rattle.zone_files.proofs.file_name.included_file_name.Goals as goal

pub returns-in_ok-from_str-in-Some-directory-clause-named :
    goal.returns-in_ok-from_str-in-Some-directory-clause-named
returns-in_ok-from_str-in-Some-directory-clause-named c =
    let below : IsAbsoluteBelow c.in-Some-directory.folder.now c.args.file.now = grind (arith, c.as_bytes.ensures.value, c.is_absolute_below.ensures, c.if-is_absolute_below.true) in
    absolute_named _ _ _ _ _ c.in-Some.ensures.text.1 (rw c.in-Some-directory.is refl) below c.in-Some.ensures.text.0 c.in_ok-from_str-in-Some-directory.ensures.ok
