use Rattle.std.proofs.Common.{◌≡◌, ◌∙◌, ◌⊎◌, List, ap, inl, map, refl, string_bytes, subst, sym}
use Rattle.clap.specs.Words.{App, IsAmong, Kinds, Text, app_of, fault_of}
use Rattle.clap.specs.declared.error.kind.ErrorKind.{ErrorKind}
use Rattle.clap.specs.declared.error.kind.ErrorKind.TheVariants.{Format, OutOfMemory}
use Rattle.command_line.specs.Program.{described}
use Rattle.command_line.proofs.Asked.{Fits, fault_told, fits_kind, fits_none, for_memory, found_is, is_free, is_plain, not_called}
use Rattle.command_line.proofs.calling.call_of.Goals as goal

pub returns-in-Some-clause-called : goal.returns-in-Some-clause-called
returns-in-Some-clause-called c =
    let commands = described c.args.program.now in
    let words : List Text = map string_bytes c.args.words.now in
    let is = c.in_ok-readable.ensures.app in
    let faultless = c.in-Ok.ensures.kinds (is_free commands c.requires _ is) in
    let found = c.in-Ok.ensures.matches (is_plain commands c.requires _ is) in
    record {
      faultless = sym (ap (λ (a : App). fault_of a words) is) ∙ faultless;
      stated = sym (found_is commands words _ _ is found.1) ∙ c.in-Some.ensures.found.0;
      whole = c.in-Some.ensures.found.1;
    }

pub returns-in-Err-clause-refused : goal.returns-in-Err-clause-refused
returns-in-Err-clause-refused c =
    let commands = described c.args.program.now in
    let words : List Text = map string_bytes c.args.words.now in
    let is = c.in_ok-readable.ensures.app in
    let same = ap (λ (a : App). fault_of a words) is in
    let kinds = c.in-Err.ensures.kinds (is_free commands c.requires _ is) in
    fault_told commands words _ c.refusal.ensures.ends
    (subst (λ (k : Kinds). Fits k c.refusal.result) same (fits_kind _ _ _ c.refusal.ensures.kind (λ out. c.refusal.ensures.memory.1 (inl out)) (subst (λ (k : ErrorKind). (k ≡ OutOfMemory) ⊎ IsAmong k (fault_of (app_of c.in_ok-readable.field-0) words)) (sym c.kind.ensures) kinds)))
    (λ call calls. c.refusal.ensures.memory.1 (inl (c.kind.ensures ∙ for_memory _ _ kinds (same ∙ calls.faultless))))

pub returns-in-None-clause-refused : goal.returns-in-None-clause-refused
returns-in-None-clause-refused c =
    let commands = described c.args.program.now in
    let words : List Text = map string_bytes c.args.words.now in
    let is = c.in_ok-readable.ensures.app in
    let found = c.in-Ok.ensures.matches (is_plain commands c.requires _ is) in
    let faultless = sym (ap (λ (a : App). fault_of a words) is) ∙ c.in-Ok.ensures.kinds (is_free commands c.requires _ is) in
    fault_told commands words _ c.told.ensures.ends (fits_none _ _ (c.told.ensures.kind Format (λ asked. asked)) faultless)
    (λ call calls. absurd (not_called commands words _ _ is found.1 (c.in-None.ensures.none refl) call calls))
