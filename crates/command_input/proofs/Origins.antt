-- Texts that are no origin.
use Rattle.std.proofs.Common.{◌≡◌, Bool, true, false, nat_eq, List, ℕ, subst, sym, ◌∙◌, codes, Ok, Err}
use Rattle.std.specs.Cmp.Lexicographic.{bytes_decides, pointwise}
use Rattle.std.specs.Prelude.{None, Some, Result, IfErr, IsErrAnd}
use Rattle.clap.specs.Words.{Text}
use Rattle.zone_name.specs.Common.{NothingIs}
use Rattle.zone_name.specs.Spelling.{Spells}
use Rattle.command_line.specs.Calls.{Called, Calls, Commands}
use Rattle.command_input.specs.Order.{GivesNone, HasBadOrigin}
use Rattle.command_input.specs.Origin.{IsOfOrigin, IsOriginText}
use Rattle.command_input.specs.declared.line_fault.LineFault.{LineFault}
use Rattle.command_input.specs.declared.line_fault.LineFault.TheVariants.{BadOrigin, Clap, Memory}

pub not_same : (text word : Text) (b : Bool) → b ≡ pointwise nat_eq text word → b ≡ false → text ≡ word → ⊥
not_same text word b test fails is = let yes : pointwise nat_eq text word ≡ true = (bytes_decides text word).1 is in let no : true ≡ false = sym yes ∙ sym test ∙ fails in cc

-- a text that is neither the word nor spells a name asks for nothing
pub no_origin : (text : Text) → (text ≡ codes "transfer" → ⊥) → ((name : List (List ℕ)) → Spells None text name → ⊥) → NothingIs (IsOriginText text)
no_origin text other spells None is = other is
no_origin text other spells (Some name) is = spells name is

-- where a text of a command is no origin, the words give no order
module _ {Origin : Type 0} (commands : Commands) (Is : Text → Origin → Type 0) (words : List Text) (call : Called) (text : Text) (calls : Calls commands words call) (bad : NothingIs (Is text) → HasBadOrigin Is call) where
  fault_told : (fault : LineFault) → IsOfOrigin Is text fault → GivesNone commands Is words fault
  fault_told BadOrigin none = (call, calls, bad none)
  fault_told (Clap told) none = absurd none
  fault_told Memory none = absurd none

  pub no_order : {T : Type 0} (r : Result T LineFault) (fault : LineFault) → IsErrAnd r (λ e. e ≡ fault) → IsOfOrigin Is text fault → IfErr r (GivesNone commands Is words)
  no_order (Ok x) fault is none = tt
  no_order (Err e) fault is none = subst (GivesNone commands Is words) (sym is) (fault_told fault none)
