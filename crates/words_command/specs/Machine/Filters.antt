-- What the filters stand for: a rewriter of master files and a printer of texts in words.
use Rattle.std.specs.Prelude.{ℕ, List, ◌++◌, ⊤}
use Rattle.zone_name.specs.Common.{Labels}
use Rattle.zone_words.specs.Entry.{IsRewriting}
use Rattle.zone_words.specs.Refusal.{AreInShort}
use Rattle.zone_words.specs.Rewriter.{RewriterState, StandsForRewriting}
use Rattle.zone_words.specs.Rewriting.{Refused}
use Rattle.words_print.specs.Printer.{PrinterState, StandsForWords}
use Rattle.words_print.specs.Shown.{IsShownText}
use Rattle.words_command.specs.Run.{IsFileSoFar}

-- a rewriter stands for the octets of a file, and what it wrote is all that is written for them
pub record RewritesSoFar (origin : Labels) (rewriter : RewriterState)
    (fed given : List ℕ) : Type 0 where
  pub stands : StandsForRewriting origin rewriter fed given
  pub so_far : IsFileSoFar origin fed (given ++ rewriter.held.written)

-- a file has ended: its rewriting, of which the rewriter tells
pub record HasRewritten (origin : Labels) (rewriter : RewriterState)
    (octets text : List ℕ) : Type 0 where
  pub told : List Refused
  pub in_short : AreInShort told rewriter.held.told
  pub is : IsRewriting origin octets text told

-- a printer stands for octets, of whatever text
abbrev pub ShowsSoFar : ⊤ → PrinterState → List ℕ → List ℕ → Type 0
ShowsSoFar any printer fed given = StandsForWords printer fed given

-- a text has ended: what is shown for it
abbrev pub HasShown : ⊤ → PrinterState → List ℕ → List ℕ → Type 0
HasShown any printer octets text = IsShownText octets text
