-- A loader of a master file in presentation format that is fed in pieces: what it holds, and what
-- it stands for. This is this project's own: RFC 1035 speaks of whole files.
use Rattle.std.specs.Prelude.{◌≡◌, ℕ, ◌-◌, ◌^◌, ◌≤◌, List, ◌++◌, length, min, Bool, false}
use Rattle.zone_name.specs.Common.{Labels}
use Rattle.zone_name.specs.Name.{folded}
use Rattle.zone_print.specs.Canonical.{text_limit}
use Rattle.zone_engine.specs.FileLoader.{LoaderState, StandsForFed}
use Rattle.zone_words.specs.Rewriter.{RewriterState, StandsForRewriting}

-- What a loader holds: the rewriter of the file, the loader of its generic form, the number of
-- octets fed, and whether it was refused memory
pub record LoadingState : Type 0 where
  pub rewriter : RewriterState
  pub loader : LoaderState
  pub fed : ℕ
  pub failed : Bool

-- what the rewriter has given of the file is what was loaded
pub record LoadsWritten (origin : Labels) (state : LoadingState) (fed : List ℕ) : Type 0 where
  pub given : List ℕ
  pub rewrites : StandsForRewriting origin state.rewriter fed given
  pub loads : StandsForFed (folded origin) state.loader given

-- The loader, made under an origin, stands for the octets of the file that it was fed, or for their
-- number where they are more than the limit.
pub record StandsForPresentation (origin : Labels) (state : LoadingState)
    (fed : List ℕ) : Type 0 where
  pub count : state.fed ≡ min (length fed) (2 ^ 64 - 1)
  pub works : state.failed ≡ false
  pub loaded : length fed ≤ text_limit → LoadsWritten origin state fed
