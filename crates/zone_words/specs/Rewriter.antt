-- A rewriter that is fed a file in pieces: what it holds, and what it stands for. This is this
-- project's own: RFC 1035 speaks of whole files.
use Rattle.std.specs.Prelude.{◌≡◌, ℕ, List, [], ◌++◌, length, Bool, true, false, reverse}
use Rattle.zone_name.specs.Common.{Labels}
use Rattle.zone_rdata.specs.FedSource.{is_failed, is_finished}
use Rattle.zone_rdata.specs.declared.fed.FedStatus.{FedStatus}
use Rattle.zone_text.specs.Entries.{ended_entries, open_line}
use Rattle.zone_text.specs.FirstEntry.{IsOpen}
use Rattle.zone_words.specs.Entry.{BecomesUnder, IsRewriting}
use Rattle.zone_words.specs.Inherited.{IsInherited}
use Rattle.zone_words.specs.Refusal.{AreInShort}
use Rattle.zone_words.specs.Rewriting.{AreEntries, IsRewrittenInPart, IsStopped, Refused}
use Rattle.zone_words.specs.declared.inherited.Inherited.{Inherited}
use Rattle.zone_words.specs.declared.refusal.Refusals.{Refusals}

-- What a rewriter holds: what it has written and nobody has taken, what it tells in short, the
-- octets of the entry that isn't ended, the line of that entry and what those before it leave to
-- it, and whether the octets broke
pub record HeldText : Type 0 where
  pub written : List ℕ
  pub told : Refusals
  pub waiting : List ℕ
  pub line : ℕ
  pub inherited : Inherited
  pub broken : Bool

-- beside it, how many octets it was fed, and whether it goes on
pub record RewriterState : Type 0 where
  pub held : HeldText
  pub fed : ℕ
  pub status : FedStatus

-- whole entries were written; what they leave is held, and the octets after them
pub record GoesOn (origin : Labels) (held : HeldText) (fed new : List ℕ)
    (told : List Refused) : Type 0 where
  pub done : List ℕ
  pub are : AreEntries (BecomesUnder origin) done new told
  pub whole : fed ≡ done ++ held.waiting
  pub is_open : IsOpen held.waiting
  pub line : held.line ≡ open_line are.tokens
  pub inherited : IsInherited origin (reverse (ended_entries are.tokens)) held.inherited

-- what was written for the octets fed before their end
pub data IsSoFar (origin : Labels) (held : HeldText) (fed new : List ℕ)
    (told : List Refused) : Type 0 where
  going : held.broken ≡ false → GoesOn origin held fed new told → IsSoFar origin held fed new told
  stopped : held.broken ≡ true → held.waiting ≡ []
      → IsStopped (BecomesUnder origin) fed new told → IsSoFar origin held fed new told

-- The rewriter stands for the octets that it was fed, with what it has given of what it wrote: all
-- that is written for them so far, or for the file once it has ended.
pub record StandsForRewriting (origin : Labels) (rewriter : RewriterState)
    (fed given : List ℕ) : Type 0 where
  pub works : is_failed rewriter.status ≡ false
  pub count : rewriter.fed ≡ length fed
  pub told : List Refused
  pub in_short : AreInShort told rewriter.held.told
  pub so_far : is_finished rewriter.status ≡ false
      → IsSoFar origin rewriter.held fed (given ++ rewriter.held.written) told
  pub all : is_finished rewriter.status ≡ true
      → IsRewriting origin fed (given ++ rewriter.held.written) told

-- it was refused memory: what it has written is all that is written for a beginning of the octets,
-- and so no part of an entry that could be read as a whole one
pub record StandsInPart (origin : Labels) (rewriter : RewriterState)
    (fed given : List ℕ) : Type 0 where
  pub told : List Refused
  pub in_short : AreInShort told rewriter.held.told
  pub part : IsRewrittenInPart (BecomesUnder origin) fed (given ++ rewriter.held.written) told

-- what is written for a file and what is told of it, in short
pub record RewritesFile (origin : Labels) (octets new : List ℕ) (short : Refusals) : Type 0 where
  pub told : List Refused
  pub in_short : AreInShort told short
  pub is : IsRewriting origin octets new told

-- the rewriter when all that it has written was given
abbrev pub all_given : RewriterState → RewriterState
all_given rewriter = record {
  held = record rewriter.held { written = [] };
  fed = rewriter.fed;
  status = rewriter.status;
}
