-- What the loader of an expanded text denotes, and why it refuses it.
use Rattle.std.specs.Prelude.{◌≡◌, ℕ, List}
use Rattle.zone_name.specs.Common.{Labels}
use Rattle.zone_set.specs.Zone.{Zone}
use Rattle.zone_files.specs.ExpandedLoader.{IsFaultlessTo, IsReportedOn, ReportsText}
use Rattle.zone_files.specs.Loading.Fed.{LoadingState, StandsForPresentation}
use Rattle.zone_files.specs.Presentation.{PresentationDenotes}
use Rattle.zone_files.specs.declared.fault.ExpansionFault.{ExpansionFault}
use Rattle.zone_files.specs.declared.stack.expanded_loader.ExpandedRefusal.{ExpandedRefusal}
use Rattle.zone_files.specs.declared.stack.expanded_loader.ExpandedRefusal.TheVariants.{Expansion, Unread, Text}

-- whatever text the loader stands for
abbrev pub DenotesLoaded : LoadingState → Zone → Type 0
DenotesLoaded loader z =
    (origin : Labels) (text : List ℕ) → StandsForPresentation origin loader text
    → PresentationDenotes origin text z

-- a whole text
abbrev pub RefusesWhole : ExpandedRefusal → Labels → List ℕ → Type 0
RefusesWhole (Expansion other) origin text = ⊥
RefusesWhole Unread origin text = ⊥
RefusesWhole (Text refusal) origin text = ReportsText refusal origin text

-- a text whose last line stands for a fault
abbrev pub RefusesFaulty : ExpandedRefusal → ExpansionFault → ℕ → Labels → List ℕ → Type 0
RefusesFaulty (Expansion other) fault line origin text =
    (other ≡ fault) × IsReportedOn origin text line
RefusesFaulty Unread fault line origin text = ⊥
RefusesFaulty (Text refusal) fault line origin text = ReportsText refusal origin text

-- a text that isn't whole, with its last line
abbrev pub RefusesUnread : ExpandedRefusal → ℕ → Labels → List ℕ → Type 0
RefusesUnread (Expansion other) line origin text = ⊥
RefusesUnread Unread line origin text = IsFaultlessTo origin text line
RefusesUnread (Text refusal) line origin text = ReportsText refusal origin text
