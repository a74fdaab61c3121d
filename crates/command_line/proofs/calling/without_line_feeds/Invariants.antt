use Rattle.std.proofs.Common.{◌≡◌, ◌++◌, ℕ, replicate, string_bytes, string_len}
use Rattle.command_line.proofs.calling.without_line_feeds.Given as goal

-- what is left out so far are line feeds
abbrev pub invariant-loop-text : goal.invariant-loop-text
invariant-loop-text l = (feeds : ℕ) × (string_bytes l.fn.text ≡ string_bytes l.text ++ replicate feeds 10)

abbrev pub decreases-loop-text : goal.decreases-loop-text
decreases-loop-text l = string_len l.text
