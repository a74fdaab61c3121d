-- What the entries of a master file leave to those after them (RFC 1035 5.1, RFC 2308 4): a parser
-- state, each part of which is what a look back over the entries finds.
use Rattle.std.specs.Prelude.{◌≡◌, ℕ, List, Option, None, MatchOption, IsSomeAnd}
use Rattle.zone_name.specs.Common.{Labels, NothingIs}
use Rattle.zone_rdata.specs.Words.{IsClassWord}
use Rattle.zone_text.specs.Entries.{Entry}
use Rattle.zone_text.specs.Inherited.{latest, IsOrigin, IsLastOwner, class_word, default_ttl_text, ttl_text, IsTtl}
use Rattle.zone_text.specs.Records.{IsLastMinimum}
use Rattle.zone_text.specs.declared.parser_state.ParserState.{ParserState}

-- the one that is so, or none where nothing is
abbrev pub IsOneOrNone : {A : Type 0} → (A → Type 0) → Option A → Type 0
IsOneOrNone Is found = MatchOption found (NothingIs Is) Is

-- the seconds of a TTL's text, or none where there is no text
abbrev pub IsTtlOrNone : Option (List ℕ) → Option ℕ → Type 0
IsTtlOrNone text seconds =
    MatchOption text (seconds ≡ None) (λ stated. IsSomeAnd seconds (IsTtl stated))

-- The state is that which the entries leave, the latest first: the origin, the last owner, the
-- last class or else IN, the latest `$TTL`, the latest TTL that a record states, and the MINIMUM of
-- the latest SOA, whatever its size
pub record IsStateAfter (origin : Labels) (before : List Entry) (d : ParserState) : Type 0 where
  pub under : IsOrigin origin before d.origin
  pub owner : IsOneOrNone (IsLastOwner origin before) d.owner
  pub class : MatchOption (latest class_word before) (d.class ≡ 1)
      (λ word. IsClassWord word d.class)
  pub default_ttl : IsTtlOrNone (latest default_ttl_text before) d.default_ttl
  pub last_ttl : IsTtlOrNone (latest ttl_text before) d.last_ttl
  pub minimum : IsOneOrNone (IsLastMinimum origin before) d.minimum
