-- There is one origin.
use Rattle.zone_words.proofs.Common.{Entry, IsCasedOrigin, Labels, List, MatchOption, NamesOrigin, None, Option, RawItem, Some, SpellsCased-once, [], origin_items, statement_of, subst, sym, ◌∙◌, ◌∷◌, ◌≡◌}
use Rattle.zone_rdata.specs.Item.{bare, quoted}

-- the origin after an entry, where it is a `$ORIGIN` with these items
abbrev pub OriginAfter : Labels → List Entry → Option (List RawItem) → Labels → Type 0
OriginAfter origin before items name =
    MatchOption items (IsCasedOrigin origin before name)
    (λ stated. (above : Labels) × IsCasedOrigin origin before above × NamesOrigin above stated name)

named_once : (above : Labels) (items : List RawItem) (a b : Labels) → NamesOrigin above items a → NamesOrigin above items b → a ≡ b
named_once above [] a b x y = absurd x
named_once above (bare text ∷ []) a b x y = SpellsCased-once (Some above) text a b x y
named_once above (bare text ∷ other ∷ items) a b x y = absurd x
named_once above (quoted text ∷ items) a b x y = absurd x

either : (origin : Labels) (before : List Entry) (items : Option (List RawItem)) (a b : Labels) → ((c d : Labels) → IsCasedOrigin origin before c → IsCasedOrigin origin before d → c ≡ d) → MatchOption items (IsCasedOrigin origin before a) (λ stated. (above : Labels) × IsCasedOrigin origin before above × NamesOrigin above stated a) → MatchOption items (IsCasedOrigin origin before b) (λ stated. (above : Labels) × IsCasedOrigin origin before above × NamesOrigin above stated b) → a ≡ b
either origin before None a b once x y = once a b x y
either origin before (Some items) a b once x y = named_once y.0 items a b (subst (λ above. NamesOrigin above items a) (once x.0 y.0 x.1 y.1) x.2) y.2

pub origin_once : (origin : Labels) (before : List Entry) (a b : Labels) → IsCasedOrigin origin before a → IsCasedOrigin origin before b → a ≡ b
origin_once origin [] a b x y = x ∙ sym y
origin_once origin (entry ∷ before) a b x y = either origin before (origin_items (statement_of entry)) a b (origin_once origin before) x y
