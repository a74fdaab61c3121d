-- What a line is made of, and the lines to come.
use Rattle.zone_print.proofs.Common.{common_steps, take, ◌≡◌, ◌≢◌, ℕ, List, [], ◌∷◌, ◌++◌, ap, append_assoc, arith, name_text, Record, data_of, data_text, line, lines}
use Rattle.std.proofs.lemmas.List.{take_at}
use Rattle.zone_rdata.specs.RecordText.{record_text}
use Rattle.zone_print.specs.Machine.Middle.{before_kind, kind_column, line_middle, HoldsMiddle}
use Rattle.zone_print.proofs.Feeds.{line_ends_with_feed}
use Rattle.zone_print.proofs.Front.{some_after, some_more}

-- data of equal classes, types and octets has equal texts
pub same_text : (class class' kind kind' : ℕ) (octets : List ℕ) → class ≡ class' → kind ≡ kind'
    → data_text (record { class = class; kind = kind; octets = octets }) ≡ data_text (record { class = class'; kind = kind'; octets = octets })
same_text class class' kind kind' octets e f = cc

regroup : (a b c d e f : List ℕ) → a ++ b ++ c ++ d ++ e ++ f ≡ a ++ (b ++ (c ++ (d ++ (e ++ f))))
regroup a b c d e f = simp append_assoc

-- the spaces and the line feed, each before what follows it
pub line_parts : (owner ttl class kind rdata : List ℕ) → owner ++ 32 ∷ ttl ++ 32 ∷ class ++ 32 ∷ kind ++ 32 ∷ rdata ++ 10 ∷ [] ≡ owner ++ (32 ∷ (ttl ++ (32 ∷ (class ++ (32 ∷ (kind ++ (32 ∷ (rdata ++ 10 ∷ []))))))))
line_parts owner ttl class kind rdata = regroup owner (32 ∷ ttl) (32 ∷ class) (32 ∷ kind) (32 ∷ rdata) (10 ∷ [])

-- a line is its owner, its middle in two parts, the data and a line feed
pub line_split : (r : Record) → line r ≡ name_text r.owner ++ (before_kind r.ttl r.class ++ (kind_column r.class r.kind ++ (data_text (data_of r) ++ 10 ∷ [])))
line_split r = grind (arith, common_steps)

-- a line is the text of its record and a line feed
pub line_shown : (r : Record) → line r ≡ record_text r ++ 10 ∷ []
line_shown r = grind (arith, common_steps)

-- of the middle of the last record what stands before its type is kept
pub middle_kept : (text : List ℕ) (kept ttl class kind kind' : ℕ) → HoldsMiddle text kept ttl class kind
    → HoldsMiddle (take kept text ++ kind_column class kind') kept ttl class kind'
middle_kept text kept ttl class kind kind' held =
    grind (arith, common_steps, before_kind, take_at, kind_column)

-- owner, middle and what follows them were pushed
pub line_pushed : (old named numbered new owner middle : List ℕ) (r : Record) → owner ≡ name_text r.owner → middle ≡ line_middle r.ttl r.class r.kind
    → named ≡ old ++ owner → numbered ≡ named ++ middle → new ≡ numbered ++ (data_text (data_of r) ++ 10 ∷ []) → new ≡ old ++ line r
line_pushed old named numbered new owner middle r e f g h i = grind (arith, common_steps)

-- the first of the records to come was pushed
pub line_moves : (buffer grown : List ℕ) (records others : List Record) (r : Record) → records ≡ r ∷ others → grown ≡ buffer ++ line r
    → buffer ++ lines records ≡ grown ++ lines others
line_moves buffer grown records others r e pushed = grind (arith, common_steps)

-- no record is to come
pub line_ends : (buffer : List ℕ) (records : List Record) → records ≡ [] → buffer ++ lines records ≡ buffer ++ []
line_ends buffer records e = ap (λ rs. buffer ++ lines rs) e

-- while a record is to come, octets are
pub line_to_come : (buffer : List ℕ) (records others : List Record) (r : Record) → records ≡ r ∷ others → buffer ++ lines records ≢ []
line_to_come buffer records others r e none = grind (arith, line_ends_with_feed, some_after, some_more)
