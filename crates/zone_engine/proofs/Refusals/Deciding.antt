-- Of the records of an input one is the first that is refused, or all are accepted.
use Rattle.zone_engine.proofs.Common.{◌≡◌, ◌≢◌, ◌⊎◌, ℕ, List, [], ◌∷◌, ◌++◌, refl, sym, ap, ◌∙◌, subst, inl, inr, ⊎_elim, append_assoc, append-nil, arith, cases_eq, IsWithin, Record, data_of, Fault, ClassMismatch, MultipleSoa, DifferingTtl, Place, Placed, OtherClass, AreTwoSoas, OtherSoa, Accepts, IsRefusedFor, class, soa, ttl, AllAccepted, IsFirstRefused, records_of, Has, InOneSet, covered_octets, common_steps, Labels, AllByRecursion, Line, a_x, soa_of, address_of, each_Has}
use Rattle.std.proofs.Common.{drop, length-append, ◌-◌, length}
use Rattle.zone_name.proofs.Common.{drop_at, take, take-append-drop}
use Rattle.zone_engine.proofs.Refusals.Parting.{two_partings, Decides-owner}
use Rattle.zone_rdata.proofs.Choices.{Decided, both_or_not, denied_or_not, either_or_not, tested_or_not}
use Rattle.zone_rdata.proofs.Words.OneWord.{same_or_not}

pub same_owner : (a b : Labels) → Decided (a ≡ b)
same_owner a b = tested_or_not _ (Decides-owner a b)

same_set : (r s : Record) → Decided (InOneSet r s)
same_set r s = grind (arith, both_or_not (same_owner r.owner s.owner) (both_or_not (cases_eq r.kind s.kind) (same_or_not (covered_octets (data_of r)) (covered_octets (data_of s)))))

-- a name lies within an apex, or it doesn't
pub is_within : (labels apex : Labels) → Decided (IsWithin labels apex)
is_within labels apex =
    let k = length labels - length apex in
    ⊎_elim (λ same. inl (take k labels, cc (same, take-append-drop k labels)))
    (λ other. inr (λ (below, parts). other (ap (drop k) parts ∙ drop_at below apex k (omega (arith, ap length parts, length-append below apex)))))
    (same_owner (drop k labels) apex)

-- some record has a property, or none has it
pub some_or_none : (P : Record → Type 0) → ((r : Record) → Decided (P r)) → (records : List Record) → Decided ((r : Record) × Has records r × P r)
some_or_none P test [] = inr (λ (r, has, p). has)
some_or_none P test (s ∷ records) = grind (arith, test s, some_or_none P test records)

-- ---- a record is refused or accepted

module _ (held : List Record) (r : Record) where
  two_soas : (s : Record) → Decided (AreTwoSoas s r)
  two_soas s = grind (arith, both_or_not (cases_eq r.kind 6) (both_or_not (cases_eq s.kind 6) (either_or_not (denied_or_not (same_owner s.owner r.owner)) (denied_or_not (same_or_not s.octets r.octets)))))

  refused_or_accepted : ((f : Fault) × IsRefusedFor held r f) ⊎ Accepts held r
  refused_or_accepted =
      ⊎_elim (λ other. inl (ClassMismatch, class other)) (λ one_class.
      ⊎_elim (λ other. inl (MultipleSoa, soa one_class other)) (λ one_soa.
      ⊎_elim (λ (s, has, differs). inl (DifferingTtl, ttl one_class one_soa (s, has, differs.0, differs.1)))
      (λ none. inr (record { one_class = one_class; one_soa = one_soa; one_ttl = λ (s, has, one, other). none (s, has, (one, other)) }))
      (some_or_none (λ s. InOneSet s r × (s.ttl ≢ r.ttl)) (λ s. both_or_not (same_set s r) (denied_or_not (cases_eq s.ttl r.ttl))) held))
      (some_or_none (λ s. AreTwoSoas s r) two_soas held)) (some_or_none (λ s. s.class ≢ r.class) (λ s. denied_or_not (cases_eq s.class r.class)) held)

-- ---- the first that is refused

-- one more at the end
pub AllAccepted-push : (before : List Placed) (p : Placed) → AllAccepted before → Accepts (records_of before) p.rr → AllAccepted (before ++ p ∷ [])
AllAccepted-push before p all fits b others q parts = grind (arith, common_steps, two_partings)

first_or_all : (whole before placed : List Placed) → whole ≡ before ++ placed → AllAccepted before → ((f : Fault) × (at : Place) × IsFirstRefused whole f at) ⊎ AllAccepted whole
first_or_all whole before [] parts all = inr (subst AllAccepted (sym (parts ∙ append-nil before)) all)
first_or_all whole before (p ∷ placed) parts all =
    ⊎_elim (λ (f, why). inl (f, p.place, record { before = before; refused = p; others = placed; parts = parts; accepted = all; why = why; stands = refl }))
    (λ fits. first_or_all whole (before ++ p ∷ []) placed (parts ∙ sym (append_assoc before (p ∷ []) placed)) (AllAccepted-push before p all fits))
    (refused_or_accepted (records_of before) p.rr)

pub none_before : AllAccepted []
none_before [] others p parts = cc
none_before (q ∷ before) others p parts = cc

pub one_or_all : (placed : List Placed) → ((f : Fault) × (at : Place) × IsFirstRefused placed f at) ⊎ AllAccepted placed
one_or_all placed = first_or_all placed [] placed refl none_before

-- ---- short lists, and names of one label outside an apex of one label

pub no_other_class : (held : List Record) (r : Record) → AllByRecursion (λ s. s.class ≡ r.class) held → OtherClass held r → ⊥
no_other_class held r each other = grind (arith, each_Has)

pub no_other_soa : (held : List Record) (r : Record) → r.kind ≢ 6 → OtherSoa held r → ⊥
no_other_soa held r kind other = grind (arith, other)

pub fits : (held : List Record) (r : Record) → AllByRecursion (λ s. s.class ≡ r.class) held → r.kind ≢ 6 → AllByRecursion (λ s. InOneSet s r → s.ttl ≡ r.ttl) held → Accepts held r
fits held r classes other ttls = grind (arith, no_other_class, no_other_soa, each_Has)

pub all_of_one : (p : Placed) → AllAccepted (p ∷ [])
all_of_one p = AllAccepted-push [] p none_before (record { one_class = λ (s, has, other). has; one_soa = λ (s, has, two). has; one_ttl = λ (s, has, one, other). has })

pub all_of_two : (p q : Placed) → Accepts (p.rr ∷ []) q.rr → AllAccepted (p ∷ q ∷ [])
all_of_two p q accepted = AllAccepted-push (p ∷ []) q (all_of_one p) accepted

pub all_of_three : (p q s : Placed) → Accepts (p.rr ∷ []) q.rr → Accepts (p.rr ∷ q.rr ∷ []) s.rr → AllAccepted (p ∷ q ∷ s ∷ [])
all_of_three p q s accepted accepted_last = AllAccepted-push (p ∷ q ∷ []) s (all_of_two p q accepted) accepted_last

pub outside_of : (label apex : List ℕ) → label ≢ apex → IsWithin (label ∷ []) (apex ∷ []) → ⊥
outside_of label apex other given = grind (arith, common_steps)

-- the last record is the first that is refused
pub refused_last : (before : List Placed) (p : Placed) (f : Fault) → AllAccepted before → IsRefusedFor (records_of before) p.rr f → IsFirstRefused (before ++ p ∷ []) f p.place
refused_last before p f all why = record { before = before; refused = p; others = []; parts = refl; accepted = all; why = why; stands = refl }

-- an address with another TTL than the one before it
pub other_ttl : (t u n : ℕ) → t ≢ u → IsFirstRefused (record { rr = soa_of 1 60 1; place = Line 1 } ∷ record { rr = address_of a_x t 1; place = Line 2 } ∷ record { rr = address_of a_x u n; place = Line 3 } ∷ []) DifferingTtl (Line 3)
other_ttl t u n differ =
    let kinds : 1 ≢ 6 = λ (same : 1 ≡ 6). omega (arith, same) in
    refused_last (record { rr = soa_of 1 60 1; place = Line 1 } ∷ record { rr = address_of a_x t 1; place = Line 2 } ∷ []) (record { rr = address_of a_x u n; place = Line 3 }) DifferingTtl
    (all_of_two _ _ (fits (soa_of 1 60 1 ∷ []) (address_of a_x t 1) (refl, tt) kinds (λ one. let no : 6 ≡ 1 = one.kind in absurd (omega arith), tt)))
    (ttl (no_other_class (soa_of 1 60 1 ∷ address_of a_x t 1 ∷ []) (address_of a_x u n) (refl, (refl, tt))) (no_other_soa (soa_of 1 60 1 ∷ address_of a_x t 1 ∷ []) (address_of a_x u n) kinds)
    (address_of a_x t 1, inr (inl refl), record { owner = refl; kind = refl; covers = refl }, differ))
