use Rattle.zone_engine.proofs.Common.{◌≢◌, ℕ, [], ◌∷◌, refl, inl, inr, arith, Line, MultipleSoa, soa, soa_of}
use Rattle.zone_engine.proofs.Refusals.Deciding.{all_of_one, no_other_class, refused_last}
use Rattle.zone_engine.proofs.examples.a_second_soa.Goals as goal

other_serial : (soa_of 1 60 1).octets ≢ (soa_of 1 60 2).octets
other_serial same = let no : Path ℕ 1 2 = cc in omega arith

pub returns : goal.returns
returns c =
    refused_last (record { rr = soa_of 1 60 1; place = Line 1 } ∷ []) (record { rr = soa_of 1 60 2; place = Line 2 }) MultipleSoa
    (all_of_one _) (soa (no_other_class (soa_of 1 60 1 ∷ []) (soa_of 1 60 2) (refl, tt)) (soa_of 1 60 1, inl refl, (refl, refl, inr other_serial)))
