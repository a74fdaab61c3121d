use Rattle.zone_engine.proofs.Common.{◌≡◌, [], ◌∷◌, refl, inl, arith, ClassMismatch, Line, class, soa_of}
use Rattle.zone_engine.proofs.Refusals.Deciding.{all_of_one, refused_last}
use Rattle.zone_engine.proofs.examples.a_record_of_another_class.Goals as goal

pub returns : goal.returns
returns c =
    refused_last (record { rr = soa_of 1 60 1; place = Line 1 } ∷ []) (record { rr = soa_of 3 61 2; place = Line 2 }) ClassMismatch
    (all_of_one _) (class (soa_of 1 60 1, inl refl, λ same. let no : 1 ≡ 3 = same in omega arith))
