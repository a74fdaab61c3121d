use Rattle.type_data.specs.Kinds.Location.Machine.{ArePartsIn}
use Rattle.type_data.specs.Kinds.Location.{whole}
use Rattle.type_data.proofs.Common.{IsScaled, IsWholeIn, UpTo, with_point}
use Rattle.type_data.proofs.OfKinds.Location.Scaled.{found_by, none_by, parts_lack, scaled_whole}
use Rattle.type_data.proofs.kinds.location.scaled.scaled.Goals as goal

pub returns-in-None-clause-found : goal.returns-in-None-clause-found
returns-in-None-clause-found c = found_by c.whole_in_units.result (UpTo c.args.most (IsWholeIn c.args.places c.args.text.now)) (UpTo c.args.most (IsScaled c.args.places c.args.text.now)) (λ n is. (whole is.0.0 is.0.1.0 is.0.1.1, is.1)) c.whole_in_units.ensures.found

pub returns-in-None-clause-none : goal.returns-in-None-clause-none
returns-in-None-clause-none c = none_by c.whole_in_units.result (UpTo c.args.most (IsScaled c.args.places c.args.text.now)) (UpTo c.args.most (IsWholeIn c.args.places c.args.text.now)) (λ n is. (scaled_whole c.args.text.now c.args.places n c.in-None.ensures.none is.0, is.1)) c.whole_in_units.ensures.none

pub returns-in-Some-clause-found : goal.returns-in-Some-clause-found
returns-in-Some-clause-found c = found_by c.parts_in_units.result (UpTo c.args.most (ArePartsIn c.args.places c.in-Some.front.now c.in-Some.back.now)) (UpTo c.args.most (IsScaled c.args.places c.args.text.now)) (λ n is. (with_point c.in-Some.front.now c.in-Some.back.now is.0.0 is.0.1 c.in-Some.ensures.found.parts is.0.2.0 is.0.2.1.0 is.0.2.1.1.0 is.0.2.1.1.1, is.1)) c.parts_in_units.ensures.found

pub returns-in-Some-clause-none : goal.returns-in-Some-clause-none
returns-in-Some-clause-none c = parts_lack c.parts_in_units.result c.args.text.now c.in-Some.front.now c.in-Some.back.now c.args.places c.args.most c.in-Some.ensures.found c.parts_in_units.ensures.none
