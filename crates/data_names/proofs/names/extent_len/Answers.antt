-- An extent has as many octets as its names.
use Rattle.std.proofs.Common.{◌≡◌, ℕ, List, None, Option, Some, arith, subst}
use Rattle.std.specs.Prelude.{IfNone}
use Rattle.data_names.proofs.Walks.{front_many, not_whole, whole_many}
use Rattle.data_names.specs.Machine.Front.{BeginsWithExtent, BeginsWithMany}
use Rattle.data_names.specs.declared.table.Extent.{Extent}
use Rattle.data_names.specs.declared.table.Extent.TheVariants.{Front}
use Rattle.data_names.proofs.names.extent_len.Goals as goal

none_front : (count : ℕ) (octets : List ℕ) (extent : Extent) (r : Option ℕ) → extent ≡ Front count → IfNone r ((len : ℕ) → BeginsWithMany count octets len → ⊥) → IfNone r ((len : ℕ) → BeginsWithExtent extent octets len → ⊥)
none_front count octets extent None is none = λ len b. none len (front_many count octets len (subst (λ e. BeginsWithExtent e octets len) is b))
none_front count octets extent (Some found) is none = none

pub returns-in_default-clause-none : goal.returns-in_default-clause-none
returns-in_default-clause-none c len b =
    not_whole c.in-Whole.count c.args.octets.now c.in-Some.len c.in-Some.ensures.found (λ e. omega (arith, c.if-len-octets.false, e)) len
    (subst (λ e. BeginsWithExtent e c.args.octets.now len) c.in-Whole.is b)

pub returns-in_default-2-clause-none : goal.returns-in_default-2-clause-none
returns-in_default-2-clause-none c len b =
    c.in_default.ensures.none len (whole_many c.in-Whole.count c.args.octets.now len (subst (λ e. BeginsWithExtent e c.args.octets.now len) c.in-Whole.is b))

pub returns-in-Front-clause-none : goal.returns-in-Front-clause-none
returns-in-Front-clause-none c = none_front c.in-Front.count c.args.octets.now c.args.extent c.names_len-in-Front.result c.in-Front.is c.names_len-in-Front.ensures.none
