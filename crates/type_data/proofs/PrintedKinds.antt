-- What is printed for a bare item's octets, where texts are asked for that state them under some
-- origin.
use Rattle.type_data.proofs.Common.{IfErr, List, Result, ℕ}
use Rattle.std.specs.Prelude.{Err, Ok, OnOk}
use Rattle.type_data.specs.Printed.{IfNoData, NoFront, PrintsFront}
use Rattle.type_data.specs.declared.unprinted.Unprinted.{Unprinted}
use Rattle.type_data.specs.declared.unprinted.Unprinted.TheVariants as unprinted

-- ---- answers under a weaker claim

pub ok_goes : {T E : Type 0} (r : Result T E) (P Q : Type 0) → (P → Q) → OnOk r P → OnOk r Q
ok_goes (Ok x) P Q goes h = goes h
ok_goes (Err e) P Q goes h = tt

no_data_weaker : (A B : Type 0) (e : Unprinted) → (A → B) → IfNoData A e → IfNoData B e
no_data_weaker A B unprinted.NoData goes h = goes h
no_data_weaker A B unprinted.OutOfMemory goes h = tt

pub none_weaker : {T : Type 0} (r : Result T Unprinted) (A B : Type 0) → (A → B) → IfErr r (IfNoData A) → IfErr r (IfNoData B)
none_weaker (Ok x) A B goes h = tt
none_weaker (Err e) A B goes h = no_data_weaker A B e goes h

-- ---- other texts that state the part

pub front_of_more : (Prints States More : List ℕ → List ℕ → Type 0) (octets rest old new : List ℕ) → ((text part : List ℕ) → More text part → States text part) → PrintsFront Prints States octets rest old new → PrintsFront Prints More octets rest old new
front_of_more Prints States More octets rest old new goes h = record {
  part = h.part;
  text = h.text;
  whole = h.whole;
  printed = h.printed;
  appended = h.appended;
  alone = λ other after words cut is. h.alone other after words cut (goes words other is);
}

pub no_front_of_more : (States More : List ℕ → List ℕ → Type 0) (octets : List ℕ) → ((text part : List ℕ) → More text part → States text part) → NoFront States octets → NoFront More octets
no_front_of_more States More octets goes none part rest text whole is = none part rest text whole (goes text part is)
