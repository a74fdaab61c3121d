-- The words of a type's data of the same fields for all its data.
use Rattle.type_data.proofs.Common.{List, [], ap, arith, length, subst, sym, ℕ, ◌++◌, ◌<◌, ◌∙◌, ◌≡◌}
use Rattle.std.specs.Prelude.{◌≤◌}
use Rattle.zone_rdata.specs.Limits.{longest_data}
use Rattle.type_data.proofs.PrintedRows.{only_last_prints_all}
use Rattle.type_data.specs.Machine.PrintedFields.{OnlyLastPrintsAll}
use Rattle.type_data.specs.Parameters.Printed.{PrintsTouching, written_touching}
use Rattle.type_data.proofs.PrintedStanding.{printed_words_are_printed}
use Rattle.type_data.specs.Printed.{ArePrinted}
use Rattle.type_data.specs.PrintedData.{AreItsWords, AreOfAType, HasNoWords, NoItemsOf, PrintsData, PrintsFields}
use Rattle.type_data.specs.Table.{Fields, NamedField, fields_in, same}

pub fields_are_data : (fields : List NamedField) (octets old new : List ℕ) → length octets ≤ longest_data → PrintsTouching (PrintsFields fields) octets old new → PrintsTouching (PrintsData (same fields)) octets old new
fields_are_data fields octets old new short h = record {
  items = h.items;
  printed = record { parts = h.printed.parts; each = h.printed.each; value = h.printed.value; short = short };
  appended = h.appended;
}

pub words_put : (fields : Fields) (octets old new : List ℕ) → old ≡ [] → PrintsTouching (PrintsData fields) octets old new → AreItsWords fields octets new
words_put fields octets old new empty h = record { items = h.items; printed = h.printed; written = h.appended ∙ ap (λ o. o ++ written_touching h.items) empty }

pub no_data_of : (fields : List NamedField) (octets : List ℕ) → (OnlyLastPrintsAll fields → NoItemsOf fields octets) → AreOfAType (same fields) → HasNoWords (same fields) octets
no_data_of fields octets none type origin items states =
    none (only_last_prints_all type.further type.row fields type.are) origin items states.parts states.each states.whole states.value

pub too_long : (fields : Fields) (octets : List ℕ) → longest_data < length octets → HasNoWords fields octets
too_long fields octets long origin items states = omega (arith, long, states.short)

pub words_shown : (fields : Fields) (octets words : List ℕ) → AreItsWords fields octets words → ArePrinted words
words_shown fields octets words h = subst ArePrinted (sym h.written) (printed_words_are_printed (fields_in fields h.items) h.items h.printed.parts h.printed.each)
