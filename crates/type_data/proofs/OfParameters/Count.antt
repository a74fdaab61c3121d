-- Parameters have few items.
use Rattle.type_data.proofs.Common.{AllZip, List, Sent, TouchingItem, [], ap, arith, flat_map, length, length-append, sent_octets, ℕ, ◌∷◌, ◌≤◌}
use Rattle.type_data.specs.Parameters.Printed.{PrintsParameter, PrintsParameters, ValueText, by_name, by_number, in_quotes, left_out, parameter_items, unquoted, usual_key}
use Rattle.type_data.specs.declared.parameters.key.Key.{Key}
use Rattle.type_data.specs.declared.parameters.key.Key.TheVariants.{Numbered}

one_parameter : (key : Key) (text : ValueText) → length (parameter_items key text) ≤ 2
one_parameter key left_out = omega arith
one_parameter key (unquoted text) = omega arith
one_parameter key (in_quotes text) = omega arith

parameter_few : (all : List Sent) (s : Sent) (items : List TouchingItem) → PrintsParameter all s items → length items ≤ 2
parameter_few all s items (by_name text printed) = one_parameter (usual_key s.number) text
parameter_few all s items (by_number text none printed) = one_parameter (Numbered s.number) text

parameters_count : (all sent : List Sent) (parts : List (List TouchingItem)) → AllZip (PrintsParameter all) sent parts → length (flat_map (λ part. part) parts) ≤ length (flat_map sent_octets sent)
parameters_count all [] [] each = omega arith
parameters_count all [] (part ∷ parts) each = absurd each
parameters_count all (s ∷ sent) [] each = absurd each
parameters_count all (s ∷ sent) (part ∷ parts) each =
    omega (arith, parameter_few all s part each.0, parameters_count all sent parts each.1, length-append part (flat_map (λ part. part) parts), length-append (sent_octets s) (flat_map sent_octets sent))

pub parameters_few : (items : List TouchingItem) (octets : List ℕ) → PrintsParameters items octets → length items ≤ length octets
parameters_few items octets printed = omega (arith, ap length printed.whole, ap length printed.sent.value, parameters_count printed.parameters printed.parameters printed.parts printed.each)
