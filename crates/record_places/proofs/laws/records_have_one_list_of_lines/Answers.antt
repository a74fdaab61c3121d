use Rattle.std.proofs.Common.{◌≡◌, subst}
use Rattle.zone_name.specs.Name.{folded}
use Rattle.record_places.specs.FirstLines.{EachFirstOn}
use Rattle.record_places.proofs.Least.{one_list}
use Rattle.record_places.proofs.laws.records_have_one_list_of_lines.Goals as goal

pub returns : goal.returns
returns c = λ origin octets records a b named are first second.
    let (generic, told, rewriting) = c.a_text_has_a_rewriting.ensures origin octets named are in
    let law = c.a_rewriting_states_the_files_records.ensures origin (folded origin) octets generic told in
    let same : first.placed ≡ second.placed = c.a_file_states_one_list.ensures (folded origin) generic first.placed second.placed
    ((law first.placed rewriting).1 first.states) ((law second.placed rewriting).1 second.states) in
    one_list second.placed records a b (subst (λ ps. EachFirstOn ps records a) same first.first) second.first
