-- A set has a key exactly if one of its keys has the same octets.
use Rattle.std.proofs.Common.{Equal, IsTrue, ap, nat_cmp, sym, subst, ◌≡◌, ◌∙◌, ◌↔◌}
use Rattle.std.proofs.lemmas.Cmp.{nat_list_cmp_total, tied_itself}
use Rattle.std.proofs.lemmas.Map.Lookups.{exact_bytes}
use Rattle.std.specs.Cmp.Lexicographic.{slice_cmp}
use Rattle.zone_difference.proofs.Keys.{any_has}
use Rattle.zone_difference.specs.Folded.{HasKey}
use Rattle.zone_difference.proofs.folded_sets.has_key.Goals as goal

pub returns : goal.returns
returns c =
    let keys = c.args.keys.now.keys in
    let key = c.in_ok-key.key in (
      key.items,
      c.in_ok-key.ensures,
      subst (λ b. IsTrue b ↔ HasKey keys key.items) (sym c.contains.ensures)
          (any_has (λ a b. slice_cmp nat_cmp a.items b.items) (λ a b. exact_bytes a.items b.items)
          (λ a b same. ap (slice_cmp nat_cmp a.items) (sym same) ∙ tied_itself nat_list_cmp_total a.items) keys key),
    )
