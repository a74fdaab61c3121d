use Rattle.std.proofs.lemmas.List.{length-set, with_items_is}
use Rattle.std.specs.Int.{bit_at}
use Rattle.std.specs.Prelude.{slice_index, ◌%◌}
use Rattle.zone_set.proofs.Common.{List, arith, subst, sym, ℕ, ◌/◌, ◌^◌, ◌∙◌, ◌≡◌}
use Rattle.zone_set.proofs.Lists.Seeing.{Now, now_seen, still_seen, unseen}
use Rattle.zone_set.proofs.distinct.Seen.insert.Goals as goal

-- a number's bit among words
abbrev Has : ℕ → List ℕ → ℕ → Type 0
Has bit words n = bit_at (slice_index words (n / 2 ^ bit / 64)) (n / 2 ^ bit % 64) ≡ 1

pub returns-clause-new : goal.returns-clause-new
returns-clause-new c none was =
    let shift = c.args.self.now.shift % 64 in
    let words = c.as_mut_slice-words.result.now in
    unseen words (c.args.number / 2 ^ shift) none (subst (λ ws. Has shift ws c.args.number) (sym c.as_mut_slice-words.ensures.value) was)

pub returns-clause-seen : goal.returns-clause-seen
returns-clause-seen c none =
    let shift = c.args.self.now.shift % 64 in
    let words = c.as_mut_slice-words.result.now in
    let now = Now words (c.args.number / 2 ^ shift) in
    subst (λ ws. Has shift ws c.args.number) (sym (with_items_is c.args.self.now.bits now (length-set words _ _ ∙ c.as_mut_slice-words.ensures.len)))
    (now_seen words (c.args.number / 2 ^ shift) (omega (arith, c.if-at-words.false)))

pub returns-clause-stay : goal.returns-clause-stay
returns-clause-stay c other was =
    let shift = c.args.self.now.shift % 64 in
    let words = c.as_mut_slice-words.result.now in
    let now = Now words (c.args.number / 2 ^ shift) in
    subst (λ ws. Has shift ws other) (sym (with_items_is c.args.self.now.bits now (length-set words _ _ ∙ c.as_mut_slice-words.ensures.len)))
    (still_seen words (c.args.number / 2 ^ shift) (other / 2 ^ shift / 64) (other / 2 ^ shift % 64) (subst (λ ws. Has shift ws other) (sym c.as_mut_slice-words.ensures.value) was))
