use Rattle.std.proofs.Common.{◌≡◌, ◌∙◌, ◌-◌, ap, arith, length, rules, slice_index, string_bytes, string_len, suc, take}
use Rattle.command_line.proofs.Telling.{last_found, one_feed_more, with_last}
use Rattle.command_line.proofs.calling.without_line_feeds.Goals as goal

pub loop-text-preserved : goal.loop-text-preserved
loop-text-preserved c =
    let text = string_bytes c.loop-text.text in
    let count = string_len c.loop-text.text in
    let counted : count ≡ length text = search rules in
    let found = c.loop-text-test.ensures.cases in
    let last = last_found c.as_str.result.now text found.0 10 c.as_str.ensures.value found.1.0 found.2 (found.1.1.byte (omega arith)) in
    let is : slice_index text (count - 1) ≡ 10 = ap (λ n. slice_index text (n - 1)) counted ∙ last.1 in
    let left = c.pop.ensures.ascii_bytes (omega (arith, last.0, counted)) (rw (is) omega arith) in
    (suc c.loop-text.invariant.0, one_feed_more _ text _ _ c.loop-text.invariant.1 (with_last text _ 10 last.0 last.1 (left ∙ ap (λ n. take (n - 1) text) counted)))
