use Rattle.std.specs.Result.{result_ok}
use Rattle.zone_name.proofs.Common.{IsOk, Ok, OnOk, Result, ap, arith, false≢true, labels_of, length, option_copied, sym, ◌+◌, ◌∙◌, ◌≡◌, ◌≤◌}
use Rattle.zone_name.proofs.Spelling.Letters.{Ends, ends_above, ends_root, long_ending, long_labels, named}
use Rattle.zone_name.proofs.reading.replace.Goals as goal
use Rattle.zone_name.proofs.reading.replace.Goals.{Joined-spelled, then-spelled, else-spelled+in_ok-ending, then-spelled-2-via-then-spelled-2, then-spelled-2-via-else-spelled-2+then-ending-remaining_capacity}

-- an answer that is a value keeps what is promised of one
taken : {T E P : Type 0} (result : Result T E) → IsOk result → OnOk result P → P
taken result is holds = grind (arith, false≢true)

-- what follows the labels
ends_so : (c : Joined-spelled) → Ends (option_copied c.args.origin) c.in_ok-spelled.spelled.is_absolute c.if-spelled.ending.now
ends_so c =
    let origin = option_copied c.args.origin in
    elim c.if-spelled.branch [
      | then-spelled w ↦ rw w.ending-is (ends_root origin _ w.if-spelled.true)
      | else-spelled+in_ok-ending w ↦ rw w.ending-is (ends_above origin _ _ w.if-spelled.false (ap option_copied (w.ok_or.ensures.ok_part ∙ ap result_ok w.in_ok-ending.was)))
    ]

pub returns : goal.returns
returns c =
    let origin = option_copied c.args.origin in
    let spelled = c.in_ok-spelled.spelled in
    let octets = c.read_labels.new.octets.items in
    let ending = c.if-spelled.ending.now in
    let ends = ends_so (goal.at.returns c).Joined-spelled in
    let extended = c.try_extend_from_slice in
    let room : length octets + length ending ≤ 255 = omega (arith, c.remaining_capacity.ensures, c.if-ending-remaining_capacity.false) in
    let is = taken extended.result (extended.ensures.variant.1 room) extended.ensures.ok in
    let held : c.hold-2.new.self ≡ extended.new.self.items = c.hold-2.ensures ∙ c.as_slice.ensures.value in
    let both = named c.args.letters origin c.args.text.now octets spelled c.in_ok-spelled.ensures.labels ending ends extended.new.self.items c.read_labels.ensures.holds c.requires c.if-spelled-2.false is room in
    record { holds = rw held both.0; ok = both.1 ∙ ap (λ o. Ok (labels_of o)) (sym held); err = tt; root = tt }

pub returns-then-spelled-2-clause-err : goal.returns-then-spelled-2-clause-err
returns-then-spelled-2-clause-err c =
    let origin = option_copied c.args.origin in
    let spelled = c.in_ok-spelled.spelled in
    let octets = c.read_labels.new.octets.items in
    let ending = c.if-spelled.ending.now in
    let ends = ends_so (goal.at.returns-then-spelled-2-clause-err c).Joined-spelled in
    elim c.then-spelled-2.branch [
      | then-spelled-2-via-then-spelled-2 w ↦ long_labels c.args.letters origin c.args.text.now octets spelled c.in_ok-spelled.ensures.labels ending ends w.if-spelled-2.true
      | then-spelled-2-via-else-spelled-2+then-ending-remaining_capacity w ↦ long_ending c.args.letters origin c.args.text.now octets spelled c.in_ok-spelled.ensures.labels ending ends c.read_labels.ensures.holds c.requires w.if-spelled-2.false (omega (arith, w.remaining_capacity.ensures, w.if-ending-remaining_capacity.true))
    ]
