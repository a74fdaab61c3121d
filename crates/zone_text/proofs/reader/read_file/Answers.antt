use Rattle.zone_text.proofs.Common.{Err, Ok, OnOk, Result, [], is_ok, ◌≡◌}
use Rattle.zone_text.proofs.Files.Standing.{reads_whole}
use Rattle.zone_text.proofs.reader.read_file.Goals as goal

-- what a call ensures of `Ok`, where `?` after `map_err` found it
if_ok : {T E D P : Type 0} {x : T} (r : Result T E) (mapped : Result T D) → is_ok mapped ≡ is_ok r → mapped ≡ Ok x → OnOk r P → P
if_ok (Ok y) mapped same is holds = holds
if_ok (Err e) mapped same is holds = cc

pub returns : goal.returns
returns c =
    let fed = if_ok c.feed.result _ c.map_err.ensures.variant c.in_ok-map_err.was c.feed.ensures.stands in
    let ended = if_ok c.finish.result _ c.map_err-2.ensures.variant c.in_ok-map_err-2.was c.finish.ensures.stands in
    let finished = if_ok c.finish.result _ c.map_err-2.ensures.variant c.in_ok-map_err-2.was c.finish.ensures.finishes.finished in
    reads_whole c.args.origin.now c.finish.new.self c.into_reading.result c.args.text.now finished
    (ended c.args.origin.now c.args.text.now [] (fed c.args.origin.now [] [] c.new-source.ensures.stands))
    c.into_reading.ensures.records c.into_reading.ensures.ending
