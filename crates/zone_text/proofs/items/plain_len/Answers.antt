use Rattle.zone_text.proofs.Common.{stops_bare}
use Rattle.zone_text.proofs.Scanning.StopMarks.{is_either, stops_at_len}
use Rattle.zone_text.proofs.items.plain_len.Goals as goal

pub returns-in-Bare-clause-plain : goal.returns-in-Bare-clause-plain
returns-in-Bare-clause-plain c = rw c.in-Bare.is (stops_at_len stops_bare c.args.text.now _ c.plain_bare_len.ensures.len).1

pub returns-in-Bare-clause-stops : goal.returns-in-Bare-clause-stops
returns-in-Bare-clause-stops c = rw c.in-Bare.is (stops_at_len stops_bare c.args.text.now _ c.plain_bare_len.ensures.len).2

pub returns-in-Quoted-clause-plain : goal.returns-in-Quoted-clause-plain
returns-in-Quoted-clause-plain c = rw c.in-Quoted.is (stops_at_len (is_either 34 92) c.args.text.now _ c.len_until.ensures.len).1

pub returns-in-Quoted-clause-stops : goal.returns-in-Quoted-clause-stops
returns-in-Quoted-clause-stops c = rw c.in-Quoted.is (stops_at_len (is_either 34 92) c.args.text.now _ c.len_until.ensures.len).2
