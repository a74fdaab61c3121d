-- The report on an input is the same whichever of two it is.
use Rattle.std.specs.Prelude.{ℕ, List}
use Rattle.zonenorm_c.specs.Answering.{ReportsHalt, ReportsUnread}
use Rattle.zonenorm_c.specs.declared.answer.Answer.{Answer}
use Rattle.zonenorm_c.specs.declared.given.Unread.{Unread}
use Rattle.zonenorm_c.specs.declared.given.Unread.TheVariants.{Unsupported, BadOrigin, TooLong, Memory}
use Rattle.zonenorm_c.specs.declared.zone.Halt.{Halt}
use Rattle.zonenorm_c.specs.declared.zone.Halt.TheVariants as halts

pub of_input : (why : Unread) (text : List ℕ) (answer : Answer) (n : ℕ)
    → ReportsUnread why text answer → ReportsUnread why text (record answer { input = n })
of_input Unsupported text answer n reports = reports
of_input BadOrigin text answer n reports = reports
of_input TooLong text answer n reports = reports
of_input Memory text answer n reports = reports

pub halt_of_input : (halt : Halt) (text : List ℕ) (answer : Answer) (n : ℕ)
    → ReportsHalt halt text answer → ReportsHalt halt text (record answer { input = n })
halt_of_input (halts.Refused fault place) text answer n reports = reports
halt_of_input (halts.Unread why) text answer n reports = of_input why text answer n reports
halt_of_input (halts.Files reply) text answer n (same, is) = (
  same,
  record {
    status = is.status;
    fault = is.fault;
    place = is.place;
    line = is.line;
    offset = is.offset;
    count = is.count;
    file = is.file;
    value = is.value;
  },
)
