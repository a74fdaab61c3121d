use Rattle.zone_text.proofs.Common.{length, on_ok_weaker, refl, subst, sym, ◌∙◌}
use Rattle.zone_text.proofs.Entries.Begun.{none_left, some_left}
use Rattle.zone_text.proofs.Files.Followed.{end_of_all, end_of_break, end_of_some, undecided_with}
use Rattle.zone_text.specs.OpenEntry.{EndIs}
use Rattle.zone_text.proofs.splitter.EntrySplitter.finish.Goals as goal

pub returns-then-is_empty-clause-reads : goal.returns-then-is_empty-clause-reads
returns-then-is_empty-clause-reads c origin fed given follow =
    end_of_all origin c.args.self.now.ended c.args.self.now.unfinished.octets fed given (sym c.octets.ensures ∙ none_left c.octets.result.now (length c.octets.result.now) c.is_empty.result refl c.is_empty.ensures c.if-is_empty.true) c.args.self.now.ended.decided.ending refl follow

pub returns-in-Some-clause-reads : goal.returns-in-Some-clause-reads
returns-in-Some-clause-reads c origin fed given follow =
    let some = some_left c.octets.result.now (length c.octets.result.now) c.is_empty.result refl c.is_empty.ensures c.if-is_empty.false in
    let none = undecided_with c.args.self.now.ended c.args.self.now.unfinished c.requires.is (λ e. some (c.octets.ensures ∙ e)) c.args.self.now.ended.decided.ending refl in
    end_of_break origin c.args.self.now.ended c.refuse.new.self.ended c.in-Some.fault c.args.self.now.unfinished.octets fed given (subst (EndIs c.args.self.now.unfinished.octets) c.in-Some.is (c.end_fault.ensures.open c.requires.is.state)) none c.refuse.ensures.records c.refuse.ensures.ending follow

pub end_entry-requires-clause-undecided : goal.end_entry-requires-clause-undecided
end_entry-requires-clause-undecided c =
    let some = some_left c.octets.result.now (length c.octets.result.now) c.is_empty.result refl c.is_empty.ensures c.if-is_empty.false in
    undecided_with c.args.self.now.ended c.args.self.now.unfinished c.requires.is (λ e. some (c.octets.ensures ∙ e)) c.args.self.now.ended.decided.ending refl

pub returns-in-None-clause-reads : goal.returns-in-None-clause-reads
returns-in-None-clause-reads c =
    let some = some_left c.octets.result.now (length c.octets.result.now) c.is_empty.result refl c.is_empty.ensures c.if-is_empty.false in
    let none = undecided_with c.args.self.now.ended c.args.self.now.unfinished c.requires.is (λ e. some (c.octets.ensures ∙ e)) c.args.self.now.ended.decided.ending refl in
    on_ok_weaker c.end_entry.result (λ reads origin fed given follow. end_of_some origin c.args.self.now.ended c.end_entry.new.self.ended c.args.self.now.unfinished.octets fed given (subst (EndIs c.args.self.now.unfinished.octets) c.in-None.is (c.end_fault.ensures.open c.requires.is.state)) (λ e. some (c.octets.ensures ∙ e)) none reads follow) c.end_entry.ensures.reads
