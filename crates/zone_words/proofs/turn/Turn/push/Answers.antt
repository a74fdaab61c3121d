use Rattle.zone_words.proofs.Common.{WritesBetween, ap, refl, renamed, subst, sym}
use Rattle.zone_words.proofs.Walks.{octets_pushed}
use Rattle.zone_words.proofs.Turns.{says_written, turn_refused, turn_stays}
use Rattle.zone_words.specs.Machine.Turn.{TurnIs, WritesTurn, told_by}
use Rattle.zone_words.specs.Written.{in_octets}
use Rattle.zone_words.specs.declared.turn.Turn.TheVariants as turns
use Rattle.zone_words.proofs.turn.Turn.push.Goals as goal

pub returns-in_ok-extend_from_slice-in-Stays-clause-ok :
    goal.returns-in_ok-extend_from_slice-in-Stays-clause-ok
returns-in_ok-extend_from_slice-in-Stays-clause-ok c =
    turn_stays c.args.entry.now _ _ c.args.stated.now c.args.self.now (ap told_by c.in-Stays.is)
    (λ origin before line tokens is. subst (λ t. TurnIs origin before line tokens c.args.stated.now t) c.in-Stays.is is)
    c.in_ok-extend_from_slice-in-Stays.ensures.items

pub returns-in_ok-extend_from_slice-in-Refused-clause-ok :
    goal.returns-in_ok-extend_from_slice-in-Refused-clause-ok
returns-in_ok-extend_from_slice-in-Refused-clause-ok c =
    subst (λ t. WritesTurn c.args.entry.now c.args.stated.now t c.args.out.now.items c.extend_from_slice-in-Refused.new.self.items) (sym c.in-Refused.is)
    (turn_refused c.args.entry.now _ _ c.args.stated.now c.in-Refused.field-0 c.in_ok-extend_from_slice-in-Refused.ensures.items)

pub returns-in_ok-extend_from_slice-in-Renamed-clause-ok :
    goal.returns-in_ok-extend_from_slice-in-Renamed-clause-ok
returns-in_ok-extend_from_slice-in-Renamed-clause-ok c =
    subst (λ t. WritesTurn c.args.entry.now c.args.stated.now t c.args.out.now.items c.extend_from_slice-in-Renamed.new.self.items) (sym c.in-Renamed.is)
    (λ origin before line tokens cut is. says_written _ c.push_renamed.new.out.items _ origin before line tokens c.in-Renamed.around (renamed c.in-Renamed.around.number) (turns.Renamed c.in-Renamed.around) refl is
    (subst (λ o. WritesBetween c.in-Renamed.around.front.now c.in-Renamed.around.back.now (renamed c.in-Renamed.around.number) o c.push_renamed.new.out.items) c.clear.ensures.items c.in_ok-push_renamed-in-Renamed.ensures is.back is.after_are)
    (rw (c.deref.ensures.value) at c.in_ok-extend_from_slice-in-Renamed.ensures.items))

pub returns-in_ok-extend_from_slice-in-InOctets-clause-ok :
    goal.returns-in_ok-extend_from_slice-in-InOctets-clause-ok
returns-in_ok-extend_from_slice-in-InOctets-clause-ok c =
    subst (λ t. WritesTurn c.args.entry.now c.args.stated.now t c.args.out.now.items c.extend_from_slice-in-InOctets.new.self.items) (sym c.in-InOctets.is)
    (λ origin before line tokens cut is. says_written _ c.push_in_octets.new.out.items _ origin before line tokens c.in-InOctets.around (in_octets c.in-InOctets.around.number c.args.stated.now.octets.items) (turns.InOctets c.in-InOctets.around) refl is.0
    (octets_pushed _ _ _ _ c.in-InOctets.around.number is.0.back (rw (c.clear-in-InOctets.ensures.items, c.deref-in-InOctets.ensures.value, c.deref-in-InOctets-2.ensures.value) at c.in_ok-push_in_octets-in-InOctets.ensures) is.1)
    (rw (c.deref-in-InOctets-3.ensures.value) at c.in_ok-extend_from_slice-in-InOctets.ensures.items))
