-- The question and the answers of a message that was parsed, and the answers that are still to
-- come.
use Rattle.zone_wire.proofs.Common.{AreAt, AreRecordsAt, Found, HasRecordsFrom, IsMessage, IsNameAt, IsParsed, IsQuestionAt, IsRecordAt, List, QuestionAt, RecordAt, Sections, [], ap, arith, get_or, length, map, named, outcome, parsed, question_by, raw_at, raw_from, record_at, record_by, refl, sym, u16_at, walk, ℕ, ◌-◌, ◌<◌, ◌∙◌, ◌∷◌, ◌≡◌}
use Rattle.zone_wire.proofs.Messages.Sections.{one_part, part_reads, each_reads}
use Rattle.zone_wire.proofs.Names.Walking.{one_name, walk_names, name_walks}

-- records that stand somewhere are read there
pub stand_read : (octets : List ℕ) (count offset : ℕ) (s : HasRecordsFrom octets count offset) → raw_from octets count offset ≡ map (raw_at octets) s.records
stand_read octets count offset s = cc (each_reads (record_at octets) (λ r. r.end) (IsRecordAt octets) (λ o x. part_reads o x) s.records count offset s.past s.counted s.stand)

-- the first of them, and the others
pub record OneMore (octets : List ℕ) (count offset : ℕ) : Type 0 where
  pub first : RecordAt
  pub is : IsRecordAt octets offset first
  pub rest : HasRecordsFrom octets (count - 1) first.end
  pub shown : raw_from octets count offset ≡ raw_at octets first ∷ raw_from octets (count - 1) first.end

pub one_more : (octets : List ℕ) (count offset : ℕ) → HasRecordsFrom octets count offset → (count ≡ 0 → ⊥) → OneMore octets count offset
one_more octets count offset s some = by s.records s.stand s.counted (stand_read octets count offset s)
  where
    by : (records : List RecordAt) → AreRecordsAt octets offset records s.past → length records ≡ count → raw_from octets count offset ≡ map (raw_at octets) records → OneMore octets count offset
    by [] stand counted shown = absurd (some (sym counted))
    by (first ∷ others) stand counted shown =
        let rest : HasRecordsFrom octets (count - 1) first.end = record { records = others; past = s.past; stand = stand.1; counted = omega (arith, counted) } in
        record { first = first; is = stand.0; rest = rest; shown = shown ∙ ap (λ rs. raw_at octets first ∷ rs) (sym (stand_read octets (count - 1) first.end rest)) }

-- the same by any record that stands there first
pub one_more_is : (octets : List ℕ) (count offset : ℕ) → HasRecordsFrom octets count offset → (count ≡ 0 → ⊥) → (r : RecordAt) → IsRecordAt octets offset r → (end : ℕ) → r.end ≡ end → HasRecordsFrom octets (count - 1) end × (raw_from octets count offset ≡ raw_at octets r ∷ raw_from octets (count - 1) end)
one_more_is octets count offset s some r is end e =
    let more = one_more octets count offset s some in
    let same : more.first ≡ r = one_part offset more.first r more.is is in
    grind arith

-- the record after the name that a walk finds, where a record stands
pub record_walked : (octets : List ℕ) (offset : ℕ) → ((k : ℕ) → get_or octets k 0 < 256) → (r : RecordAt) → IsRecordAt octets offset r → (found : Found) → outcome octets (walk octets offset) ≡ named found → IsRecordAt octets offset (record_by octets offset found)
record_walked octets offset each r is found e = let name = walk_names octets offset found each e in grind (arith, one_name)

-- the answers of a message that was parsed
pub answers_stand : (octets : List ℕ) (answers : ℕ) → IsParsed octets answers → HasRecordsFrom octets (u16_at octets 6) answers
answers_stand octets answers is = grind arith

pub answers_shown : (octets : List ℕ) (answers : ℕ) → IsParsed octets answers → raw_from octets (u16_at octets 6) answers ≡ map (raw_at octets) (parsed octets).sections.answers
unfolding answers_stand
answers_shown octets answers is = stand_read octets (u16_at octets 6) answers (answers_stand octets answers is)

-- the question of a message that has one
pub record HasOneQuestion (octets : List ℕ) (questions : List QuestionAt) : Type 0 where
  pub only : QuestionAt
  pub is : IsQuestionAt octets 12 only
  pub alone : questions ≡ only ∷ []

pub has_one_question : (octets : List ℕ) (s : Sections) → IsMessage octets s → (u16_at octets 4 ≡ 0 → ⊥) → HasOneQuestion octets s.questions
has_one_question octets s is some = by s.questions is.question_count is.questions
  where
    by : (questions : List QuestionAt) → length questions ≡ u16_at octets 4 → AreAt (IsQuestionAt octets) (λ q. q.end) 12 questions is.past_questions → HasOneQuestion octets questions
    by [] count are = absurd (some (sym count))
    by (q ∷ []) count are = record { only = q; is = are.0; alone = refl }
    by (q ∷ other ∷ questions) count are = absurd (omega (arith, count, is.header.counts.0))

pub question_of_name : (octets : List ℕ) (questions : List QuestionAt) (h : HasOneQuestion octets questions) (found : Found) → IsNameAt octets 12 found → (questions ≡ question_by octets found ∷ []) × IsQuestionAt octets 12 (question_by octets found)
question_of_name octets questions h found name = grind (arith, one_name)

pub ruleset records_walked = (record_walked, name_walks)
