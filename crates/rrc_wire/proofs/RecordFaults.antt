-- SPDX-License-Identifier: MIT
-- Reading data, records and questions fails where they have a fault, and only there.
use Rattle.std.proofs.Common.{◌≡◌, ℕ, ◌+◌, ◌≤◌, Bool, true, false, List, [], ◌++◌, length, Option, Some, None, Result, Ok, Err, refl, ap, subst, ◌∙◌, arith, nat_le, eqb, MatchOption}
use Rattle.std.specs.Prelude.{slice_range}
use Rattle.rrc_wire.specs.declared.fault.WireFault.{WireFault}
use Rattle.rrc_wire.specs.declared.fault.WireFault.TheVariants.{Short, BadData}
use Rattle.rrc_wire.specs.Layout.{LayoutOf, layout_of}
use Rattle.rrc_wire.specs.Reading.{◌>>=◌, word_at, within, times}
use Rattle.rrc_wire.specs.Item.{to_end, in_data}
use Rattle.rrc_wire.specs.Name.{name_at}
use Rattle.rrc_wire.specs.Question.{question_at}
use Rattle.rrc_wire.specs.Data.{name_in_data, last_octets, laid_out_at, data_of, data_at}
use Rattle.rrc_wire.specs.Record.{keeps, kept_at, record_at, section_at}
use Rattle.rrc_wire.specs.Grammar.{StandsAt, RecordAt}
use Rattle.rrc_wire.specs.FirstFault.{NameFails, LayoutFails, DataFail, RecordFails, SectionFails, QuestionFails}
use Rattle.rrc_wire.proofs.Steps.{test_true, le_true, true_le, within-finds, within-reads, times-finds, times-reads}
use Rattle.rrc_wire.proofs.NameGrammar.{name_at-stands, StandsAt-reads}
use Rattle.rrc_wire.proofs.RecordGrammar.{outer-stands, outer-reads, record_of, kept_where, with_end, behind_end, behind_fields, behind_owner, question_of, behind_name, record_at-finds, record_at-reads}
use Rattle.rrc_wire.proofs.Failing.{Breaks, at_once, behind, bind_err, first_err, then_err, err_is, Parts, so, not_so, cond_err, test_false, le_false, false_le, eq_false, false_eq, within-fails, within-short, times-fails, times-fault}
use Rattle.rrc_wire.proofs.NameFaults.{name_at-fails, name_at-fault, outer-fails, outer-fault}

-- ---- data

abbrev names_read : List ℕ → LayoutOf → ℕ → ℕ → Result (List ℕ × ℕ) WireFault
names_read message layout place end = times (name_in_data message end) layout.names (slice_range message place (place + layout.before)) (place + layout.before)

abbrev NameInData : List ℕ → ℕ → ℕ → WireFault → Type 0
NameInData message end at = NameFails message (in_data at end) 0 at

last_octets-fails : (message : List ℕ) (layout : LayoutOf) (end : ℕ) (before : List ℕ × ℕ) (fault : WireFault) → last_octets message layout end before ≡ Err fault
    → (before.1 + layout.behind ≡ end → ⊥) × (BadData ≡ fault)
last_octets-fails message layout end before fault h =
    by (cond_err (eqb (before.1 + layout.behind) end) (Ok (before.0 ++ slice_range message before.1 end)) (Err BadData) fault h)
  where
    by : Parts (eqb (before.1 + layout.behind) end) (Ok (before.0 ++ slice_range message before.1 end)) (Err BadData) fault → (before.1 + layout.behind ≡ end → ⊥) × (BadData ≡ fault)
    by (so is e) = absurd cc
    by (not_so is e) = (false_eq (before.1 + layout.behind) end is, err_is BadData fault e)

laid_out-fails : (message : List ℕ) (layout : LayoutOf) (place end : ℕ) (fault : WireFault) → end ≤ length message → laid_out_at message layout place end ≡ Err fault
    → LayoutFails message layout place end fault
laid_out-fails message layout place end fault inside h =
    by (cond_err (nat_le (place + layout.before) end) (names_read message layout place end >>= last_octets message layout end) (Err BadData) fault h)
  where
    parts : place + layout.before ≤ end → Breaks (names_read message layout place end) (last_octets message layout end) fault → LayoutFails message layout place end fault
    parts room (at_once is) =
        LayoutFails.name room
        (times-fails (name_in_data message end) (StandsAt message end) (NameInData message end) (λ at name next found. name_at-stands message (in_data at end) name next inside found)
        (λ at own e. name_at-fails message (in_data at end) own inside e) layout.names (slice_range message place (place + layout.before)) (place + layout.before) fault is)
    parts room (behind read is e) =
        let first = slice_range message place (place + layout.before) in
        let found = times-finds (name_in_data message end) (StandsAt message end) (λ at name next is. name_at-stands message (in_data at end) name next inside is) layout.names first (place + layout.before) read.0 read.1 is in
        let last = last_octets-fails message layout end read fault e in
        subst (LayoutFails message layout place end) last.1 (LayoutFails.last room found.stand last.0)

    by : Parts (nat_le (place + layout.before) end) (names_read message layout place end >>= last_octets message layout end) (Err BadData) fault → LayoutFails message layout place end fault
    by (so is e) = parts (true_le (place + layout.before) end is) (bind_err (names_read message layout place end) (last_octets message layout end) fault e)
    by (not_so is e) = subst (LayoutFails message layout place end) (err_is BadData fault e) (LayoutFails.first (false_le (place + layout.before) end is))

LayoutFails-breaks : {message : List ℕ} {layout : LayoutOf} {place end : ℕ} {fault : WireFault} → end ≤ length message → LayoutFails message layout place end fault
    → laid_out_at message layout place end ≡ Err fault
LayoutFails-breaks {message} {layout} {place} {end} inside (LayoutFails.first less) =
    test_false (nat_le (place + layout.before) end) (names_read message layout place end >>= last_octets message layout end) (Err BadData) (le_false (place + layout.before) end less)
LayoutFails-breaks {message} {layout} {place} {end} inside (LayoutFails.name {fault = fault} room one) =
    test_true (nat_le (place + layout.before) end) (names_read message layout place end >>= last_octets message layout end) (Err BadData) (le_true (place + layout.before) end room)
    ∙ first_err (names_read message layout place end) (last_octets message layout end) fault
    (times-fault (name_in_data message end) (StandsAt message end) (λ at name next stands. StandsAt-reads message end at next name BadData inside stands) one.stand layout.names one.fewer
    (slice_range message place (place + layout.before)) fault (name_at-fault message (in_data one.middle end) fault inside one.fails))
LayoutFails-breaks {message} {layout} {place} {end} inside (LayoutFails.last {names = names} {behind = follows} room stand other) =
    let first = slice_range message place (place + layout.before) in
    test_true (nat_le (place + layout.before) end) (names_read message layout place end >>= last_octets message layout end) (Err BadData) (le_true (place + layout.before) end room)
    ∙ then_err (names_read message layout place end) (last_octets message layout end) (first ++ names, follows) BadData
    (times-reads (name_in_data message end) (StandsAt message end) (λ at name next stands. StandsAt-reads message end at next name BadData inside stands) stand first)
    (test_false (eqb (follows + layout.behind) end) (Ok ((first ++ names) ++ slice_range message follows end)) (Err BadData) (eq_false (follows + layout.behind) end other))

data-fails : (message : List ℕ) (layout : Option LayoutOf) (place end : ℕ) (fault : WireFault) → end ≤ length message → data_of layout message place end ≡ Err fault
    → MatchOption layout ⊥ (λ l. LayoutFails message l place end fault)
data-fails message None place end fault inside h = absurd cc
data-fails message (Some layout) place end fault inside h = laid_out-fails message layout place end fault inside h

data-breaks : (message : List ℕ) (layout : Option LayoutOf) (place end : ℕ) (fault : WireFault) → end ≤ length message
    → MatchOption layout ⊥ (λ l. LayoutFails message l place end fault) → data_of layout message place end ≡ Err fault
data-breaks message None place end fault inside bad = absurd bad
data-breaks message (Some layout) place end fault inside bad = LayoutFails-breaks inside bad

-- ---- records

-- a record that is kept, and whose data have a fault
record KeptFails (message : List ℕ) (fields end : ℕ) (fault : WireFault) : Type 0 where
  is_kept : keeps message fields ≡ true
  bad : DataFail message (word_at message fields) (fields + 10) end fault

kept-fails : (b : Bool) (message owner : List ℕ) (fields end : ℕ) (fault : WireFault) → end ≤ length message → keeps message fields ≡ b
    → kept_where b message owner fields end ≡ Err fault → KeptFails message fields end fault
kept-fails true message owner fields end fault inside is h = by (bind_err (data_at message (word_at message fields) (fields + 10) end) (record_of message owner fields) fault h)
  where
    by : Breaks (data_at message (word_at message fields) (fields + 10) end) (record_of message owner fields) fault → KeptFails message fields end fault
    by (at_once e) = record { is_kept = is; bad = data-fails message (layout_of (word_at message fields)) (fields + 10) end fault inside e }
    by (behind rdata found e) = absurd cc
kept-fails false message owner fields end fault inside is h = absurd cc

kept-breaks : (message owner : List ℕ) (fields end : ℕ) (fault : WireFault) → end ≤ length message → keeps message fields ≡ true
    → DataFail message (word_at message fields) (fields + 10) end fault → kept_at message owner fields end ≡ Err fault
kept-breaks message owner fields end fault inside is bad =
    ap (λ b. kept_where b message owner fields end) is
    ∙ first_err (data_at message (word_at message fields) (fields + 10) end) (record_of message owner fields) fault
    (data-breaks message (layout_of (word_at message fields)) (fields + 10) end fault inside bad)

end-fails : (message : List ℕ) (place : ℕ) (owner : List ℕ) (fields end : ℕ) (fault : WireFault) → StandsAt message (length message) place owner fields
    → end ≡ fields + 10 + word_at message (fields + 8) → end ≤ length message → behind_end message (owner, fields) end ≡ Err fault → RecordFails message place fault
end-fails message place owner fields end fault stands is inside h = by (bind_err (kept_at message owner fields end) (with_end end) fault h)
  where
    by : Breaks (kept_at message owner fields end) (with_end end) fault → RecordFails message place fault
    by (at_once e) = let found = kept-fails (keeps message fields) message owner fields end fault inside refl e in RecordFails.data_fail stands is inside found.is_kept found.bad
    by (behind records found e) = absurd cc

fields-fails : (message : List ℕ) (place : ℕ) (owner : List ℕ) (fields : ℕ) (fault : WireFault) → StandsAt message (length message) place owner fields
    → fields + 10 ≤ length message → behind_fields message (owner, fields) (fields + 10) ≡ Err fault → RecordFails message place fault
fields-fails message place owner fields fault stands inside h =
    by (bind_err (within message (fields + 10) (word_at message (fields + 8))) (behind_end message (owner, fields)) fault h)
  where
    by : Breaks (within message (fields + 10) (word_at message (fields + 8))) (behind_end message (owner, fields)) fault → RecordFails message place fault
    by (at_once e) =
        let cut = within-fails message (fields + 10) (word_at message (fields + 8)) fault e in
        subst (RecordFails message place) cut.1 (RecordFails.rdata stands inside cut.0)
    by (behind end found e) =
        let all = within-finds message (fields + 10) (word_at message (fields + 8)) end found in
        end-fails message place owner fields end fault stands all.is all.inside e

owner-fails : (message : List ℕ) (place : ℕ) (owner : List ℕ) (fields : ℕ) (fault : WireFault) → StandsAt message (length message) place owner fields
    → behind_owner message (owner, fields) ≡ Err fault → RecordFails message place fault
owner-fails message place owner fields fault stands h = by (bind_err (within message fields 10) (behind_fields message (owner, fields)) fault h)
  where
    by : Breaks (within message fields 10) (behind_fields message (owner, fields)) fault → RecordFails message place fault
    by (at_once e) = let cut = within-fails message fields 10 fault e in subst (RecordFails message place) cut.1 (RecordFails.fields stands cut.0)
    by (behind begin found e) =
        let fixed = within-finds message fields 10 begin found in
        fields-fails message place owner fields fault stands (omega (arith, fixed.is, fixed.inside))
        (subst (λ n. behind_fields message (owner, fields) n ≡ Err fault) fixed.is e)

pub record_at-fails : (message : List ℕ) (place : ℕ) (fault : WireFault) → record_at message place ≡ Err fault → RecordFails message place fault
record_at-fails message place fault h = by (bind_err (name_at message (to_end message place)) (behind_owner message) fault h)
  where
    by : Breaks (name_at message (to_end message place)) (behind_owner message) fault → RecordFails message place fault
    by (at_once e) = RecordFails.owner (outer-fails message place fault e)
    by (behind owner found e) = owner-fails message place owner.0 owner.1 fault (outer-stands message place owner.0 owner.1 found) e

-- what follows an owner that stands
behind_owner-breaks : (message : List ℕ) (place : ℕ) (owner : List ℕ) (fields : ℕ) (fault : WireFault) → StandsAt message (length message) place owner fields
    → behind_owner message (owner, fields) ≡ Err fault → record_at message place ≡ Err fault
behind_owner-breaks message place owner fields fault stands next =
    then_err (name_at message (to_end message place)) (behind_owner message) (owner, fields) fault (outer-reads message place owner fields stands) next

-- what follows the fixed fields
behind_fields-breaks : (message owner : List ℕ) (fields : ℕ) (fault : WireFault) → fields + 10 ≤ length message → behind_fields message (owner, fields) (fields + 10) ≡ Err fault
    → behind_owner message (owner, fields) ≡ Err fault
behind_fields-breaks message owner fields fault inside next =
    then_err (within message fields 10) (behind_fields message (owner, fields)) (fields + 10) fault (within-reads message fields 10 (fields + 10) refl inside) next

RecordFails-breaks : {message : List ℕ} {place : ℕ} {fault : WireFault} → RecordFails message place fault → record_at message place ≡ Err fault
RecordFails-breaks {message} {place} (RecordFails.owner {fault = fault} bad) =
    first_err (name_at message (to_end message place)) (behind_owner message) fault (outer-fault message place fault bad)
RecordFails-breaks {message} {place} (RecordFails.fields {owner = owner} {fields = fields} stands less) =
    behind_owner-breaks message place owner fields Short stands
    (first_err (within message fields 10) (behind_fields message (owner, fields)) Short (within-short message fields 10 less))
RecordFails-breaks {message} {place} (RecordFails.rdata {owner = owner} {fields = fields} stands inside less) =
    behind_owner-breaks message place owner fields Short stands
    (behind_fields-breaks message owner fields Short inside
    (first_err (within message (fields + 10) (word_at message (fields + 8))) (behind_end message (owner, fields)) Short (within-short message (fields + 10) (word_at message (fields + 8)) less)))
RecordFails-breaks {message} {place} (RecordFails.data_fail {owner = owner} {fields = fields} {end = end} {fault = fault} stands is inside kept bad) =
    behind_owner-breaks message place owner fields fault stands
    (behind_fields-breaks message owner fields fault (omega (arith, is, inside))
    (then_err (within message (fields + 10) (word_at message (fields + 8))) (behind_end message (owner, fields)) end fault (within-reads message (fields + 10) (word_at message (fields + 8)) end is inside)
    (first_err (kept_at message owner fields end) (with_end end) fault (kept-breaks message owner fields end fault inside kept bad))))

pub section_at-fails : (message : List ℕ) (count place : ℕ) (fault : WireFault) → section_at message count place ≡ Err fault → SectionFails message count place fault
unfolding section_at
section_at-fails message count place fault h =
    times-fails (record_at message) (RecordAt message) (RecordFails message) (record_at-finds message) (record_at-fails message) count [] place fault h

pub section_at-fault : (message : List ℕ) (count place : ℕ) (fault : WireFault) → SectionFails message count place fault → section_at message count place ≡ Err fault
unfolding section_at
section_at-fault message count place fault one =
    times-fault (record_at message) (RecordAt message) (record_at-reads message) one.stand count one.fewer [] fault (RecordFails-breaks one.fails)

-- ---- the question

question-fails : (message : List ℕ) (place : ℕ) (name : List ℕ) (fields : ℕ) (fault : WireFault) → StandsAt message (length message) place name fields
    → behind_name message (name, fields) ≡ Err fault → QuestionFails message place fault
question-fails message place name fields fault stands h = by (bind_err (within message fields 4) (question_of message (name, fields)) fault h)
  where
    by : Breaks (within message fields 4) (question_of message (name, fields)) fault → QuestionFails message place fault
    by (at_once e) = let cut = within-fails message fields 4 fault e in subst (QuestionFails message place) cut.1 (QuestionFails.fields stands cut.0)
    by (behind next found e) = absurd cc

pub question_at-fails : (message : List ℕ) (place : ℕ) (fault : WireFault) → question_at message place ≡ Err fault → QuestionFails message place fault
unfolding question_at
question_at-fails message place fault h = by (bind_err (name_at message (to_end message place)) (behind_name message) fault h)
  where
    by : Breaks (name_at message (to_end message place)) (behind_name message) fault → QuestionFails message place fault
    by (at_once e) = QuestionFails.name (outer-fails message place fault e)
    by (behind name found e) = question-fails message place name.0 name.1 fault (outer-stands message place name.0 name.1 found) e

pub question_at-fault : {message : List ℕ} {place : ℕ} {fault : WireFault} → QuestionFails message place fault → question_at message place ≡ Err fault
unfolding question_at
question_at-fault {message} {place} (QuestionFails.name {fault = fault} bad) =
    first_err (name_at message (to_end message place)) (behind_name message) fault (outer-fault message place fault bad)
question_at-fault {message} {place} (QuestionFails.fields {name = name} {fields = fields} stands less) =
    then_err (name_at message (to_end message place)) (behind_name message) (name, fields) Short (outer-reads message place name fields stands)
    (first_err (within message fields 4) (question_of message (name, fields)) Short (within-short message fields 4 less))
