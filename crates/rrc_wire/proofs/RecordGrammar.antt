-- SPDX-License-Identifier: MIT
-- Data, records and questions are read where they stand, and only there.
use Rattle.std.proofs.Common.{◌≡◌, ℕ, ◌+◌, ◌≤◌, Bool, true, false, cond, List, [], ◌∷◌, ◌++◌, length, Option, Some, None, Result, Ok, Err, refl, sym, ap, subst, ◌∙◌, arith, nat_le, eqb, MatchOption}
use Rattle.std.specs.Prelude.{slice_range}
use Rattle.rrc_wire.specs.declared.fault.WireFault.{WireFault}
use Rattle.rrc_wire.specs.declared.fault.WireFault.TheVariants.{Short, BadData}
use Rattle.rrc_wire.specs.Layout.{LayoutOf, layout_of}
use Rattle.rrc_wire.specs.declared.question.Question.{Question}
use Rattle.rrc_wire.specs.declared.record.Rr.{Rr}
use Rattle.rrc_wire.specs.Reading.{◌>>=◌, word_at, within, times}
use Rattle.rrc_wire.specs.Item.{to_end, in_data}
use Rattle.rrc_wire.specs.Name.{name_at}
use Rattle.rrc_wire.specs.Question.{question_at}
use Rattle.rrc_wire.specs.Data.{name_in_data, last_octets, laid_out_at, data_of, data_at}
use Rattle.rrc_wire.specs.Record.{keeps, rr_of, kept_at, record_at, section_at}
use Rattle.rrc_wire.specs.Grammar.{StandsAt, Follow, IsLaidOut, Keeps, kept, read_over, RecordAt, QuestionAt}
use Rattle.rrc_wire.proofs.Steps.{ok_is, bind_ok, then_ok, test_ok, test_true, le_true, true_le, eq_true, true_eq, within-finds, within-reads, times-finds, times-reads}
use Rattle.rrc_wire.proofs.NameGrammar.{name_at-stands, StandsAt-reads}

-- a name of a question or an owner

pub outer-stands : (message : List ℕ) (place : ℕ) (name : List ℕ) (next : ℕ) → name_at message (to_end message place) ≡ Ok (name, next) → StandsAt message (length message) place name next
outer-stands message place name next h = name_at-stands message (to_end message place) name next (omega arith) h

pub outer-reads : (message : List ℕ) (place : ℕ) (name : List ℕ) (next : ℕ) → StandsAt message (length message) place name next → name_at message (to_end message place) ≡ Ok (name, next)
outer-reads message place name next stands = StandsAt-reads message (length message) place next name Short (omega arith) stands

-- data

last_octets-finds : (message : List ℕ) (layout : LayoutOf) (end : ℕ) (before : List ℕ × ℕ) (rdata : List ℕ) → last_octets message layout end before ≡ Ok rdata
    → (before.1 + layout.behind ≡ end) × (rdata ≡ before.0 ++ slice_range message before.1 end)
last_octets-finds message layout end before rdata h =
    let test = test_ok (eqb (before.1 + layout.behind) end) (Ok (before.0 ++ slice_range message before.1 end)) BadData rdata h in
    (true_eq (before.1 + layout.behind) end test.0, sym (ok_is (before.0 ++ slice_range message before.1 end) rdata test.1))

laid_out-finds : (message : List ℕ) (layout : LayoutOf) (place end : ℕ) (rdata : List ℕ) → end ≤ length message → laid_out_at message layout place end ≡ Ok rdata
    → IsLaidOut message layout place end rdata
laid_out-finds message layout place end rdata inside h =
    let names = place + layout.before in
    let first = slice_range message place names in
    let read = times (name_in_data message end) layout.names first names in
    let test = test_ok (nat_le names end) (read >>= last_octets message layout end) BadData rdata h in
    let step = bind_ok read (last_octets message layout end) rdata test.1 in
    let found = times-finds (name_in_data message end) (StandsAt message end) (λ at name next is. name_at-stands message (in_data at end) name next inside is) layout.names first names step.0.0 step.0.1 step.1 in
    let last = last_octets-finds message layout end step.0 rdata step.2 in
    record {
      names = found.others;
      behind = step.0.1;
      names_stand = found.stand;
      first_octets = true_le names end test.0;
      last_octets = last.0;
      expanded = last.1 ∙ ap (λ octets. octets ++ slice_range message step.0.1 end) found.pieces_are;
    }

laid_out-reads : (message : List ℕ) (layout : LayoutOf) (place end : ℕ) (rdata : List ℕ) → end ≤ length message → IsLaidOut message layout place end rdata
    → laid_out_at message layout place end ≡ Ok rdata
laid_out-reads message layout place end rdata inside is =
    let names = place + layout.before in
    let first = slice_range message place names in
    let read = times (name_in_data message end) layout.names first names in
    test_true (nat_le names end) (read >>= last_octets message layout end) (Err BadData) (le_true names end is.first_octets)
    ∙ then_ok read (last_octets message layout end) (first ++ is.names, is.behind) rdata
    (times-reads (name_in_data message end) (StandsAt message end) (λ at name next stands. StandsAt-reads message end at next name BadData inside stands) is.names_stand first)
    (test_true (eqb (is.behind + layout.behind) end) (Ok ((first ++ is.names) ++ slice_range message is.behind end)) (Err BadData) (eq_true (is.behind + layout.behind) end is.last_octets)
    ∙ ap (λ octets. Ok octets) (sym is.expanded))

data-finds : (message : List ℕ) (layout : Option LayoutOf) (place end : ℕ) (rdata : List ℕ) → end ≤ length message → data_of layout message place end ≡ Ok rdata
    → MatchOption layout (rdata ≡ slice_range message place end) (λ l. IsLaidOut message l place end rdata)
data-finds message None place end rdata inside h = sym (ok_is (slice_range message place end) rdata h)
data-finds message (Some layout) place end rdata inside h = laid_out-finds message layout place end rdata inside h

data-reads : (message : List ℕ) (layout : Option LayoutOf) (place end : ℕ) (rdata : List ℕ) → end ≤ length message
    → MatchOption layout (rdata ≡ slice_range message place end) (λ l. IsLaidOut message l place end rdata) → data_of layout message place end ≡ Ok rdata
data-reads message None place end rdata inside is = ap (λ octets. Ok octets) (sym is)
data-reads message (Some layout) place end rdata inside is = laid_out-reads message layout place end rdata inside is

-- records

abbrev pub record_of : List ℕ → List ℕ → ℕ → List ℕ → Result (List Rr) WireFault
record_of message owner fields rdata = Ok (rr_of message owner fields rdata ∷ [])

abbrev pub kept_where : Bool → List ℕ → List ℕ → ℕ → ℕ → Result (List Rr) WireFault
kept_where b message owner fields end = cond b (data_at message (word_at message fields) (fields + 10) end >>= record_of message owner fields) (Ok [])

kept-finds : (b : Bool) (message owner : List ℕ) (fields end : ℕ) (records : List Rr) → end ≤ length message → keeps message fields ≡ b
    → kept_where b message owner fields end ≡ Ok records → Keeps message owner fields end records
kept-finds true message owner fields end records inside is h =
    let rtype = word_at message fields in
    let step = bind_ok (data_at message rtype (fields + 10) end) (record_of message owner fields) records h in
    subst (Keeps message owner fields end) (ok_is (rr_of message owner fields step.0 ∷ []) records step.2)
    (kept is (data-finds message (layout_of rtype) (fields + 10) end step.0 inside step.1))
kept-finds false message owner fields end records inside is h = subst (Keeps message owner fields end) (ok_is [] records h) (read_over is)

kept-reads : {message owner : List ℕ} {fields end : ℕ} {records : List Rr} → end ≤ length message → Keeps message owner fields end records → kept_at message owner fields end ≡ Ok records
kept-reads {message} {owner} {fields} {end} inside (kept {rdata = rdata} is found) =
    ap (λ b. kept_where b message owner fields end) is
    ∙ then_ok (data_at message (word_at message fields) (fields + 10) end) (record_of message owner fields) rdata (rr_of message owner fields rdata ∷ [])
    (data-reads message (layout_of (word_at message fields)) (fields + 10) end rdata inside found) refl
kept-reads {message} {owner} {fields} {end} inside (read_over is) = ap (λ b. kept_where b message owner fields end) is

abbrev pub with_end : ℕ → List Rr → Result (List Rr × ℕ) WireFault
with_end end records = Ok (records, end)

abbrev pub behind_end : List ℕ → List ℕ × ℕ → ℕ → Result (List Rr × ℕ) WireFault
behind_end message owner end = kept_at message owner.0 owner.1 end >>= with_end end

abbrev pub behind_fields : List ℕ → List ℕ × ℕ → ℕ → Result (List Rr × ℕ) WireFault
behind_fields message owner begin = within message begin (word_at message (owner.1 + 8)) >>= behind_end message owner

abbrev pub behind_owner : List ℕ → List ℕ × ℕ → Result (List Rr × ℕ) WireFault
behind_owner message owner = within message owner.1 10 >>= behind_fields message owner

pub record_at-finds : (message : List ℕ) (place : ℕ) (records : List Rr) (next : ℕ) → record_at message place ≡ Ok (records, next) → RecordAt message place records next
record_at-finds message place records next h =
    let owner = bind_ok (name_at message (to_end message place)) (behind_owner message) (records, next) h in
    let fields = owner.0.1 in
    let begin = bind_ok (within message fields 10) (behind_fields message owner.0) (records, next) owner.2 in
    let end = bind_ok (within message begin.0 (word_at message (fields + 8))) (behind_end message owner.0) (records, next) begin.2 in
    let found = bind_ok (kept_at message owner.0.0 fields end.0) (with_end end.0) (records, next) end.2 in
    let fixed = within-finds message fields 10 begin.0 begin.1 in
    let all = within-finds message begin.0 (word_at message (fields + 8)) end.0 end.1 in
    let same : (found.0, end.0) ≡ (records, next) = ok_is (found.0, end.0) (records, next) found.2 in
    let at_end : end.0 ≡ next = ap (λ (p : List Rr × ℕ). p.1) same in
    let held : Keeps message owner.0.0 fields end.0 found.0 = kept-finds (keeps message fields) message owner.0.0 fields end.0 found.0 all.inside refl found.1 in
    record {
      owner = owner.0.0;
      fields = fields;
      owner_stands = outer-stands message place owner.0.0 fields owner.1;
      rdlength = sym at_end ∙ all.is ∙ ap (λ n. n + word_at message (fields + 8)) fixed.is;
      within = subst (λ n. n ≤ length message) at_end all.inside;
      keeps = subst (λ (p : List Rr × ℕ). Keeps message owner.0.0 fields p.1 p.0) same held;
    }

pub record_at-reads : (message : List ℕ) (place : ℕ) (records : List Rr) (next : ℕ) → RecordAt message place records next → record_at message place ≡ Ok (records, next)
record_at-reads message place records next is =
    let owner : List ℕ × ℕ = (is.owner, is.fields) in
    then_ok (name_at message (to_end message place)) (behind_owner message) owner (records, next) (outer-reads message place is.owner is.fields is.owner_stands)
    (then_ok (within message is.fields 10) (behind_fields message owner) (is.fields + 10) (records, next) (within-reads message is.fields 10 (is.fields + 10) refl (omega (arith, is.rdlength, is.within)))
    (then_ok (within message (is.fields + 10) (word_at message (is.fields + 8))) (behind_end message owner) next (records, next) (within-reads message (is.fields + 10) (word_at message (is.fields + 8)) next is.rdlength is.within)
    (then_ok (kept_at message is.owner is.fields next) (with_end next) records (records, next) (kept-reads is.within is.keeps) refl)))

pub section_at-finds : (message : List ℕ) (count place : ℕ) (records : List Rr) (next : ℕ) → section_at message count place ≡ Ok (records, next) → Follow (RecordAt message) count place records next
unfolding section_at
section_at-finds message count place records next h =
    let found = times-finds (record_at message) (RecordAt message) (record_at-finds message) count [] place records next h in
    subst (λ kept_ones. Follow (RecordAt message) count place kept_ones next) (sym found.pieces_are) found.stand

pub section_at-reads : (message : List ℕ) (count place : ℕ) (records : List Rr) (next : ℕ) → Follow (RecordAt message) count place records next → section_at message count place ≡ Ok (records, next)
unfolding section_at
section_at-reads message count place records next follow = times-reads (record_at message) (RecordAt message) (record_at-reads message) follow []

-- the question

abbrev pub question_of : List ℕ → List ℕ × ℕ → ℕ → Result (Question × ℕ) WireFault
question_of message name next = Ok (record { name = name.0; qtype = word_at message name.1; qclass = word_at message (name.1 + 2) }, next)

abbrev pub behind_name : List ℕ → List ℕ × ℕ → Result (Question × ℕ) WireFault
behind_name message name = within message name.1 4 >>= question_of message name

pub question_at-finds : (message : List ℕ) (place : ℕ) (question : Question) (next : ℕ) → question_at message place ≡ Ok (question, next) → QuestionAt message place question next
unfolding question_at
question_at-finds message place question next h =
    let name = bind_ok (name_at message (to_end message place)) (behind_name message) (question, next) h in
    let end = bind_ok (within message name.0.1 4) (question_of message name.0) (question, next) name.2 in
    let four = within-finds message name.0.1 4 end.0 end.1 in
    let made : Question × ℕ = (record { name = name.0.0; qtype = word_at message name.0.1; qclass = word_at message (name.0.1 + 2) }, end.0) in
    subst (λ (p : Question × ℕ). QuestionAt message place p.0 p.1) (ok_is made (question, next) end.2) (record {
      fields = name.0.1;
      name_stands = outer-stands message place name.0.0 name.0.1 name.1;
      qtype = refl;
      qclass = refl;
      four_octets = four.is;
      within = four.inside;
    })

pub question_at-reads : (message : List ℕ) (place : ℕ) (question : Question) (next : ℕ) → QuestionAt message place question next → question_at message place ≡ Ok (question, next)
unfolding question_at
question_at-reads message place question next is =
    let name : List ℕ × ℕ = (question.name, is.fields) in
    let same : (record { name = question.name; qtype = word_at message is.fields; qclass = word_at message (is.fields + 2) }) ≡ question =
    λ i. record { name = question.name; qtype = sym is.qtype i; qclass = sym is.qclass i } in
    then_ok (name_at message (to_end message place)) (behind_name message) name (question, next) (outer-reads message place question.name is.fields is.name_stands)
    (then_ok (within message is.fields 4) (question_of message name) next (question, next) (within-reads message is.fields 4 next is.four_octets is.within)
    (ap (λ (q : Question). Ok (q, next)) same))
