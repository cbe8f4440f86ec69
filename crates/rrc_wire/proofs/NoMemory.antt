-- SPDX-License-Identifier: MIT
-- Reading needs no memory: that fault is the reader's own.
use Rattle.std.proofs.Common.{◌≡◌, ◌≢◌, ℕ, zero, suc, ◌+◌, Bool, true, false, cond, List, [], ◌∷◌, ◌++◌, length, Option, Some, None, Result, Ok, Err, refl, nat_le, nat_lt, eqb, unwrap_or, arith}
use Rattle.std.specs.Prelude.{slice_range, not}
use Rattle.std.proofs.lemmas.Bool.Decides.{nat_tests}
use Rattle.rrc_wire.specs.declared.fault.WireFault.{WireFault}
use Rattle.rrc_wire.specs.declared.fault.WireFault.TheVariants.{Short, BadData, NotResponse, NotOneQuestion, TooLong, Memory}
use Rattle.rrc_wire.specs.Item.{ItemOf, End, Label, Pointer, RunOf, item_at, to_end, in_data}
use Rattle.rrc_wire.specs.Layout.{LayoutOf, layout_of}
use Rattle.rrc_wire.specs.declared.record.Rr.{Rr}
use Rattle.rrc_wire.specs.Reading.{◌>>=◌, word_at, within, times}
use Rattle.rrc_wire.specs.Header.{flag, fields_of, header_of}
use Rattle.rrc_wire.specs.Name.{name_from, name_at}
use Rattle.rrc_wire.specs.Question.{question_at}
use Rattle.rrc_wire.specs.Data.{name_in_data, last_octets, data_of, data_at}
use Rattle.rrc_wire.specs.Record.{keeps, rr_of, kept_at, record_at, section_at}
use Rattle.rrc_wire.specs.Message.{message_in}

-- the answer is not that memory was refused
abbrev pub Reads : {A : Type 0} → Result A WireFault → Type 0
Reads r = r ≡ Err Memory → ⊥

ok_reads : {A : Type 0} (x : A) → Reads {A = A} (Ok x)
ok_reads x h = cc

bind_reads : {A B : Type 0} (r : Result A WireFault) (f : A → Result B WireFault) → Reads r → ((x : A) → Reads (f x)) → Reads (r >>= f)
bind_reads (Ok x) f first next h = next x h
bind_reads (Err fault) f first next h = first (cc)

test_reads : {A : Type 0} (b : Bool) (r s : Result A WireFault) → Reads r → Reads s → Reads (cond b r s)
test_reads true r s first second = first
test_reads false r s first second = second

err_reads : {A : Type 0} (fault : WireFault) → fault ≢ Memory → Reads {A = A} (Err fault)
err_reads fault other h = other (cc)

item_at-reads : (message : List ℕ) (run : RunOf) (size place : ℕ) → run.past ≢ Memory → Reads (item_at message run size place)
item_at-reads message run size place past h = past (grind (arith, nat_tests))

after_item : (items : ℕ) (message : List ℕ) (run : RunOf) (before : List ℕ) (behind : Option ℕ) (place : ℕ)
    → ((next_run : RunOf) (more : List ℕ) (next_behind : Option ℕ) (next : ℕ) → next_run.past ≢ Memory → Reads (name_from items message next_run more next_behind next))
    → run.past ≢ Memory → (item : Result ItemOf WireFault) → item_at message run (length before) place ≡ item → Reads (name_from (suc items) message run before behind place)
after_item items message run before behind place rest past (Err fault) is h = item_at-reads message run (length before) place past (cc (rw (is, name_from) at h, is))
after_item items message run before behind place rest past (Ok End) is h = absurd (cc (rw (is, name_from) at h))
after_item items message run before behind place rest past (Ok (Label octets)) is h =
    rest run (before ++ slice_range message place (place + 1 + octets)) behind (place + 1 + octets) past (rw (is, name_from) at h)
after_item items message run before behind place rest past (Ok (Pointer target)) is h =
    rest (to_end message target) before (Some (unwrap_or behind (place + 2))) target (λ e. cc) (rw (is, name_from) at h)

name_from-reads : (items : ℕ) (message : List ℕ) (run : RunOf) (before : List ℕ) (behind : Option ℕ) (place : ℕ) → run.past ≢ Memory → Reads (name_from items message run before behind place)
name_from-reads zero message run before behind place past = λ h. cc
name_from-reads (suc items) message run before behind place past =
    after_item items message run before behind place (name_from-reads items message) past (item_at message run (length before) place) refl

name_at-reads : (message : List ℕ) (first : RunOf) → first.past ≢ Memory → Reads (name_at message first)
name_at-reads message first past = name_from-reads (first.start + 256) message first [] None first.start past

within-reads : (message : List ℕ) (place octets : ℕ) → Reads (within message place octets)
within-reads message place octets = test_reads (nat_le (place + octets) (length message)) (Ok (place + octets)) (Err Short) (ok_reads (place + octets)) (err_reads Short (λ e. cc))

times-reads : {A : Type 0} (reader : ℕ → Result (List A × ℕ) WireFault) → ((place : ℕ) → Reads (reader place)) → (count : ℕ) (before : List A) (place : ℕ) → Reads (times reader count before place)
times-reads reader reads zero before place = ok_reads (before, place)
times-reads {A} reader reads (suc count) before place =
    bind_reads (reader place) (λ (piece : List A × ℕ). times reader count (before ++ piece.0) piece.1) (reads place) (λ piece. times-reads reader reads count (before ++ piece.0) piece.1)

last_octets-reads : (message : List ℕ) (layout : LayoutOf) (end : ℕ) (before : List ℕ × ℕ) → Reads (last_octets message layout end before)
last_octets-reads message layout end before =
    test_reads (eqb (before.1 + layout.behind) end) (Ok (before.0 ++ slice_range message before.1 end)) (Err BadData) (ok_reads (before.0 ++ slice_range message before.1 end)) (err_reads BadData (λ e. cc))

data_of-reads : (layout : Option LayoutOf) (message : List ℕ) (place end : ℕ) → Reads (data_of layout message place end)
data_of-reads None message place end = ok_reads (slice_range message place end)
data_of-reads (Some layout) message place end =
    let names = place + layout.before in
    let read = times (name_in_data message end) layout.names (slice_range message place names) names in
    test_reads (nat_le names end) (read >>= last_octets message layout end) (Err BadData)
    (bind_reads read (last_octets message layout end)
    (times-reads (name_in_data message end) (λ at. name_at-reads message (in_data at end) (λ e. cc)) layout.names (slice_range message place names) names)
    (last_octets-reads message layout end))
    (err_reads BadData (λ e. cc))

kept_at-reads : (message owner : List ℕ) (fields end : ℕ) → Reads (kept_at message owner fields end)
kept_at-reads message owner fields end =
    let rdata = data_at message (word_at message fields) (fields + 10) end in
    test_reads (keeps message fields) (rdata >>= λ octets. Ok (rr_of message owner fields octets ∷ [])) (Ok [])
    (bind_reads rdata (λ octets. Ok (rr_of message owner fields octets ∷ [])) (data_of-reads (layout_of (word_at message fields)) message (fields + 10) end) (λ octets h. cc))
    (λ h. cc)

record_at-reads : (message : List ℕ) (place : ℕ) → Reads (record_at message place)
record_at-reads message place =
    bind_reads (name_at message (to_end message place)) _ (name_at-reads message (to_end message place) (λ e. cc))
    (λ owner. bind_reads (within message owner.1 10) _ (within-reads message owner.1 10)
    (λ begin. bind_reads (within message begin (word_at message (owner.1 + 8))) _ (within-reads message begin (word_at message (owner.1 + 8)))
    (λ end. bind_reads (kept_at message owner.0 owner.1 end) (λ (kept : List Rr). Ok (kept, end)) (kept_at-reads message owner.0 owner.1 end) (λ kept h. cc))))

section_at-reads : (message : List ℕ) (count place : ℕ) → Reads (section_at message count place)
unfolding section_at
section_at-reads message count place = times-reads (record_at message) (record_at-reads message) count [] place

question_at-reads : (message : List ℕ) (place : ℕ) → Reads (question_at message place)
unfolding question_at
question_at-reads message place =
    bind_reads (name_at message (to_end message place)) _ (name_at-reads message (to_end message place) (λ e. cc))
    (λ name. bind_reads (within message name.1 4) _ (within-reads message name.1 4) (λ next h. cc))

header_of-reads : (octets : List ℕ) → Reads (header_of octets)
unfolding header_of
header_of-reads octets =
    test_reads (nat_lt 65535 (length octets)) (Err TooLong) _ (err_reads TooLong (λ e. cc))
    (test_reads (nat_lt (length octets) 12) (Err Short) _ (err_reads Short (λ e. cc))
    (test_reads (not (flag (word_at octets 2) 15)) (Err NotResponse) _ (err_reads NotResponse (λ e. cc))
    (test_reads (not (eqb (word_at octets 4) 1)) (Err NotOneQuestion) _ (err_reads NotOneQuestion (λ e. cc)) (ok_reads (fields_of octets)))))

-- no octets have the fault of memory
pub message_in-reads : (octets : List ℕ) → Reads (message_in octets)
message_in-reads octets =
    bind_reads (header_of octets) _ (header_of-reads octets)
    (λ header. bind_reads (question_at octets 12) _ (question_at-reads octets 12)
    (λ question. bind_reads (section_at octets header.answers question.1) _ (section_at-reads octets header.answers question.1)
    (λ answer. bind_reads (section_at octets header.authorities answer.1) _ (section_at-reads octets header.authorities answer.1)
    (λ authority. bind_reads (section_at octets header.additionals authority.1) _ (section_at-reads octets header.additionals authority.1) (λ additional h. cc)))))
