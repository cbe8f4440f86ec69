-- SPDX-License-Identifier: MIT
-- The data that stand in a message are plain, once their names are expanded.
use Rattle.std.proofs.Common.{◌≡◌, ℕ, ◌+◌, ◌-◌, ◌<◌, ◌≤◌, List, [], ◌∷◌, ◌++◌, length, Option, Some, None, refl, sym, ap, subst, ◌∙◌, arith, append_assoc, drop, MatchOption}
use Rattle.std.specs.Prelude.{slice_range}
use Rattle.std.specs.List.{AllByRecursion}
use Rattle.std.proofs.lemmas.List.{append-nil}
use Rattle.std.proofs.lemmas.List.Elements.{All-take, All-drop, All-from_recursion, recursion_from_All}
use Rattle.rrc_name.specs.Wire.{IsLabel, IsWireForm}
use Rattle.rrc_name.proofs.WireForms.{wire_form_of}
use Rattle.rrc_wire.specs.Layout.{LayoutOf}
use Rattle.rrc_wire.specs.declared.record.Rr.{Rr}
use Rattle.rrc_wire.specs.Reading.{word_at}
use Rattle.rrc_wire.specs.Layout.{layout_of}
use Rattle.rrc_wire.specs.Grammar.{NameAt, root, label, pointer, StandsAt, Follow, none, more, IsLaidOut, Keeps, kept, read_over, RecordAt}
use Rattle.rrc_wire.specs.Plain.{Fills, IsPlain}
use Rattle.rrc_wire.specs.ReadPlain.{HavePlainData, ReadsPlainData}
use Rattle.rrc_wire.proofs.Items.{length-slice_range}
use Rattle.rrc_wire.proofs.Filling.{laid, fills_first, fills_name, fills_whole, plain_by_layout, plain_opaque}

abbrev AreOctets : List ℕ → Type 0
AreOctets octets = AllByRecursion (λ octet. octet < 256) octets

part-AreOctets : (message : List ℕ) (from end : ℕ) → AreOctets message → AreOctets (slice_range message from end)
part-AreOctets message from end octets =
    let P : ℕ → Type 0 = λ octet. octet < 256 in
    recursion_from_All P (slice_range message from end) (All-take P (end - from) (drop from message) (All-drop P from message (All-from_recursion P message octets)))

-- the labels of a name that stands in a message are labels
NameAt-labels : {message : List ℕ} {end start place next : ℕ} {labels : List (List ℕ)} → AreOctets message → NameAt message end start place labels next → AllByRecursion IsLabel labels
NameAt-labels octets (root within octet is) = tt
NameAt-labels {message} octets (label {place = place} {behind = behind} octet some few behind_is within part rest) =
    (record { some = some; few = few; octets = subst AreOctets (sym part) (part-AreOctets message (place + 1) behind octets) }, NameAt-labels octets rest)
NameAt-labels octets (pointer within bits target_is lower is rest) = NameAt-labels octets rest

StandsAt-IsWireForm : (message : List ℕ) (end place : ℕ) (name : List ℕ) (next : ℕ) → AreOctets message → StandsAt message end place name next → IsWireForm name
StandsAt-IsWireForm message end place name next octets stands =
    subst IsWireForm stands.octets (wire_form_of stands.labels (NameAt-labels octets stands.labels_stand) (omega (arith, ap length stands.octets, stands.short)))

-- names that stand one after another, behind what fills a layout so far
Follow-fills : {message : List ℕ} {end count place next : ℕ} {octets : List ℕ} → AreOctets message → (before names : ℕ) (front : List ℕ) → Fills (laid before names 0) front
    → Follow (StandsAt message end) count place octets next → Fills (laid before (names + count) 0) (front ++ octets)
Follow-fills small before names front fills (none is) =
    subst (λ n. Fills (laid before n 0) (front ++ [])) (omega arith) (subst (Fills (laid before names 0)) (sym (append-nil front)) fills)
Follow-fills {message} {end} small before names front fills (more {count = count} {place = place} {middle = middle} {piece = piece} {others = others} {pieces = pieces} first rest are) =
    let more_names = fills_name before names front piece fills (StandsAt-IsWireForm message end place piece middle small first) in
    let all = Follow-fills small before (names + 1) (front ++ piece) more_names rest in
    let whole : (front ++ piece) ++ others ≡ front ++ pieces = append_assoc front piece others ∙ ap (λ octets. front ++ octets) (sym are) in
    subst (λ n. Fills (laid before n 0) (front ++ pieces)) (omega arith) (subst (Fills (laid before (names + 1 + count) 0)) whole all)

-- data of a layout

laid_out-Fills : (message : List ℕ) (layout : LayoutOf) (place end : ℕ) (rdata : List ℕ) → AreOctets message → end ≤ length message → IsLaidOut message layout place end rdata → Fills layout rdata
laid_out-Fills message layout place end rdata octets within is =
    let before = slice_range message place (place + layout.before) in
    let behind = slice_range message is.behind end in
    let before_size : length before ≡ layout.before = omega (arith, length-slice_range message place (place + layout.before) (omega arith) (omega (arith, is.first_octets))) in
    let behind_size : length behind ≡ layout.behind = omega (arith, length-slice_range message is.behind end (omega (arith, is.last_octets)) within, is.last_octets) in
    let first = fills_first (length before) before refl in
    let front = subst (λ n. Fills (laid (length before) n 0) (before ++ is.names)) (omega arith) (Follow-fills octets (length before) 0 before first is.names_stand) in
    fills_whole layout before (before ++ is.names) behind rdata before_size front behind_size is.expanded

plain_by : (rtype : ℕ) (layout : Option LayoutOf) (message : List ℕ) (place end : ℕ) (rdata : List ℕ) → AreOctets message → length message ≤ 65535 → place ≤ end → end ≤ length message → layout_of rtype ≡ layout
    → MatchOption layout (rdata ≡ slice_range message place end) (λ l. IsLaidOut message l place end rdata) → IsPlain rtype rdata
plain_by rtype None message place end rdata octets short begins within is data_is =
    plain_opaque rtype rdata is (omega (arith, ap length data_is, length-slice_range message place end begins within))
plain_by rtype (Some layout) message place end rdata octets short begins within is data_is =
    plain_by_layout rtype layout rdata is (laid_out-Fills message layout place end rdata octets within data_is)

-- records

Keeps-plain : {message owner : List ℕ} {fields end : ℕ} {records : List Rr} → AreOctets message → length message ≤ 65535 → fields + 10 ≤ end → end ≤ length message → Keeps message owner fields end records
    → HavePlainData records
Keeps-plain {message} {owner} {fields} {end} octets short begins within (kept {rdata = rdata} is found) =
    (plain_by (word_at message fields) (layout_of (word_at message fields)) message (fields + 10) end rdata octets short begins within refl found, tt)
Keeps-plain octets short begins within (read_over is) = tt

RecordAt-plain : (message : List ℕ) (place : ℕ) (records : List Rr) (next : ℕ) → AreOctets message → length message ≤ 65535 → RecordAt message place records next → HavePlainData records
RecordAt-plain message place records next octets short is = Keeps-plain octets short (omega (arith, is.rdlength)) is.within is.keeps

plain-append : (records others : List Rr) → HavePlainData records → HavePlainData others → HavePlainData (records ++ others)
plain-append [] others are are_others = are_others
plain-append (rr ∷ records) others are are_others = (are.0, plain-append records others are.1 are_others)

Follow-plain : {message : List ℕ} {count place next : ℕ} {records : List Rr} → AreOctets message → length message ≤ 65535 → Follow (RecordAt message) count place records next → HavePlainData records
Follow-plain octets short (none is) = tt
Follow-plain {message} octets short (more {place = place} {middle = middle} {piece = piece} {others = others} first rest are) =
    subst HavePlainData (sym are) (plain-append piece others (RecordAt-plain message place piece middle octets short first) (Follow-plain octets short rest))

pub reads_plain_data : ReadsPlainData
reads_plain_data octets m small is =
    record { answer = Follow-plain small is.short is.answer; authority = Follow-plain small is.short is.authority; additional = Follow-plain small is.short is.additional }
