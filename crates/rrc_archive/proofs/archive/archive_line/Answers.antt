-- SPDX-License-Identifier: MIT
use Rattle.std.proofs.Common.{◌≡◌, suc, ◌+◌, List, length, Some, slice_get, refl, subst, arith}
use Rattle.std.proofs.lemmas.Grind.{common_steps}
use Rattle.std.proofs.lemmas.Option.{slice_get_read}
use Rattle.rrc_history.specs.declared.event.Event.{Event}
use Rattle.rrc_archive.specs.Archive.{written_of}
use Rattle.rrc_archive.proofs.ArchiveLemmas.{entry_line, event_line}
use Rattle.rrc_archive.proofs.archive.archive_line.Goals as goal

pub returns-in_ok-get-in-None : goal.returns-in_ok-get-in-None
returns-in_ok-get-in-None c =
    let written = written_of c.args.chapter.now in
    let place = c.args.place in
    let behind = c.in-Some.behind in
    let entry = c.in_ok-get-in-None.field-0.now in
    let next : place ≡ suc behind = grind (arith, common_steps) in
    let is : slice_get written.entries behind ≡ Some entry = grind (arith, common_steps) in
    entry_line written place behind entry next is

pub returns-in_ok-get-in-Some-checked_sub : goal.returns-in_ok-get-in-Some-checked_sub
returns-in_ok-get-in-Some-checked_sub c =
    let written = written_of c.args.chapter.now in
    let place = c.args.place in
    let behind = c.in-Some.behind in
    let at = c.in-Some-checked_sub.event in
    let event = c.in_ok-get-in-Some-checked_sub.field-0.now in
    let next : place ≡ suc behind = grind (arith, common_steps) in
    let past : behind ≡ length written.entries + at = grind (arith, common_steps) in
    let found = c.in_ok-get-in-Some-checked_sub.ensures.lookup in
    let lent = c.events.result.now in
    let read = slice_get_read lent (length lent) at event refl found.3.0 found.1 in
    let is : slice_get written.events at ≡ Some event =
    subst (λ (events : List Event). slice_get events at ≡ Some event) c.events.ensures.value read in
    event_line written place behind at event next past is
