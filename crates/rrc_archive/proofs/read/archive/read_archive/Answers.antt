-- SPDX-License-Identifier: MIT
use Rattle.std.proofs.Common.{◌≡◌, ◌≤◌, length, arith}
use Rattle.std.specs.List.{AllByRecursion}
use Rattle.std.proofs.lemmas.Bool.Decides.{nat_tests}
use Rattle.std.proofs.lemmas.Grind.{common_steps}
use Rattle.rrc_archive.specs.Archive.{archive_text}
use Rattle.rrc_archive.specs.ArchiveLaw.{HoldsChapter}
use Rattle.rrc_archive.proofs.GoesOnLemmas.{stops_with, stops_short, no_archive}
use Rattle.rrc_archive.proofs.HeldLemmas.{only_archive}
use Rattle.rrc_archive.proofs.read.archive.read_archive.Goals as goal

pub returns-clause-held : goal.returns-clause-held
returns-clause-held c = grind (arith, common_steps)

pub returns-clause-only : goal.returns-clause-only
returns-clause-only c =
    let held : AllByRecursion HoldsChapter c.in_ok-into_vec.field-0.items = grind (arith, common_steps) in
    let whole : c.args.octets.now ≡ archive_text c.in_ok-into_vec.field-0.items = grind (arith, common_steps) in
    only_archive c.args.octets.now c.in_ok-into_vec.field-0.items held whole

pub returns-in-Err-NotOne-clause-first : goal.returns-in-Err-NotOne-clause-first
returns-in-Err-NotOne-clause-first c =
    let so_far = c.loop-line.invariant in
    let nowhere = rw c.in-Err-NotOne.field-0-is at c.in-Err-NotOne.ensures.refused in
    stops_with c.args.octets.now c.loop-line.chapters c.loop-line.rest.now c.loop-line.number so_far.whole so_far.held so_far.numbered
    c.in-Some.line.now c.in-Some.behind.now c.in-Some.ensures nowhere

pub returns-in-Err-NotOne-clause-none : goal.returns-in-Err-NotOne-clause-none
returns-in-Err-NotOne-clause-none c = no_archive c.args.octets.now c.loop-line.number (returns-in-Err-NotOne-clause-first c)

pub returns-then-not-is_empty-clause-first : goal.returns-then-not-is_empty-clause-first
returns-then-not-is_empty-clause-first c =
    let so_far = c.loop-line.invariant in
    let some : 1 ≤ length c.loop-line.rest.now = grind (arith, common_steps, nat_tests, c.if-not-is_empty.ensures) in
    stops_short c.args.octets.now c.loop-line.chapters c.loop-line.rest.now c.loop-line.number so_far.whole so_far.held so_far.numbered
    c.in_default.ensures some

pub returns-then-not-is_empty-clause-none : goal.returns-then-not-is_empty-clause-none
returns-then-not-is_empty-clause-none c = no_archive c.args.octets.now c.loop-line.number (returns-then-not-is_empty-clause-first c)
