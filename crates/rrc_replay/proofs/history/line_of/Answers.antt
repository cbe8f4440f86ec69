-- SPDX-License-Identifier: MIT
use Rattle.std.proofs.Common.{◌≡◌, ◌≤◌, length, drop, map, arith, ◌∙◌}
use Rattle.std.specs.List.{flat_map}
use Rattle.rrc_archive.specs.Archive.{lines_of, written_of}
use Rattle.rrc_replay.proofs.ArchiveLemmas.{lines_among, no_more, one_more}
use Rattle.rrc_replay.proofs.history.line_of.Goals as goal

pub lines_in-line-requires : goal.lines_in-line-requires
lines_in-line-requires c =
    let among : length (lines_of (written_of c.chapter-item.result)) ≤ length (flat_map lines_of (map written_of (drop c.loop-chapter.chapter-index c.args.before.now))) =
    lines_among c.args.before.now c.loop-chapter.chapter-index c.chapter-item.result c.loop-chapter-test.true c.chapter-item.is in
    omega (arith, among, c.loop-chapter.invariant, c.requires)

pub overflow_add-line-in-loop-chapter : goal.overflow_add-line-in-loop-chapter
overflow_add-line-in-loop-chapter c =
    let among : length (lines_of (written_of c.chapter-item.result)) ≤ length (flat_map lines_of (map written_of (drop c.loop-chapter.chapter-index c.args.before.now))) =
    lines_among c.args.before.now c.loop-chapter.chapter-index c.chapter-item.result c.loop-chapter-test.true c.chapter-item.is in
    omega (arith, among, c.lines_in-line.ensures, c.loop-chapter.invariant, c.requires)

pub loop-chapter-preserved : goal.loop-chapter-preserved
loop-chapter-preserved c =
    one_more c.loop-chapter.line c.lines_in-line.result c.args.before.now c.loop-chapter.chapter-index c.chapter-item.result c.loop-chapter-test.true
    c.chapter-item.is c.lines_in-line.ensures
    ∙ c.loop-chapter.invariant

pub returns : goal.returns
returns c =
    let none : length (flat_map lines_of (map written_of (drop c.loop-chapter.chapter-index c.args.before.now))) ≡ 0 =
    no_more c.args.before.now c.loop-chapter.chapter-index (omega arith) in
    omega (arith, none, c.loop-chapter.invariant)
