-- SPDX-License-Identifier: MIT
-- the chapters so far are those that were told so far, each legal in itself, and the others are still to come
use Rattle.std.proofs.Common.{◌≡◌, ◌++◌, map}
use Rattle.std.specs.List.{AllByRecursion}
use Rattle.std.specs.Vec.Iter.{into_iter_items}
use Rattle.rrc_history.specs.Chapters.{IsChapter}
use Rattle.rrc_archive.specs.Archive.{written_of}
use Rattle.rrc_replay.proofs.history.restored.Given as goal

abbrev pub invariant-loop-one : goal.invariant-loop-one
invariant-loop-one l = record {
  made : map written_of l.chapters.items ≡ l.yielded;
  legal : AllByRecursion IsChapter l.chapters.items;
  rest : l.yielded ++ into_iter_items l.one-iterator ≡ l.fn.written.items;
}
