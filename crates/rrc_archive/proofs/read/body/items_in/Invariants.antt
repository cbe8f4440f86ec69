-- SPDX-License-Identifier: MIT
-- the items so far are octets, the pieces that are left say with them what all of them say, and
-- there is an octet left for each round
use Rattle.std.proofs.Common.{◌≡◌, ◌≤◌, ◌+◌, length}
use Rattle.std.specs.List.{slice_split}
use Rattle.rrc_archive.specs.ArchiveLaw.{HoldsItems}
use Rattle.rrc_archive.specs.ArchiveFields.{written_behind, data_of}
use Rattle.rrc_text.specs.Commas.{is_comma}
use Rattle.rrc_archive.proofs.read.body.items_in.Given as goal

abbrev pub invariant-loop-seen : goal.invariant-loop-seen
invariant-loop-seen l =
    HoldsItems l.items × (written_behind l.items (slice_split is_comma l.rest) ≡ data_of l.field) × (l._seen + length l.rest ≤ length l.field)
