-- SPDX-License-Identifier: MIT
-- Rust holds the keys so far, and those that are left come behind them
use Rattle.std.proofs.Common.{◌≡◌, ◌-◌, length}
use Rattle.std.specs.List.{AllByRecursion}
use Rattle.rrc_archive.specs.ArchiveLaw.{HoldsKey}
use Rattle.rrc_archive.specs.ArchiveFields.{keys_behind, keys_of}
use Rattle.rrc_archive.proofs.read.event.keys_in.Given as goal

abbrev pub invariant-loop-seen : goal.invariant-loop-seen
invariant-loop-seen l = AllByRecursion HoldsKey l.keys × (keys_behind (length l.octets - l._seen) l.keys l.rest ≡ keys_of l.octets)
