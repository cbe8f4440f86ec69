-- SPDX-License-Identifier: MIT
-- the entries of the keys so far are gone
use Rattle.std.proofs.Common.{◌≡◌, take}
use Rattle.rrc_history.specs.Past.{is_among}
use Rattle.rrc_history.specs.Entries.{staying}
use Rattle.rrc_cache.proofs.Paired.{seen}
use Rattle.rrc_cache.proofs.sweep.remove.Given as goal

abbrev pub invariant-loop-key : goal.invariant-loop-key
invariant-loop-key l = l.store ≡ seen l.initial.store.seeded l.initial.store.stale (staying (λ key. is_among key (take l.key-index l.keys)) l.initial.store.entries)
