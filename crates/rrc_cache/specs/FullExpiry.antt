-- SPDX-License-Identifier: MIT
-- When an entry is fully expired: past its TTL, and of an RRset past max-stale too (RFC 8767).
use Rattle.std.specs.Prelude.{ℕ, ◌+◌, ◌-◌, ◌^◌, ◌==◌, min, if◌then◌else◌}
use Rattle.rrc_history.specs.declared.body.Body.{Body}
use Rattle.rrc_history.specs.declared.snapshot.Entry.{Entry}
use Rattle.rrc_history.specs.Lives.{span}

-- the moment from which on a body of a moment can answer no more: once its span is over, and
-- where it has none, before all moments
abbrev pub full_expiry : ℕ → Body → ℕ → ℕ
full_expiry stale body moment = if span stale body == 0 then 0 else min (moment + span stale body) (2 ^ 64 - 1)

-- the moment from which on an entry can answer no more
abbrev pub full_expiry_of : ℕ → Entry → ℕ
full_expiry_of stale entry = full_expiry stale entry.body entry.moment
