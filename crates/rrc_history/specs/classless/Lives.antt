-- SPDX-License-Identifier: MIT
-- How long an entry lives.
use Rattle.std.specs.Prelude.{ℕ, ◌-◌, ◌≤◌, Bool, nat_lt, nat_le}
use Rattle.rrc_history.specs.declared.classless.Entry.{Entry}
use Rattle.rrc_history.specs.Lives.{ttl_of, span, LAST_MOMENT}

-- how old an entry is at a moment; 0 where it was stored later
abbrev pub age : Entry → ℕ → ℕ
age entry moment = moment - entry.moment

-- the entry still lives (RFC 1035 3.2.1)
abbrev pub is_unexpired : Entry → ℕ → Bool
is_unexpired entry moment = nat_lt (age entry moment) (ttl_of entry.body)

-- the entry can answer no more
abbrev pub is_fully_expired : ℕ → Entry → ℕ → Bool
is_fully_expired stale entry moment = nat_le (span stale entry.body) (age entry moment)

-- the entry's moment is no later
abbrev pub IsTimely : Entry → Type 0
IsTimely entry = entry.moment ≤ LAST_MOMENT
