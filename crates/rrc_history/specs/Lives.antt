-- SPDX-License-Identifier: MIT
-- How long a body lives, and how far it is trusted.
use Rattle.std.specs.Prelude.{ℕ, ◌+◌, ◌-◌, ◌^◌, ◌≤◌, Bool, nat_lt, nat_le}
use Rattle.rrc_history.specs.declared.body.Body.{Body}
use Rattle.rrc_history.specs.declared.body.Body.TheVariants.{Positive, Negative, Failure}
use Rattle.rrc_history.specs.declared.body.Trust.{Trust}
use Rattle.rrc_history.specs.declared.body.Trust.TheVariants.{Additional, NonAuthoritativeAnswer, Authority, AuthoritativeAnswer}
use Rattle.rrc_history.specs.declared.snapshot.Entry.{Entry}

-- for how many seconds a body lives (RFC 1035 3.2.1)
abbrev pub ttl_of : Body → ℕ
ttl_of (Positive trust ttl owner items) = ttl
ttl_of (Negative trust ttl soa_owner soa) = ttl
ttl_of (Failure ttl) = ttl

-- the ranks of trust, from low to high (RFC 2181 5.4.1)
abbrev pub rank : Trust → ℕ
rank Additional = 1
rank NonAuthoritativeAnswer = 2
rank Authority = 3
rank AuthoritativeAnswer = 4

-- the rank of a body; that asking failed is no data, and has none
abbrev pub rank_of : Body → ℕ
rank_of (Positive trust ttl owner items) = rank trust
rank_of (Negative trust ttl soa_owner soa) = rank trust
rank_of (Failure ttl) = 0

-- how old an entry is at a moment; 0 where it was stored later
abbrev pub age : Entry → ℕ → ℕ
age entry moment = moment - entry.moment

-- the entry still lives (RFC 1035 3.2.1)
abbrev pub is_unexpired : Entry → ℕ → Bool
is_unexpired entry moment = nat_lt (age entry moment) (ttl_of entry.body)

-- for how long an entry may answer: a set past its ttl as well, up to the stale limit (RFC 8767 4); nothing else is ever stale
abbrev pub span : ℕ → Body → ℕ
span stale (Positive trust ttl owner items) = ttl + stale
span stale (Negative trust ttl soa_owner soa) = ttl
span stale (Failure ttl) = ttl

-- the entry can answer no more
abbrev pub is_fully_expired : ℕ → Entry → ℕ → Bool
is_fully_expired stale entry moment = nat_le (span stale entry.body) (age entry moment)

-- no moment is above 2^40 seconds
abbrev pub LAST_MOMENT : ℕ
LAST_MOMENT = 2 ^ 40

-- the entry's moment is no later
abbrev pub IsTimely : Entry → Type 0
IsTimely entry = entry.moment ≤ LAST_MOMENT
