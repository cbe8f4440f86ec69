-- SPDX-License-Identifier: MIT
-- When keys of a part are fully expired next.
use Rattle.std.specs.Prelude.{◌≡◌, ℕ, ◌+◌, ◌<◌, ◌≤◌, List, [], ◌∷◌, false, Option, Some, None, IfSome}
use Rattle.rrc_name.specs.Key.{KeyOf}
use Rattle.rrc_history.specs.declared.event.Event.{Event}
use Rattle.rrc_history.specs.declared.event.Event.TheVariants.{Offered, Asked, Swept}
use Rattle.rrc_history.specs.declared.snapshot.Entry.{Entry}
use Rattle.rrc_history.specs.Lives.{LAST_MOMENT}
use Rattle.rrc_history.specs.Past.{held}
use Rattle.rrc_history.specs.Right.{is_swept}
use Rattle.rrc_cache.specs.Part.{PartOf, past_of}

-- no key holds anything
abbrev pub HoldsNothing : PartOf → Type 0
HoldsNothing part = (key : KeyOf) → held part.snapshot (past_of part) key ≡ None

-- some key holds something
abbrev pub HoldsSomething : PartOf → Type 0
HoldsSomething part = (key : KeyOf) × (entry : Entry) × (held part.snapshot (past_of part) key ≡ Some entry)

-- nothing that a key holds is fully expired before this moment
abbrev pub NoneFullyExpiresBefore : PartOf → ℕ → Type 0
NoneFullyExpiresBefore part time =
    (key : KeyOf) (moment : ℕ) → moment < time → moment ≤ LAST_MOMENT
    → is_swept part.snapshot.rules.stale (held part.snapshot (past_of part) key) moment ≡ false

-- the moment of the last sweep, where no offer came since
abbrev pub last_sweep : List Event → Option ℕ
last_sweep [] = None
last_sweep (Offered outcome tag offer evicted ∷ past) = None
last_sweep (Asked tag ask reply ∷ past) = last_sweep past
last_sweep (Swept tag moment gone ∷ past) = Some moment

-- a time is past the moment of the last sweep, where no offer came since
abbrev pub IsAfterLastSweep : PartOf → ℕ → Type 0
IsAfterLastSweep part time = IfSome (last_sweep (past_of part)) (λ moment. moment < time)

-- the moment after a sweep's, and 0 where there was none
abbrev pub moment_after : Option ℕ → ℕ
moment_after None = 0
moment_after (Some moment) = moment + 1

-- a moment before which nothing is fully expired, since a sweep removed what was
abbrev pub swept_until : List Event → ℕ
swept_until past = moment_after (last_sweep past)
