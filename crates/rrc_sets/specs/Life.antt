-- SPDX-License-Identifier: MIT
-- How long data live (RFC 2181 8, RFC 8767 4).
use Rattle.std.specs.Prelude.{ℕ, min, List, slice_index, Bool, ◌||◌, ◌==◌, fold, if◌then◌else◌, Option, Some, None}
use Rattle.std.specs.List.{list_all}
use Rattle.rrc_sets.specs.declared.limits.Limits.{Limits}

-- the time to live as written, and no more than the cap; one with its top bit set is positive, so the cap (RFC 8767 4)
abbrev pub life : ℕ → Limits → ℕ
life ttl limits = min ttl limits.cap

-- the lowest life of these times; none is above the cap
abbrev pub lowest_life : Limits → List ℕ → ℕ
lowest_life limits ttls = fold (λ lowest ttl. min lowest (life ttl limits)) limits.cap ttls

-- whether the times are one, as written
abbrev pub are_one : List ℕ → Bool
are_one ttls = list_all (λ ttl. ttl == slice_index ttls 0) ttls

-- the life of a set whose records have these times: their lowest; a set whose times differ has none, but where they may, as in an
-- authoritative reply (RFC 2181 5.2)
abbrev pub set_life : Limits → Bool → List ℕ → Option ℕ
set_life limits may_differ ttls = if may_differ || are_one ttls then Some (lowest_life limits ttls) else None
