-- SPDX-License-Identifier: MIT
-- How much of a response is relevant, where its caller says nothing else (ours).
use Rattle.std.specs.Prelude.{◌≡◌, true, false}
use Rattle.rrc_sets.specs.declared.relevance.RelevanceLimits.{RelevanceLimits}

-- the limits are 11 aliases, 20 hosts and 16,384 octets; NS RRsets of the authority section are relevant in referrals alone, TTLs that
-- differ count for nothing, and no denial clears
pub record AreDefault (limits : RelevanceLimits) : Type 0 where
  pub aliases : limits.aliases ≡ 11
  pub hosts : limits.hosts ≡ 20
  pub octets : limits.octets ≡ 16384
  pub only_referrals : limits.only_referrals ≡ true
  pub lowest_ttl : limits.lowest_ttl ≡ false
  pub clears_denied : limits.clears_denied ≡ false
