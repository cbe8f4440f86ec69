-- SPDX-License-Identifier: MIT
-- as many shelves so far as turns
use Rattle.std.proofs.Common.{◌≡◌, vec_len}
use Rattle.rrc_page.proofs.own_cache.OwnCache.new.Given as goal

abbrev pub invariant-loop : goal.invariant-loop
invariant-loop l = vec_len l.shelves ≡ l.counter
