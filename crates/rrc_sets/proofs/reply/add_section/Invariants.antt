-- SPDX-License-Identifier: MIT
-- the offers of the sets so far stand behind the others, and what is said of those is said of all
use Rattle.std.proofs.Common.{◌≡◌, ◌++◌}
use Rattle.std.specs.List.{All, filter_map}
use Rattle.rrc_sets.specs.Kept.{IsOfRecords}
use Rattle.rrc_sets.specs.Offers.{set_offer}
use Rattle.rrc_sets.specs.Response.{of_response}
use Rattle.rrc_sets.proofs.reply.add_section.Given as goal

abbrev pub invariant-loop-set : goal.invariant-loop-set
invariant-loop-set l = record {
  value : l.offers.items ≡ l.initial.offers.items ++ filter_map (of_response (set_offer l.section l.lowest) l.response) l.yielded;
  kept : All IsOfRecords l.offers.items;
}
