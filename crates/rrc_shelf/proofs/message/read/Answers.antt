-- SPDX-License-Identifier: MIT
use Rattle.std.proofs.Common.{ℕ, List, ◌∙◌, ap}
use Rattle.rrc_sets.specs.Offers.{offers_of}
use Rattle.rrc_shelf.specs.Readings.{summary_of}
use Rattle.rrc_shelf.proofs.message.read.Goals as goal

pub returns-clause-reading : goal.returns-clause-reading
returns-clause-reading c =
    let limits = c.in_ok-limits.limits in let message = c.in_ok-message.message in let at = c.args.terms.now.moment in
    let made = c.in_ok-made.made.items in let relevance = c.relevance_of.result in
    record {
      offers = made;
      offered = record {
        zone_is = c.in_ok-zone.ensures.wire_form;
        limits = limits;
        are_limits = c.in_ok-limits.ensures.limits;
        brought = record {
          message = message;
          begins = c.in_ok-message.ensures.message;
          offered = c.in_ok-made.ensures.offers ∙ ap (λ (zone : List ℕ). offers_of message zone at limits) c.in_ok-zone.ensures.name;
        };
      };
      holds = c.in_ok-reading.ensures.reading;
      relevance = relevance;
      are_chosen = c.relevance_of.ensures;
      says = c.in_ok-reading.ensures.says ∙ (c.in_ok-summary.ensures.summary ∙ ap (λ (zone : List ℕ). summary_of relevance message zone) c.in_ok-zone.ensures.name);
    }
