-- SPDX-License-Identifier: MIT
use Rattle.std.proofs.Common.{rules, subst}
use Rattle.rrc_wire.specs.declared.message.Message.{Message}
use Rattle.rrc_sets.specs.declared.query.Query.{Query}
use Rattle.rrc_sets.specs.RelevantMessage.{Answers}
use Rattle.rrc_shelf.specs.Readings.{ReadsRelevant}
use Rattle.rrc_shelf.proofs.response.read_response.Goals as goal

pub returns-clause-some : goal.returns-clause-some
returns-clause-some c =
    let limits = c.in_ok-limits.limits in let message : Message = c.in-Some.message in
    let answered : Answers c.in_ok-query.query c.args.octets.now message = search rules in
    record {
      zone_is = c.in_ok-zone.ensures.wire_form;
      limits = limits;
      are_limits = c.in_ok-limits.ensures.limits;
      message = message;
      answers = subst (λ (query : Query). Answers query c.args.octets.now message) c.in_ok-query.ensures.query answered;
      reads = subst (λ zone. ReadsRelevant c.args.terms.now message zone limits c.in_ok-reading.reading.value) c.in_ok-zone.ensures.name c.in_ok-reading.ensures.reading;
    }
