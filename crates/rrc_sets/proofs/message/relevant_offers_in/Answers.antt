-- SPDX-License-Identifier: MIT
use Rattle.std.proofs.Common.{inl, ap, ◌∙◌}
use Rattle.std.specs.Option.{unwrap_or}
use Rattle.rrc_sets.specs.declared.query.QueryFault.TheVariants.{Memory}
use Rattle.rrc_sets.proofs.Answering.{map_err}
use Rattle.rrc_sets.proofs.message.relevant_offers_in.Goals as goal

pub returns-clause-err : goal.returns-clause-err
returns-clause-err c =
    map_err c.relevant_offers.result _ _ (λ fault told. inl (told ∙ ap (λ found. unwrap_or found Memory) c.in_ok-message.ensures.ok.response))
    c.relevant_offers.ensures.err
