-- SPDX-License-Identifier: MIT
use Rattle.std.proofs.Common.{◌∙◌}
use Rattle.rrc_collate.proofs.Fetched.{joined_by, fetches_below, joins_below}
use Rattle.rrc_collate.proofs.fetches.are_joined.Goals as goal

pub have_others-requires-clause-present : goal.have_others-requires-clause-present
have_others-requires-clause-present c =
    fetches_below c.args.questions c.args.tasks.now c.as_slice.result.now (c.as_slice.ensures.value ∙ c.in_ok-fetches.ensures) c.requires

pub have_others-requires-clause-wanted : goal.have_others-requires-clause-wanted
have_others-requires-clause-wanted c =
    joins_below c.args.questions c.args.tasks.now c.as_slice-2.result.now (c.as_slice-2.ensures.value ∙ c.in_ok-joins.ensures) c.requires

pub returns : goal.returns
returns c =
    joined_by c.have_others.result c.args.tasks.now c.as_slice.result.now c.as_slice-2.result.now
    (c.as_slice.ensures.value ∙ c.in_ok-fetches.ensures) (c.as_slice-2.ensures.value ∙ c.in_ok-joins.ensures) c.have_others.ensures
