-- SPDX-License-Identifier: MIT
use Rattle.std.proofs.Common.{ap, ◌∙◌}
use Rattle.rrc_history.specs.EntryLists.{entry_in}
use Rattle.rrc_history.proofs.Places.{at_place}
use Rattle.rrc_history.proofs.entry_list.entry_at.Goals as goal

pub returns : goal.returns
returns c =
    at_place c.args.batched.now.batches.items c.args.batched.now.places.items c.args.place c.index.result.now c.entry_in.result.now c.requires.filled c.requires.place
    (c.entry_in.ensures ∙ (ap (λ batches. entry_in batches c.index.result.now) c.as_slice.ensures.value ∙ ap (entry_in c.args.batched.now.batches.items) c.index.ensures))
