-- SPDX-License-Identifier: MIT
use Rattle.rrc_shelf.proofs.Sharing.{refused_share_is_part}
use Rattle.rrc_shelf.proofs.shares.a_refused_share_leaves_what_a_part_leaves.Goals as goal

pub returns : goal.returns
returns c = refused_share_is_part
