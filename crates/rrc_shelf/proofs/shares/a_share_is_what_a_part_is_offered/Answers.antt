-- SPDX-License-Identifier: MIT
use Rattle.rrc_shelf.proofs.Sharing.{share_is_part}
use Rattle.rrc_shelf.proofs.shares.a_share_is_what_a_part_is_offered.Goals as goal

pub returns : goal.returns
returns c = share_is_part
