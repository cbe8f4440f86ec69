-- SPDX-License-Identifier: MIT
use Rattle.rrc_archive.proofs.CancelChapters.{one_archive}
use Rattle.rrc_archive.proofs.read.archive.one_archive.Goals as goal

pub returns : goal.returns
returns c = one_archive
