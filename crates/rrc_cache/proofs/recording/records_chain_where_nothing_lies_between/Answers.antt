-- SPDX-License-Identifier: MIT
use Rattle.rrc_cache.proofs.Begun.{records_chain}
use Rattle.rrc_cache.proofs.recording.records_chain_where_nothing_lies_between.Goals as goal

pub returns : goal.returns
returns c = records_chain
