-- SPDX-License-Identifier: MIT
use Rattle.std.proofs.Common.{rules}
use Rattle.rrc_wire.proofs.message.read_whole.Goals as goal

pub returns-in_err-authority : goal.returns-in_err-authority
returns-in_err-authority c = search rules fits 300

pub returns-in_err-additional : goal.returns-in_err-additional
returns-in_err-additional c = search rules fits 300

pub returns : goal.returns
returns c = search rules fits 100
