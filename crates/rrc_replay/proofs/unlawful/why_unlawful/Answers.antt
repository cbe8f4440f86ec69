-- SPDX-License-Identifier: MIT
use Rattle.rrc_replay.proofs.UnlawfulLemmas.{legal_before, reason_of}
use Rattle.rrc_replay.proofs.unlawful.why_unlawful.Goals as goal

pub closing_of-requires : goal.closing_of-requires
closing_of-requires c =
    legal_before c.args.opening c.args.events.items c.args.place c.cut_at-before.result.before.items c.cut_at-before.result.bad c.requires c.cut_at-before.ensures

pub returns : goal.returns
returns c =
    reason_of c.args.opening c.args.events.items c.args.place c.cut_at-before.result.before.items c.in_ok-closing.closing c.cut_at-before.result.bad
    c.in_ok-due.due c.requires c.cut_at-before.ensures c.in_ok-closing.ensures c.in_ok-due.ensures
