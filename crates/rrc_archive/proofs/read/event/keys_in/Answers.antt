-- SPDX-License-Identifier: MIT
use Rattle.std.proofs.Common.{sym, arith}
use Rattle.rrc_archive.proofs.WrittenLemmas.{key_more}
use Rattle.rrc_archive.proofs.read.event.keys_in.Goals as goal

pub loop-seen-preserved : goal.loop-seen-preserved
loop-seen-preserved c = (
  c.in_ok-rest.ensures.held,
  key_more c.args.octets.now c.loop-seen.keys c.loop-seen._seen c.loop-seen.rest.now c.loop-seen.invariant.1 c.add_key.new.keys c.in_ok-rest.rest.now
      (omega arith) (sym c.if-not-has_field.ensures) c.in_ok-rest.ensures.exact,
)
