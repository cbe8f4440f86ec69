-- SPDX-License-Identifier: MIT
use Rattle.std.proofs.Common.{◌∙◌, sym, inr, refl}
use Rattle.std.proofs.lemmas.Bool.Decides.{not_from_Decides}
use Rattle.rrc_wire.specs.Plain.{is_plain}
use Rattle.rrc_wire.proofs.PlainParts.{is_plain-Decides}
use Rattle.rrc_wire.proofs.plain.plain_rdata.Goals as goal

pub returns-clause-plain : goal.returns-clause-plain
returns-clause-plain c = (is_plain-Decides c.args.rtype c.args.octets.now).0 (sym c.is_plain.ensures ∙ c.if-not-is_plain.false)

pub returns-then-not-is_plain-clause-err : goal.returns-then-not-is_plain-clause-err
returns-then-not-is_plain-clause-err c =
    let octets = c.args.octets.now in
    inr (refl, not_from_Decides (is_plain c.args.rtype octets) (is_plain-Decides c.args.rtype octets) (sym c.is_plain.ensures ∙ c.if-not-is_plain.true))
