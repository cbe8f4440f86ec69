-- SPDX-License-Identifier: MIT
use Rattle.std.proofs.Common.{◌∙◌, Some, None}
use Rattle.rrc_wire.specs.Shown.{as_layout}
use Rattle.rrc_wire.proofs.PlainParts.{plain_by_layout, too_long}
use Rattle.rrc_wire.proofs.plain.is_plain.Goals as goal

pub returns-in-Some : goal.returns-in-Some
returns-in-Some c =
    c.is_filled.ensures ∙ plain_by_layout c.args.rtype c.args.octets.now (Some (as_layout c.in-Some.layout)) c.if-octets-le-MOST_OF_DATA.true c.in-Some.ensures

pub returns-in-None : goal.returns-in-None
returns-in-None c = plain_by_layout c.args.rtype c.args.octets.now None c.if-octets-le-MOST_OF_DATA.true c.in-None.ensures

pub returns-else-octets-le-MOST_OF_DATA : goal.returns-else-octets-le-MOST_OF_DATA
returns-else-octets-le-MOST_OF_DATA c = too_long c.args.rtype c.args.octets.now c.if-octets-le-MOST_OF_DATA.false
