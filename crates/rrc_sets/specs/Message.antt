-- SPDX-License-Identifier: MIT
-- What octets offer that are to be a message.
use Rattle.std.specs.Prelude.{◌≡◌, ℕ, List}
use Rattle.rrc_wire.specs.declared.message.Message.{Message}
use Rattle.rrc_wire.specs.Grammar.{MessageOf}
use Rattle.rrc_history.specs.Fits.{OfferOf}
use Rattle.rrc_sets.specs.declared.limits.Limits.{Limits}
use Rattle.rrc_sets.specs.Offers.{offers_of}

-- octets begin with a message (RFC 1035 4.1), and this is what it offers
pub record Brings (limits : Limits) (octets zone : List ℕ) (moment : ℕ) (offers : List OfferOf) : Type 0 where
  pub message : Message
  pub begins : MessageOf octets message
  pub offered : offers ≡ offers_of message zone moment limits
