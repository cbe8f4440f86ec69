-- SPDX-License-Identifier: MIT
-- Octets begin with a message, or have a first fault, and never both.
use Rattle.std.specs.Prelude.{◌≡◌, ◌≢◌, ℕ, List}
use Rattle.rrc_wire.specs.declared.fault.WireFault.{WireFault}
use Rattle.rrc_wire.specs.declared.fault.WireFault.TheVariants.{Memory}
use Rattle.rrc_wire.specs.declared.message.Message.{Message}
use Rattle.rrc_wire.specs.FirstFault.{FirstFault}
use Rattle.rrc_wire.specs.Grammar.{MessageOf}

-- the octets begin with one message, and have no fault
pub record BeginsWithMessage (octets : List ℕ) : Type 0 where
  pub message : Message
  pub begins : MessageOf octets message
  pub only : (other : Message) → MessageOf octets other → other ≡ message
  pub no_fault : (fault : WireFault) → FirstFault octets fault → ⊥

-- the octets have one first fault, which is not that of memory, and begin with no message
pub record HasFault (octets : List ℕ) : Type 0 where
  pub fault : WireFault
  pub first : FirstFault octets fault
  pub only : (other : WireFault) → FirstFault octets other → other ≡ fault
  pub of_the_octets : fault ≢ Memory
  pub no_message : (message : Message) → MessageOf octets message → ⊥
