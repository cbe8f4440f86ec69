-- SPDX-License-Identifier: MIT
-- All octets begin with one message, or have one first fault.
use Rattle.std.proofs.Common.{◌≡◌, ◌⊎◌, ℕ, List, Result, Ok, Err, refl, sym, ◌∙◌, inl, inr}
use Rattle.std.specs.Prelude.{IfOk, IfErr}
use Rattle.rrc_wire.specs.declared.fault.WireFault.{WireFault}
use Rattle.rrc_wire.specs.declared.fault.WireFault.TheVariants.{Memory}
use Rattle.rrc_wire.specs.declared.message.Message.{Message}
use Rattle.rrc_wire.specs.Reading.{Gives}
use Rattle.rrc_wire.specs.Message.{message_in}
use Rattle.rrc_wire.specs.FirstFault.{FirstFault}
use Rattle.rrc_wire.specs.Grammar.{MessageOf}
use Rattle.rrc_wire.specs.Law.{BeginsWithMessage, HasFault}
use Rattle.rrc_wire.proofs.Steps.{ok_is}
use Rattle.rrc_wire.proofs.MessageGrammar.{message_in-finds, message_in-reads}
use Rattle.rrc_wire.proofs.FirstFaults.{message_in-fails, first_fault-met, one_first_fault}
use Rattle.rrc_wire.proofs.NoMemory as no_memory

by_reading : (octets : List ℕ) (read : Result Message WireFault) → message_in octets ≡ read → BeginsWithMessage octets ⊎ HasFault octets
by_reading octets (Ok m) is =
    inl (record {
      message = m;
      begins = message_in-finds octets m is;
      only = λ other h. ok_is other m (sym (message_in-reads octets other h) ∙ is);
      no_fault = λ fault first. absurd (cc (sym is ∙ first_fault-met first));
    })
by_reading octets (Err fault) is =
    inr (record {
      fault = fault;
      first = message_in-fails octets fault is;
      only = λ other first. one_first_fault octets other fault first (message_in-fails octets fault is);
      of_the_octets = λ e. no_memory.message_in-reads octets (is ∙ (cc e));
      no_message = λ m h. absurd (cc (sym is ∙ message_in-reads octets m h));
    })

pub message_or_fault : (octets : List ℕ) → BeginsWithMessage octets ⊎ HasFault octets
message_or_fault octets = by_reading octets (message_in octets) refl

-- what was given is a message, or the first fault
pub given-ok : (octets : List ℕ) (r : Result Message WireFault) → Gives (λ found. found) r (message_in octets) → IfOk r (λ m. MessageOf octets m)
given-ok octets (Ok m) given = message_in-finds octets m given
given-ok octets (Err fault) given = tt

pub given-err : (octets : List ℕ) (r : Result Message WireFault) → Gives (λ found. found) r (message_in octets) → IfErr r (λ fault. (fault ≡ Memory) ⊎ FirstFault octets fault)
given-err octets (Ok m) given = tt
given-err octets (Err fault) (inl memory) = inl memory
given-err octets (Err fault) (inr is) = inr (message_in-fails octets fault is)
