-- SPDX-License-Identifier: MIT
-- The bodies that a message offers fit their keys.
use Rattle.std.proofs.Common.{◌≡◌, ◌≤◌, ℕ, List, true, false, not, ◌&&◌, Some, refl, ap, ◌∙◌, arith}
use Rattle.std.proofs.lemmas.Bool.Decides.{nat_tests}
use Rattle.rrc_name.specs.declared.slot.Slot.{Slot}
use Rattle.rrc_name.specs.Key.{KeyOf}
use Rattle.rrc_history.specs.Fits.{fits, is_failed, is_lifetime}
use Rattle.rrc_wire.specs.declared.record.Rr.{Rr}
use Rattle.rrc_wire.specs.declared.message.Message.{Message}
use Rattle.rrc_sets.specs.declared.limits.Limits.{Limits}
use Rattle.rrc_sets.specs.Denials.{denied, negative_life, denial}

-- within the caps there are 31 bits
pub lifetime : (ttl cap : ℕ) → ttl ≤ cap → cap ≤ 604800 → is_lifetime ttl ≡ true
lifetime ttl cap below within = grind (arith, nat_tests)

-- what is denied is no failure
pub denied-kept : (message : Message) (name : List ℕ) (slot : Slot) → denied message name ≡ Some slot → is_failed slot ≡ false
denied-kept message name slot h = grind (arith, nat_tests)

-- a denial fits a key that is of no failure, if its time is one
fits-for : (message : Message) (ttl : ℕ) (name : List ℕ) (soa : Rr) (key : KeyOf) → is_failed key.slot ≡ false → is_lifetime ttl ≡ true
    → fits key (denial message ttl name soa) ≡ true
fits-for message ttl name soa key kept lives = ap (λ b. not b && is_lifetime ttl) kept ∙ lives

pub fits-denial : (message : Message) (limits : Limits) (name : List ℕ) (soa : Rr) (key : KeyOf) → is_failed key.slot ≡ false
    → fits key (denial message (negative_life limits soa) name soa) ≡ true
fits-denial message limits name soa key kept =
    fits-for message (negative_life limits soa) name soa key kept (lifetime (negative_life limits soa) limits.negative_cap (omega arith) limits.negative_cap_within)

pub fits-cleared : (message : Message) (name : List ℕ) (soa : Rr) (key : KeyOf) → is_failed key.slot ≡ false → fits key (denial message 0 name soa) ≡ true
fits-cleared message name soa key kept = fits-for message 0 name soa key kept refl
