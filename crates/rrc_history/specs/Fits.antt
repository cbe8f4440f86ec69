-- SPDX-License-Identifier: MIT
-- Offers, and which bodies fit a key.
use Rattle.std.specs.Prelude.{ℕ, ◌^◌, List, [], ◌∷◌, Bool, true, false, ◌&&◌, not, nat_eq, nat_lt}
use Rattle.std.specs.Cmp.Lexicographic.{pointwise}
use Rattle.rrc_name.specs.declared.slot.Slot.{Slot}
use Rattle.rrc_name.specs.declared.slot.Slot.TheVariants.{Set, Failed}
use Rattle.rrc_name.specs.Key.{KeyOf}
use Rattle.rrc_name.specs.Wire.{folded}
use Rattle.rrc_history.specs.declared.body.Body.{Body}
use Rattle.rrc_history.specs.declared.body.Body.TheVariants.{Positive, Negative, Failure}

-- a body that is to be kept under a key, and the moment
pub record OfferOf : Type 0 where
  pub key : KeyOf
  pub body : Body
  pub moment : ℕ

-- a set has one record at least (RFC 2181 5)
abbrev pub has_items : List (List ℕ) → Bool
has_items [] = false
has_items (item ∷ items) = true

-- the slot is one of a set
abbrev pub is_set : Slot → Bool
is_set (Set rtype) = true
is_set slot = false

-- the slot is one of a failure
abbrev pub is_failed : Slot → Bool
is_failed (Failed rtype) = true
is_failed slot = false

-- a ttl has 31 bits (RFC 2181 8)
abbrev pub is_lifetime : ℕ → Bool
is_lifetime ttl = nat_lt ttl (2 ^ 31)

-- the body may stand under the key: a set under its own name, a negative answer under a set or a name, a failure under its own
abbrev pub fits : KeyOf → Body → Bool
fits key (Positive trust ttl owner items) =
    is_set key.slot && (pointwise nat_eq (folded owner) key.name && (has_items items && is_lifetime ttl))
fits key (Negative trust ttl soa_owner soa) = not (is_failed key.slot) && is_lifetime ttl
fits key (Failure ttl) = is_failed key.slot && is_lifetime ttl
