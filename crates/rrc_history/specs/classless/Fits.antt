-- SPDX-License-Identifier: MIT
-- Offers, and which bodies fit a key.
use Rattle.std.specs.Prelude.{ℕ, Bool, ◌&&◌, not, nat_eq}
use Rattle.std.specs.Cmp.Lexicographic.{pointwise}
use Rattle.rrc_name.specs.classless.Key.{KeyOf}
use Rattle.rrc_name.specs.Wire.{folded}
use Rattle.rrc_history.specs.declared.body.Body.{Body}
use Rattle.rrc_history.specs.declared.body.Body.TheVariants.{Positive, Negative, Failure}
use Rattle.rrc_history.specs.Fits.{has_items, is_set, is_failed, is_lifetime}

-- a body that is to be kept under a key, and the moment
pub record OfferOf : Type 0 where
  pub key : KeyOf
  pub body : Body
  pub moment : ℕ

-- the body may stand under the key: a set under its own name, a negative answer under a set or a name, a failure under its own
abbrev pub fits : KeyOf → Body → Bool
fits key (Positive trust ttl owner items) =
    is_set key.slot && (pointwise nat_eq (folded owner) key.name && (has_items items && is_lifetime ttl))
fits key (Negative trust ttl soa_owner soa) = not (is_failed key.slot) && is_lifetime ttl
fits key (Failure ttl) = is_failed key.slot && is_lifetime ttl
