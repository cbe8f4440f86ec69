-- SPDX-License-Identifier: MIT
-- Folding a name.
use Rattle.std.specs.Prelude.{◌≡◌, ℕ, List, [], ◌∷◌}
use Rattle.std.proofs.Common.{refl}
use Rattle.std.proofs.lemmas.Str.Ascii.{lowercase-lowercase}
use Rattle.rrc_name.specs.Wire.{folded}

-- a folded name has nothing left to fold
pub folded-folded : (octets : List ℕ) → folded (folded octets) ≡ folded octets
folded-folded [] = refl
folded-folded (octet ∷ octets) = let one = lowercase-lowercase octet in let rest = folded-folded octets in cc
