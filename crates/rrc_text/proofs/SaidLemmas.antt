-- SPDX-License-Identifier: MIT
-- What is said, step by step.
use Rattle.std.proofs.Common.{◌≡◌, ℕ, List, Option, Some, None, refl, ap, ◌∙◌}
use Rattle.rrc_text.specs.Gives.{◌>>=◌}
use Rattle.rrc_text.specs.Fields.{field_at, said_at}

-- what is said before something that is said
pub said_first : {A B : Type 0} (said : Option A) (next : A → Option B) (value : B) → said >>= next ≡ Some value → (found : A) × ((said ≡ Some found) × (next found ≡ Some value))
said_first None next value is = absurd cc
said_first (Some found) next value is = (found, (refl, is))

pub said_last : {A : Type 0} {a b : A} → Some a ≡ Some b → a ≡ b
said_last is = cc

-- what a field says
pub says_field : {X : Type 0} (said : List ℕ → Option X) (octets : List ℕ) (value : X) (rest : List ℕ) → said_at said octets ≡ Some (value, rest)
    → (field : List ℕ) × (said field ≡ Some value)
says_field said octets value rest is =
    let field = said_first (field_at octets) _ (value, rest) is in
    let found = said_first (said field.0.0) _ (value, rest) field.1.1 in
    (field.0.0, found.1.0 ∙ ap Some (ap (λ p. p.0) (said_last found.1.1)))
