-- SPDX-License-Identifier: MIT
-- What the lines of traces and archives have in common, apart from how they are read: fields and words.
use Rattle.std.specs.Prelude.{◌≡◌, ◌≢◌, ◌≤◌, ◌⊎◌, ℕ, List, [], ◌∷◌, length, codes}
use Rattle.std.specs.List.{AllByRecursion}
use Rattle.rrc_history.specs.declared.ask.Mode.{Mode}
use Rattle.rrc_history.specs.declared.ask.Mode.TheVariants.{NoStale, Failed, Now}
use Rattle.rrc_history.specs.declared.ask.Purpose.{Purpose}
use Rattle.rrc_history.specs.declared.ask.Purpose.TheVariants.{Any, Answer}

-- what an answer is for
abbrev pub purpose_word : Purpose → List ℕ
purpose_word Any = codes "any"
purpose_word Answer = codes "answer"

-- whether a stale answer will do (RFC 8767 5)
abbrev pub mode_word : Mode → List ℕ
mode_word NoStale = codes "none"
mode_word Failed = codes "failed"
mode_word Now = codes "now"

-- spaces, any number of them
abbrev pub AreSpaces : List ℕ → Type 0
AreSpaces octets = AllByRecursion (λ octet. octet ≡ 32) octets

-- octets 32 alone are spaces: a field has one octet or more, and no space
pub record IsField (octets : List ℕ) : Type 0 where
  pub some : 1 ≤ length octets
  pub unspaced : AllByRecursion (λ octet. octet ≢ 32) octets

-- octets end, or go on with a space
abbrev pub StandsApart : List ℕ → Type 0
StandsApart behind = (behind ≡ []) ⊎ ((rest : List ℕ) × (behind ≡ 32 ∷ rest))
