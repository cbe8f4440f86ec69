-- SPDX-License-Identifier: MIT
-- How many keys a part holds, and how many octets.
use Rattle.std.specs.Prelude.{◌≡◌, ℕ, ◌^◌, ◌%◌, List, length}
use Rattle.rrc_history.specs.declared.snapshot.Entry.{Entry}
use Rattle.rrc_history.specs.Octets.{octets_of}
use Rattle.rrc_history.specs.Past.{AreContents}
use Rattle.rrc_cache.specs.Part.{PartOf, past_of}

-- the keys of a part hold entries, each key one, and whatever entries they are said to hold, there are so many
pub record HoldsKeys (part : PartOf) (number : ℕ) : Type 0 where
  pub entries : List Entry
  pub held : AreContents part.snapshot (past_of part) entries
  pub counted : (contents : List Entry) → AreContents part.snapshot (past_of part) contents → number ≡ length contents

-- the keys of a part hold entries, and whatever entries they are said to hold, these have so many
-- octets, modulo 2^64
pub record HoldsOctets (part : PartOf) (number : ℕ) : Type 0 where
  pub entries : List Entry
  pub held : AreContents part.snapshot (past_of part) entries
  pub counted : (contents : List Entry) → AreContents part.snapshot (past_of part) contents → number ≡ octets_of contents % 2 ^ 64
