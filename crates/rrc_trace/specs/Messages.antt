-- SPDX-License-Identifier: MIT
-- How the messages of a line are read: what private contracts say.
use Rattle.std.specs.Prelude.{ℕ, List, [], ◌∷◌, Option, Some, None, bytes_eq, if◌then◌else◌}
use Rattle.rrc_text.specs.Gives.{◌>>=◌}
use Rattle.rrc_text.specs.Octets.{octets_of}

-- a message is octets of any length: whether they are one is not the line's matter
abbrev pub message_of : List ℕ → Option (List ℕ)
message_of field = octets_of field

-- the octets of a message that was fetched, or a dash where no message came
abbrev pub fetched_of : List ℕ → Option (Option (List ℕ))
fetched_of field = if bytes_eq field (45 ∷ []) then Some None else octets_of field >>= λ octets. Some (Some octets)
