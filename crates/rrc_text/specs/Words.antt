-- SPDX-License-Identifier: MIT
-- How the words of a line are read: what private contracts say.
use Rattle.std.specs.Prelude.{ℕ, List, Option, Some, None, bytes_eq, codes, if◌then◌else◌}
use Rattle.rrc_history.specs.declared.ask.Purpose.{Purpose}
use Rattle.rrc_history.specs.declared.ask.Purpose.TheVariants as purposes
use Rattle.rrc_history.specs.declared.ask.Mode.{Mode}
use Rattle.rrc_history.specs.declared.ask.Mode.TheVariants as modes

-- what an answer is for
abbrev pub purpose_of : List ℕ → Option Purpose
purpose_of word =
    if bytes_eq word (codes "any") then Some purposes.Any
    else if bytes_eq word (codes "answer") then Some purposes.Answer
    else None

-- whether a stale answer will do (RFC 8767 5)
abbrev pub mode_of : List ℕ → Option Mode
mode_of word =
    if bytes_eq word (codes "none") then Some modes.NoStale
    else if bytes_eq word (codes "failed") then Some modes.Failed
    else if bytes_eq word (codes "now") then Some modes.Now
    else None
