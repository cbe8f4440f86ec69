-- SPDX-License-Identifier: MIT
-- Reading the question (RFC 1035 4.1.2).
use Rattle.std.specs.Prelude.{ℕ, ◌+◌, List, Result, Ok}
use Rattle.rrc_wire.specs.declared.fault.WireFault.{WireFault}
use Rattle.rrc_wire.specs.declared.question.Question.{Question}
use Rattle.rrc_wire.specs.Reading.{◌>>=◌, word_at, within}
use Rattle.rrc_wire.specs.Item.{to_end}
use Rattle.rrc_wire.specs.Name.{name_at}

-- the question whose name stands at a place, and the place behind it
unfoldable pub question_at : List ℕ → ℕ → Result (Question × ℕ) WireFault
question_at message place = do
  name ← name_at message (to_end message place)
  next ← within message name.1 4
  Ok (record { name = name.0; qtype = word_at message name.1; qclass = word_at message (name.1 + 2) }, next)
