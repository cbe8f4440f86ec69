-- SPDX-License-Identifier: MIT
-- How the numbers of a line are read, digit by digit: what private contracts say.
use Rattle.std.specs.Prelude.{ℕ, ◌+◌, ◌-◌, ◌*◌, ◌^◌, List, [], ◌∷◌, take, drop, position, Option, Some, None, option_and_then, ◌==◌, nat_le, if◌then◌else◌}
use Rattle.std.specs.Char.{is_ascii_digit}
use Rattle.rrc_text.specs.declared.kind.Kind.{Kind}
use Rattle.rrc_text.specs.Gives.{◌>>=◌}
use Rattle.rrc_history.specs.declared.body.Trust.{Trust}
use Rattle.rrc_history.specs.declared.body.Trust.TheVariants.{Additional, NonAuthoritativeAnswer, Authority, AuthoritativeAnswer}

-- the number that digits spell behind those of a number
abbrev pub number_behind : ℕ → List ℕ → Option ℕ
number_behind number [] = Some number
number_behind number (digit ∷ digits) = if is_ascii_digit digit then number_behind (10 * number + (digit - 48)) digits else None

-- the number that one digit or more spell
abbrev pub number_of : List ℕ → Option ℕ
number_of [] = None
number_of (digit ∷ digits) = number_behind 0 (digit ∷ digits)

-- a number where it is not too large
abbrev pub at_most : ℕ → Option ℕ → Option ℕ
at_most most None = None
at_most most (Some number) = if nat_le number most then Some number else None

abbrev pub ttl_of : List ℕ → Option ℕ
ttl_of field = at_most (2 ^ 32 - 1) (number_of field)

-- a number of 16 bits
abbrev pub word_of : List ℕ → Option ℕ
word_of field = at_most (2 ^ 16 - 1) (number_of field)

-- the place of the first slash
abbrev pub slash_in : List ℕ → Option ℕ
slash_in field = position (λ octet. octet == 47) field

-- a type, and its class behind a slash at this place, or IN
abbrev pub kind_at : List ℕ → Option ℕ → Option Kind
kind_at field None = do
  rtype ← word_of field
  Some (record { rtype = rtype; class = 1 })
kind_at field (Some place) = do
  rtype ← word_of (take place field)
  class ← word_of (drop (place + 1) field)
  Some (record { rtype = rtype; class = class })

abbrev pub kind_of : List ℕ → Option Kind
kind_of field = kind_at field (slash_in field)

-- the ranks of trust, from low to high (RFC 2181 5.4.1)
abbrev pub rank : ℕ → Option Trust
rank number =
    if number == 1 then Some Additional
    else if number == 2 then Some NonAuthoritativeAnswer
    else if number == 3 then Some Authority
    else if number == 4 then Some AuthoritativeAnswer
    else None

abbrev pub trust_of : List ℕ → Option Trust
trust_of field = option_and_then rank (at_most 4 (number_of field))
