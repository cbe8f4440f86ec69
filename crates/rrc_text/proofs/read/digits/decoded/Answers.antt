-- SPDX-License-Identifier: MIT
use Rattle.std.proofs.Common.{sym}
use Rattle.rrc_text.proofs.DigitLemmas.{others_spell_nothing}
use Rattle.rrc_text.proofs.read.digits.decoded.Goals as goal

pub returns-then-not-are_digits : goal.returns-then-not-are_digits
returns-then-not-are_digits c =
    sym (others_spell_nothing c.args.digits.now (λ digits.
    let all = c.are_digits.ensures.1 digits in let not_all = c.if-not-are_digits.ensures in let is = c.if-not-are_digits.true in absurd cc))
