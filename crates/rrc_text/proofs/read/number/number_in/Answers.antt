-- SPDX-License-Identifier: MIT
use Rattle.std.proofs.Common.{◌≡◌, get_or, true, rules, arith, sym, ◌∙◌}
use Rattle.std.specs.Char.{is_ascii_digit}
use Rattle.rrc_text.proofs.NumberLemmas.{number_behind_passes}
use Rattle.rrc_text.proofs.read.number.number_in.Goals as goal

pub returns-then-number-most : goal.returns-then-number-most
returns-then-number-most c =
    let digits = c.args.digits.now in
    let place = c.loop-digit.digit-index in
    let digit : is_ascii_digit (get_or digits place 0) ≡ true = search rules in
    sym c.loop-digit.invariant.1 ∙ number_behind_passes c.args.most c.loop-digit.number place digits (omega arith) digit (omega arith)
