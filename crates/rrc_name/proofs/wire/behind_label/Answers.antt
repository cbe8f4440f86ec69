-- SPDX-License-Identifier: MIT
use Rattle.std.proofs.Common.{◌∙◌, ◌∷◌, ap, sym, arith}
use Rattle.rrc_name.proofs.WireReading.{no_octet_left, more_behind, above_63, no_room, cut}
use Rattle.rrc_name.proofs.wire.behind_label.Goals as goal

pub returns-in_default-clause-err : goal.returns-in_default-clause-err
returns-in_default-clause-err c = no_octet_left c.args.octets.now c.args.before c.in_default.ensures.cases

pub returns-then-size-eq0-clause-err : goal.returns-then-size-eq0-clause-err
returns-then-size-eq0-clause-err c =
    let parts = c.in-Some.ensures.cases.0 ∙ ap (λ n. n ∷ c.in-Some.behind.now) (sym c.from-size.ensures) in
    more_behind c.args.octets.now c.in-Some.behind.now c.args.before c.from-size.result parts c.if-size-eq0.true c.requires.no_end

pub returns-then-size-gt63-clause-err : goal.returns-then-size-gt63-clause-err
returns-then-size-gt63-clause-err c =
    let parts = c.in-Some.ensures.cases.0 ∙ ap (λ n. n ∷ c.in-Some.behind.now) (sym c.from-size.ensures) in
    above_63 c.args.octets.now c.in-Some.behind.now c.args.before c.from-size.result parts c.if-size-gt63.true

pub returns-then-before-size-gt253-clause-err : goal.returns-then-before-size-gt253-clause-err
returns-then-before-size-gt253-clause-err c =
    let parts = c.in-Some.ensures.cases.0 ∙ ap (λ n. n ∷ c.in-Some.behind.now) (sym c.from-size.ensures) in
    no_room c.args.octets.now c.in-Some.behind.now c.args.before c.from-size.result parts (omega arith) (omega arith) (omega arith)

pub returns-in-None-clause-err : goal.returns-in-None-clause-err
returns-in-None-clause-err c =
    let parts = c.in-Some.ensures.cases.0 ∙ ap (λ n. n ∷ c.in-Some.behind.now) (sym c.from-size.ensures) in
    cut c.args.octets.now c.in-Some.behind.now c.args.before c.from-size.result parts (omega arith) (omega arith) (omega arith) (omega (arith, c.in-None.ensures.cases))
