-- SPDX-License-Identifier: MIT
use Rattle.std.proofs.Common.{refl}
use Rattle.rrc_archive.proofs.CountLemmas.{count-read, count-not_read, count-not_text}
use Rattle.rrc_archive.proofs.read.number.count_at.Goals as goal

pub returns-in_default-clause-exact : goal.returns-in_default-clause-exact
returns-in_default-clause-exact c =
    rw (c.in_ok-field.ensures, count-not_text c.in_ok-field.field.now c.in_default.ensures.cases.0) refl

pub returns-in-Ok-parse-clause-exact : goal.returns-in-Ok-parse-clause-exact
returns-in-Ok-parse-clause-exact c =
    let parsed = c.in-Ok-parse.ensures.value.0 in
    rw (c.in_ok-field.ensures, count-read c.in_ok-field.field.now c.in-Ok.text.now c.in-Ok-parse.count c.in-Ok.ensures.cases.0 parsed.0 parsed.1) refl

pub returns-in-Err-clause-exact : goal.returns-in-Err-clause-exact
returns-in-Err-clause-exact c =
    rw (c.in_ok-field.ensures, count-not_read c.in_ok-field.field.now c.in-Ok.text.now c.in-Ok.ensures.cases.0 c.in-Err.ensures.value.0) refl
