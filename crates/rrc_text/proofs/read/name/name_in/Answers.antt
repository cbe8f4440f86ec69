-- SPDX-License-Identifier: MIT
use Rattle.std.proofs.Common.{◌≡◌, ◌≢◌, Ok, Err, arith, refl, sym, ap, ◌∙◌, ⊎_elim, rules}
use Rattle.std.proofs.lemmas.Str.{IsUtf8-from_ascii}
use Rattle.rrc_name.specs.declared.fault.NameFault.TheVariants.{Memory}
use Rattle.rrc_name.specs.Reading.{name_in}
use Rattle.rrc_name.specs.Text.{IsFirstFaultOf}
use Rattle.rrc_name.proofs.TextRuns.{name_in-spelled, name_in-fault}
use Rattle.rrc_text.proofs.NameLemmas.{says_no_name}
use Rattle.rrc_text.proofs.read.name.name_in.Goals as goal

pub returns-then-not-is_ascii : goal.returns-then-not-is_ascii
returns-then-not-is_ascii c =
    let octet = c.if-not-is_ascii.ensures.cases in says_no_name c.args.field.now (λ ascii. absurd (omega (arith, ascii octet.0, octet.1)))

pub returns-in_default : goal.returns-in_default
returns-in_default c = absurd (c.in_default.ensures.cases.0 (IsUtf8-from_ascii c.args.field.now c.if-not-is_ascii.ensures.cases))

pub returns-in-Ok-from_text : goal.returns-in-Ok-from_text
returns-in-Ok-from_text c =
    let spelled : name_in c.args.field.now ≡ Ok c.in-Ok-from_text.name =
    ap name_in (sym c.in-Ok.ensures.cases.0) ∙ name_in-spelled c.in-Ok.text.now c.in-Ok-from_text.name c.in-Ok-from_text.ensures.ok in
    rw spelled refl

pub returns-in-Err : goal.returns-in-Err
returns-in-Err c =
    let no_memory : c.in-Err.field-0 ≢ Memory = λ memory. absurd (search rules) in
    let first : IsFirstFaultOf c.in-Ok.text.now c.in-Err.field-0 = ⊎_elim (λ memory. absurd (no_memory memory)) (λ first. first) c.in-Err.ensures.err in
    let faulty : name_in c.args.field.now ≡ Err c.in-Err.field-0 =
    ap name_in (sym c.in-Ok.ensures.cases.0) ∙ name_in-fault c.in-Ok.text.now c.in-Err.field-0 first in
    rw faulty refl
