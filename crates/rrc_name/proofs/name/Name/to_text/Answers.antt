-- SPDX-License-Identifier: MIT
use Rattle.std.proofs.Common.{◌≡◌, ◌∙◌, sym, subst, string_bytes}
use Rattle.std.proofs.lemmas.Result.{IfOk-weaker}
use Rattle.rrc_name.specs.Wire.{IsWireForm}
use Rattle.rrc_name.specs.Text.{Spells, text_of}
use Rattle.rrc_name.proofs.ReadAgain.{read_again}
use Rattle.rrc_name.proofs.name.Name.to_text.Goals as goal

pub returns-clause-read_again : goal.returns-clause-read_again
returns-clause-read_again c =
    let wire = c.as_slice.result.now in
    let seen = c.as_slice.ensures ∙ c.deref-2.ensures in
    let is = subst IsWireForm (sym seen) c.self.invariant in
    IfOk-weaker c.text_in.result (λ text. string_bytes text ≡ text_of wire) (λ text. Spells (string_bytes text) c.args.self.now)
    (λ text same. subst (λ t. Spells t c.args.self.now) (sym same) (subst (Spells (text_of wire)) (seen ∙ c.self.view_is) (read_again wire is)))
    c.text_in.ensures
