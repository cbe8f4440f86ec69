-- SPDX-License-Identifier: MIT
use Rattle.std.proofs.Common.{◌≡◌, ◌⊎◌, ◌∙◌, [], Ok, Err, IfErr, subst, sym, inl, inr, rules}
use Rattle.std.proofs.lemmas.Result.{IfErr-weaker}
use Rattle.rrc_name.specs.declared.fault.NameFault.TheVariants.{Memory}
use Rattle.rrc_name.specs.declared.text.Escape.TheVariants.{Unescaped}
use Rattle.rrc_name.specs.Reading.{name_from}
use Rattle.rrc_name.specs.Text.{Spells, IsFirstFaultOf}
use Rattle.rrc_name.proofs.TextLaw.{tested_root, tested_tells}
use Rattle.rrc_name.proofs.Spelling.{spelled-IsWireForm}
use Rattle.rrc_name.proofs.name.Name.from_text.Goals as goal

spelled : (c : goal.In_ok-new) → Spells c.args.text.now c.in_ok-new.field-0
spelled c =
    let text = c.as_bytes-text.result.now in
    let test = sym c.eq.ensures ∙ c.if-eq.false in
    let spells = tested_tells text c.as_slice.result.now (Ok c.in_ok-wire_in.field-0.items) test c.as_slice.ensures c.in_ok-wire_in.ensures.ok in
    subst (Spells c.args.text.now) (sym (c.in_ok-new.ensures.ok ∙ c.from_vec-wire.ensures)) (subst (λ t. Spells t c.in_ok-wire_in.field-0.items) c.as_bytes-text.ensures.value spells)

pub invariant_of-result : goal.invariant_of-result
invariant_of-result c = spelled-IsWireForm c.args.text.now c.in_ok-new.field-0 (spelled c)

pub returns-then-eq-clause-ok : goal.returns-then-eq-clause-ok
returns-then-eq-clause-ok c =
    subst (λ t. Spells t c.in_ok-root.field-0) c.as_bytes-text.ensures.value
    (tested_root c.as_bytes-text.result.now c.as_slice.result.now c.in_ok-root.field-0 (sym c.if-eq.ensures) c.as_slice.ensures c.in_ok-root.ensures)

pub returns-in_err-wire_in-clause-err : goal.returns-in_err-wire_in-clause-err
returns-in_err-wire_in-clause-err c =
    let text = c.as_bytes-text.result.now in
    let test = sym c.eq.ensures ∙ c.if-eq.false in
    let read : IfErr c.from_residual-in_err-wire_in.result (λ fault. (fault ≡ Memory) ⊎ (name_from [] [] Unescaped text ≡ Err fault)) = search rules in
    IfErr-weaker c.from_residual-in_err-wire_in.result _ (λ fault. (fault ≡ Memory) ⊎ IsFirstFaultOf c.args.text.now fault)
    (λ fault told. elim told [
      | inl memory ↦ inl memory
      | inr first ↦ inr (subst (λ t. IsFirstFaultOf t fault) c.as_bytes-text.ensures.value (tested_tells text c.as_slice.result.now (Err fault) test c.as_slice.ensures first))
    ])
    read

pub returns-clause-ok : goal.returns-clause-ok
returns-clause-ok c = spelled c
