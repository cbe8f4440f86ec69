-- SPDX-License-Identifier: MIT
use Rattle.std.proofs.Common.{◌≡◌, ◌∙◌, sym, subst, ap, refl, ⊎_elim, arith, true}
use Rattle.std.proofs.lemmas.Bool.{and_parts, cases_lt}
use Rattle.std.proofs.lemmas.List.{get_or_default}
use Rattle.std.specs.Prelude.{slice_index}
use Rattle.hex.specs.Hex.{is_hex_digit}
use Rattle.rrc_text.proofs.read.digits.are_digits.Goals as goal

pub loop-octet-init : goal.loop-octet-init
loop-octet-init c = record { digits = λ _ k below. absurd (omega arith); all = λ _. refl }

pub loop-octet-preserved : goal.loop-octet-preserved
loop-octet-preserved c =
    let octets = c.args.octets.now in let index = c.loop-octet.octet-index in
    record {
      digits = λ all k below. let parts = and_parts c.loop-octet.all c.is_digit-all.result all in
          ⊎_elim (λ before. c.loop-octet.invariant.digits parts.0 k before)
          (λ past. subst (λ place. is_hex_digit (slice_index octets place) ≡ true) (omega arith) (sym c.is_digit-all.ensures ∙ parts.1))
          (cases_lt k index);
      all = λ digits.
          let before = c.loop-octet.invariant.all (λ k below. digits k (omega arith)) in
          let here = c.is_digit-all.ensures ∙ digits index (omega arith) in
          rw (before, here) refl;
    }

pub returns : goal.returns
returns c =
    let octets = c.args.octets.now in (
      λ all k d below. ap is_hex_digit (get_or_default octets k d 0 below) ∙ c.loop-octet.invariant.digits all k (omega (arith, below, c.loop-octet-test.false)),
      λ digits. c.loop-octet.invariant.all (λ k below. digits k 0 (omega (arith, below, c.loop-octet.auto.octet-index-end))),
    )
