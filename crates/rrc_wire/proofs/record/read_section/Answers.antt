-- SPDX-License-Identifier: MIT
use Rattle.std.proofs.Common.{◌≡◌, ◌++◌, sym, ap, ◌∙◌, inl, inr}
use Rattle.std.specs.Option.{option_to_list}
use Rattle.std.proofs.lemmas.Result.{err_from_is_err_and}
use Rattle.std.proofs.lemmas.List.{append-nil}
use Rattle.rrc_wire.specs.Record.{record_at, section_at}
use Rattle.rrc_wire.proofs.Pieces.{times-more, times-Err}
use Rattle.rrc_wire.proofs.record.read_section.Goals as goal
use Rattle.rrc_wire.proofs.record.read_section.Goals.{in-Some+in_ok-push-in-Some, in-None}

pub returns-in_err-rr-clause-gives : goal.returns-in_err-rr-clause-gives
unfolding section_at
returns-in_err-rr-clause-gives c =
    let message = c.args.source.now in let fault = c.in_err-rr.field-0.0 in
    let exit = err_from_is_err_and c.from_residual.result c.from_residual.ensures.1 in
    rw (exit.1, exit.2) (elim (c.in_err-rr.ensures.gives) [
      | inl refused ↦ inl refused
      | inr first ↦ inr (sym c.loop.invariant.left ∙ times-Err (record_at message) c.args.records c.loop.counter c.loop.kept c.loop.next fault c.loop-test.true
          (ap (λ octets. record_at octets c.loop.next) (sym c.loop.invariant.unchanged) ∙ first))
    ])

pub loop-preserved : goal.loop-preserved
unfolding section_at
loop-preserved c =
    let message = c.args.source.now in let behind = c.in_ok-rr.behind in
    let kept : c.match-rr.kept ≡ c.loop.kept ++ option_to_list c.in_ok-rr.rr =
    elim c.match-rr.branch [
      | in-Some+in_ok-push-in-Some w ↦ w.kept-is ∙ w.in_ok-push-in-Some.ensures.ok ∙ ap (λ rr. c.loop.kept ++ option_to_list rr) (sym w.in-Some.is)
      | in-None w ↦ w.kept-is ∙ sym (append-nil c.loop.kept) ∙ ap (λ rr. c.loop.kept ++ option_to_list rr) (sym w.in-None.is)
    ] in
    rw kept (record {
      unchanged = c.read_record.ensures.same ∙ c.loop.invariant.unchanged;
      left = sym (times-more (record_at message) c.args.records c.loop.counter c.loop.kept c.loop.next (option_to_list c.in_ok-rr.rr, behind) c.loop-test.true
          (ap (λ octets. record_at octets c.loop.next) (sym c.loop.invariant.unchanged) ∙ c.in_ok-rr.ensures.gives)) ∙ c.loop.invariant.left;
    })
