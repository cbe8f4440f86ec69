-- SPDX-License-Identifier: MIT
use Rattle.std.proofs.Common.{◌≡◌, ◌+◌, [], ◌∷◌, ◌++◌, length, None, Ok, refl, sym, ap, subst, ◌∙◌, arith, inr, unwrap_or, Err}
use Rattle.std.specs.Prelude.{slice_range}
use Rattle.std.proofs.lemmas.Result.{err_from_is_err_and}
use Rattle.rrc_name.specs.Wire.{IsWireForm}
use Rattle.rrc_name.proofs.Spelling.{AreLabels, name_of_labels}
use Rattle.rrc_wire.specs.Item.{End, Label, Pointer, RunOf, item_at}
use Rattle.rrc_wire.specs.Shown.{as_item, as_run}
use Rattle.rrc_wire.specs.Name.{name_at}
use Rattle.rrc_wire.specs.Chain.{Leads}
use Rattle.rrc_wire.proofs.Items.{item_at-Label, item_at-Pointer}
use Rattle.rrc_wire.proofs.NameLoop.{Goes, no_labels, goes-begin, goes-Err, goes-End, goes-Label, goes-Pointer, labels-more, behind-within}
use Rattle.rrc_wire.proofs.Chains.{goes-leads, leads-below}
use Rattle.rrc_wire.proofs.name.read_wire.Goals as goal

pub loop-wire-init : goal.loop-wire-init
loop-wire-init c =
    let message = c.message-message.result.now in
    let none : [] ≡ c.in_ok-wire.wire = sym c.in_ok-wire.ensures in
    record {
      unchanged = sym c.message-message.ensures;
      labels = subst AreLabels none no_labels;
      stands = record { within = omega (arith, c.requires, ap length c.message-message.ensures); first_run = refl };
      goes = subst (λ before. Goes message (as_run c.args.first) (as_run c.args.first) before None c.args.first.start) none (goes-begin message (as_run c.args.first));
    }

pub returns-in_err-item_at-clause-gives : goal.returns-in_err-item_at-clause-gives
returns-in_err-item_at-clause-gives c =
    let message = c.message-message.result.now in let loop = c.loop-wire in let fault = c.in_err-item_at.field-0.0 in
    let size : length loop.wire ≡ c.len.result = sym c.len.ensures in
    let exit = err_from_is_err_and c.from_residual-in_err-item_at.result c.from_residual-in_err-item_at.ensures.1 in
    rw (exit.1, exit.2) (inr (subst (λ octets. name_at octets (as_run c.args.first) ≡ Err fault) c.message-message.ensures
    (goes-Err message (as_run c.args.first) (as_run loop.run) loop.wire loop.behind loop.place fault loop.invariant.labels.room loop.invariant.goes
    (ap (λ n. item_at message (as_run loop.run) n loop.place) size ∙ c.in_err-item_at.ensures))))

pub returns-in-End-clause-wire_form : goal.returns-in-End-clause-wire_form
returns-in-End-clause-wire_form c =
    subst IsWireForm (sym c.in_ok-push-in-End.ensures.ok) (name_of_labels c.loop-wire.wire c.loop-wire.invariant.labels)

pub returns-in-End-clause-gives : goal.returns-in-End-clause-gives
returns-in-End-clause-gives c =
    let message = c.message-message.result.now in let loop = c.loop-wire in
    let size : length loop.wire ≡ c.len.result = sym c.len.ensures in
    let item : item_at message (as_run loop.run) (length loop.wire) loop.place ≡ Ok End = ap (λ n. item_at message (as_run loop.run) n loop.place) size ∙ c.in_ok-item_at.ensures ∙ ap (λ found. Ok (as_item found)) c.in-End.is in
    rw (c.in_ok-push-in-End.ensures.ok, c.unwrap_or.ensures) (subst (λ octets. name_at octets (as_run c.args.first) ≡ Ok (loop.wire ++ 0 ∷ [], unwrap_or loop.behind (loop.place + 1))) c.message-message.ensures
    (goes-End message (as_run c.args.first) (as_run loop.run) loop.wire loop.behind loop.place loop.invariant.labels.room loop.invariant.goes item))

pub loop-wire-preserved-in-Label : goal.loop-wire-preserved-in-Label
loop-wire-preserved-in-Label c =
    let message = c.message-message.result.now in let loop = c.loop-wire in let octets = c.in-Label.size in
    let size : length loop.wire ≡ c.len.result = sym c.len.ensures in
    let item : item_at message (as_run loop.run) (length loop.wire) loop.place ≡ Ok (Label octets) = ap (λ n. item_at message (as_run loop.run) n loop.place) size ∙ c.in_ok-item_at.ensures ∙ ap (λ found. Ok (as_item found)) c.in-Label.is in
    let stands = item_at-Label message (as_run loop.run) (length loop.wire) loop.place octets item in
    let more : loop.wire ++ slice_range message loop.place (loop.place + 1 + octets) ≡ c.extend_from_slice.new.self = sym c.in_ok-extend_from_slice-in-Label.ensures.ok in
    record {
      unchanged = loop.invariant.unchanged;
      labels = subst AreLabels more (labels-more message (as_run loop.run) loop.wire octets loop.place (λ i. omega (arith, c.type_inv.message i)) loop.invariant.stands.within stands loop.invariant.labels);
      stands = loop.invariant.stands;
      goes = subst (λ before. Goes message (as_run c.args.first) (as_run loop.run) before loop.behind (loop.place + 1 + octets)) more (goes-Label message (as_run c.args.first) (as_run loop.run) loop.wire loop.behind loop.place octets loop.invariant.labels.room loop.invariant.stands.within loop.invariant.goes item);
    }

pub loop-wire-smaller : goal.loop-wire-smaller
loop-wire-smaller c =
    let message = c.message-message.result.now in let loop = c.loop-wire in let target = c.in-Pointer.target in
    let item : item_at message (as_run loop.run) c.len.result loop.place ≡ Ok (Pointer target) = c.in_ok-item_at.ensures ∙ ap (λ found. Ok (as_item found)) c.in-Pointer.is in
    let stands = item_at-Pointer message (as_run loop.run) c.len.result loop.place target item in
    let below = leads-below c.in_ok-place-in-Pointer.ensures.ok in
    let start : c.to_end-run.result.start ≡ c.in_ok-place-in-Pointer.place = ap (λ (run : RunOf). run.start) c.to_end-run.ensures in
    omega (arith, start, below, stands.lower, loop.invariant.labels.room)

pub loop-wire-preserved : goal.loop-wire-preserved
loop-wire-preserved c =
    let message = c.message-message.result.now in let loop = c.loop-wire in let target = c.in-Pointer.target in let place = c.in_ok-place-in-Pointer.place in
    let size : length loop.wire ≡ c.len.result = sym c.len.ensures in
    let item : item_at message (as_run loop.run) (length loop.wire) loop.place ≡ Ok (Pointer target) = ap (λ n. item_at message (as_run loop.run) n loop.place) size ∙ c.in_ok-item_at.ensures ∙ ap (λ found. Ok (as_item found)) c.in-Pointer.is in
    let stands = item_at-Pointer message (as_run loop.run) (length loop.wire) loop.place target item in
    let leads : Leads message target place = subst (λ octets. Leads octets target place) loop.invariant.unchanged c.in_ok-place-in-Pointer.ensures.ok in
    let there = goes-Pointer message (as_run c.args.first) (as_run loop.run) loop.wire loop.behind loop.place target loop.invariant.labels.room loop.invariant.goes item in
    rw (c.to_end-run.ensures, c.unwrap_or-in-Pointer.ensures) (record {
      unchanged = c.end_of_chain.ensures.same ∙ loop.invariant.unchanged;
      labels = loop.invariant.labels;
      stands = record { within = omega arith; first_run = behind-within message (as_run c.args.first) (as_run loop.run) loop.behind (loop.place + 2) loop.invariant.stands stands.within };
      goes = goes-leads leads (as_run c.args.first) loop.wire (unwrap_or loop.behind (loop.place + 2)) loop.invariant.labels.room there;
    })
