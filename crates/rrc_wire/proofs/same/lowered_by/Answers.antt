-- SPDX-License-Identifier: MIT
use Rattle.std.proofs.Common.{◌≡◌, ◌∙◌, sym, ap, subst, drop, length, Some}
use Rattle.std.proofs.lemmas.List.{take_at}
use Rattle.rrc_wire.specs.Plain.{Fills}
use Rattle.rrc_wire.specs.Shown.{as_layout}
use Rattle.rrc_wire.specs.SameRdata.{lowered_by}
use Rattle.rrc_wire.proofs.LoweredParts.{length-lowered_by}
use Rattle.rrc_wire.proofs.same.lowered_by.Goals as goal

pub lower_names-requires : goal.lower_names-requires
lower_names-requires c = subst (Fills (as_layout c.args.layout)) (sym (c.as_mut_slice.ensures.value ∙ c.in_ok-lowered.ensures.items)) c.requires

pub returns : goal.returns
returns c =
    let layout = as_layout c.args.layout in let copy = c.as_mut_slice.result.now in let new = c.lower_names.new.octets in
    let copied : copy ≡ c.args.octets.now = c.as_mut_slice.ensures.value ∙ c.in_ok-lowered.ensures.items in
    let size : length new ≡ c.in_ok-lowered.lowered.len =
    ap length c.lower_names.ensures ∙ (length-lowered_by layout copy (subst (Fills layout) (sym copied) c.requires) ∙ c.as_mut_slice.ensures.len) in
    c.from_vec.ensures
    ∙ (take_at new (drop (length new) c.in_ok-lowered.lowered.items) c.in_ok-lowered.lowered.len size ∙ (c.lower_names.ensures ∙ ap (lowered_by (Some layout)) copied))
