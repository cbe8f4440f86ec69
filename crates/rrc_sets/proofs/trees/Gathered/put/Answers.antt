-- SPDX-License-Identifier: MIT
use Rattle.std.proofs.Common.{◌≡◌, ◌∙◌, sym, ap, subst, not, length, List}
use Rattle.std.specs.List.{position_or_len}
use Rattle.std.specs.Option.{unwrap_or}
use Rattle.rrc_name.specs.Wire.{folded}
use Rattle.rrc_wire.specs.Kept.{RrOf}
use Rattle.rrc_wire.specs.SameRdata.{lowered_rdata}
use Rattle.rrc_sets.specs.Sets.{SetOf}
use Rattle.rrc_sets.specs.Gathering.{with_record}
use Rattle.rrc_sets.specs.Trees.{place_at, has_at, FindsPlaces, FindsData}
use Rattle.rrc_sets.proofs.Places.{takes}
use Rattle.rrc_sets.proofs.Finding.{place-found, FindsData-put}
use Rattle.rrc_sets.proofs.trees.Gathered.put.Goals as goal

pub place_of-requires : goal.place_of-requires
place_of-requires c = subst (FindsPlaces c.self.inside.places) (sym c.as_slice.ensures.value) c.self.invariant.0

pub put_at-requires-clause-place : goal.put_at-requires-clause-place
put_at-requires-clause-place c =
    let rr = c.args.rr.now in
    c.in_ok-place.ensures.place ∙ ap (λ (sets : List SetOf). unwrap_or (place_at sets rr.rtype (folded rr.owner)) (length sets)) c.as_slice.ensures.value

pub put_at-requires-clause-is_new : goal.put_at-requires-clause-is_new
put_at-requires-clause-is_new c =
    let sets = c.self.inside.sets.items in let place = c.in_ok-place.place in
    c.in_ok-is_new.ensures.added
    ∙ ap not (c.self.invariant.1 (place, c.in_ok-lowered.lowered) ∙ ap (has_at sets place) (c.in_ok-lowered.ensures ∙ (c.in_ok-lowered_rdata.ensures ∙ (ap (lowered_rdata c.rr.inside.rtype) c.as_slice-2.ensures ∙ ap (λ (rr : RrOf). lowered_rdata rr.rtype rr.rdata) c.rr.view_is))))

pub invariant_of-result : goal.invariant_of-result
invariant_of-result c =
    let sets = c.self.inside.sets.items in let rr = c.args.rr.now in let place = c.in_ok-place.place in
    let at : place ≡ position_or_len (takes rr) sets =
    c.in_ok-place.ensures.place ∙ (ap (λ (s : List SetOf). unwrap_or (place_at s rr.rtype (folded rr.owner)) (length s)) c.as_slice.ensures.value ∙ place-found rr sets) in
    let after = sym c.in_ok-put_at.ensures in (
      subst (FindsPlaces c.place_of.new.places) after (subst (λ (s : List SetOf). FindsPlaces c.place_of.new.places (with_record s rr)) c.as_slice.ensures.value c.in_ok-place.ensures.finds),
      subst (FindsData c.insert.new.self) after
          (FindsData-put c.self.inside.seen c.insert.new.self sets rr place c.in_ok-lowered.lowered c.self.invariant.1 at
          (c.in_ok-lowered.ensures ∙ (c.in_ok-lowered_rdata.ensures ∙ (ap (lowered_rdata c.rr.inside.rtype) c.as_slice-2.ensures ∙ ap (λ (rr : RrOf). lowered_rdata rr.rtype rr.rdata) c.rr.view_is))) c.in_ok-is_new.ensures.updates.0),
    )

pub returns : goal.returns
returns c = c.in_ok-put_at.ensures ∙ ap (λ (sets : List SetOf). with_record sets c.args.rr.now) c.self.view_is
