-- SPDX-License-Identifier: MIT
use Rattle.std.proofs.Common.{◌≡◌, ◌∙◌, ◌++◌, ◌∷◌, [], ℕ, true, sym, ap, subst, not, length, get_or, ◌<◌, ◌≤◌, arith}
use Rattle.std.specs.List.{position_or_len, slice_set, list_any}
use Rattle.rrc_wire.specs.SameRdata.{lowered_rdata, same_rdata}
use Rattle.rrc_sets.specs.Sets.{SetOf}
use Rattle.std.proofs.lemmas.List.Sums.{passes_at_first}
use Rattle.rrc_sets.specs.Gathering.{holds, grown}
use Rattle.rrc_sets.specs.Trees.{has_at}
use Rattle.rrc_sets.proofs.Places.{takes, at_place, no_place}
use Rattle.rrc_sets.proofs.Finding.{place-found, has-own}
use Rattle.rrc_sets.proofs.trees.put_at.Goals as goal

pub take-requires-clause-own : goal.take-requires-clause-own
take-requires-clause-own c =
    let sets = c.args.sets.now.items in let rr = c.args.rr.now in let d = c.index_mut.result.now in
    let at : c.args.place ≡ position_or_len (takes rr) sets = c.requires.place ∙ place-found rr sets in
    let inside : position_or_len (takes rr) sets < length sets = omega (arith, at, c.if-place-len.true, c.len.ensures, c.args.sets.now.ok) in
    subst (λ (set : SetOf). holds set rr ≡ true) (sym c.index_mut.ensures.value)
    (subst (λ (p : ℕ). holds (get_or sets p d) rr ≡ true) (sym at) (passes_at_first (takes rr) sets d inside))

pub take-requires-clause-is_new : goal.take-requires-clause-is_new
take-requires-clause-is_new c =
    let sets = c.args.sets.now.items in let rr = c.args.rr.now in let place = c.args.place in let d = c.index_mut.result.now in
    let low = lowered_rdata rr.rtype rr.rdata in
    let at : place ≡ position_or_len (takes rr) sets = c.requires.place ∙ place-found rr sets in
    let inside : position_or_len (takes rr) sets < length sets = omega (arith, at, c.if-place-len.true, c.len.ensures, c.args.sets.now.ok) in
    let own = subst (λ (p : ℕ). has_at sets p low ≡ list_any (λ item. same_rdata (get_or sets p d).rtype item rr.rdata) (get_or sets p d).items) (sym at) (has-own rr d sets inside) in
    c.requires.is_new
    ∙ ap not (subst (λ (set : SetOf). has_at sets place low ≡ list_any (λ item. same_rdata set.rtype item rr.rdata) set.items) (sym c.index_mut.ensures.value) own)

pub returns-in_ok-take : goal.returns-in_ok-take
returns-in_ok-take c =
    let sets = c.args.sets.now.items in let rr = c.args.rr.now in let place = c.args.place in let d = c.index_mut.result.now in
    let at : place ≡ position_or_len (takes rr) sets = c.requires.place ∙ place-found rr sets in
    let inside : position_or_len (takes rr) sets < length sets = omega (arith, at, c.if-place-len.true, c.len.ensures, c.args.sets.now.ok) in
    ap (slice_set sets place) (c.in_ok-take.ensures ∙ ap (λ set. grown set rr) c.index_mut.ensures.value)
    ∙ (ap (λ (p : ℕ). slice_set sets p (grown (get_or sets p d) rr)) at ∙ sym (at_place rr sets d inside))

pub returns-in_ok-push : goal.returns-in_ok-push
returns-in_ok-push c =
    let sets = c.args.sets.now.items in let rr = c.args.rr.now in
    let at : c.args.place ≡ position_or_len (takes rr) sets = c.requires.place ∙ place-found rr sets in
    let past : length sets ≤ position_or_len (takes rr) sets = omega (arith, at, c.if-place-len.false, c.len.ensures, c.args.sets.now.ok) in
    c.in_ok-push.ensures.items
    ∙ (ap (λ set. sets ++ set ∷ []) c.in_ok-alone.ensures ∙ sym (no_place rr sets past))
