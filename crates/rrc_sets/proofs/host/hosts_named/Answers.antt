-- SPDX-License-Identifier: MIT
use Rattle.std.proofs.Common.{◌≡◌, ◌++◌, ◌+◌, ◌∷◌, [], ℕ, List, Bool, true, false, take, rules, ap, sym, ◌∙◌, append_assoc}
use Rattle.std.specs.Prelude.{filter, not}
use Rattle.std.specs.List.{flat_map}
use Rattle.std.proofs.lemmas.List.{take_more}
use Rattle.rrc_name.specs.Wire.{same_name}
use Rattle.rrc_history.specs.Fits.{OfferOf}
use Rattle.rrc_sets.specs.Relevant.{is_set_of, hosts_of}
use Rattle.rrc_sets.specs.Uniques.{uniques}
use Rattle.rrc_sets.proofs.Hosts.{same_name-laws, are-firsts, further, named-more, named-less}
use Rattle.rrc_sets.proofs.host.hosts_named.Goals as goal
use Rattle.rrc_sets.proofs.host.hosts_named.Goals.{then-not-is_set_of+in_ok-add_hosts_of, else-not-is_set_of}

abbrev is_other : OfferOf → Bool
is_other offer = not (is_set_of 2 offer)

pub add_hosts_of-requires : goal.add_hosts_of-requires
add_hosts_of-requires c =
    let offers : List OfferOf = c.args.offers.now in
    let before : List (List ℕ) = flat_map hosts_of (filter (is_set_of 2) offers) ++ flat_map hosts_of (filter is_other (take c.loop-offer.offer-index offers)) in
    are-firsts same_name same_name-laws c.from-most.result before c.loop-offer.hosts.items c.loop-offer.invariant

pub loop-offer-preserved : goal.loop-offer-preserved
loop-offer-preserved c =
    let i = c.loop-offer.offer-index in let offers : List OfferOf = c.args.offers.now in let offer : OfferOf = c.offer-item.result in
    let before : List OfferOf = take i offers in
    let servers : List (List ℕ) = flat_map hosts_of (filter (is_set_of 2) offers) in
    let named : List OfferOf → List (List ℕ) = λ xs. flat_map hosts_of (filter is_other xs) in
    let next : take (i + 1) offers ≡ before ++ offer ∷ [] = search (rules, take_more) in
    elim c.if-not-is_set_of.branch [
      | then-not-is_set_of+in_ok-add_hosts_of w ↦
          let is : is_other offer ≡ true = search rules in
          let later : c.if-not-is_set_of.hosts.items ≡ take c.from-most.result (uniques same_name (c.loop-offer.hosts.items ++ hosts_of offer)) = search rules in
          further same_name same_name-laws c.from-most.result (servers ++ named before) c.loop-offer.hosts.items (hosts_of offer) c.if-not-is_set_of.hosts.items
          (servers ++ named (take (i + 1) offers)) c.loop-offer.invariant later
          (append_assoc servers (named before) (hosts_of offer)
          ∙ ap (λ hs. servers ++ hs) (named-more hosts_of is_other before offer is ∙ ap named (sym next)))
      | else-not-is_set_of w ↦
          let is : is_other offer ≡ false = search rules in
          let same : c.if-not-is_set_of.hosts.items ≡ c.loop-offer.hosts.items = search rules in
          same ∙ (c.loop-offer.invariant
          ∙ ap (λ hs. take c.from-most.result (uniques same_name (servers ++ hs))) (named-less hosts_of is_other before offer is ∙ ap named (sym next)))
    ]
