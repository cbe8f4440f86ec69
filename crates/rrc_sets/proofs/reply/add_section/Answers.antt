-- SPDX-License-Identifier: MIT
use Rattle.std.proofs.Common.{◌≡◌, ◌++◌, List, [], ◌∷◌, Option, Some, None, refl, sym, ap, ◌∙◌, append_assoc}
use Rattle.std.specs.List.{filter_map, cons_option}
use Rattle.std.specs.Option.{option_to_list}
use Rattle.std.proofs.lemmas.List.{map-id}
use Rattle.std.proofs.lemmas.List.Elements.{filter_map-append}
use Rattle.std.proofs.lemmas.Iterator.Consumers.{YieldsList-end}
use Rattle.std.proofs.lemmas.Iterator.Adapters.{YieldsList-from_vec}
use Rattle.rrc_sets.specs.Sets.{SetOf, sets_of}
use Rattle.rrc_sets.specs.Offers.{set_offer, section_offers}
use Rattle.rrc_sets.specs.Response.{of_response}
use Rattle.rrc_sets.proofs.reply.add_section.Goals as goal

alone : {A : Type 0} (found : Option A) → cons_option found [] ≡ option_to_list found
alone (Some value) = refl
alone None = refl

pub loop-set-preserved : goal.loop-set-preserved
loop-set-preserved c =
    let made = of_response (set_offer c.args.section c.args.lowest) c.args.response in
    let before = c.args.offers.now.items in let set = c.in-Some.set in
    let more : filter_map made (c.loop-set.yielded ++ set ∷ []) ≡ filter_map made c.loop-set.yielded ++ option_to_list c.in_ok-offer.offer =
    filter_map-append made c.loop-set.yielded (set ∷ [])
    ∙ ap (λ offers. filter_map made c.loop-set.yielded ++ offers) (alone (made set) ∙ ap option_to_list (sym c.in_ok-offer.ensures.value)) in
    record {
      value =
          c.in_ok-add.ensures.value
          ∙ (ap (λ offers. offers ++ option_to_list c.in_ok-offer.offer) c.loop-set.invariant.value
          ∙ (append_assoc before (filter_map made c.loop-set.yielded) (option_to_list c.in_ok-offer.offer) ∙ ap (λ offers. before ++ offers) (sym more)));
      kept = c.in_ok-add.ensures.kept;
    }

pub add-requires-clause-all : goal.add-requires-clause-all
add-requires-clause-all c = c.loop-set.invariant.kept

pub returns-clause-kept : goal.returns-clause-kept
returns-clause-kept c = c.loop-set.invariant.kept

pub returns-clause-value : goal.returns-clause-value
unfolding section_offers
returns-clause-value c =
    let made = of_response (set_offer c.args.section c.args.lowest) c.args.response in
    let before = c.args.offers.now.items in let sets = c.in_ok-set-items.set-items in
    let gives = c.into_iter-set-iterator.ensures.into_iter_gives in
    let from = YieldsList-from_vec {s = c.into_iter-set-iterator.result} sets.items gives.0 (gives.1 ∙ sets.ok.0) in
    let whole = YieldsList-end from c.loop-set.yielded c.loop-set.set-iterator c.loop-set.yielded_by c.next.result c.next.new.self c.in-None.is c.next.ensures.steps in
    let all = sym (map-id c.loop-set.yielded) ∙ (whole.0 ∙ (c.in_ok-set-items.ensures ∙ ap sets_of c.records_of.ensures)) in
    c.loop-set.invariant.value ∙ ap (λ (yielded : List SetOf). before ++ filter_map made yielded) all
