-- SPDX-License-Identifier: MIT
use Rattle.std.proofs.Common.{◌≡◌, ◌+◌, ◌++◌, [], ◌∷◌, take, sym, ap, ◌∙◌}
use Rattle.std.proofs.lemmas.List.{take_more}
use Rattle.rrc_sets.specs.Sets.{sets_of}
use Rattle.rrc_sets.specs.Gathering.{with_record}
use Rattle.rrc_sets.proofs.Growing.{sets_of-push}
use Rattle.rrc_sets.proofs.trees.sets_by_trees.Goals as goal

pub loop-rr-init : goal.loop-rr-init
unfolding sets_of
loop-rr-init c = c.new-gathered.ensures

pub loop-rr-preserved : goal.loop-rr-preserved
loop-rr-preserved c =
    let records = c.args.records.now in let i = c.loop-rr.rr-index in let rr = c.rr-item.result in
    let so_far : take (i + 1) records ≡ take i records ++ rr ∷ [] =
    take_more records i rr c.loop-rr-test.true ∙ ap (λ r. take i records ++ r ∷ []) (sym c.rr-item.is) in
    c.in_ok-gathered.ensures ∙ (ap (λ sets. with_record sets rr) c.loop-rr.invariant
    ∙ (sym (sets_of-push (take i records) rr) ∙ ap sets_of (sym so_far)))
