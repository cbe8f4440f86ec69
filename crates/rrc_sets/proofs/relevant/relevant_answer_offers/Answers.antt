-- SPDX-License-Identifier: MIT
use Rattle.std.proofs.Common.{◌++◌}
use Rattle.std.specs.List.{All}
use Rattle.std.proofs.lemmas.List.Elements.{All-append, All-same}
use Rattle.rrc_sets.specs.Kept.{IsOfRecords}
use Rattle.rrc_sets.proofs.relevant.relevant_answer_offers.Goals as goal

pub add-requires-clause-all : goal.add-requires-clause-all
add-requires-clause-all c =
    let first = c.in_ok-offers.offers.items in let second = c.in_ok-authority.authority.items in let third = c.in_ok-additional.additional.items in
    let naming : All IsOfRecords c.append.new.self.items =
    All-same IsOfRecords c.append.new.self.items (first ++ second) c.in_ok-append.ensures.items
    (All-append IsOfRecords first second c.in_ok-offers.ensures.kept c.in_ok-authority.ensures.kept) in
    All-same IsOfRecords c.append-2.new.self.items (c.append.new.self.items ++ third) c.in_ok-append-2.ensures.items
    (All-append IsOfRecords c.append.new.self.items third naming c.in_ok-additional.ensures.kept)
