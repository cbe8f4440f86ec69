-- SPDX-License-Identifier: MIT
use Rattle.std.proofs.Common.{◌≡◌, ◌++◌, length, ◌∙◌, arith}
use Rattle.std.proofs.lemmas.Result.{IfOk-weaker}
use Rattle.rrc_history.specs.EntryLists.{entries_at}
use Rattle.rrc_history.proofs.Renewed.{left_of_both, left_of_all}
use Rattle.rrc_history.proofs.entry_list.EntryList.without.Goals as goal

pub returns-then-is_worth_sharing : goal.returns-then-is_worth_sharing
returns-then-is_worth_sharing c =
    let count : c.len.result ≡ length c.self.inside.own.items = omega arith in
    IfOk-weaker c.led_by.result (λ list. list ≡ c.in_ok-own.own.items ++ c.in_ok-sharing.field-0) _
    (λ list is. is
    ∙ left_of_both c.in_ok-gone.gone.keys c.args.gone.now c.self.inside.own.items (entries_at c.self.inside.batched.batches.items c.self.inside.batched.places.items) c.args.self.now
    c.in_ok-own.own.items c.in_ok-sharing.field-0 c.len.result c.in_ok-gone.ensures c.self.view_is count c.in_ok-own.ensures c.in_ok-sharing.ensures)
    c.led_by.ensures

pub returns : goal.returns
returns c =
    IfOk-weaker c.led_by-else-is_worth_sharing.result (λ list. list ≡ c.in_ok-all.all.items ++ c.new.result) _
    (λ list is. is
    ∙ left_of_all c.in_ok-gone.gone.keys c.args.gone.now c.args.self.now c.in_ok-all.all.items c.new.result c.len-else-is_worth_sharing.result c.in_ok-gone.ensures
    c.len-else-is_worth_sharing.ensures c.in_ok-all.ensures c.new.ensures)
    c.led_by-else-is_worth_sharing.ensures
