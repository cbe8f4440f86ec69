-- SPDX-License-Identifier: MIT
use Rattle.std.proofs.Common.{◌≡◌, ◌+◌, ◌∙◌, ap, subst, length}
use Rattle.rrc_report.specs.Called.{tag_at, Asked}
use Rattle.rrc_report.proofs.CallSteps.{offered_length}
use Rattle.rrc_report.proofs.answers.fetched.Goals as goal

pub returns : goal.returns
returns g c =
    let makes = g.C.Calls.makes in
    let line = c.args.line in
    let offers = c.in-Ok.offers.items in
    let told = c.in_ok-told.told in
    let ask = c.in_ok-ask_at.field-0 in
    let reply = c.in_ok-reply.reply in
    let middle = c.tell_all.new.cache in
    let new = c.ask-2.new.self in
    let size : length c.as_slice.result.now ≡ length offers = ap length c.as_slice.ensures ∙ offered_length makes line 1 offers c.args.cache.now middle told c.in_ok-told.ensures in
    let there : makes middle (Asked (tag_at line (1 + length offers)) ask reply) new =
    subst (λ n. makes middle (Asked (tag_at line (1 + n)) ask reply) new) size c.in_ok-reply.ensures in
    record {
      offers = offers;
      brought = c.in-Ok.ensures.ok;
      middle = middle;
      made = c.in_ok-told.ensures;
      last = subst (λ a. makes middle (Asked (tag_at line (1 + length offers)) a reply) new) c.in_ok-ask_at.ensures there;
    }
