-- SPDX-License-Identifier: MIT
use Rattle.std.proofs.Common.{◌≡◌, ◌<◌, ℕ, List, length, subst}
use Rattle.rrc_page.specs.Told.{IsFilled}
use Rattle.rrc_page.proofs.page_calls.rrc_page_report.Goals as goal

pub returns-in-Ok-clause-done : goal.returns-in-Ok-clause-done
returns-in-Ok-clause-done c = λ done.
    record {
      config = c.in-Some.config;
      text = c.in-Ok.text.items;
      config_is = c.in-Some.ensures.some;
      text_is = c.in-Ok.ensures.ok;
      filled = subst (λ (items : List ℕ). IsFilled items c.args.buffer.now c.tell_text.new.buffer) c.as_slice.ensures.value (c.tell_text.ensures.done done);
      size = subst (λ (items : List ℕ). c.tell_text.new.told.size ≡ length items) c.as_slice.ensures.value c.tell_text.ensures.size;
    }

pub returns-in-Ok-clause-small : goal.returns-in-Ok-clause-small
returns-in-Ok-clause-small c = λ small.
    record {
      config = c.in-Some.config;
      text = c.in-Ok.text.items;
      config_is = c.in-Some.ensures.some;
      text_is = c.in-Ok.ensures.ok;
      long = subst (λ (items : List ℕ). length c.args.buffer.now < length items) c.as_slice.ensures.value (c.tell_text.ensures.small small);
      size = subst (λ (items : List ℕ). c.tell_text.new.told.size ≡ length items) c.as_slice.ensures.value c.tell_text.ensures.size;
    }
