-- SPDX-License-Identifier: MIT
use Rattle.std.proofs.Common.{refl, sym, ap, ◌∙◌}
use Rattle.rrc_history.specs.Chains.{WholeOf}
use Rattle.rrc_history.specs.Chapters.{ChapterOf}
use Rattle.rrc_history.proofs.Joining.{leads_on}
use Rattle.rrc_history.proofs.chains.Whole.extended.Goals as goal

pub invariant_of-result : goal.invariant_of-result
invariant_of-result c =
    leads_on c.self.inside.snapshot c.self.inside.closing c.chapter.inside.snapshot c.chapter.inside.closing c.self.inside.events c.chapter.inside.events c.from_vec.result
    c.self.invariant c.chapter.invariant.leads
    (ap (λ (chapter : ChapterOf). chapter.snapshot) c.chapter.view_is ∙ (c.requires ∙ sym (ap (λ (whole : WholeOf). whole.closing) c.self.view_is)))
    (c.from_vec.ensures ∙ (c.in_ok-append.ensures.items ∙ rw (c.into_vec-events.ensures, c.into_vec.ensures) refl))

pub returns-clause-leads : goal.returns-clause-leads
returns-clause-leads c =
    leads_on c.self.inside.snapshot c.self.inside.closing c.chapter.inside.snapshot c.chapter.inside.closing c.self.inside.events c.chapter.inside.events c.from_vec.result
    c.self.invariant c.chapter.invariant.leads
    (ap (λ (chapter : ChapterOf). chapter.snapshot) c.chapter.view_is ∙ (c.requires ∙ sym (ap (λ (whole : WholeOf). whole.closing) c.self.view_is)))
    (c.from_vec.ensures ∙ (c.in_ok-append.ensures.items ∙ rw (c.into_vec-events.ensures, c.into_vec.ensures) refl))
