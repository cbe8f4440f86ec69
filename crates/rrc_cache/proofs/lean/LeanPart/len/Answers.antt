-- SPDX-License-Identifier: MIT
use Rattle.std.proofs.Common.{rules, ◌≡◌, List, length, ap, subst, ◌∙◌}
use Rattle.rrc_history.specs.declared.snapshot.Entry.{Entry}
use Rattle.rrc_history.specs.Past.{AreContents}
use Rattle.rrc_history.specs.lemmas.OneHistory.{one_contents}
use Rattle.rrc_cache.specs.Part.{PartOf, past_of}
use Rattle.rrc_cache.proofs.lean.LeanPart.len.Goals as goal

pub returns-clause-keys : goal.returns-clause-keys
returns-clause-keys c =
    let entries : List Entry = c.self.inside.store.entries in
    let P : PartOf → Type 0 = λ part. AreContents part.snapshot (past_of part) entries in
    let held : P c.args.self.now = subst P c.self.view_is c.self.invariant.leaves.contents in
    let many : c.len.result ≡ length entries = search rules in
    record {
      entries = entries;
      held = held;
      counted = λ contents are.
          many ∙ ap (λ (es : List Entry). length es) (one_contents c.args.self.now.snapshot (past_of c.args.self.now) entries contents held are);
    }
