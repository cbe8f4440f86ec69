-- SPDX-License-Identifier: MIT
use Rattle.std.proofs.Common.{rules, ◌≡◌, ◌^◌, ◌%◌, List, ap, subst, ◌∙◌}
use Rattle.rrc_history.specs.declared.snapshot.Entry.{Entry}
use Rattle.rrc_history.specs.Octets.{octets_of}
use Rattle.rrc_history.specs.Past.{AreContents}
use Rattle.rrc_history.specs.lemmas.OneHistory.{one_contents}
use Rattle.rrc_cache.specs.Part.{PartOf, past_of}
use Rattle.rrc_cache.proofs.lean.LeanPart.octets.Goals as goal

pub returns : goal.returns
returns c =
    let entries : List Entry = c.self.inside.store.entries in
    let P : PartOf → Type 0 = λ part. AreContents part.snapshot (past_of part) entries in
    let held : P c.args.self.now = subst P c.self.view_is c.self.invariant.leaves.contents in
    let many : c.octets.result ≡ octets_of entries % 2 ^ 64 = search rules in
    record {
      entries = entries;
      held = held;
      counted = λ contents are.
          many ∙ ap (λ (es : List Entry). octets_of es % 2 ^ 64) (one_contents c.args.self.now.snapshot (past_of c.args.self.now) entries contents held are);
    }
