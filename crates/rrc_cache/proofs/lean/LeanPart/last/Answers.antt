-- SPDX-License-Identifier: MIT
use Rattle.std.proofs.Common.{ap, subst, ◌∙◌, List}
use Rattle.rrc_history.specs.declared.snapshot.Entry.{Entry}
use Rattle.rrc_history.specs.Past.{AreContents}
use Rattle.rrc_history.specs.lemmas.OneHistory.{one_contents}
use Rattle.rrc_cache.specs.Lasts.{last_of}
use Rattle.rrc_cache.specs.Part.{PartOf, past_of}
use Rattle.rrc_cache.proofs.LeanKeeping.{last_fits}
use Rattle.rrc_cache.proofs.lean.LeanPart.last.Goals as goal

pub returns-clause-value : goal.returns-clause-value
returns-clause-value c =
    let entries : List Entry = c.self.inside.store.entries in
    let P : PartOf → Type 0 = λ part. AreContents part.snapshot (past_of part) entries in
    let held : P c.args.self.now = subst P c.self.view_is c.self.invariant.leaves.contents in
    λ contents are.
    c.last.ensures ∙ ap (λ (es : List Entry). last_of es) (one_contents c.args.self.now.snapshot (past_of c.args.self.now) entries contents held are)

pub returns-clause-fits : goal.returns-clause-fits
returns-clause-fits c = last_fits c.self.inside.store.entries c.last.result c.self.invariant.leaves.kept.fit c.last.ensures
