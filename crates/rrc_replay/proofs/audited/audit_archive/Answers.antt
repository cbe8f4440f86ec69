-- SPDX-License-Identifier: MIT
use Rattle.std.proofs.Common.{ℕ, length, ap, sym, ◌∙◌}
use Rattle.rrc_replay.specs.Audited.{legal_text}
use Rattle.rrc_replay.proofs.audited.audit_archive.Goals as goal

pub returns-in_ok-length_text-in-Ok : goal.returns-in_ok-length_text-in-Ok
returns-in_ok-length_text-in-Ok c =
    let tells = c.in-Ok.ensures.ok in
    record {
      chapters = tells.0;
      whole = c.in-Ok.counted.whole;
      are = tells.2;
      legal = c.in-Ok.ensures.leads.legal;
      told =
          c.in_ok-length_text-in-Ok.ensures
          ∙ sym (ap (λ (n : ℕ). legal_text n (length c.in-Ok.counted.whole.events) c.in-Ok.counted.whole.snapshot.first) tells.1);
    }
