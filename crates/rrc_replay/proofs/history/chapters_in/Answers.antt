-- SPDX-License-Identifier: MIT
use Rattle.std.proofs.Common.{◌≡◌, ◌≤◌, length, arith, ap, refl, subst}
use Rattle.std.specs.List.{flat_map}
use Rattle.rrc_archive.specs.Archive.{archive_text, lines_of}
use Rattle.rrc_archive.specs.ArchiveLaw.{IsOnlyArchive}
use Rattle.rrc_replay.proofs.ArchiveLemmas.{archive_within}
use Rattle.rrc_replay.proofs.history.chapters_in.Goals as goal

pub restored-requires-clause-archive : goal.restored-requires-clause-archive
restored-requires-clause-archive c = record {
  written = refl;
  held = c.in-Ok.ensures.held;
  only = subst (λ octets. IsOnlyArchive octets c.in-Ok.written.items) c.in-Ok.ensures.ok c.in-Ok.ensures.only;
}

pub restored-requires-clause-few : goal.restored-requires-clause-few
restored-requires-clause-few c =
    let within : length (flat_map lines_of c.in-Ok.written.items) ≤ length (archive_text c.in-Ok.written.items) = archive_within c.in-Ok.written.items in
    let octets : length c.args.octets.now ≡ length (archive_text c.in-Ok.written.items) = ap length c.in-Ok.ensures.ok in
    omega (arith, within, octets)
