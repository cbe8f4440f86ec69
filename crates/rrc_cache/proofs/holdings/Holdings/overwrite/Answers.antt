-- SPDX-License-Identifier: MIT
use Rattle.std.proofs.Common.{◌≡◌, Option, Some, sym, subst}
use Rattle.std.specs.Prelude.{IfSome, IsSome}
use Rattle.std.specs.Map.{lookup}
use Rattle.std.specs.Option.{option_map}
use Rattle.std.proofs.lemmas.Option.{IfSome_then}
use Rattle.rrc_name.specs.Key.{key_eq}
use Rattle.rrc_history.specs.declared.snapshot.Entry.{Entry}
use Rattle.rrc_history.specs.Fits.{OfferOf}
use Rattle.rrc_history.specs.Past.{entry_of}
use Rattle.rrc_cache.specs.Counted.{counted_octets, held_octets}
use Rattle.rrc_cache.specs.Keyed.{KeyedOf}
use Rattle.rrc_cache.proofs.Counted.{octets_in, told_octets, with_written}
use Rattle.rrc_cache.proofs.holdings.Holdings.overwrite.Goals as goal

pub invariant_of-self-2 : goal.invariant_of-self-2
invariant_of-self-2 c =
    let offer : OfferOf = c.args.offer.now in
    let found : Option Entry = lookup (key_eq offer.key) c.self.inside.keyed.map.entries in
    let told : IfSome c.args.replaced (λ octets. option_map counted_octets found ≡ Some octets) =
    subst (λ (now : KeyedOf). IfSome c.args.replaced (λ octets. option_map counted_octets (lookup (key_eq offer.key) now.map.entries) ≡ Some octets)) (sym c.self.view_is) c.requires.octets in
    let held : IsSome found = subst (λ (now : KeyedOf). IsSome (lookup (key_eq offer.key) now.map.entries)) (sym c.self.view_is) c.requires.held in
    c.with_offered-self-inside.ensures (octets_in c.self.inside.keyed.map.entries) (octets_in c.overwrite.new.self.map.entries) (held_octets found) c.self.invariant
    (IfSome_then c.args.replaced told (told_octets found))
    (with_written c.self.inside.keyed.map c.overwrite.new.self.map offer.key (entry_of offer c.args.number) held c.in_ok-overwrite.ensures.ok)
