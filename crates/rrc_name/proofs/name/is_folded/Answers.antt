-- SPDX-License-Identifier: MIT
use Rattle.std.proofs.Common.{◌≡◌, ◌∙◌, ◌==◌, ℕ, List, [], ◌∷◌, Bool, IsTrue, refl, sym, rules, arith}
use Rattle.std.specs.Char.{to_ascii_lowercase}
use Rattle.std.specs.List.{list_all}
use Rattle.std.proofs.lemmas.Grind.{common_steps}
use Rattle.std.proofs.lemmas.Iterator.{YieldsList-from_slice}
use Rattle.std.proofs.lemmas.Iterator.Search.{all_from_yields_List}
use Rattle.rrc_name.specs.Key.{IsFolded}
use Rattle.rrc_name.proofs.name.is_folded.Goals as goal

abbrev all_stay : List ℕ → Bool
all_stay = list_all (λ octet. to_ascii_lowercase octet == octet)

folded-from_all : (octets : List ℕ) → IsTrue (all_stay octets) → IsFolded octets
folded-from_all [] all = refl
folded-from_all (octet ∷ octets) all = grind (arith, common_steps, folded-from_all octets)

all-from_folded : (octets : List ℕ) → IsFolded octets → IsTrue (all_stay octets)
all-from_folded [] same = refl
all-from_folded (octet ∷ octets) same = grind (arith, common_steps, all-from_folded octets)

pub returns : goal.returns
returns c =
    let wire = c.args.wire.now in
    let told : c.all.result ≡ all_stay wire =
    all_from_yields_List (λ octet. to_ascii_lowercase octet == octet) _ _ c.all.result c.all.ensures.ran (YieldsList-from_slice wire cc) (λ x b q k. search rules) in
    (λ all. folded-from_all wire (sym told ∙ all), λ same. told ∙ all-from_folded wire same)
