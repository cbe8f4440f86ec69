-- SPDX-License-Identifier: MIT
-- Images of keys are equal, and ordered, as the keys are; a key of another class is no image.
use Rattle.std.specs.Prelude.{◌≡◌, Bool, true, false, ◌&&◌, ◌==◌, nat_eq}
use Rattle.std.specs.Cmp.{IsEquivalence, nat_eq_equiv, on_equiv}
use Rattle.std.specs.Cmp.Lexicographic.{lists_equiv, pointwise}
use Rattle.std.proofs.Common.{refl, sym}
use Rattle.std.proofs.lemmas.Bool.Decides.{Decides-eqb}
use Rattle.std.proofs.lemmas.Cmp.{and_equiv}
use Rattle.rrc_name.specs.Key.{KeyOf, key_eq, key_order}
use Rattle.rrc_name.specs.Images.{IN, image_of, without_class}
use Rattle.rrc_name.specs.classless.Key as classless
use Rattle.rrc_name.specs.lemmas.KeyLaws.{slot_eq-laws}

pub classless_key_eq-laws : IsEquivalence classless.key_eq
classless_key_eq-laws =
    and_equiv (on_equiv (λ (k : classless.KeyOf). k.name) (lists_equiv nat_eq_equiv)) (on_equiv (λ (k : classless.KeyOf). k.slot) slot_eq-laws)

-- images are equal exactly where their keys are
pub image-eq : (a b : classless.KeyOf) → key_eq (image_of a) (image_of b) ≡ classless.key_eq a b
image-eq a b = refl

-- images are ordered as their keys are
pub image-order : (a b : classless.KeyOf) → key_order (image_of a) (image_of b) ≡ classless.key_order a b
image-order a b = refl

-- a key of class IN is an image
pub image-whole : (key : KeyOf) → (key.class == IN) ≡ true → image_of (without_class key) ≡ key
image-whole key is =
    let class : IN ≡ key.class = sym ((Decides-eqb key.class IN).0 is) in
    λ i. record { name = key.name; class = class i; slot = key.slot }

-- a key of another class is none
pub image-other : (key : KeyOf) (other : classless.KeyOf) → (key.class == IN) ≡ false → key_eq key (image_of other) ≡ false
image-other key other is = rw is (by (pointwise nat_eq key.name other.name))
  where
    by : (same : Bool) → (same && false) ≡ false
    by true = refl
    by false = refl
