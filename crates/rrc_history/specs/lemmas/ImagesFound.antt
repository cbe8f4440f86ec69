-- SPDX-License-Identifier: MIT
-- What is found and held after a history made before keys had a class is what is found and held after its image.
use Rattle.std.specs.Prelude.{◌≡◌, ℕ, ◌+◌, List, [], ◌∷◌, Bool, true, false, ◌==◌, if◌then◌else◌, Option, Some, None, map}
use Rattle.std.specs.Option.{option_map}
use Rattle.std.proofs.Common.{refl, ap, ◌∙◌}
use Rattle.std.proofs.lemmas.List.{length-map}
use Rattle.rrc_name.specs.Key.{KeyOf}
use Rattle.rrc_name.specs.Images.{IN, image_of as image_of_key}
use Rattle.rrc_name.specs.classless.Key as former_key
use Rattle.rrc_name.specs.lemmas.ImageLaws.{image-other}
use Rattle.rrc_history.specs.declared.event.Outcome.{Outcome}
use Rattle.rrc_history.specs.declared.event.Outcome.TheVariants.{Kept, Cleared, LessTrusted}
use Rattle.rrc_history.specs.declared.classless.Event.{Event as Classless}
use Rattle.rrc_history.specs.declared.classless.Event.TheVariants.{Offered, Asked, Swept}
use Rattle.rrc_history.specs.declared.classless.Entry.{Entry as ClasslessEntry}
use Rattle.rrc_history.specs.declared.classless.Snapshot.{Snapshot}
use Rattle.rrc_history.specs.Past.{entry_at, is_among, is_evicted, number_after, held, held_after_offer, place_of}
use Rattle.rrc_history.specs.Images.{image_of_event, image_of_snapshot, image_of_entry, image_of_offer}
use Rattle.rrc_history.specs.classless.Fits.{OfferOf}
use Rattle.rrc_history.specs.classless.Past as former

-- ---- entries and keys

pub image-entry_at : (key : former_key.KeyOf) (entries : List ClasslessEntry) → entry_at (image_of_key key) (map image_of_entry entries) ≡ option_map image_of_entry (former.entry_at key entries)
image-entry_at key [] = refl
image-entry_at key (entry ∷ entries) = by (former_key.key_eq key entry.key) refl (image-entry_at key entries)
  where
    by : (same : Bool) → former_key.key_eq key entry.key ≡ same
        → entry_at (image_of_key key) (map image_of_entry entries) ≡ option_map image_of_entry (former.entry_at key entries)
        → entry_at (image_of_key key) (map image_of_entry (entry ∷ entries)) ≡ option_map image_of_entry (former.entry_at key (entry ∷ entries))
    by true is rest = rw is refl
    by false is rest = rw is rest

-- a key of another class is that of no entry
pub other-entry_at : (key : KeyOf) → (key.class == IN) ≡ false → (entries : List ClasslessEntry) → entry_at key (map image_of_entry entries) ≡ None
other-entry_at key other [] = refl
other-entry_at key other (entry ∷ entries) = let not_here = image-other key entry.key other in rw not_here (other-entry_at key other entries)

pub image-is_among : (key : former_key.KeyOf) (keys : List former_key.KeyOf) → is_among (image_of_key key) (map image_of_key keys) ≡ former.is_among key keys
image-is_among key [] = refl
image-is_among key (first ∷ keys) = by (former_key.key_eq key first) refl (image-is_among key keys)
  where
    by : (same : Bool) → former_key.key_eq key first ≡ same → is_among (image_of_key key) (map image_of_key keys) ≡ former.is_among key keys
        → is_among (image_of_key key) (map image_of_key (first ∷ keys)) ≡ former.is_among key (first ∷ keys)
    by true is rest = rw is refl
    by false is rest = rw is rest

pub other-is_among : (key : KeyOf) → (key.class == IN) ≡ false → (keys : List former_key.KeyOf) → is_among key (map image_of_key keys) ≡ false
other-is_among key other [] = refl
other-is_among key other (first ∷ keys) = let not_here = image-other key first other in rw not_here (other-is_among key other keys)

pub image-is_evicted : (key : former_key.KeyOf) (evicted : Option former_key.KeyOf) → is_evicted (image_of_key key) (option_map image_of_key evicted) ≡ former.is_evicted key evicted
image-is_evicted key None = refl
image-is_evicted key (Some evicted) = refl

other-is_evicted : (key : KeyOf) → (key.class == IN) ≡ false → (evicted : Option former_key.KeyOf) → is_evicted key (option_map image_of_key evicted) ≡ false
other-is_evicted key other None = refl
other-is_evicted key other (Some evicted) = image-other key evicted other

pub image-place_of : (key : former_key.KeyOf) (entries : List ClasslessEntry) → place_of (image_of_key key) (map image_of_entry entries) ≡ former.place_of key entries
image-place_of key [] = refl
image-place_of key (entry ∷ entries) = by (former_key.key_eq key entry.key) refl (image-place_of key entries)
  where
    by : (same : Bool) → former_key.key_eq key entry.key ≡ same → place_of (image_of_key key) (map image_of_entry entries) ≡ former.place_of key entries
        → place_of (image_of_key key) (map image_of_entry (entry ∷ entries)) ≡ former.place_of key (entry ∷ entries)
    by true is rest = rw is (length-map entries image_of_entry)
    by false is rest = rw is rest

pub image-number_after : (snapshot : Snapshot) (past : List Classless) → number_after (image_of_snapshot snapshot) (map image_of_event past) ≡ former.number_after snapshot past
image-number_after snapshot past = ap (λ n. snapshot.first + n) (length-map past image_of_event)

-- ---- what a key holds

image-held_after_offer : (number : ℕ) (offer : OfferOf) (outcome : Outcome) (evicted : Option former_key.KeyOf) (key : former_key.KeyOf) (before : Option ClasslessEntry)
    → held_after_offer number (image_of_offer offer) outcome (option_map image_of_key evicted) (image_of_key key) (option_map image_of_entry before)
    ≡ option_map image_of_entry (former.held_after_offer number offer outcome evicted key before)
image-held_after_offer number offer LessTrusted evicted key before = refl
image-held_after_offer number offer Cleared evicted key before = by (former_key.key_eq key offer.key) refl
  where
    by : (same : Bool) → former_key.key_eq key offer.key ≡ same
        → held_after_offer number (image_of_offer offer) Cleared (option_map image_of_key evicted) (image_of_key key) (option_map image_of_entry before)
        ≡ option_map image_of_entry (former.held_after_offer number offer Cleared evicted key before)
    by true is = rw is refl
    by false is = rw is refl
image-held_after_offer number offer Kept evicted key before = by (former_key.key_eq key offer.key) refl (former.is_evicted key evicted) refl
  where
    by : (same : Bool) → former_key.key_eq key offer.key ≡ same → (gone : Bool) → former.is_evicted key evicted ≡ gone
        → held_after_offer number (image_of_offer offer) Kept (option_map image_of_key evicted) (image_of_key key) (option_map image_of_entry before)
        ≡ option_map image_of_entry (former.held_after_offer number offer Kept evicted key before)
    by true is gone at = rw is refl
    by false is true at = let out = image-is_evicted key evicted ∙ at in rw (is, at, out) refl
    by false is false at = let stays = image-is_evicted key evicted ∙ at in rw (is, at, stays) refl

pub image-held : (snapshot : Snapshot) (past : List Classless) (key : former_key.KeyOf)
    → held (image_of_snapshot snapshot) (map image_of_event past) (image_of_key key) ≡ option_map image_of_entry (former.held snapshot past key)
unfolding held former.held
image-held snapshot [] key = image-entry_at key snapshot.entries
image-held snapshot (Offered outcome tag offer evicted ∷ events) key =
    let number = image-number_after snapshot events in
    let before = image-held snapshot events key in
    rw (number, before) (image-held_after_offer (former.number_after snapshot events) offer outcome evicted key (former.held snapshot events key))
image-held snapshot (Asked tag ask reply ∷ events) key = image-held snapshot events key
image-held snapshot (Swept tag moment gone ∷ events) key = by (former.is_among key gone) refl (image-held snapshot events key)
  where
    by : (out : Bool) → former.is_among key gone ≡ out
        → held (image_of_snapshot snapshot) (map image_of_event events) (image_of_key key) ≡ option_map image_of_entry (former.held snapshot events key)
        → (if is_among (image_of_key key) (map image_of_key gone) then None else held (image_of_snapshot snapshot) (map image_of_event events) (image_of_key key))
        ≡ option_map image_of_entry (if former.is_among key gone then None else former.held snapshot events key)
    by true is rest = let out = image-is_among key gone ∙ is in rw (is, out) refl
    by false is rest = let stays = image-is_among key gone ∙ is in rw (is, stays) rest

-- a key of another class holds nothing after an image
other-held_after_offer : (number : ℕ) (offer : OfferOf) (outcome : Outcome) (evicted : Option former_key.KeyOf) (key : KeyOf) → (key.class == IN) ≡ false
    → held_after_offer number (image_of_offer offer) outcome (option_map image_of_key evicted) key None ≡ None
other-held_after_offer number offer LessTrusted evicted key other = refl
other-held_after_offer number offer Cleared evicted key other = let not_its = image-other key offer.key other in rw not_its refl
other-held_after_offer number offer Kept evicted key other =
    let not_its = image-other key offer.key other in let stays = other-is_evicted key other evicted in rw (not_its, stays) refl

pub other-held : (snapshot : Snapshot) (past : List Classless) (key : KeyOf) → (key.class == IN) ≡ false
    → held (image_of_snapshot snapshot) (map image_of_event past) key ≡ None
unfolding held
other-held snapshot [] key other = other-entry_at key other snapshot.entries
other-held snapshot (Offered outcome tag offer evicted ∷ events) key other =
    let before = other-held snapshot events key other in
    rw before (other-held_after_offer (number_after (image_of_snapshot snapshot) (map image_of_event events)) offer outcome evicted key other)
other-held snapshot (Asked tag ask reply ∷ events) key other = other-held snapshot events key other
other-held snapshot (Swept tag moment gone ∷ events) key other =
    let stays = other-is_among key other gone in rw stays (other-held snapshot events key other)
