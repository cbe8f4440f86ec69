-- SPDX-License-Identifier: MIT
-- When keys were touched, and what the contents are, is the same of a history made before keys had a class and of its image.
use Rattle.std.specs.Prelude.{◌≡◌, ℕ, ◌<◌, List, [], ◌∷◌, length, Bool, true, false, ◌==◌, if◌then◌else◌, Option, Some, None, map}
use Rattle.std.specs.Option.{option_map}
use Rattle.std.proofs.Common.{refl, sym, ap, subst, ◌∙◌}
use Rattle.std.proofs.lemmas.List.{length-map}
use Rattle.rrc_name.specs.Key.{KeyOf, key_eq}
use Rattle.rrc_name.specs.Images.{IN, image_of as image_of_key, without_class as key_without_class}
use Rattle.rrc_name.specs.classless.Key as former_key
use Rattle.rrc_name.specs.lemmas.ImageLaws.{image-whole}
use Rattle.rrc_history.specs.declared.event.Outcome.{Outcome}
use Rattle.rrc_history.specs.declared.event.Outcome.TheVariants.{Kept, Cleared, LessTrusted}
use Rattle.rrc_history.specs.declared.snapshot.Entry.{Entry}
use Rattle.rrc_history.specs.declared.classless.Event.{Event as Classless}
use Rattle.rrc_history.specs.declared.classless.Event.TheVariants.{Offered, Asked, Swept}
use Rattle.rrc_history.specs.declared.classless.Entry.{Entry as ClasslessEntry}
use Rattle.rrc_history.specs.declared.classless.Snapshot.{Snapshot}
use Rattle.rrc_history.specs.Judged.{answering, key_in}
use Rattle.rrc_history.specs.Past.{entry_at, is_evicted, held, touched_by_offer, touched, touch, FallsBelow, AreContents, last_key, victim}
use Rattle.rrc_history.specs.Images.{image_of_event, image_of_snapshot, image_of_entry, image_of_offer, image_of_ask, entry_without_class}
use Rattle.rrc_history.specs.classless.Fits.{OfferOf}
use Rattle.rrc_history.specs.classless.Judged as judged
use Rattle.rrc_history.specs.classless.Past as former
use Rattle.rrc_history.specs.lemmas.ImagesFound.{image-entry_at, other-entry_at, image-is_evicted, image-place_of, image-number_after, image-held, other-held}
use Rattle.rrc_history.specs.lemmas.ImagesJudged.{image-found, image-answering, image-key_in}
use Rattle.rrc_history.specs.lemmas.OneHistory.{first_found}

-- ---- touch

image-touched_by_offer : (offer : OfferOf) (outcome : Outcome) → touched_by_offer (image_of_offer offer) outcome ≡ option_map image_of_key (former.touched_by_offer offer outcome)
image-touched_by_offer offer Kept = refl
image-touched_by_offer offer Cleared = refl
image-touched_by_offer offer LessTrusted = refl

image-touched : (snapshot : Snapshot) (events : List Classless) (event : Classless)
    → touched (image_of_snapshot snapshot) (map image_of_event events) (image_of_event event) ≡ option_map image_of_key (former.touched snapshot events event)
image-touched snapshot events (Offered outcome tag offer evicted) = image-touched_by_offer offer outcome
image-touched snapshot events (Asked tag ask reply) =
    ap (λ f. key_in (answering f (image_of_ask ask) reply)) (image-found snapshot events ask)
    ∙ (ap key_in (image-answering (former.found snapshot events ask) ask reply) ∙ image-key_in (judged.answering (former.found snapshot events ask) ask reply))
image-touched snapshot events (Swept tag moment gone) = refl

pub image-touch : (snapshot : Snapshot) (events : List Classless) (key : former_key.KeyOf)
    → touch (image_of_snapshot snapshot) (map image_of_event events) (image_of_key key) ≡ former.touch snapshot events key
unfolding touch former.touch
image-touch snapshot [] key = image-place_of key snapshot.entries
image-touch snapshot (event ∷ events) key =
    let touches = ap (is_evicted (image_of_key key)) (image-touched snapshot events event) ∙ image-is_evicted key (former.touched snapshot events event) in
    let number = image-number_after snapshot events in
    let before = image-touch snapshot events key in
    rw (touches, number, before) refl

-- ---- contents

image-falls : (snapshot : Snapshot) (events : List Classless) (number : ℕ) (entries : List ClasslessEntry) → former.FallsBelow snapshot events number entries
    → FallsBelow (image_of_snapshot snapshot) (map image_of_event events) number (map image_of_entry entries)
image-falls snapshot events number [] falls = tt
image-falls snapshot events number (entry ∷ entries) falls =
    let same = image-touch snapshot events entry.key in
    rw same (falls.0, image-falls snapshot events (former.touch snapshot events entry.key) entries falls.1)

falls-back : (snapshot : Snapshot) (events : List Classless) (number : ℕ) (entries : List ClasslessEntry)
    → FallsBelow (image_of_snapshot snapshot) (map image_of_event events) number (map image_of_entry entries) → former.FallsBelow snapshot events number entries
falls-back snapshot events number [] falls = tt
falls-back snapshot events number (entry ∷ entries) falls =
    let same : touch (image_of_snapshot snapshot) (map image_of_event events) (image_of_key entry.key) ≡ former.touch snapshot events entry.key = image-touch snapshot events entry.key in
    let P : ℕ → Type 0 = λ n. FallsBelow (image_of_snapshot snapshot) (map image_of_event events) n (map image_of_entry entries) in (
      subst (λ n. n < number) same falls.0,
      falls-back snapshot events (former.touch snapshot events entry.key) entries (subst P same falls.1),
    )

-- a fact of images that holds of keys of other classes holds of all keys
pub of_every_key : (P : KeyOf → Type 0) → ((key : former_key.KeyOf) → P (image_of_key key)) → ((key : KeyOf) → (key.class == IN) ≡ false → P key) → (key : KeyOf) → P key
of_every_key P of_images of_others key = by (key.class == IN) refl
  where
    by : (in_class : Bool) → (key.class == IN) ≡ in_class → P key
    by true is = subst P (image-whole key is) (of_images (key_without_class key))
    by false is = of_others key is

pub image-contents : (snapshot : Snapshot) (events : List Classless) (entries : List ClasslessEntry) → former.AreContents snapshot events entries
    → AreContents (image_of_snapshot snapshot) (map image_of_event events) (map image_of_entry entries)
image-contents snapshot events entries are = record {
  agree =
      of_every_key (λ key. entry_at key (map image_of_entry entries) ≡ held (image_of_snapshot snapshot) (map image_of_event events) key)
      (λ key. image-entry_at key entries ∙ (ap (option_map image_of_entry) (are.agree key) ∙ sym (image-held snapshot events key)))
      (λ key other. other-entry_at key other entries ∙ sym (other-held snapshot events key other));
  falling = let number = image-number_after snapshot events in rw number (image-falls snapshot events (former.number_after snapshot events) entries are.falling);
}

-- an entry is known by its image
entry_of_image : (entry : Option ClasslessEntry) → option_map entry_without_class (option_map image_of_entry entry) ≡ entry
entry_of_image None = refl
entry_of_image (Some entry) = refl

same_entry : (entry other : Option ClasslessEntry) → option_map image_of_entry entry ≡ option_map image_of_entry other → entry ≡ other
same_entry entry other same = sym (entry_of_image entry) ∙ (ap (option_map entry_without_class) same ∙ entry_of_image other)

pub contents-back : (snapshot : Snapshot) (events : List Classless) (entries : List ClasslessEntry)
    → AreContents (image_of_snapshot snapshot) (map image_of_event events) (map image_of_entry entries) → former.AreContents snapshot events entries
contents-back snapshot events entries are = record {
  agree = λ key. same_entry (former.entry_at key entries) (former.held snapshot events key)
      (sym (image-entry_at key entries) ∙ (are.agree (image_of_key key) ∙ image-held snapshot events key));
  falling =
      let P : ℕ → Type 0 = λ n. FallsBelow (image_of_snapshot snapshot) (map image_of_event events) n (map image_of_entry entries) in
      falls-back snapshot events (former.number_after snapshot events) entries (subst P (image-number_after snapshot events) are.falling);
}

-- the entries are found under no key of another class
abbrev HasNoOther : List Entry → Type 0
HasNoOther entries = (key : KeyOf) → (key.class == IN) ≡ false → entry_at key entries ≡ None

in_class : (entry : Entry) (entries : List Entry) → HasNoOther (entry ∷ entries) → (entry.key.class == IN) ≡ true
in_class entry entries lacks = by (entry.key.class == IN) refl
  where
    by : (is_in : Bool) → (entry.key.class == IN) ≡ is_in → (entry.key.class == IN) ≡ true
    by true is = is
    by false is = let bad : Some entry ≡ None = sym (first_found entry entries) ∙ lacks entry.key is in absurd cc

none_behind : (entry : Entry) (entries : List Entry) → HasNoOther (entry ∷ entries) → HasNoOther entries
none_behind entry entries lacks key other = by (key_eq key entry.key) refl (lacks key other)
  where
    by : (same : Bool) → key_eq key entry.key ≡ same → entry_at key (entry ∷ entries) ≡ None → entry_at key entries ≡ None
    by true is none = let bad : Some entry ≡ None = rw is at none in absurd cc
    by false is none = rw is at none

image_whole_entry : (entry : Entry) → (entry.key.class == IN) ≡ true → image_of_entry (entry_without_class entry) ≡ entry
image_whole_entry entry is = λ i. record { key = image-whole entry.key is i; body = entry.body; moment = entry.moment; number = entry.number }

all_images : (entries : List Entry) → HasNoOther entries → map image_of_entry (map entry_without_class entries) ≡ entries
all_images [] lacks = refl
all_images (entry ∷ entries) lacks =
    ap (λ e. e ∷ map image_of_entry (map entry_without_class entries)) (image_whole_entry entry (in_class entry entries lacks))
    ∙ ap (λ es. entry ∷ es) (all_images entries (none_behind entry entries lacks))

-- the contents after an image are images
pub contents_are_images : (snapshot : Snapshot) (events : List Classless) (entries : List Entry) → AreContents (image_of_snapshot snapshot) (map image_of_event events) entries
    → map image_of_entry (map entry_without_class entries) ≡ entries
contents_are_images snapshot events entries are = all_images entries (λ key other. are.agree key ∙ other-held snapshot events key other)

pub contents_without_class : (snapshot : Snapshot) (events : List Classless) (entries : List Entry) → AreContents (image_of_snapshot snapshot) (map image_of_event events) entries
    → former.AreContents snapshot events (map entry_without_class entries)
contents_without_class snapshot events entries are =
    contents-back snapshot events (map entry_without_class entries)
    (subst (AreContents (image_of_snapshot snapshot) (map image_of_event events)) (sym (contents_are_images snapshot events entries are)) are)

-- ---- victims

image-last_key : (entries : List ClasslessEntry) → last_key (map image_of_entry entries) ≡ option_map image_of_key (former.last_key entries)
image-last_key [] = refl
image-last_key (entry ∷ []) = refl
image-last_key (entry ∷ next ∷ entries) = image-last_key (next ∷ entries)

pub image-victim : (capacity : ℕ) (entries : List ClasslessEntry) → victim capacity (map image_of_entry entries) ≡ option_map image_of_key (former.victim capacity entries)
image-victim capacity entries = let many = length-map entries image_of_entry in rw many (by (length entries == capacity) refl)
  where
    by : (full : Bool) → (length entries == capacity) ≡ full
        → (if length entries == capacity then last_key (map image_of_entry entries) else None)
        ≡ option_map image_of_key (if length entries == capacity then former.last_key entries else None)
    by true is = rw is (image-last_key entries)
    by false is = rw is refl
