-- SPDX-License-Identifier: MIT
-- An event made before keys had a class is right after others exactly where its image is right after theirs.
use Rattle.std.specs.Prelude.{◌≡◌, ℕ, ◌<◌, ◌^◌, List, [], ◌∷◌, Option, Some, None, map}
use Rattle.std.specs.Option.{option_map}
use Rattle.std.specs.List.{AllByRecursion}
use Rattle.std.specs.List.Sorted.{IsStrictlySortedBy}
use Rattle.std.specs.declared.cmp.Ordering.TheVariants.{Less}
use Rattle.std.proofs.Common.{refl, sym, ap, subst, ◌∙◌}
use Rattle.rrc_name.specs.Key.{KeyOf, key_order}
use Rattle.rrc_name.specs.Images.{image_of as image_of_key, without_class as key_without_class}
use Rattle.rrc_name.specs.classless.Key as former_key
use Rattle.rrc_history.specs.declared.event.Outcome.{Outcome}
use Rattle.rrc_history.specs.declared.event.Outcome.TheVariants.{Kept, Cleared, LessTrusted}
use Rattle.rrc_history.specs.declared.classless.Event.{Event as Classless}
use Rattle.rrc_history.specs.declared.classless.Event.TheVariants.{Offered, Asked, Swept}
use Rattle.rrc_history.specs.declared.classless.Entry.{Entry as ClasslessEntry}
use Rattle.rrc_history.specs.declared.classless.Snapshot.{Snapshot}
use Rattle.rrc_history.specs.Judged.{verdict}
use Rattle.rrc_history.specs.Past.{is_among, held}
use Rattle.rrc_history.specs.Right.{evicted_by, is_swept, IsRightOffer, IsRightSweep, IsRightThen, IsRight, IsLegal}
use Rattle.rrc_history.specs.Images.{image_of_event, image_of_snapshot, image_of_entry, image_of_offer, entry_without_class}
use Rattle.rrc_history.specs.ImageLaws.{RightWhereImageIs, LegalWhereImageIs}
use Rattle.rrc_history.specs.classless.Fits.{OfferOf}
use Rattle.rrc_history.specs.classless.Judged as judged
use Rattle.rrc_history.specs.classless.Past as former
use Rattle.rrc_history.specs.classless.Right as former_right
use Rattle.rrc_history.specs.lemmas.ImagesFound.{image-is_among, other-is_among, image-number_after, image-held, other-held}
use Rattle.rrc_history.specs.lemmas.ImagesJudged.{image-verdict, image-reply_to}
use Rattle.rrc_history.specs.lemmas.ImagesTouched.{of_every_key, image-contents, contents_are_images, contents_without_class, image-victim}

-- ---- offers

image-evicted_by : (capacity : ℕ) (entries : List ClasslessEntry) (held : Option ClasslessEntry) (outcome : Outcome)
    → evicted_by capacity (map image_of_entry entries) (option_map image_of_entry held) outcome ≡ option_map image_of_key (former_right.evicted_by capacity entries held outcome)
image-evicted_by capacity entries None Kept = image-victim capacity entries
image-evicted_by capacity entries (Some entry) Kept = refl
image-evicted_by capacity entries None Cleared = refl
image-evicted_by capacity entries None LessTrusted = refl
image-evicted_by capacity entries (Some entry) Cleared = refl
image-evicted_by capacity entries (Some entry) LessTrusted = refl

-- what an offer is judged, and evicts, is the same
image-judged : (snapshot : Snapshot) (events : List Classless) (offer : OfferOf)
    → verdict (held (image_of_snapshot snapshot) (map image_of_event events) (image_of_key offer.key)) (image_of_offer offer)
    ≡ judged.verdict (former.held snapshot events offer.key) offer
image-judged snapshot events offer =
    ap (λ h. verdict h (image_of_offer offer)) (image-held snapshot events offer.key) ∙ image-verdict (former.held snapshot events offer.key) offer

image-evicts : (snapshot : Snapshot) (events : List Classless) (entries : List ClasslessEntry) (offer : OfferOf) (outcome : Outcome)
    → evicted_by snapshot.rules.capacity (map image_of_entry entries) (held (image_of_snapshot snapshot) (map image_of_event events) (image_of_key offer.key)) outcome
    ≡ option_map image_of_key (former_right.evicted_by snapshot.rules.capacity entries (former.held snapshot events offer.key) outcome)
image-evicts snapshot events entries offer outcome =
    ap (λ h. evicted_by snapshot.rules.capacity (map image_of_entry entries) h outcome) (image-held snapshot events offer.key)
    ∙ image-evicted_by snapshot.rules.capacity entries (former.held snapshot events offer.key) outcome

-- a key is known by its image
key_of_image : (key : Option former_key.KeyOf) → option_map key_without_class (option_map image_of_key key) ≡ key
key_of_image None = refl
key_of_image (Some key) = refl

same_key : (key other : Option former_key.KeyOf) → option_map image_of_key key ≡ option_map image_of_key other → key ≡ other
same_key key other same = sym (key_of_image key) ∙ (ap (option_map key_without_class) same ∙ key_of_image other)

offer-image : (snapshot : Snapshot) (events : List Classless) (offer : OfferOf) (outcome : Outcome) (evicted : Option former_key.KeyOf)
    → former_right.IsRightOffer snapshot events offer outcome evicted
    → IsRightOffer (image_of_snapshot snapshot) (map image_of_event events) (image_of_offer offer) outcome (option_map image_of_key evicted)
offer-image snapshot events offer outcome evicted is = record {
  timely = is.timely;
  judged = is.judged ∙ sym (image-judged snapshot events offer);
  entries = map image_of_entry is.entries;
  contents = image-contents snapshot events is.entries is.contents;
  evicts = ap (option_map image_of_key) is.evicts ∙ sym (image-evicts snapshot events is.entries offer outcome);
}

offer-back : (snapshot : Snapshot) (events : List Classless) (offer : OfferOf) (outcome : Outcome) (evicted : Option former_key.KeyOf)
    → IsRightOffer (image_of_snapshot snapshot) (map image_of_event events) (image_of_offer offer) outcome (option_map image_of_key evicted)
    → former_right.IsRightOffer snapshot events offer outcome evicted
offer-back snapshot events offer outcome evicted is =
    let former_entries : List ClasslessEntry = map entry_without_class is.entries in
    let now : Option KeyOf = evicted_by snapshot.rules.capacity (map image_of_entry former_entries) (held (image_of_snapshot snapshot) (map image_of_event events) (image_of_key offer.key)) outcome in
    let whole : evicted_by snapshot.rules.capacity is.entries (held (image_of_snapshot snapshot) (map image_of_event events) (image_of_key offer.key)) outcome ≡ now =
    ap (λ es. evicted_by snapshot.rules.capacity es (held (image_of_snapshot snapshot) (map image_of_event events) (image_of_key offer.key)) outcome)
    (sym (contents_are_images snapshot events is.entries is.contents)) in record {
      timely = is.timely;
      judged = is.judged ∙ image-judged snapshot events offer;
      entries = former_entries;
      contents = contents_without_class snapshot events is.entries is.contents;
      evicts = same_key evicted (former_right.evicted_by snapshot.rules.capacity former_entries (former.held snapshot events offer.key) outcome)
          (is.evicts ∙ (whole ∙ image-evicts snapshot events former_entries offer outcome));
    }

-- ---- sweeps

image-is_swept : (stale : ℕ) (held : Option ClasslessEntry) (moment : ℕ) → is_swept stale (option_map image_of_entry held) moment ≡ former_right.is_swept stale held moment
image-is_swept stale None moment = refl
image-is_swept stale (Some entry) moment = refl

less-image : (key : former_key.KeyOf) (keys : List former_key.KeyOf) → AllByRecursion (λ k. former_key.key_order key k ≡ Less) keys
    → AllByRecursion (λ k. key_order (image_of_key key) k ≡ Less) (map image_of_key keys)
less-image key [] all = tt
less-image key (first ∷ keys) all = (all.0, less-image key keys all.1)

less-back : (key : former_key.KeyOf) (keys : List former_key.KeyOf) → AllByRecursion (λ k. key_order (image_of_key key) k ≡ Less) (map image_of_key keys)
    → AllByRecursion (λ k. former_key.key_order key k ≡ Less) keys
less-back key [] all = tt
less-back key (first ∷ keys) all = (all.0, less-back key keys all.1)

sorted-image : (keys : List former_key.KeyOf) → IsStrictlySortedBy former_key.key_order keys → IsStrictlySortedBy key_order (map image_of_key keys)
unfolding IsStrictlySortedBy
sorted-image [] sorted = tt
sorted-image (key ∷ keys) sorted = (less-image key keys sorted.0, sorted-image keys sorted.1)

sorted-back : (keys : List former_key.KeyOf) → IsStrictlySortedBy key_order (map image_of_key keys) → IsStrictlySortedBy former_key.key_order keys
unfolding IsStrictlySortedBy
sorted-back [] sorted = tt
sorted-back (key ∷ keys) sorted = (less-back key keys sorted.0, sorted-back keys sorted.1)

sweep-image : (snapshot : Snapshot) (events : List Classless) (moment : ℕ) (gone : List former_key.KeyOf) → former_right.IsRightSweep snapshot events moment gone
    → IsRightSweep (image_of_snapshot snapshot) (map image_of_event events) moment (map image_of_key gone)
sweep-image snapshot events moment gone is = record {
  timely = is.timely;
  sorted = sorted-image gone is.sorted;
  expired =
      of_every_key (λ key. is_among key (map image_of_key gone) ≡ is_swept snapshot.rules.stale (held (image_of_snapshot snapshot) (map image_of_event events) key) moment)
      (λ key. image-is_among key gone ∙ (is.expired key ∙ sym (swept key)))
      (λ key other. other-is_among key other gone ∙ sym (ap (λ h. is_swept snapshot.rules.stale h moment) (other-held snapshot events key other)));
}
  where
    swept : (key : former_key.KeyOf) → is_swept snapshot.rules.stale (held (image_of_snapshot snapshot) (map image_of_event events) (image_of_key key)) moment
        ≡ former_right.is_swept snapshot.rules.stale (former.held snapshot events key) moment
    swept key = ap (λ h. is_swept snapshot.rules.stale h moment) (image-held snapshot events key) ∙ image-is_swept snapshot.rules.stale (former.held snapshot events key) moment

sweep-back : (snapshot : Snapshot) (events : List Classless) (moment : ℕ) (gone : List former_key.KeyOf)
    → IsRightSweep (image_of_snapshot snapshot) (map image_of_event events) moment (map image_of_key gone) → former_right.IsRightSweep snapshot events moment gone
sweep-back snapshot events moment gone is = record {
  timely = is.timely;
  sorted = sorted-back gone is.sorted;
  expired = λ key. sym (image-is_among key gone)
      ∙ (is.expired (image_of_key key)
      ∙ (ap (λ h. is_swept snapshot.rules.stale h moment) (image-held snapshot events key) ∙ image-is_swept snapshot.rules.stale (former.held snapshot events key) moment));
}

-- ---- events

then-image : (snapshot : Snapshot) (events : List Classless) (event : Classless) → former_right.IsRightThen snapshot events event
    → IsRightThen (image_of_snapshot snapshot) (map image_of_event events) (image_of_event event)
then-image snapshot events (Offered outcome tag offer evicted) is = offer-image snapshot events offer outcome evicted is
then-image snapshot events (Asked tag ask reply) is = record { timely = is.timely; answered = is.answered ∙ sym (image-reply_to snapshot events ask) }
then-image snapshot events (Swept tag moment gone) is = sweep-image snapshot events moment gone is

then-back : (snapshot : Snapshot) (events : List Classless) (event : Classless) → IsRightThen (image_of_snapshot snapshot) (map image_of_event events) (image_of_event event)
    → former_right.IsRightThen snapshot events event
then-back snapshot events (Offered outcome tag offer evicted) is = offer-back snapshot events offer outcome evicted is
then-back snapshot events (Asked tag ask reply) is = record { timely = is.timely; answered = is.answered ∙ image-reply_to snapshot events ask }
then-back snapshot events (Swept tag moment gone) is = sweep-back snapshot events moment gone is

pub right-image : (snapshot : Snapshot) (events : List Classless) (event : Classless) → former_right.IsRight snapshot events event
    → IsRight (image_of_snapshot snapshot) (map image_of_event events) (image_of_event event)
right-image snapshot events event is = record {
  numbered = subst (λ n. n < 2 ^ 62) (sym (image-number_after snapshot events)) is.numbered;
  right = then-image snapshot events event is.right;
}

pub right-back : (snapshot : Snapshot) (events : List Classless) (event : Classless) → IsRight (image_of_snapshot snapshot) (map image_of_event events) (image_of_event event)
    → former_right.IsRight snapshot events event
right-back snapshot events event is = record {
  numbered = subst (λ n. n < 2 ^ 62) (image-number_after snapshot events) is.numbered;
  right = then-back snapshot events event is.right;
}

pub legal-image : (snapshot : Snapshot) (events : List Classless) → former_right.IsLegal snapshot events → IsLegal (image_of_snapshot snapshot) (map image_of_event events)
legal-image snapshot [] legal = tt
legal-image snapshot (event ∷ events) legal = (right-image snapshot events event legal.0, legal-image snapshot events legal.1)

pub legal-back : (snapshot : Snapshot) (events : List Classless) → IsLegal (image_of_snapshot snapshot) (map image_of_event events) → former_right.IsLegal snapshot events
legal-back snapshot [] legal = tt
legal-back snapshot (event ∷ events) legal = (right-back snapshot events event legal.0, legal-back snapshot events legal.1)

pub right_where_image_is : RightWhereImageIs
right_where_image_is snapshot events event = (right-image snapshot events event, right-back snapshot events event)

pub legal_where_image_is : LegalWhereImageIs
legal_where_image_is snapshot events = (legal-image snapshot events, legal-back snapshot events)
