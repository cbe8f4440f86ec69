-- SPDX-License-Identifier: MIT
-- The images of a snapshot and of a chapter made before keys had a class are a snapshot and a chapter.
use Rattle.std.specs.Prelude.{◌≡◌, ℕ, List, [], ◌∷◌, ◌++◌, ◌||◌, ◌==◌, None, map, reverse}
use Rattle.std.proofs.Common.{refl, sym, ap, subst, ◌∙◌}
use Rattle.std.proofs.lemmas.List.{length-map, map-append, reverse-append}
use Rattle.rrc_name.specs.declared.slot.Slot.TheVariants.{Set, Nx, Failed}
use Rattle.rrc_name.specs.Images.{image_of as image_of_key}
use Rattle.rrc_name.specs.classless.Key as former_key
use Rattle.rrc_history.specs.declared.body.Body.{Body}
use Rattle.rrc_history.specs.declared.body.Body.TheVariants.{Positive, Negative, Failure}
use Rattle.rrc_history.specs.declared.event.Event.{Event}
use Rattle.rrc_history.specs.declared.rules.Rules.{Rules}
use Rattle.rrc_history.specs.declared.classless.Event.{Event as Classless}
use Rattle.rrc_history.specs.declared.classless.Entry.{Entry as ClasslessEntry}
use Rattle.rrc_history.specs.declared.classless.Snapshot.{Snapshot}
use Rattle.rrc_history.specs.Chapters.{IsClosing, IsChapter}
use Rattle.rrc_history.specs.Fits.{fits}
use Rattle.rrc_history.specs.Judged.{reply_by}
use Rattle.rrc_history.specs.Past.{found, reply_to, key_at}
use Rattle.rrc_history.specs.Right.{IsLegal}
use Rattle.rrc_history.specs.Snapshots.{has_key, has_number, entry_fault, fault_behind, snapshot_fault}
use Rattle.rrc_history.specs.Images.{image_of_event, image_of_snapshot, image_of_entry, image_of_ask, image_of_chapter, ask_without_class}
use Rattle.rrc_history.specs.ImageLaws.{AnswersAsBefore, HoldsOneClass}
use Rattle.rrc_history.specs.classless.Chapters as chapters
use Rattle.rrc_history.specs.classless.Fits as former_fits
use Rattle.rrc_history.specs.classless.Snapshots as snapshots
use Rattle.rrc_history.specs.lemmas.ImagesFound.{image-number_after, other-held}
use Rattle.rrc_history.specs.lemmas.ImagesJudged.{image-reply_to}
use Rattle.rrc_history.specs.lemmas.ImagesTouched.{image-contents}
use Rattle.rrc_history.specs.lemmas.ImagesRight.{legal-image}

-- ---- snapshots

-- a body fits the image of a key exactly where it fits the key
pub image-fits : (key : former_key.KeyOf) (body : Body) → fits (image_of_key key) body ≡ former_fits.fits key body
image-fits key (Positive trust ttl owner items) = refl
image-fits key (Negative trust ttl owner soa) = refl
image-fits key (Failure ttl) = refl

image-has_key : (key : former_key.KeyOf) (entries : List ClasslessEntry) → has_key (image_of_key key) (map image_of_entry entries) ≡ snapshots.has_key key entries
image-has_key key [] = refl
image-has_key key (entry ∷ entries) = ap (λ b. former_key.key_eq key entry.key || b) (image-has_key key entries)

image-has_number : (number : ℕ) (entries : List ClasslessEntry) → has_number number (map image_of_entry entries) ≡ snapshots.has_number number entries
image-has_number number [] = refl
image-has_number number (entry ∷ entries) = ap (λ b. entry.number == number || b) (image-has_number number entries)

image-entry_fault : (capacity first : ℕ) (before : List ClasslessEntry) (entry : ClasslessEntry)
    → entry_fault capacity first (map image_of_entry before) (image_of_entry entry) ≡ snapshots.entry_fault capacity first before entry
image-entry_fault capacity first before entry =
    let many = length-map before image_of_entry in
    let key = image-has_key entry.key before in
    let number = image-has_number entry.number before in
    let fit = image-fits entry.key entry.body in
    rw (many, key, number, fit) refl

image-fault_behind : (capacity first : ℕ) (before behind : List ClasslessEntry)
    → fault_behind capacity first (map image_of_entry before) (map image_of_entry behind) ≡ snapshots.fault_behind capacity first before behind
image-fault_behind capacity first before [] = refl
image-fault_behind capacity first before (entry ∷ behind) =
    let here = image-entry_fault capacity first before entry in
    let one_more : map image_of_entry (before ++ entry ∷ []) ≡ map image_of_entry before ++ image_of_entry entry ∷ [] = map-append image_of_entry before (entry ∷ []) in
    let rest : fault_behind capacity first (map image_of_entry before ++ image_of_entry entry ∷ []) (map image_of_entry behind) ≡ snapshots.fault_behind capacity first (before ++ entry ∷ []) behind =
    ap (λ es. fault_behind capacity first es (map image_of_entry behind)) (sym one_more) ∙ image-fault_behind capacity first (before ++ entry ∷ []) behind in
    rw (here, rest) refl

-- the image of a snapshot has the faults of the snapshot
pub image-snapshot_fault : (rules : Rules) (first : ℕ) (entries : List ClasslessEntry) → snapshot_fault rules first (map image_of_entry entries) ≡ snapshots.snapshot_fault rules first entries
image-snapshot_fault rules first entries = image-fault_behind rules.capacity first [] entries

-- ---- chapters

-- images in reverse
pub map-reverse : {X Y : Type 0} (f : X → Y) (xs : List X) → map f (reverse xs) ≡ reverse (map f xs)
map-reverse f [] = refl
map-reverse f (x ∷ xs) =
    ap (map f) (reverse-append (x ∷ []) xs)
    ∙ (map-append f (reverse xs) (x ∷ [])
    ∙ (ap (λ ys. ys ++ f x ∷ []) (map-reverse f xs) ∙ sym (reverse-append (f x ∷ []) (map f xs))))

pub closing-image : (snapshot : Snapshot) (events : List Classless) (closing : Snapshot) → chapters.IsClosing snapshot events closing
    → IsClosing (image_of_snapshot snapshot) (map image_of_event events) (image_of_snapshot closing)
closing-image snapshot events closing is = record {
  rules = is.rules;
  first = is.first ∙ sym (image-number_after snapshot events);
  contents = image-contents snapshot events closing.entries is.contents;
}

pub chapter-image : (chapter : chapters.ChapterOf) → chapters.IsChapter chapter → IsChapter (image_of_chapter chapter)
chapter-image chapter is = record {
  numbered = is.numbered;
  leads = record {
    legal = subst (IsLegal (image_of_snapshot chapter.snapshot)) reversed (legal-image chapter.snapshot (reverse chapter.events) is.leads.legal);
    closes =
        subst (λ past. IsClosing (image_of_snapshot chapter.snapshot) past (image_of_snapshot chapter.closing)) reversed
        (closing-image chapter.snapshot (reverse chapter.events) chapter.closing is.leads.closes);
  };
}
  where
    reversed : map image_of_event (reverse chapter.events) ≡ reverse (map image_of_event chapter.events)
    reversed = map-reverse image_of_event chapter.events

-- ---- answers

pub image_answers : (chapter : chapters.ChapterOf) → AnswersAsBefore chapter (image_of_chapter chapter)
image_answers chapter ask class =
    let its : image_of_ask (ask_without_class ask) ≡ ask =
    λ i. record { name = ask.name; class = sym class i; rtype = ask.rtype; moment = ask.moment; purpose = ask.purpose; mode = ask.mode } in
    ap (λ past. reply_to (image_of_snapshot chapter.snapshot) past ask) (sym (map-reverse image_of_event chapter.events))
    ∙ (ap (λ a. reply_to (image_of_snapshot chapter.snapshot) (map image_of_event (reverse chapter.events)) a) (sym its)
    ∙ image-reply_to chapter.snapshot (reverse chapter.events) (ask_without_class ask))

pub image_holds_one_class : (chapter : chapters.ChapterOf) → HoldsOneClass (image_of_chapter chapter)
image_holds_one_class chapter ask other =
    ap (λ past. reply_to (image_of_snapshot chapter.snapshot) past ask) (sym (map-reverse image_of_event chapter.events))
    ∙ ap (λ f. reply_by chapter.snapshot.rules.stale f ask) nothing
  where
    past : List Event
    past = map image_of_event (reverse chapter.events)

    nothing : found (image_of_snapshot chapter.snapshot) past ask ≡ record { set = None; nx = None; failed = None }
    nothing = λ i. record {
      set = other-held chapter.snapshot (reverse chapter.events) (key_at ask (Set ask.rtype)) other i;
      nx = other-held chapter.snapshot (reverse chapter.events) (key_at ask Nx) other i;
      failed = other-held chapter.snapshot (reverse chapter.events) (key_at ask (Failed ask.rtype)) other i;
    }
