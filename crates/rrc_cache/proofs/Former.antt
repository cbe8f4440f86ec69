-- SPDX-License-Identifier: MIT
-- What a history before keys had a class leads to, or the first event of it that is not right, by what its image is.
use Rattle.std.specs.Prelude.{reverse, Result, Ok, Err, IfErr, IsErrAnd}
use Rattle.rrc_cache.specs.declared.classless.ChapterFault.{ChapterFault}
use Rattle.std.proofs.Common.{◌≡◌, ℕ, ◌+◌, ◌^◌, ◌<◌, List, [], ◌∷◌, ◌++◌, length, map, refl, sym, ap, subst, ◌∙◌, arith}
use Rattle.std.proofs.lemmas.List.{length-map, length-reverse}
use Rattle.rrc_history.specs.declared.event.Event.{Event as Image}
use Rattle.rrc_history.specs.declared.snapshot.Entry.{Entry}
use Rattle.rrc_history.specs.declared.snapshot.Snapshot.{Snapshot as NowSnapshot}
use Rattle.rrc_history.specs.declared.classless.Event.{Event}
use Rattle.rrc_history.specs.declared.classless.Snapshot.{Snapshot}
use Rattle.rrc_history.specs.Audits as audits
use Rattle.rrc_history.specs.Past.{AreContents}
use Rattle.rrc_history.specs.Right.{IsRight, IsLegal}
use Rattle.rrc_history.specs.Images.{image_of_event, image_of_snapshot, image_of_entry, entry_without_class, snapshot_without_class}
use Rattle.rrc_history.specs.classless.Audits.{IsFirstBad}
use Rattle.rrc_history.specs.classless.Chapters.{LeadTo}
use Rattle.rrc_history.specs.lemmas.ImagesTouched.{contents_are_images, contents_without_class}
use Rattle.rrc_history.specs.lemmas.ImagesRight.{right-image, legal-back}
use Rattle.rrc_history.specs.lemmas.ImagesWhole.{map-reverse}
use Rattle.rrc_history.specs.declared.rules.Rules.{Rules}
use Rattle.rrc_cache.specs.Calls.{Leaves}
use Rattle.rrc_cache.specs.Classless.{fault_of, IsWhyNotLegal}
use Rattle.rrc_cache.specs.Rechecks.{IsFault}
use Rattle.rrc_cache.specs.declared.rechecks.RecheckFault.{RecheckFault}
use Rattle.rrc_cache.specs.declared.rechecks.RecheckFault.TheVariants.{FirstBad, Memory}

-- the number behind a legal history is below 2^64
pub below_numbers : (snapshot : NowSnapshot) (past : List Image) → snapshot.first < 2 ^ 64 → IsLegal snapshot past → snapshot.first + length past < 2 ^ 64
below_numbers snapshot [] low legal = omega (arith, low)
below_numbers snapshot (event ∷ past) low legal = let below : snapshot.first + length past < 2 ^ 62 = legal.0.numbered in omega (arith, below)

-- what the image leaves, and what it leads to before keys had a class
record IsLed (snapshot : Snapshot) (events : List Event) (entries : List Entry) : Type 0 where
  legal : IsLegal (image_of_snapshot snapshot) (map image_of_event (reverse events))
  contents : AreContents (image_of_snapshot snapshot) (map image_of_event (reverse events)) entries

led : (snapshot : Snapshot) (events : List Event) (entries : List Entry) → Leaves (image_of_snapshot snapshot) (reverse (map image_of_event events)) entries
    → IsLed snapshot events entries
led snapshot events entries leaves =
    let turned : reverse (map image_of_event events) ≡ map image_of_event (reverse events) = sym (map-reverse image_of_event events) in
    record {
      legal = subst (IsLegal (image_of_snapshot snapshot)) turned leaves.legal;
      contents = subst (λ (past : List Image). AreContents (image_of_snapshot snapshot) past entries) turned leaves.contents;
    }

pub led_are_images : (snapshot : Snapshot) (events : List Event) (entries : List Entry) → Leaves (image_of_snapshot snapshot) (reverse (map image_of_event events)) entries
    → map image_of_entry (map entry_without_class entries) ≡ entries
led_are_images snapshot events entries leaves = contents_are_images snapshot (reverse events) entries (led snapshot events entries leaves).contents

pub leads_back : (snapshot : Snapshot) (events : List Event) (entries : List Entry) (closing : NowSnapshot) → Leaves (image_of_snapshot snapshot) (reverse (map image_of_event events)) entries
    → closing ≡ record { rules = snapshot.rules; first = snapshot.first + length (map image_of_event events); entries = entries }
    → LeadTo snapshot events (snapshot_without_class closing)
leads_back snapshot events entries closing leaves is =
    let its : IsLed snapshot events entries = led snapshot events entries leaves in
    let P : NowSnapshot → Type 0 = λ s. LeadTo snapshot events (snapshot_without_class s) in
    let many : length (map image_of_event events) ≡ length (reverse events) = length-map events image_of_event ∙ sym (length-reverse events) in
    subst P (sym is)
    (record {
      legal = legal-back snapshot (reverse events) its.legal;
      closes = record {
        rules = refl;
        first = ap (λ n. snapshot.first + n) many;
        contents = contents_without_class snapshot (reverse events) entries its.contents;
      };
    })

-- ---- the first event that is not right

-- images are some, one and others exactly where what they are of is
record IsSplit {X Y : Type 0} (f : X → Y) (xs : List X) (ys : List Y) (y : Y) : Type 0 where
  before : List X
  at : X
  behind : List X
  are : xs ≡ before ++ at ∷ behind
  befores : map f before ≡ ys
  its : f at ≡ y

split : {X Y : Type 0} (f : X → Y) (xs : List X) (ys : List Y) (y : Y) (zs : List Y) → map f xs ≡ ys ++ y ∷ zs → IsSplit f xs ys y
split f [] [] y zs is = absurd cc
split f [] (first ∷ ys) y zs is = absurd cc
split f (x ∷ xs) [] y zs is = record { before = []; at = x; behind = xs; are = refl; befores = refl; its = cc }
split f (x ∷ xs) (first ∷ ys) y zs is =
    let same : f x ≡ first = cc in
    let rest : map f xs ≡ ys ++ y ∷ zs = cc in
    let later = split f xs ys y zs rest in record {
      before = x ∷ later.before;
      at = later.at;
      behind = later.behind;
      are = ap (λ l. x ∷ l) later.are;
      befores = ap (λ e. e ∷ map f later.before) same ∙ ap (λ l. first ∷ l) later.befores;
      its = later.its;
    }

pub bad_back : (snapshot : Snapshot) (events : List Event) (place : ℕ) → audits.IsFirstBad (image_of_snapshot snapshot) (map image_of_event events) place
    → IsFirstBad snapshot events place
bad_back snapshot events place bad =
    let its = split image_of_event events bad.before bad.event bad.behind bad.are in
    let turned : map image_of_event (reverse its.before) ≡ reverse bad.before = map-reverse image_of_event its.before ∙ ap reverse its.befores in
    let Right : List Image → Image → Type 0 = λ past event. IsRight (image_of_snapshot snapshot) past event in
    record {
      before = its.before;
      event = its.at;
      behind = its.behind;
      are = its.are;
      at = sym (length-map its.before image_of_event) ∙ (ap length its.befores ∙ bad.at);
      legal = legal-back snapshot (reverse its.before) (subst (IsLegal (image_of_snapshot snapshot)) (sym turned) bad.legal);
      bad = λ right. bad.bad (subst (λ past. Right past bad.event) turned (subst (Right (map image_of_event (reverse its.before))) its.its (right-image snapshot (reverse its.before) its.at right)));
    }

-- what a closing of the image is, and is the image of
pub record ClosesBack (snapshot : Snapshot) (events : List Event) (closing : NowSnapshot) : Type 0 where
  pub whole : map image_of_entry (map entry_without_class closing.entries) ≡ closing.entries
  pub leads : LeadTo snapshot events (snapshot_without_class closing)

pub closes_back : (snapshot : Snapshot) (events : List Event) (image : NowSnapshot) (images : List Image) (held closing : NowSnapshot)
    → image ≡ image_of_snapshot snapshot → images ≡ map image_of_event events → Leaves image (reverse images) held.entries → held.rules ≡ image.rules
    → held.first ≡ image.first + length images → closing ≡ held → ClosesBack snapshot events closing
closes_back snapshot events image images held closing is_image are_images leaves same_rules next same =
    let leaves_image : Leaves (image_of_snapshot snapshot) (reverse images) held.entries = subst (λ (s : NowSnapshot). Leaves s (reverse images) held.entries) is_image leaves in
    let its : Leaves (image_of_snapshot snapshot) (reverse (map image_of_event events)) held.entries =
    subst (λ (es : List Image). Leaves (image_of_snapshot snapshot) (reverse es) held.entries) are_images leaves_image in
    let P : Rules → ℕ → NowSnapshot = λ r n. record { rules = r; first = n; entries = held.entries } in
    let rules_are : held.rules ≡ snapshot.rules = same_rules ∙ ap (λ (s : NowSnapshot). s.rules) is_image in
    let first_is : held.first ≡ snapshot.first + length (map image_of_event events) =
    next ∙ (ap (λ (s : NowSnapshot). s.first + length images) is_image ∙ ap (λ (es : List Image). snapshot.first + length es) are_images) in
    let is : closing ≡ P snapshot.rules (snapshot.first + length (map image_of_event events)) = same ∙ (ap (λ r. P r held.first) rules_are ∙ ap (P snapshot.rules) first_is) in
    let entries_are : closing.entries ≡ held.entries = ap (λ (s : NowSnapshot). s.entries) same in
    record {
      whole = subst (λ (es : List Entry). map image_of_entry (map entry_without_class es) ≡ es) (sym entries_are) (led_are_images snapshot events held.entries its);
      leads = leads_back snapshot events held.entries closing its is;
    }

-- why a history was not found legal
pub not_legal : (snapshot : Snapshot) (events : List Event) (image : NowSnapshot) (images : List Image) (fault : RecheckFault) → image ≡ image_of_snapshot snapshot
    → images ≡ map image_of_event events → IsFault image images fault → IsWhyNotLegal snapshot events (fault_of fault)
not_legal snapshot events image images (FirstBad bad) is_image are_images is =
    let P : NowSnapshot → List Image → Type 0 = λ s es. audits.IsFirstBad s es bad.0 in
    bad_back snapshot events bad.0 (subst (P (image_of_snapshot snapshot)) are_images (subst (λ (s : NowSnapshot). P s images) is_image is))
not_legal snapshot events image images Memory is_image are_images is = tt

-- the error that an answer is
pub on_err : {A : Type 0} (result : Result A ChapterFault) (fault : ChapterFault) (X : ChapterFault → Type 0) → IsErrAnd result (λ one. one ≡ fault) → X fault → IfErr result X
on_err (Ok answer) fault X is x = tt
on_err (Err one) fault X is x = subst X (sym is) x
