-- SPDX-License-Identifier: MIT
-- What a chapter leaves of which nothing was recorded, and two records with nothing between them.
use Rattle.std.specs.Prelude.{◌==◌}
use Rattle.std.proofs.Common.{◌≡◌, ℕ, ◌+◌, List, [], ◌∷◌, reverse, true, None, refl, sym, ap, subst, ◌∙◌, arith}
use Rattle.std.specs.Option.{option_or}
use Rattle.std.proofs.lemmas.Bool.Decides.{nat_tests}
use Rattle.rrc_history.specs.declared.event.Event.{Event}
use Rattle.rrc_history.specs.declared.snapshot.Snapshot.{Snapshot}
use Rattle.rrc_history.specs.Chains.{link_fault, fault_from}
use Rattle.rrc_history.specs.Chapters.{ChapterOf, IsClosing}
use Rattle.rrc_history.specs.Equality.{snapshot_eq}
use Rattle.rrc_history.specs.lemmas.OneHistory.{one_contents}
use Rattle.rrc_history.specs.lemmas.Openings.{opening}
use Rattle.rrc_history.specs.lemmas.EqualityLaws.{snapshot_eq-Decides}
use Rattle.rrc_cache.specs.Lean.{Shuts}
use Rattle.rrc_cache.specs.Part.{PartOf, past_of}
use Rattle.rrc_cache.specs.Recording.{BeginsRecorded, RecordsChain, idle_chapter}
use Rattle.rrc_cache.specs.lemmas.Closings.{same_held, same_replies}

-- ---- a part that begins to record

pub begins_recorded : (old new : PartOf) (closing : Snapshot) → Shuts old new closing
    → BeginsRecorded old new
begins_recorded old new closing shuts =
    subst (BeginsRecorded old) (sym shuts.next)
    (record {
      ends = shuts.closes;
      number = refl;
      events = refl;
      keeps = same_held old.snapshot closing (past_of old) shuts.closes.leads.closes;
      replies = same_replies old.snapshot closing (past_of old) shuts.closes.leads.closes;
    })

-- ---- two records

-- what an idle chapter ends with is what it began with
idle_closing : (snapshot closing : Snapshot) (past : List Event) → past ≡ []
    → IsClosing snapshot [] snapshot → IsClosing snapshot past closing → closing ≡ snapshot
idle_closing snapshot closing past none begins closes =
    let C : List Event → Type 0 = λ p. IsClosing snapshot p closing in
    let idle : IsClosing snapshot [] closing = subst C none closes in
    let entries : closing.entries ≡ snapshot.entries =
    one_contents snapshot [] closing.entries snapshot.entries idle.contents begins.contents in
    let first : closing.first ≡ snapshot.first = idle.first ∙ sym begins.first in
    λ i. record { rules = idle.rules i; first = first i; entries = entries i }

-- a chapter that goes on from another has no fault behind it
linked : (place : ℕ) (before chapter : ChapterOf) → chapter.number ≡ before.number + 1
    → chapter.snapshot ≡ before.closing → link_fault place before chapter ≡ None
linked place before chapter number snapshot =
    let first : (chapter.snapshot.first == before.closing.first) ≡ true =
    same chapter.snapshot.first before.closing.first (ap (λ (s : Snapshot). s.first) snapshot) in
    let next : (chapter.number == before.number + 1) ≡ true =
    same chapter.number (before.number + 1) number in
    let contents : snapshot_eq before.closing chapter.snapshot ≡ true =
    (snapshot_eq-Decides before.closing chapter.snapshot).1 (sym snapshot) in
    rw (next, first, contents) refl
  where
    same : (a b : ℕ) → a ≡ b → (a == b) ≡ true
    same a b is = grind (arith, nat_tests)

pub records_chain : RecordsChain
records_chain last first between new idle begins is =
    let past : past_of between ≡ [] = ap (λ (es : List Event). reverse es) idle.none in
    let same : new.snapshot ≡ between.snapshot =
    idle_closing between.snapshot new.snapshot (past_of between) past
    (opening between.snapshot idle.sound) begins.ends.leads.closes in
    let idle' : ChapterOf = idle_chapter between in
    let one : link_fault 1 last idle' ≡ None = linked 1 last idle' idle.number idle.snapshot in
    let two : link_fault 2 idle' first ≡ None =
    linked 2 idle' first (is.number ∙ begins.number) (is.snapshot ∙ same) in
    ap (λ fault. option_or fault (fault_from 2 idle' (first ∷ []))) one
    ∙ ap (λ fault. option_or fault None) two
