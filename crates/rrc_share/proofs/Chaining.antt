-- SPDX-License-Identifier: MIT
-- One more chapter behind others that chain.
use Rattle.std.proofs.Common.{◌≡◌, ℕ, ◌+◌, List, [], ◌∷◌, ◌++◌, true, Option, Some, None, refl, sym, ap, ◌∙◌, arith, append_assoc}
use Rattle.std.specs.Prelude.{◌==◌}
use Rattle.std.specs.Option.{option_or}
use Rattle.std.proofs.lemmas.Bool.Decides.{nat_tests}
use Rattle.std.proofs.lemmas.List.{append-nil}
use Rattle.rrc_history.specs.declared.chains.ChainFault.{ChainFault}
use Rattle.rrc_history.specs.declared.snapshot.Snapshot.{Snapshot}
use Rattle.rrc_history.specs.Chapters.{ChapterOf}
use Rattle.rrc_history.specs.Equality.{snapshot_eq}
use Rattle.rrc_history.specs.Chains.{link_fault, fault_from, events_of, last_closing}
use Rattle.rrc_history.specs.lemmas.EqualityLaws.{snapshot_eq-Decides}
use Rattle.rrc_share.specs.Shelf.{last_number}

-- a chapter that goes on from another has no fault behind it
linked : (place : ℕ) (before chapter : ChapterOf) → chapter.number ≡ before.number + 1 → chapter.snapshot ≡ before.closing → link_fault place before chapter ≡ None
linked place before chapter number snapshot =
    let first : (chapter.snapshot.first == before.closing.first) ≡ true = same chapter.snapshot.first before.closing.first (ap (λ (s : Snapshot). s.first) snapshot) in
    let next : (chapter.number == before.number + 1) ≡ true = same chapter.number (before.number + 1) number in
    let contents : snapshot_eq before.closing chapter.snapshot ≡ true = (snapshot_eq-Decides before.closing chapter.snapshot).1 (sym snapshot) in
    rw (next, first, contents) refl
  where
    same : (a b : ℕ) → a ≡ b → (a == b) ≡ true
    same a b is = grind (arith, nat_tests)

no_fault : (fault behind : Option ChainFault) → option_or fault behind ≡ None → (fault ≡ None) × (behind ≡ None)
no_fault None behind h = (refl, h)
no_fault (Some fault) behind h = absurd cc

pub chained_more : (place : ℕ) (before : ChapterOf) (behind : List ChapterOf) (chapter : ChapterOf) → fault_from place before behind ≡ None
    → chapter.number ≡ last_number before behind + 1 → chapter.snapshot ≡ last_closing before behind → fault_from place before (behind ++ chapter ∷ []) ≡ None
chained_more place before [] chapter none number snapshot = ap (λ fault. option_or fault None) (linked place before chapter number snapshot)
chained_more place before (next ∷ behind) chapter none number snapshot =
    let both = no_fault (link_fault place before next) (fault_from (place + 1) next behind) none in
    ap (λ fault. option_or fault (fault_from (place + 1) next (behind ++ chapter ∷ []))) both.0
    ∙ chained_more (place + 1) next behind chapter both.1 number snapshot

pub last_closing-more : (first : ChapterOf) (behind : List ChapterOf) (chapter : ChapterOf) → last_closing first (behind ++ chapter ∷ []) ≡ chapter.closing
last_closing-more first [] chapter = refl
last_closing-more first (next ∷ behind) chapter = last_closing-more next behind chapter

pub last_number-more : (first : ChapterOf) (behind : List ChapterOf) (chapter : ChapterOf) → last_number first (behind ++ chapter ∷ []) ≡ chapter.number
last_number-more first [] chapter = refl
last_number-more first (next ∷ behind) chapter = last_number-more next behind chapter

pub events_of-more : (closed : List ChapterOf) (chapter : ChapterOf) → events_of (closed ++ chapter ∷ []) ≡ events_of closed ++ chapter.events
events_of-more [] chapter = append-nil chapter.events
events_of-more (first ∷ closed) chapter =
    ap (λ events. first.events ++ events) (events_of-more closed chapter) ∙ sym (append_assoc first.events (events_of closed) chapter.events)
