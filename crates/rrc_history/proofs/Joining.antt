-- SPDX-License-Identifier: MIT
-- Chapters that chain are joined one by one.
use Rattle.std.specs.Prelude.{◌≡◌, ℕ, ◌+◌, List, [], ◌∷◌, ◌++◌, reverse, Bool, true, false, Option, Some, None, Result, Ok, Err, IfOk}
use Rattle.std.proofs.Common.{refl, sym, ap, subst, ◌∙◌, append_assoc}
use Rattle.std.proofs.lemmas.List.{append-nil}
use Rattle.std.specs.Option.{option_or}
use Rattle.rrc_history.specs.declared.event.Event.{Event}
use Rattle.rrc_history.specs.declared.chains.ChainFault.{ChainFault}
use Rattle.rrc_history.specs.declared.chains.ChainFault.TheVariants.{NumberGap, NotTheSameContents}
use Rattle.rrc_history.specs.declared.snapshot.Snapshot.{Snapshot}
use Rattle.rrc_history.specs.lemmas.Chained.{lead-joined}
use Rattle.rrc_history.specs.Chapters.{ChapterOf, LeadTo}
use Rattle.rrc_history.specs.Equality.{snapshot_eq}
use Rattle.rrc_history.specs.Chains.{WholeOf, follows, link_fault, fault_from, events_of, last_closing, IsWhole}
use Rattle.rrc_history.specs.WholeLaws.{AllKeepLaws}
use Rattle.rrc_history.specs.lemmas.LawsHold.{legal_keeps_laws}
use Rattle.rrc_history.specs.lemmas.EqualityLaws.{snapshot_eq-Decides}

-- the history of a chapter
abbrev pub opened : ChapterOf → WholeOf
opened chapter = record { snapshot = chapter.snapshot; events = chapter.events; closing = chapter.closing }

-- the history with a chapter's behind it
abbrev pub extended : WholeOf → ChapterOf → WholeOf
extended whole chapter = record { snapshot = whole.snapshot; events = whole.events ++ chapter.events; closing = chapter.closing }

-- of a chapter and those behind it all but the rest are joined
pub record IsJoined (first : ChapterOf) (behind : List ChapterOf) (whole : WholeOf) (rest : List ChapterOf) : Type 0 where
  pub place : ℕ
  pub before : ChapterOf
  pub sound : fault_from place before rest ≡ None
  pub last : whole.closing ≡ before.closing
  pub snapshot : whole.snapshot ≡ first.snapshot
  pub events : whole.events ++ events_of rest ≡ events_of (first ∷ behind)
  pub closing : last_closing before rest ≡ last_closing first behind
  pub leads : LeadTo whole.snapshot whole.events whole.closing

-- where the first of two faults is none, neither is there
no_fault : (fault behind : Option ChainFault) → option_or fault behind ≡ None → (fault ≡ None) × (behind ≡ None)
no_fault None behind h = (refl, h)
no_fault (Some fault) behind h = absurd cc

-- a chapter with no fault begins with the closing before it
goes_on : (place : ℕ) (before chapter : ChapterOf) → link_fault place before chapter ≡ None → chapter.snapshot ≡ before.closing
goes_on place before chapter h = by (follows before chapter) refl (snapshot_eq before.closing chapter.snapshot) refl
  where
    by : (numbered : Bool) → follows before chapter ≡ numbered → (same : Bool) → snapshot_eq before.closing chapter.snapshot ≡ same → chapter.snapshot ≡ before.closing
    by false at same is = let bad : Some (NumberGap place) ≡ None = rw at at h in absurd cc
    by true at false is = let bad : Some (NotTheSameContents place) ≡ None = rw (at, is) at h in absurd cc
    by true at true is = sym ((snapshot_eq-Decides before.closing chapter.snapshot).0 is)

pub joined_first : (first : ChapterOf) (behind : List ChapterOf) (whole : WholeOf) → fault_from 1 first behind ≡ None → whole ≡ opened first
    → LeadTo whole.snapshot whole.events whole.closing → IsJoined first behind whole behind
joined_first first behind whole h is leads = record {
  place = 1;
  before = first;
  sound = h;
  last = ap (λ (w : WholeOf). w.closing) is;
  snapshot = ap (λ (w : WholeOf). w.snapshot) is;
  events = ap (λ (w : WholeOf). w.events ++ events_of behind) is;
  closing = refl;
  leads = leads;
}

pub joined_goes_on : (first : ChapterOf) (behind : List ChapterOf) (whole : WholeOf) (chapter : ChapterOf) (rest : List ChapterOf)
    → IsJoined first behind whole (chapter ∷ rest) → chapter.snapshot ≡ whole.closing
joined_goes_on first behind whole chapter rest is =
    let none = no_fault (link_fault is.place is.before chapter) (fault_from (is.place + 1) chapter rest) is.sound in
    goes_on is.place is.before chapter none.0 ∙ sym is.last

pub joined_more : (first : ChapterOf) (behind : List ChapterOf) (whole : WholeOf) (more : WholeOf) (chapter : ChapterOf) (rest : List ChapterOf)
    → IsJoined first behind whole (chapter ∷ rest) → more ≡ extended whole chapter → LeadTo more.snapshot more.events more.closing → IsJoined first behind more rest
joined_more first behind whole more chapter rest is made leads =
    let none = no_fault (link_fault is.place is.before chapter) (fault_from (is.place + 1) chapter rest) is.sound in
    record {
      place = is.place + 1;
      before = chapter;
      sound = none.1;
      last = ap (λ (w : WholeOf). w.closing) made;
      snapshot = ap (λ (w : WholeOf). w.snapshot) made ∙ is.snapshot;
      events = ap (λ (w : WholeOf). w.events ++ events_of rest) made ∙ (append_assoc whole.events chapter.events (events_of rest) ∙ is.events);
      closing = is.closing;
      leads = leads;
    }

pub joined_all : (first : ChapterOf) (behind : List ChapterOf) (whole : WholeOf) → IsJoined first behind whole [] → IsWhole (first ∷ behind) whole
joined_all first behind whole is = (is.snapshot, sym (append-nil whole.events) ∙ is.events, is.last ∙ is.closing)

-- a history that leads to its closing keeps the laws
pub laws_by : {E : Type 0} (result : Result WholeOf E) → IfOk result (λ whole. LeadTo whole.snapshot whole.events whole.closing)
    → IfOk result (λ whole. AllKeepLaws whole.snapshot (reverse whole.events))
laws_by (Ok whole) leads = legal_keeps_laws whole.snapshot (reverse whole.events) leads.legal
laws_by (Err fault) leads = leads

-- events that lead on from a closing, written behind those that lead to it
pub leads_on : (snapshot closing next last : Snapshot) (events later written : List Event) → LeadTo snapshot events closing → LeadTo next later last
    → next ≡ closing → written ≡ events ++ later → LeadTo snapshot written last
leads_on snapshot closing next last events later written leads on same is =
    let Leads : Snapshot → Type 0 = λ s. LeadTo s later last in
    let P : List Event → Type 0 = λ es. LeadTo snapshot es last in
    subst P (sym is) (lead-joined snapshot closing last events later leads (subst Leads same on))
