-- SPDX-License-Identifier: MIT
-- What calls leave of a shelf.
use Rattle.std.proofs.Common.{◌≡◌, ℕ, ◌+◌, ◌^◌, ◌≤◌, inl, inr, List, [], ◌∷◌, ◌++◌, length, reverse, Result, Ok, Err, refl, sym, ap, subst, ◌∙◌, arith, append_assoc}
use Rattle.std.proofs.lemmas.List.{append-nil, length-reverse, reverse-append}
use Rattle.std.specs.Prelude.{IfOk}
use Rattle.rrc_history.specs.declared.event.Event.{Event}
use Rattle.rrc_history.specs.declared.event.Event.TheVariants.{Offered, Asked, Swept}
use Rattle.rrc_history.specs.declared.event.Outcome.{Outcome}
use Rattle.rrc_history.specs.declared.event.Reply.{Reply}
use Rattle.rrc_history.specs.declared.event.Tag.{Tag}
use Rattle.rrc_history.specs.Fits.{OfferOf}
use Rattle.rrc_history.specs.Asked.{AskOf}
use Rattle.rrc_history.specs.Chapters.{ChapterOf, LeadTo}
use Rattle.rrc_history.specs.Chains.{events_of}
use Rattle.rrc_history.specs.Right.{IsRight, IsLegal}
use Rattle.rrc_history.specs.Sound.{AreSound}
use Rattle.rrc_history.specs.lemmas.Chained.{legal-joined, lead-joined}
use Rattle.rrc_history.specs.lemmas.LawsHold.{laws_hold}
use Rattle.rrc_history.specs.lemmas.Openings.{opening}
use Rattle.rrc_cache.specs.lemmas.Closings.{same_replies}
use Rattle.rrc_cache.specs.Part as parts
use Rattle.rrc_cache.specs.Part.{PartOf, past_of, next_number, Adds, Closes, IsSound}
use Rattle.rrc_cache.specs.declared.refusal.Refusal.{Refusal}
use Rattle.rrc_cache.specs.declared.refusal.Refusal.TheVariants.{HistoryFull, MomentTooLarge, Memory}
use Rattle.rrc_share.specs.Shelf.{ShelfOf, first_snapshot, opening_of, history_of, whole_past, AreBefore, IsShelf, IsFull, IsSame, ShelvesChapter, HasMadeRoom, Appends, AppendsOffer, AppendsAsk, AppendsSweep, CanWrite, IsShelfOpen, IsShelfDue}
use Rattle.rrc_share.proofs.Chaining.{chained_more, last_closing-more, last_number-more, events_of-more}

-- ---- a chapter is closed

-- a part in its next chapter
abbrev pub next_of : PartOf → ChapterOf → PartOf
next_of part chapter = record { number = part.number + 1; snapshot = chapter.closing; events = [] }

-- a shelf whose chapter was closed
abbrev pub shut : List ChapterOf → PartOf → ChapterOf → ShelfOf
shut closed part chapter = record { closed = closed ++ chapter ∷ []; part = next_of part chapter }

-- the chapter, in the words of the part
leads_of : (part next : PartOf) (chapter : ChapterOf) → Closes part next chapter → LeadTo part.snapshot part.events chapter.closing
leads_of part next chapter closes =
    subst (λ s. LeadTo s part.events chapter.closing) closes.snapshot
    (subst (λ es. LeadTo chapter.snapshot es chapter.closing) closes.events closes.closes.leads)

opening-shut : (closed : List ChapterOf) (part next : PartOf) (chapter : ChapterOf) → chapter.snapshot ≡ part.snapshot
    → first_snapshot (closed ++ chapter ∷ []) next ≡ first_snapshot closed part
opening-shut [] part next chapter is = is
opening-shut (first ∷ closed) part next chapter is = refl

same_shut : (closed : List ChapterOf) (part next : PartOf) (chapter : ChapterOf) → Closes part next chapter
    → IsSame (record { closed = closed; part = part }) (shut closed part chapter)
same_shut closed part next chapter closes = record {
  opening = opening-shut closed part (next_of part chapter) chapter closes.snapshot;
  history =
      append-nil (events_of (closed ++ chapter ∷ []))
      ∙ (events_of-more closed chapter ∙ ap (λ events. events_of closed ++ events) closes.events);
  replies = same_replies part.snapshot chapter.closing (past_of part) (leads_of part next chapter closes).closes;
}

before_shut : (closed : List ChapterOf) (part next : PartOf) (chapter : ChapterOf) → Closes part next chapter → AreBefore closed part
    → AreBefore (closed ++ chapter ∷ []) (next_of part chapter)
before_shut [] part next chapter closes before = record { chained = refl; snapshot = refl; number = ap (λ n. n + 1) (sym closes.number) }
before_shut (first ∷ behind) part next chapter closes goes = record {
  chained = chained_more 1 first behind chapter goes.chained (closes.number ∙ goes.number) (closes.snapshot ∙ goes.snapshot);
  snapshot = sym (last_closing-more first behind chapter);
  number = ap (λ n. n + 1) (sym closes.number ∙ sym (last_number-more first behind chapter));
}

shelf_shut : (closed : List ChapterOf) (part next : PartOf) (chapter : ChapterOf) → Closes part next chapter
    → IsShelf (record { closed = closed; part = part }) → IsShelf (shut closed part chapter)
shelf_shut closed part next chapter closes is = record {
  before = before_shut closed part next chapter closes is.before;
  leads =
      let joined = lead-joined (first_snapshot closed part) part.snapshot chapter.closing (events_of closed) chapter.events is.leads
      (subst (λ s. LeadTo s chapter.events chapter.closing) closes.snapshot closes.closes.leads) in
      subst (λ s. LeadTo s (events_of (closed ++ chapter ∷ [])) chapter.closing) (sym (opening-shut closed part (next_of part chapter) chapter closes.snapshot))
      (subst (λ es. LeadTo (first_snapshot closed part) es chapter.closing) (sym (events_of-more closed chapter)) joined);
}

-- a chapter was closed, and all holds of the shelf that holds of every one
pub record IsShut (closed : List ChapterOf) (part : PartOf) (after : List ChapterOf) (next : PartOf) : Type 0 where
  pub shuts : ShelvesChapter (record { closed = closed; part = part }) (record { closed = after; part = next })
  pub shelf : IsShelf (record { closed = after; part = next })

pub is_shut : (closed : List ChapterOf) (part : PartOf) (after : List ChapterOf) (next : PartOf) (chapter : ChapterOf) → Closes part next chapter
    → after ≡ closed ++ chapter ∷ [] → IsShelf (record { closed = closed; part = part }) → IsShut closed part after next
is_shut closed part after next chapter closes written is =
    let P : List ChapterOf → PartOf → Type 0 = λ cs p. IsShut closed part cs p in
    let at_next : Closes part (next_of part chapter) chapter = subst (λ p. Closes part p chapter) closes.next closes in
    subst (λ p. P after p) (sym closes.next)
    (subst (λ cs. P cs (next_of part chapter)) (sym written)
    (record {
      shuts = record { chapter = chapter; closed = refl; part = at_next; same = same_shut closed part next chapter closes };
      shelf = shelf_shut closed part next chapter closes is;
    }))

-- ---- an event is written

-- the closed chapters stay before a part that has the same snapshot and number
pub shelf_with : (closed : List ChapterOf) (part new : PartOf) → new.snapshot ≡ part.snapshot → new.number ≡ part.number
    → IsShelf (record { closed = closed; part = part }) → IsShelf (record { closed = closed; part = new })
shelf_with [] part new snapshot number is = record { before = tt; leads = subst (λ s. LeadTo s [] s) (sym snapshot) is.leads }
shelf_with (first ∷ behind) part new snapshot number is = record {
  before = record { chained = is.before.chained; snapshot = snapshot ∙ is.before.snapshot; number = number ∙ is.before.number };
  leads = subst (λ s. LeadTo first.snapshot (events_of (first ∷ behind)) s) (sym snapshot) is.leads;
}

room_opening : (old middle : ShelfOf) → HasMadeRoom old middle → opening_of middle ≡ opening_of old
room_opening old middle (inl shuts) = shuts.1.same.opening
room_opening old middle (inr none) = ap opening_of none.1

room_history : (old middle : ShelfOf) → HasMadeRoom old middle → history_of middle ≡ history_of old
room_history old middle (inl shuts) = shuts.1.same.history
room_history old middle (inr none) = ap history_of none.1

opening_with : (closed : List ChapterOf) (part new : PartOf) → new.snapshot ≡ part.snapshot → first_snapshot closed new ≡ first_snapshot closed part
opening_with [] part new snapshot = snapshot
opening_with (first ∷ behind) part new snapshot = refl

-- an event that is right after the part's is right after the whole history
right_of : (shelf : ShelfOf) (event : Event) → IsShelf shelf → IsLegal shelf.part.snapshot (past_of shelf.part) → IsRight shelf.part.snapshot (past_of shelf.part) event
    → IsRight (opening_of shelf) (whole_past shelf) event
right_of shelf event is lawful right =
    let earlier : List Event = reverse (events_of shelf.closed) in
    let legal : IsLegal (opening_of shelf) ((event ∷ past_of shelf.part) ++ earlier) =
    legal-joined (opening_of shelf) shelf.part.snapshot earlier is.leads.closes is.leads.legal (event ∷ past_of shelf.part) (right, lawful) in
    subst (λ p. IsRight (opening_of shelf) p event) (sym (reverse-append (events_of shelf.closed) shelf.part.events)) legal.0

room_legal : (old middle : ShelfOf) → IsSound old.part → HasMadeRoom old middle → IsLegal middle.part.snapshot (past_of middle.part)
room_legal old middle sound (inl shuts) = let P : PartOf → Type 0 = λ part. IsLegal part.snapshot (past_of part) in subst P (sym shuts.1.part.next) tt
room_legal old middle sound (inr none) = let P : ShelfOf → Type 0 = λ shelf. IsLegal shelf.part.snapshot (past_of shelf.part) in subst P (sym none.1) sound.legal

appended : (old middle : ShelfOf) (new : PartOf) (event : Event) → IsSound old.part → HasMadeRoom old middle → IsShelf middle → Adds middle.part new event
    → Appends old (record { closed = middle.closed; part = new }) event
appended old middle new event sound room is adds =
    let opens = room_opening old middle room in
    let same = room_history old middle room in
    let right : IsRight (opening_of old) (whole_past old) event =
    subst (λ s. IsRight s (whole_past old) event) opens
    (subst (λ es. IsRight (opening_of middle) (reverse es) event) same (right_of middle event is (room_legal old middle sound room) adds.right)) in
    record {
      middle = middle;
      room = room;
      closed = refl;
      adds = adds;
      opening = opening_with middle.closed middle.part new adds.snapshot ∙ opens;
      written =
          ap (λ es. events_of middle.closed ++ es) adds.written
          ∙ (sym (append_assoc (events_of middle.closed) middle.part.events (event ∷ [])) ∙ ap (λ es. es ++ event ∷ []) same);
      right = right;
      laws = laws_hold (opening_of old) (whole_past old) event right;
    }

pub offer_appends : (old middle : ShelfOf) (new : PartOf) (tag : Tag) (offer : OfferOf) (result : Result Outcome Refusal) → IsSound old.part → HasMadeRoom old middle
    → IsShelf middle → IfOk result (parts.WritesOffer middle.part new tag offer) → IfOk result (AppendsOffer old (record { closed = middle.closed; part = new }) tag offer)
offer_appends old middle new tag offer (Ok outcome) sound room is written =
    (written.0, appended old middle new (Offered outcome tag offer written.0) sound room is written.1)
offer_appends old middle new tag offer (Err refusal) sound room is written = written

pub ask_appends : (old middle : ShelfOf) (new : PartOf) (tag : Tag) (ask : AskOf) (result : Result Reply Refusal) → IsSound old.part → HasMadeRoom old middle
    → IsShelf middle → IfOk result (parts.WritesAsk middle.part new tag ask) → IfOk result (AppendsAsk old (record { closed = middle.closed; part = new }) tag ask)
ask_appends old middle new tag ask (Ok reply) sound room is written = appended old middle new (Asked tag ask reply) sound room is written
ask_appends old middle new tag ask (Err refusal) sound room is written = written

pub sweep_appends : (old middle : ShelfOf) (new : PartOf) (tag : Tag) (moment : ℕ) (result : Result ℕ Refusal) → IsSound old.part → HasMadeRoom old middle
    → IsShelf middle → IfOk result (parts.WritesSweep middle.part new tag moment) → IfOk result (AppendsSweep old (record { closed = middle.closed; part = new }) tag moment)
sweep_appends old middle new tag moment (Ok removed) sound room is written =
    (written.0, written.1, appended old middle new (Swept tag moment written.0) sound room is written.2)
sweep_appends old middle new tag moment (Err refusal) sound room is written = written

-- ---- no chapter is closed

pub shelf_of : (part : PartOf) → AreSound part.snapshot.rules.capacity part.snapshot.first part.snapshot.entries → IsShelf (record { closed = []; part = part })
shelf_of part sound = record { before = tt; leads = record { legal = tt; closes = opening part.snapshot sound } }

-- ---- refusals

next-shut : (part next : PartOf) (chapter : ChapterOf) → Closes part next chapter → next_number next ≡ next_number part
next-shut part next chapter closes =
    let leads = leads_of part next chapter closes in
    ap next_number closes.next ∙ omega (arith, leads.closes.first, length-reverse part.events)

-- where room was made the part is not spent
unspent : (old middle : ShelfOf) → CanWrite old.part → HasMadeRoom old middle → parts.IsSpent middle.part → ⊥
unspent old middle can (inl shuts) (inl full) =
    let none : length middle.part.events ≡ 0 = ap (λ (part : PartOf). length part.events) shuts.1.part.next in
    omega (arith, none, full, middle.part.snapshot.rules.some_chapter)
unspent old middle can (inl shuts) (inr spent) =
    omega (arith, spent, can.number, next-shut old.part middle.part shuts.1.chapter shuts.1.part)
unspent old middle can (inr none) (inl full) =
    let P : ShelfOf → Type 0 = λ shelf. IsFull shelf.part in
    let full' : IsFull old.part = subst P none.1 full in
    omega (arith, none.0, full')
unspent old middle can (inr none) (inr spent) =
    let P : ShelfOf → Type 0 = λ shelf. 2 ^ 62 ≤ next_number shelf.part in
    let spent' : 2 ^ 62 ≤ next_number old.part = subst P none.1 spent in
    omega (arith, can.number, spent')

-- what is due of a call on the part is due of the one on the shelf
pub due_of : {A : Type 0} (old middle : ShelfOf) (moment : ℕ) (result : Result A Refusal) → IsShelfOpen old.part moment → HasMadeRoom old middle
    → parts.IsDue middle.part moment result → IsShelfDue old.part moment result
due_of old middle moment (Ok answer) open' room due = open'
due_of old middle moment (Err HistoryFull) open' room due = absurd (unspent old middle open'.room room due)
due_of old middle moment (Err MomentTooLarge) open' room due = absurd (omega (arith, open'.moment, due.1))
due_of old middle moment (Err Memory) open' room due = open'
