-- SPDX-License-Identifier: MIT
-- A line of an archive is read as it is written, and a line that is refused may not stand there.
use Rattle.std.proofs.Common.{◌≡◌, ◌-◌, ℕ, Bool, List, [], ◌∷◌, ◌++◌, length, take, Some, Err, refl, sym, ap, ◌∙◌, arith, inr, decimal, codes, length-append, take_at}
use Rattle.rrc_history.specs.declared.event.Event.{Event}
use Rattle.rrc_history.specs.declared.event.Event.TheVariants.{Offered, Asked, Swept}
use Rattle.rrc_history.specs.declared.rules.Rules.{Rules}
use Rattle.rrc_name.specs.Text.{text_of}
use Rattle.rrc_name.specs.declared.slot.Slot.TheVariants.{Set}
use Rattle.rrc_archive.specs.Tells.{Tells, IfNotOne}
use Rattle.rrc_text.specs.Grammar.{purpose_word, mode_word}
use Rattle.rrc_text.specs.Fields.{field_at, said_at}
use Rattle.rrc_text.specs.Replies.{outcome_text, slot_text, class_text, reply_text}
use Rattle.rrc_archive.specs.Archive.{WrittenOf, key_fields, tag_fields, body_fields, keys_fields, evicted_fields, entry_text, event_text}
use Rattle.rrc_archive.specs.ArchiveFields.{count_of, entry_of, offered_of, asked_of, swept_of}
use Rattle.rrc_archive.specs.ArchiveLaw.{IsNumber}
use Rattle.rrc_archive.specs.ArchiveLines.{said_text}
use Rattle.rrc_archive.specs.ArchiveSaid.{SaidOf, head, entry, event, told_by, head_of, said_of, FitsSaid, GoesOnNowhere}
use Rattle.rrc_text.specs.declared.read.line_fault.LineFault.{LineFault}
use Rattle.rrc_text.specs.declared.read.line_fault.LineFault.TheVariants.{NotOne, Memory}
use Rattle.rrc_archive.specs.declared.read.said.Said.{Said}
use Rattle.rrc_archive.specs.declared.read.said.Said.TheVariants as said
use Rattle.rrc_text.proofs.SaidLemmas.{said_last}
use Rattle.rrc_archive.proofs.ReadFields.{counts}
use Rattle.rrc_archive.proofs.ReadEvents.{then_said, ahead, last, word-first, entry-read, offered-read, asked-read, swept-read}

head-read : (number first : ℕ) (rules : Rules) → IsNumber number → IsNumber first
    → head_of (32 ∷ (decimal number ++ (32 ∷ (decimal first ++ (32 ∷ (decimal rules.capacity ++ (32 ∷ (decimal rules.chapter ++ (32 ∷ decimal rules.stale)))))))))
    ≡ Some (head number first rules.capacity rules.chapter rules.stale)
unfolding head_of
head-read number first rules is is_first =
    let aged = decimal rules.stale in
    let cut = decimal rules.chapter ++ (32 ∷ aged) in
    let roomy = decimal rules.capacity ++ (32 ∷ cut) in
    let begun = decimal first ++ (32 ∷ roomy) in
    let told = head number first rules.capacity rules.chapter rules.stale in
    then_said (said_at count_of (32 ∷ (decimal number ++ (32 ∷ begun)))) _ (number, 32 ∷ begun) told
    (ahead (said_at count_of) decimal IsNumber counts number begun is)
    (then_said (said_at count_of (32 ∷ begun)) _ (first, 32 ∷ roomy) told (ahead (said_at count_of) decimal IsNumber counts first roomy is_first)
    (then_said (said_at count_of (32 ∷ roomy)) _ (rules.capacity, 32 ∷ cut) told
    (ahead (said_at count_of) decimal IsNumber counts rules.capacity cut (omega (arith, rules.capacity_within)))
    (then_said (said_at count_of (32 ∷ cut)) _ (rules.chapter, 32 ∷ aged) told
    (ahead (said_at count_of) decimal IsNumber counts rules.chapter aged (omega (arith, rules.chapter_within)))
    (then_said (said_at count_of (32 ∷ aged)) _ (rules.stale, []) told
    (last (said_at count_of) decimal IsNumber counts rules.stale (omega (arith, rules.stale_within))) refl))))

-- the line of an event behind its word
abbrev behind_word : Event → List ℕ
behind_word (Offered outcome tag offer evicted) =
    tag_fields tag ++ (32 ∷ (decimal offer.moment
    ++ (32 ∷ (key_fields offer.key ++ (32 ∷ (body_fields offer.body ++ (32 ∷ (outcome_text outcome ++ evicted_fields evicted))))))))
behind_word (Asked tag ask reply) =
    tag_fields tag ++ (32 ∷ (decimal ask.moment
    ++ (32 ∷ (text_of ask.name ++ (32 ∷ (slot_text (Set ask.rtype) ++ (class_text ask.class
    ++ (32 ∷ (purpose_word ask.purpose ++ (32 ∷ (mode_word ask.mode ++ (32 ∷ reply_text reply))))))))))))
behind_word (Swept tag moment gone) = tag_fields tag ++ (32 ∷ (decimal moment ++ keys_fields gone))

pub said-read : (told : Said) → FitsSaid told → said_of (said_text told) ≡ Some (told_by told)
unfolding said_of
said-read (said.Chapter number first rules) fit =
    let rest = decimal number ++ (32 ∷ (decimal first ++ (32 ∷ (decimal rules.capacity ++ (32 ∷ (decimal rules.chapter ++ (32 ∷ decimal rules.stale))))))) in
    then_said (field_at (codes "chapter" ++ (32 ∷ rest))) _ (codes "chapter", 32 ∷ rest) (head number first rules.capacity rules.chapter rules.stale)
    (word-first (codes "chapter") (32 ∷ rest) (omega arith) refl (inr (rest, refl))) (head-read number first rules fit.0 fit.1)
said-read (said.Entry held) fit =
    let rest = decimal held.number ++ (32 ∷ (decimal held.moment ++ (32 ∷ (key_fields held.key ++ (32 ∷ body_fields held.body))))) in
    then_said (field_at (codes "entry" ++ (32 ∷ rest))) _ (codes "entry", 32 ∷ rest) (entry held)
    (word-first (codes "entry") (32 ∷ rest) (omega arith) refl (inr (rest, refl)))
    (then_said (entry_of (32 ∷ rest)) _ held (entry held) (entry-read held fit) refl)
said-read (said.Event (Offered outcome tag offer evicted)) fit =
    let told = Offered outcome tag offer evicted in
    let rest = behind_word told in
    then_said (field_at (codes "offer" ++ (32 ∷ rest))) _ (codes "offer", 32 ∷ rest) (event told)
    (word-first (codes "offer") (32 ∷ rest) (omega arith) refl (inr (rest, refl)))
    (then_said (offered_of (32 ∷ rest)) _ told (event told) (offered-read outcome tag offer evicted fit) refl)
said-read (said.Event (Asked tag ask reply)) fit =
    let told = Asked tag ask reply in
    let rest = behind_word told in
    then_said (field_at (codes "ask" ++ (32 ∷ rest))) _ (codes "ask", 32 ∷ rest) (event told)
    (word-first (codes "ask") (32 ∷ rest) (omega arith) refl (inr (rest, refl)))
    (then_said (asked_of (32 ∷ rest)) _ told (event told) (asked-read tag ask reply fit) refl)
said-read (said.Event (Swept tag moment gone)) fit =
    let told = Swept tag moment gone in
    let rest = behind_word told in
    then_said (field_at (codes "sweep" ++ (32 ∷ rest))) _ (codes "sweep", 32 ∷ rest) (event told)
    (word-first (codes "sweep") (32 ∷ rest) (omega arith) refl (inr (rest, refl)))
    (then_said (swept_of (32 ∷ rest)) _ told (event told) (swept-read tag moment gone fit) refl)

-- the text of a line follows from what it says
abbrev told_text : SaidOf → List ℕ
told_text (head number first capacity chapter stale) =
    codes "chapter " ++ (decimal number ++ (32 ∷ (decimal first ++ (32 ∷ (decimal capacity ++ (32 ∷ (decimal chapter ++ (32 ∷ decimal stale))))))))
told_text (entry held) = entry_text held
told_text (event told) = event_text told

its-text : (told : Said) → told_text (told_by told) ≡ said_text told
its-text (said.Chapter number first rules) = refl
its-text (said.Entry held) = refl
its-text (said.Event told) = refl

same-text : (a b : Said) → told_by a ≡ told_by b → said_text a ≡ said_text b
same-text a b same = sym (its-text a) ∙ (ap told_text same ∙ its-text b)

-- a line without its LF
without-lf : (line text : List ℕ) → line ≡ text ++ 10 ∷ [] → take (length line - 1) line ≡ text
without-lf line text is =
    ap (λ (l : List ℕ). take (length l - 1) l) is ∙ take_at text (10 ∷ []) (length (text ++ 10 ∷ []) - 1) (omega (arith, length-append text (10 ∷ [])))

module _ (chapters : List WrittenOf) (line front : List ℕ) (cut : front ≡ take (length line - 1) line) where
  told : (value : Said) → FitsSaid value → line ≡ said_text value ++ 10 ∷ [] → said_of front ≡ Some (told_by value)
  told value fit is = ap said_of (cut ∙ without-lf line (said_text value) is) ∙ said-read value fit

  -- nothing is said by the fields of the line
  pub unsaid : (fault : LineFault) → Tells told_by (Err fault) (said_of front) → IfNotOne {X = Unit {0}} (Err fault) (GoesOnNowhere chapters line)
  unsaid NotOne tells = λ value fit may is. tells value (told value fit is)
  unsaid Memory tells = tt

  module _ (found : Said) (tells : said_of front ≡ Some (told_by found)) where
    same : (value : Said) → FitsSaid value → line ≡ said_text value ++ 10 ∷ [] → told_by value ≡ told_by found
    same value fit is = said_last (sym (told value fit is) ∙ tells)

    -- what the fields say is written otherwise
    pub other_line : (line ≡ said_text found ++ 10 ∷ [] → ⊥) → GoesOnNowhere chapters line
    other_line not value fit may is = not (is ∙ ap (λ (t : List ℕ). t ++ 10 ∷ []) (same-text value found (same value fit is)))

-- where nothing is refused but memory
pub only_memory : (chapters : List WrittenOf) (line : List ℕ) (fault : LineFault) → IfNotOne {X = Bool} (Err fault) ⊥
    → IfNotOne {X = Unit {0}} (Err fault) (GoesOnNowhere chapters line)
only_memory chapters line NotOne never = absurd never
only_memory chapters line Memory never = tt
