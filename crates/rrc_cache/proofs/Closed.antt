-- SPDX-License-Identifier: MIT
-- What a part keeps when a chapter is closed, and that it is the chapter's closing.
use Rattle.std.proofs.Common.{◌≡◌, ℕ, ◌+◌, ◌^◌, ◌<◌, List, refl, sym, ap, subst, ◌∙◌, arith}
use Rattle.rrc_history.specs.declared.rules.Rules.{Rules}
use Rattle.rrc_history.specs.declared.snapshot.Entry.{Entry}
use Rattle.rrc_history.specs.declared.snapshot.Snapshot.{Snapshot}
use Rattle.rrc_history.specs.Chapters.{IsChapter}
use Rattle.rrc_history.specs.Sound.{AreSound}
use Rattle.rrc_cache.specs.Lean.{HoldsLean, Shuts, next_chapter}
use Rattle.rrc_cache.specs.Pairs.{StoreOf}
use Rattle.rrc_cache.specs.Part.{PartOf, next_number}
use Rattle.rrc_cache.proofs.Keeping.{number-of}
use Rattle.rrc_cache.proofs.Leaving.{snapshot_leaves}

-- what the part holds, as a snapshot
abbrev closing_of : PartOf → List Entry → Snapshot
closing_of part entries = record { rules = part.snapshot.rules; first = next_number part; entries = entries }

-- what is kept may open a chapter
pub holds_sound : (part : PartOf) (number next : ℕ) (rules : Rules) (store : StoreOf) (swept : ℕ) → HoldsLean part number next rules store swept
    → AreSound rules.capacity next store.entries
holds_sound part number next rules store swept holds =
    let A : Rules → ℕ → Type 0 = λ r n. AreSound r.capacity n store.entries in
    subst (λ r. A r next) (sym holds.ruled) (subst (A part.snapshot.rules) (number-of part ∙ sym holds.following) holds.leaves.kept)

-- the chapter that is closed
chapter_closes : (part : PartOf) (number next : ℕ) (rules : Rules) (store : StoreOf) (swept : ℕ) → HoldsLean part number next rules store swept → number < 2 ^ 62
    → IsChapter (record { number = part.number; snapshot = part.snapshot; events = part.events; closing = closing_of part store.entries })
chapter_closes part number next rules store swept holds below = record {
  numbered = omega (arith, below, holds.chapter);
  leads = record {
    legal = holds.leaves.legal;
    closes = record { rules = λ i. part.snapshot.rules; first = sym (number-of part); contents = holds.leaves.contents };
  };
}

-- the part in its next chapter
next_holds : (part : PartOf) (number next : ℕ) (rules : Rules) (store : StoreOf) (swept : ℕ) → HoldsLean part number next rules store swept → number < 2 ^ 62
    → HoldsLean (next_chapter part (closing_of part store.entries)) (number + 1) next rules store 0
next_holds part number next rules store swept holds below =
    let same : next_number part + 0 ≡ next_number part = omega arith in
    let A : ℕ → Type 0 = λ n. AreSound part.snapshot.rules.capacity n store.entries in
    record {
      sound = record { legal = tt; numbered = omega (arith, holds.sound.numbered, same); chapter = omega (arith, below, holds.chapter) };
      leaves = snapshot_leaves (closing_of part store.entries) (subst A (number-of part) holds.leaves.kept);
      stale = holds.stale;
      chapter = ap (λ n. n + 1) holds.chapter;
      following = omega (arith, holds.following, same);
      ruled = holds.ruled;
      sweeps = refl;
    }

-- a chapter was closed, and what the part keeps in the next one
pub record IsShut (old new : PartOf) (number next : ℕ) (rules : Rules) (store : StoreOf) (closing : Snapshot) : Type 0 where
  pub shuts : Shuts old new closing
  pub holds : HoldsLean new (number + 1) next rules store 0

pub shut_done : (seen part told : PartOf) (number next : ℕ) (rules : Rules) (store : StoreOf) (swept : ℕ) (closing : Snapshot) → part ≡ seen → told ≡ next_chapter part closing
    → HoldsLean part number next rules store swept → number < 2 ^ 62 → closing ≡ record { rules = rules; first = next; entries = store.entries }
    → IsShut seen told number next rules store closing
shut_done seen part told number next rules store swept closing is tells holds below closes =
    let S : Rules → ℕ → Snapshot = λ r n. record { rules = r; first = n; entries = store.entries } in
    let same : closing ≡ closing_of part store.entries = closes ∙ (ap (λ r. S r next) holds.ruled ∙ ap (S part.snapshot.rules) holds.following) in
    let I : Snapshot → Type 0 = λ c. IsShut part (next_chapter part c) number next rules store c in
    let D : PartOf → PartOf → Type 0 = λ old new. IsShut old new number next rules store closing in
    subst (D seen) (sym tells)
    (subst (λ old. D old (next_chapter part closing)) is
    (subst I (sym same)
    (record {
      shuts = record { closes = chapter_closes part number next rules store swept holds below; next = λ i. next_chapter part (closing_of part store.entries) };
      holds = next_holds part number next rules store swept holds below;
    })))
