-- SPDX-License-Identifier: MIT
-- After each step a pass still counts what it has.
use Rattle.std.proofs.Common.{◌≡◌, ℕ, ◌+◌, ◌<◌, length, sym, ap, ◌∙◌, subst, arith, length-append}
use mathlib.Core.Logic.{dite}
use native.Mathlib.Decide.{ℕ_discrete}
use Rattle.atomic_table.specs.Seated.{TableId}
use Rattle.rrc_marks.specs.declared.rule.View.{View}
use Rattle.rrc_marks.specs.Views.{times, without, after_step, after_win, after_finish, after_join, all_turns, Holds}
use Rattle.rrc_marks.specs.Told.{Known, Exchanges, IsBounded}
use Rattle.rrc_marks.specs.Seen.{IsCounted}
use Rattle.rrc_marks.proofs.Counts.{times-append, times-cons_other, times-without_same, times-without_other}

-- what is held after a mark was won was held before, or is that mark
won_marks : (table : TableId) (v : View) (mark : ℕ) → mark + 1 < table.words → ((m : ℕ) → Holds v m → m + 1 < table.words) → (m : ℕ) → Holds (after_win mark v) m → m + 1 < table.words
won_marks table v mark below marks m holds = dite (ℕ_discrete mark m)
    (λ is. omega arith)
    (λ not. let same = times-cons_other m mark v.held not in marks m (omega arith))

pub counted_exchange : (table now : TableId) (knew knows : Known) (turns draws mark found : ℕ) → now ≡ table → mark + 1 < table.words → IsCounted table knew turns draws
    → Exchanges knew.0 mark found knows.0 × (knows.1 ≡ knew.1) → IsCounted now knows turns draws
counted_exchange table now knew knows turns draws mark found same below counted told =
    let slots = told.1 ∙ counted.no_slot in
    subst (λ (t : TableId). IsCounted t knows turns draws) (sym same)
    (dite (ℕ_discrete found 0)
    (λ free. let is = sym (told.0.won free) in
    record {
      turns_left = counted.turns_left ∙ ap (λ (v : View). v.turns) is;
      numbers = counted.numbers ∙ ap (λ (v : View). length v.drawn) is;
      no_slot = slots;
      marks = subst (λ (v : View). (m : ℕ) → Holds v m → m + 1 < table.words) is (won_marks table knew.0 mark below counted.marks);
      some = counted.some;
      limited = counted.limited;
    })
    (λ some. let is = sym (told.0.lost some) in
    record {
      turns_left = counted.turns_left ∙ ap (λ (v : View). v.turns) is;
      numbers = counted.numbers ∙ ap (λ (v : View). length v.drawn) is;
      no_slot = slots;
      marks = subst (λ (v : View). (m : ℕ) → Holds v m → m + 1 < table.words) is counted.marks;
      some = counted.some;
      limited = counted.limited;
    }))

-- what is held after a mark was finished was held before
left_marks : (table : TableId) (v : View) (mark : ℕ) → ((m : ℕ) → Holds v m → m + 1 < table.words) → (m : ℕ) → Holds (after_finish mark v) m → m + 1 < table.words
left_marks table v mark marks m holds = dite (ℕ_discrete mark m)
    (λ is. absurd (let none : times m (without mark v.held) ≡ 0 = subst (λ k. times m (without k v.held) ≡ 0) (sym is) (times-without_same m v.held) in omega arith))
    (λ not. let same = times-without_other m mark v.held not in marks m (omega arith))

pub counted_finish : (table now : TableId) (knew knows : Known) (turns draws mark : ℕ) → now ≡ table → IsCounted table knew turns draws → knows ≡ (after_finish mark knew.0, knew.1) → IsCounted now knows turns draws
counted_finish table now knew knows turns draws mark same counted told =
    subst (λ (t : TableId). IsCounted t knows turns draws) (sym same)
    (subst (λ (m : Known). IsCounted table m turns draws) (sym told)
    record {
      turns_left = counted.turns_left;
      numbers = counted.numbers;
      no_slot = counted.no_slot;
      marks = left_marks table knew.0 mark counted.marks;
      some = counted.some;
      limited = counted.limited;
    })

-- a pass that took in another has turns, left or used
pub weighs_join : (table there : TableId) (knew other knows : Known) (turns draws more_turns more_draws : ℕ) → IsCounted table knew turns draws → IsCounted there other more_turns more_draws
    → knows ≡ (after_join knew.0 other.0, knew.1) → 0 < all_turns knows.0
weighs_join table there knew other knows turns draws more_turns more_draws counted more told =
    subst (λ (m : Known). 0 < all_turns m.0) (sym told)
    (let long = length-append knew.0.drawn other.0.drawn in let some = counted.some in let a = counted.turns_left in let b = counted.numbers in omega arith)

-- what is held after a join one of both held
joined_marks : (table there : TableId) (v w : View) → there ≡ table → ((m : ℕ) → Holds v m → m + 1 < table.words) → ((m : ℕ) → Holds w m → m + 1 < there.words) → (m : ℕ) → Holds (after_join v w) m → m + 1 < table.words
joined_marks table there v w same mine theirs m holds =
    let parts = times-append m v.held w.held in
    let words : there.words ≡ table.words = ap (λ (t : TableId). t.words) same in
    dite (ℕ_discrete (times m v.held) 0)
    (λ none. let has = theirs m (omega arith) in omega arith)
    (λ some. mine m (omega arith))

pub counted_join : (table there now : TableId) (knew other knows seen : Known) (turns draws more_turns more_draws : ℕ) → there ≡ table → now ≡ table
    → IsCounted table knew turns draws → IsCounted there other more_turns more_draws
    → knows ≡ (after_join knew.0 other.0, knew.1) → (seen ≡ (after_step knows.0, knows.1)) × IsBounded seen.0 → IsCounted now seen (turns + more_turns) (draws + more_draws)
counted_join table there now knew other knows seen turns draws more_turns more_draws same now_same counted more told looked =
    let known : seen ≡ (after_step (after_join knew.0 other.0), knew.1) = looked.0 ∙ ap (λ (m : Known). (after_step m.0, m.1)) told in
    let bounded = subst (λ (m : Known). IsBounded m.0) known looked.1 in
    let long = length-append knew.0.drawn other.0.drawn in
    let a = counted.turns_left in
    let b = counted.numbers in
    let c = more.turns_left in
    let d = more.numbers in
    let some = counted.some in
    let within = bounded.within in
    let limited = bounded.limited in
    subst (λ (t : TableId). IsCounted t seen (turns + more_turns) (draws + more_draws)) (sym now_same)
    (subst (λ (m : Known). IsCounted table m (turns + more_turns) (draws + more_draws)) (sym known)
    record {
      turns_left = omega arith;
      numbers = omega arith;
      no_slot = counted.no_slot;
      marks = joined_marks table there knew.0 other.0 same counted.marks more.marks;
      some = omega arith;
      limited = omega arith;
    })
