-- SPDX-License-Identifier: MIT
-- What a trim leaves where it is refused.
use Rattle.std.proofs.Common.{◌≡◌, ℕ, inl, inr, false, Err, refl, arith}
use Rattle.rrc_cache.specs.declared.refusal.Refusal.{Refusal}
use Rattle.rrc_cache.specs.declared.refusal.Refusal.TheVariants.{HistoryFull, MomentTooLarge, Memory}
use Rattle.rrc_share.specs.CacheShelf.{CacheShelfOf}
use Rattle.rrc_share.specs.Trims.{IsLeanRefusal, IsTrimDue}
use Rattle.rrc_shelf.specs.Checks.{number_of, refused_as, Passes}
use Rattle.rrc_shelf.specs.Upkeep.{trim_checks, GoesOn, TrimsUntil}
use Rattle.rrc_shelf.specs.declared.terms.TrimTerms.{TrimTerms}

pub stops : (trim : TrimTerms) (old new : CacheShelfOf) (refusal : Refusal) → Passes (trim_checks trim) → GoesOn trim old new → IsTrimDue {A = ℕ} trim.moment (Err refusal)
    → (old.records ≡ false → IsLeanRefusal old.shelf.part new.shelf.part trim.moment refusal) → TrimsUntil (number_of (refused_as refusal)) trim old new
stops trim old new HistoryFull fit goes due lean = inr (record { fit = fit; goes = goes; why = inl refl; lean = λ is. inl (refl, lean is) })
stops trim old new MomentTooLarge fit goes due lean = let moment = fit.1.0 in absurd (omega (arith, moment, due))
stops trim old new Memory fit goes due lean = inr (record { fit = fit; goes = goes; why = inr refl; lean = λ is. inr (refl, lean is) })
