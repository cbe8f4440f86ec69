-- SPDX-License-Identifier: MIT
-- That a shelf may be looked at: who owns it, as a handle does, can lend it for a time to any number of threads, and has it back as it was.
use Prim.Native.Nat.{ℕ}
use mathlib.Core.List.{[], ◌∷◌}
use seplogic.Ra.Ura.{Ura}
use base.Fraction.{full_share}
use base.Logic.{ent, sep, wand, ex}
use base.Fml.{Lft, Share, Fml, Incl-refl, fsep, flft}
use contract.BorrowLft.{meet_⊑_left, ⊑_static}
use types.Logic.{Logic, sem}
use types.Kit.{‵, ◌⊛◌, later, ◌$◌, ◌∵◌, !, qed, move, use2, split, fjoin, show, frame, assume, await, updating, now, done}
use types.Tokens.{lft_new, lft_end, bor_new, lent_back, bor_fracture}
use denote.Moves.{moves_from}
use denote.RawPtr.{Ptr, lies_at}
use denote.Shares.{Shares-less}
use denote.Struct.Lending.{lent_at, lent_at_shr_laws, Lends, Lends-lies, Lends-first}
use Rattle.rrc_share.specs.contracts.cache_shelf.CacheShelf.{the_row as T}
use Rattle.rrc_share.proofs.cache_shelf.CacheShelf.TheLaws.{the_row_laws as L}
use Rattle.rrc_c.specs.Handles.{glance_owns}

module _ {M : Type 1} {𝓤 : Ura M} (𝓛 : Logic 𝓤) (at : Ptr) (shelf : T.Denot) where
  open 𝓛 use {H, A}

  abbrev t : Lft → Fml
  t = lent_at T at shelf

  lends : (tok : Fml) (l : Lft) → Lends 𝓛 (fsep (lies_at T full_share at shelf) tok) t l
  lends tok l = Lends-first 𝓛 (lies_at T full_share at shelf) tok t l (Lends-lies 𝓛 T l at shelf (Shares-less 𝓛 T T.lives l (⊑_static l) (L.shares 𝓛) shelf))

  -- a box is lent for a time, and comes back when that ends
  pub lent_out : (tok : Fml) → ent 𝓤 (sem 𝓛 (fsep (lies_at T full_share at shelf) tok))
      (H.⇛ (ex 𝓤 (λ (a : ℕ). sep 𝓤 (sem 𝓛 (glance_owns at a shelf)) (wand 𝓤 (A.lft (a ∷ []) full_share) (H.⇛ (sem 𝓛 (fsep (lies_at T full_share at shelf) tok)))))))
  lent_out tok = let P = fsep (lies_at T full_share at shelf) tok in
      qed 𝓛 (‵ P ∷ []) ∵ updating ! $ lft_new ! tt (λ a. move ! (1 ∷ []) $ bor_new ! tt (a ∷ []) $ move ! (0 ∷ 2 ∷ []) $
      use2 𝓛 (later (‵ (t (a ∷ [])) ⊛ ‵ (flft (a ∷ []) full_share))) (lends tok (a ∷ []) (a ∷ []) ((a ∷ [], full_share) ∷ []) (Incl-refl (a ∷ [])) (Incl-refl (a ∷ []))) $ await ! tt $ split ! $
      move ! (1 ∷ 0 ∷ []) $ fjoin ! $ now ! $
      show ! (λ (a : ℕ). sep 𝓤 (sem 𝓛 (glance_owns at a shelf)) (wand 𝓤 (A.lft (a ∷ []) full_share) (H.⇛ (sem 𝓛 P)))) a $
      frame ! $ assume ! (‵ (flft (a ∷ []) full_share)) $ updating ! $ lft_end ! tt $ lent_back ! tt $ now ! $ done !)

  -- what is lent for a time is lent on to one more thread, for a shorter time and for any share of its token, which comes back
  pub lent_on : (a : ℕ) (q : Share) → ent 𝓤 (sep 𝓤 (sem 𝓛 (t (a ∷ []))) (A.lft (a ∷ []) q))
      (H.⇛ (ex 𝓤 (λ (b : ℕ). sep 𝓤 (sem 𝓛 (glance_owns at b shelf)) (wand 𝓤 (A.lft (b ∷ []) full_share) (H.⇛ (A.lft (a ∷ []) q))))))
  lent_on a q =
      qed 𝓛 (‵ (t (a ∷ [])) ∷ ‵ (flft (a ∷ []) q) ∷ []) ∵ updating ! $ lft_new ! tt (λ b. move ! (2 ∷ []) $ bor_new ! tt (b ∷ []) $
      -- [the borrow of the token; its way back; the token of b; what is lent]
      bor_fracture ! tt (λ r. flft (a ∷ []) r) q $ move ! (0 ∷ 3 ∷ []) $
      use2 𝓛 (‵ (t (b ∷ []))) (moves_from 𝓛 t (lent_at_shr_laws T L.shr_laws at shelf) (b ∷ []) (a ∷ []) (a ∷ []) (meet_⊑_left (a ∷ []) (b ∷ []))) $
      move ! (2 ∷ 0 ∷ []) $ fjoin ! $ now ! $
      show ! (λ (b : ℕ). sep 𝓤 (sem 𝓛 (glance_owns at b shelf)) (wand 𝓤 (A.lft (b ∷ []) full_share) (H.⇛ (A.lft (a ∷ []) q)))) b $
      frame ! $ assume ! (‵ (flft (b ∷ []) full_share)) $ updating ! $ lft_end ! tt $ lent_back ! tt $ now ! $ done !)
