-- SPDX-License-Identifier: MIT
-- `into_glance` moves the pointer, and what the sight owns goes with it.
use Rattle.std.proofs.Common.{List, [], ◌∷◌, ◌++◌, refl, sym, subst, ap, ◌∙◌}
use Rattle.std.specs.Prelude.{Option, IsSome}
use mir.Val.{Val, vptr}
use base.Logic.{SProp, ent, id⊢, never, fst∗}
use base.Fml.{ftrue, fsep, flft}
use base.Fraction.{full_share}
use prog.Wp.{WpFn}
use contract.Monad.{fact}
use contract.Running.{tables}
use types.Logic.{sem}
use types.Kit.{Item, ‵, raw, ◌⊛◌, ◌$◌, ◌∵◌, !, qed, by, move, drop, use1, join, split, fsplit, fjoin, rewrite, fpack, feq_i, suffices, done}
use types.Part.{whole, sub, agg}
use types.Run.{stop, fld, no_more, and_then, of_opd, returns, enter}
use types.ByLocal.{alloc_all, pass_all, free_all, look_at, get, get_in, sets}
use denote.Exit.{yes}
use denote.Laws.{shows}
use denote.Memory.{shared_of}
use denote.RattleType.{Valss}
use denote.RawPtr.{Ptr, RawPtr, block_ptr, in_a_block}
use denote.Steps.{nothing, peeks, heard}
use denote.Struct.Lending.{lent_at}
use denote.Struct.Struct.{within}
use denote.Struct.Owning.{shape, to}
use denote.Triple.Walked.{Stays, stay_dropped, Goes-dropped, walk_of, says, ends_at}
use Rattle.std.proofs.raw_atomic.Walks.{proved_at}
use Rattle.rrc_c.proofs.Looking.{FromSight as From, by_held, word}
use Rattle.rrc_share.specs.contracts.cache_shelf.CacheShelf.{the_row as T}
use Rattle.rrc_c.specs.contracts.sight.Glance as glance
use Rattle.rrc_c.proofs.sight.Sight.TheLaws.{lowers}
use Rattle.rrc_c.specs.contracts.sight.Sight as sight
use Rattle.rrc_c.specs.contracts.sight.Sight.into_glance as F
use Rattle.rrc_c.specs.contracts.sight.Sight.into_glance.Key.{name as #self}
use Rattle.rrc_c.proofs.sight.Sight.into_glance.Statement.{statement}
use Rattle.rrc_c.proofs.sight.Sight.into_glance.Code as code

abbrev stayed : Stays (F.ended).signature.params (F.ended).kept
stayed = (stay_dropped From yes, tt)

pub into_glance_spec : {M : Type 1} → statement M
into_glance_spec 𝓤 𝓛 𝓜 𝓡 wired =
    let H = 𝓛.H in let 𝓣 = tables 𝓤 H 𝓜 𝓡 𝓡.env in let En = F.ended in let c = F.clauses 𝓛 𝓜.mem 𝓡.returns in
    proved_at 𝓛 En stayed c 𝓜 𝓡 (Goes-dropped 𝓛 0 From yes (λ κs x f. refl), tt) #self code.function (code.unfolded 𝓤 H 𝓜 𝓡 wired) (λ z are.
    let Post : Val → SProp 𝓤 = (walk_of 𝓛 En stayed c).post z in
    let g = z.0.3.0 in let us = z.0.4.0 in
    qed 𝓛 ((‵ ftrue ⊛ ‵ (fsep (sight.the_row.own_val g us) ftrue)) ∷ raw (fact 𝓤 (IsSome g.shelf)) ∷ []) ∵ move ! (1 ∷ []) $ heard ! (IsSome g.shelf) (λ some.
    by_held g.shelf some (λ shelf more. split ! $ drop ! $ fsplit ! $
    peeks ! sight.the_row _ (shows 𝓛 sight.the_row) g us (λ is.
    rewrite ! 0 (λ (held : Option T.Denot). ‵ (sight.the_row.own_val (record { at = g.at; shelf = held; life = g.life }) us)) more refl $ fsplit ! $ drop ! $ move ! (1 ∷ []) $ drop ! $ fsplit ! $ move ! (1 ∷ []) $
    in_a_block ! g.at (λ p. lent_at T p shelf (g.life ∷ [])) (fst∗ 𝓤 (never 𝓤) (sem 𝓛 (shared_of T shelf 0 0 (g.life ∷ [])))) (λ b o e.
    let made : glance.the_row.Denot = record { at = block_ptr b o; shelf = shelf; life = g.life } in
    let w = word b o in
    let Γ : List (Item 𝓤) = ‵ (lent_at T (block_ptr b o) shelf (g.life ∷ [])) ∷ ‵ (flft (g.life ∷ []) full_share) ∷ [] in
    by ! (subst (λ (vs : List Val). ent 𝓤 (types.Kit.⋆ 𝓛 Γ) (WpFn 𝓤 H 𝓣.C 𝓣.Λ code.function (vs ++ []) Post)) (sym (lowers.val_is g us is ∙ ap (λ (p : Ptr). lowers.lowered (record g { at = p }) ∷ []) e))
    (qed 𝓛 Γ ∵ enter ! 𝓣.C 𝓣.Λ code.function (w ∷ []) _ $ alloc_all ! (λ ls. pass_all ! refl ((tt, (tt, tt)), tt) $
    sets ! (of_opd ! (get_in ! (fld ! refl (stop !)) (sub ! 0 refl (whole !)))) refl (tt, tt) $ sets ! (of_opd ! (get ! refl)) refl (tt, tt) $
    sets ! (agg ! (and_then ! (get ! refl) (no_more !))) refl (tt, (tt, tt)) $ returns ! (look_at ! 0 refl) $ free_all ! refl $
    move ! (1 ∷ 0 ∷ []) $ fjoin ! $
    nothing ! $ feq_i ! (List Val) (vptr b o ∷ []) (vptr b o ∷ []) refl $ fjoin ! $
    feq_i ! (List Val) (w ∷ []) (w ∷ []) refl $ fjoin ! $
    fpack ! (Valss (RawPtr ∷ [])) (within (shape glance.the_type) (to glance.the_type made) (w ∷ [])) (vptr b o ∷ [], tt) $
    fjoin ! $ use1 𝓛 (‵ (glance.the_row.own_val made (w ∷ []))) (id⊢ 𝓤 _) $
    suffices ! _ (ends_at 𝓛 En stayed c z w made (tt, tt) (tt, tt)) $ says ! (more, refl) $
    nothing ! $ nothing ! $ fjoin ! $ join ! $ nothing ! $ join ! $ done !))))))))
